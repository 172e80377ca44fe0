-- The mesh of patches that are handed on.
use Rattle.std.specs.Prelude.{List, flat_map}
use Rattle.tpz_base.specs.Meshes.{Mesh}
use Rattle.patch_view.specs.declared.PatchView.{PatchView}

-- the triangles of the views, one view after another
unfoldable pub mesh_of : List PatchView → Mesh
mesh_of views = flat_map (λ v. v.tris.now) views
