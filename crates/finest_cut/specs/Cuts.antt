-- The mesh of the finest cut.
use Rattle.std.specs.Prelude.{ℕ, List, Option}
use Rattle.tpz_base.specs.Meshes.{Mesh}
use Rattle.tpz_base.specs.Cubes.{Row, level_bound}
use Rattle.tpz_base.specs.Cuts.{cut_mesh}
use Rattle.tpz_base.specs.Texts.{Face}
use Rattle.ply_body.specs.Inputs.{mesh_of}
use Rattle.assign.specs.Leaf.{leaf_patch}
use Rattle.mesh_stream.specs.Splits.{split_for}

-- the mesh of the finest cut
unfoldable pub mesh_for : Option ℕ → ℕ → Mesh → Mesh
mesh_for cap L M = cut_mesh L (leaf_patch L (split_for cap L M) M) (split_for cap L M)

-- the triangles of the input, leaf by leaf
abbrev pub finest_mesh : Option ℕ → List Row → List Face → Mesh
finest_mesh cap rows faces = mesh_for cap (level_bound rows) (mesh_of rows faces)
