-- What the store of a build makes of every script.
use Rattle.std.specs.Prelude.{◌≡◌, ℕ, true, List, Option, None, Ok}
use Rattle.tpz_base.specs.declared.shape.Point.{Point}
use Rattle.tpz_base.specs.Meshes.{Mesh, has_vertex, SameBorder, SameTriangles}
use Rattle.tpz_base.specs.Texts.{Bytes}
use Rattle.patch_file.specs.declared.shape.Params.{Params}
use Rattle.patch_file.specs.Patches.{finest_mesh, mesh_of_cut}
use Rattle.patch_file.specs.Representatives.{IsRepresented}
use Rattle.patch_file.specs.Stores.{read}
use Rattle.build_pass.specs.Building.{table}
use Rattle.view_cut.specs.declared.wanting.View.{View}
use Rattle.command_replay.specs.Plays.{cut_of}
use Rattle.cut_blocks.specs.WrongBlocks.{first_wrong}

-- The bytes of a store that was built of a mesh are read as its table, with no wrong block; whatever the view, the mesh that is written has the signed
-- edge sums of M and a representative of each of its vertices, and the mesh of all diamonds holds the triangles of M, each once.
pub record IsFaithful (M : Mesh) (params : Params) (bytes : Bytes) : Type 0 where
  pub reads : read bytes ≡ Ok (table M params, params)
  pub right : (numbers : List ℕ) → first_wrong (table M params) numbers ≡ None
  pub border : (view : Option View) → SameBorder (mesh_of_cut (table M params) (cut_of (table M params) view)) M
  pub represented : (view : Option View) (v : Point) → has_vertex M v ≡ true → IsRepresented (table M params) (cut_of (table M params) view) v
  pub finest : SameTriangles (finest_mesh (table M params)) M
