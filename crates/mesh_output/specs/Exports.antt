-- What a command writes that makes one mesh.
use Rattle.std.specs.Prelude.{ℕ, List, [], ◌∷◌}
use Rattle.tpz_io.specs.Writes.{Item, Part, Note}
use Rattle.tpz_base.specs.Meshes.{Mesh}
use Rattle.tpz_base.specs.Cubes.{Row}
use Rattle.tpz_base.specs.Texts.{Bytes, text}

-- one part, the text of a mesh, and then a note
unfoldable pub mesh_items : ℕ → Row → Mesh → Bytes → List Item
mesh_items digits low M line = Part (text M low digits) ∷ Note line ∷ []
