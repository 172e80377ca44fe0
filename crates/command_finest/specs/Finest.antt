-- What the command `finest` writes.
use Rattle.std.specs.Prelude.{ℕ, List, [], ◌∷◌, ◌++◌, length, codes, decimal, Option}
use Rattle.tpz_io.specs.Writes.{Item, Part, Note}
use Rattle.tpz_base.specs.Meshes.{Mesh}
use Rattle.tpz_base.specs.Cubes.{Row, low_of}
use Rattle.tpz_base.specs.Texts.{Bytes, Face, vertices, text}
use Rattle.ply_body.specs.Inputs.{mesh_of, dropped_of}
use Rattle.mesh_stream.specs.declared.reading.Facts.{Facts}
use Rattle.cut_export.specs.Parts.{row_of}
use Rattle.finest_cut.specs.Cuts.{finest_mesh}

abbrev pub finest_note : ℕ → ℕ → ℕ → Bytes
finest_note tris dropped vertices =
    codes "finest tris " ++ (decimal tris ++ (codes " dropped " ++ (decimal dropped ++ (codes " vertices " ++ decimal vertices))))

-- one part, with the mesh in the input's scaled coordinates, and the note
unfoldable pub items_for : ℕ → Row → Mesh → ℕ → ℕ → List Item
items_for digits low M tris dropped = Part (text M low digits) ∷ Note (finest_note tris dropped (length (vertices M))) ∷ []

-- what is written for an input of these digits, rows and faces
abbrev pub finest_items : Option ℕ → ℕ → List Row → List Face → List Item
finest_items cap digits rows faces =
    items_for digits (low_of rows) (finest_mesh cap rows faces) (length (mesh_of rows faces)) (dropped_of rows faces)

-- what is written for a mesh
abbrev pub items_of : Facts → Mesh → List Item
items_of facts M = items_for facts.digits (row_of facts.low) M facts.tris facts.dropped
