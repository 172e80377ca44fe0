-- What the command `gen` writes.
use Rattle.std.specs.Prelude.{ℕ, List, ◌++◌, length, codes, decimal, pos}
use Rattle.tpz_io.specs.Writes.{Item}
use Rattle.tpz_base.specs.Texts.{Bytes}
use Rattle.mesh_gen.specs.Generator.{generated}
use Rattle.cut_export.specs.Parts.{row_at}
use Rattle.mesh_output.specs.Exports.{mesh_items}

abbrev pub gen_note : ℕ → ℕ → Bytes
gen_note size tris = codes "gen size " ++ (decimal size ++ (codes " tris " ++ decimal tris))

-- one part, with the mesh of this size as it is, and the note
abbrev pub gen_items : ℕ → List Item
gen_items size = mesh_items 0 (row_at (pos 0) (pos 0) (pos 0)) (generated size) (gen_note size (length (generated size)))
