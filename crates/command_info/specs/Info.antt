-- What the command `info` writes.
use Rattle.std.specs.Prelude.{ℕ, List, [], ◌∷◌, ◌++◌, length, codes, decimal}
use Rattle.tpz_io.specs.Writes.{Item, Note}
use Rattle.tpz_base.specs.Texts.{Bytes}
use Rattle.patch_file.specs.declared.shape.Params.{Params}
use Rattle.patch_file.specs.Tables.{Table}

-- the numbers of the build's input
abbrev pub input_text : Params → Bytes
input_text p =
    codes "info level " ++ (decimal p.l ++ (codes " digits " ++ (decimal p.digits ++ (codes " tris " ++ (decimal p.tris ++ (codes " dropped " ++ decimal p.dropped))))))

-- the numbers of the build and of the store
abbrev pub store_text : Params → ℕ → ℕ → Bytes
store_text p records bytes =
    codes " cap " ++ (decimal p.cap ++ (codes " budget " ++ (decimal p.budget ++ (codes " records " ++ (decimal records ++ (codes " bytes " ++ decimal bytes))))))

abbrev pub info_note : Params → ℕ → ℕ → Bytes
info_note p records bytes = input_text p ++ store_text p records bytes

-- the note of a store of these bytes
abbrev pub info_items : Table × Params → Bytes → List Item
info_items out bytes = Note (info_note out.1 (length out.0.records) (length bytes)) ∷ []
