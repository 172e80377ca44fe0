-- The blocks of a store that are wrong.
use Rattle.std.specs.Prelude.{ℕ, List, [], ◌∷◌, slice_get, Option, Some, None, option_and_then, Result, Ok, Err}
use Rattle.std.specs.Option.{option_or}
use Rattle.patch_file.specs.declared.shape.Params.{Params}
use Rattle.patch_file.specs.Tables.{Table, TableRecord, Contents}

-- the table and the params that a store is read as
abbrev pub Stored : Type 0
Stored = Table × Params

-- the number of a record whose block is wrong, with the offset of the first item in the block that is
abbrev pub wrong_block : ℕ → Result Contents ℕ → Option (ℕ × ℕ)
wrong_block i (Ok block) = None
wrong_block i (Err offset) = Some (i, offset)

abbrev pub wrong_at : Table → ℕ → Option (ℕ × ℕ)
wrong_at tb i = option_and_then (λ (r : TableRecord). wrong_block i r.block) (slice_get tb.records i)

-- the first of these records whose block is wrong
unfoldable pub first_wrong : Table → List ℕ → Option (ℕ × ℕ)
first_wrong tb [] = None
first_wrong tb (i ∷ numbers) = option_or (wrong_at tb i) (first_wrong tb numbers)
