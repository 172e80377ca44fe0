-- The lines and words of a header.
use Rattle.std.specs.Prelude.{◌≡◌, ◌≤◌, ℕ, ◌+◌, ◌<◌, Bool, true, false, ◌||◌, List, [], ◌∷◌, length, ◌==◌, filter}
use Rattle.std.specs.Option.{option_map}
use Rattle.std.specs.declared.option.Option.{Option}
use Rattle.std.specs.List.{slice_split}
use Rattle.std.specs.Str.Lines.{strip_carriage_return}
use Rattle.tpz_base.specs.Texts.{Bytes}
use Rattle.ply_head.specs.declared.text.Line.{Line}

-- the parts between line feeds as lines: only the last isn't ended, and only the others lose a carriage return
abbrev pub numbered : ℕ → ℕ → List Bytes → List Line
numbered number at [] = []
numbered number at (part ∷ []) = record { number = number; text = part; is_ended = false; end = at + length part } ∷ []
numbered number at (part ∷ next ∷ parts) =
    record { number = number; text = strip_carriage_return part; is_ended = true; end = at + (length part + 1) }
    ∷ numbered (number + 1) (at + (length part + 1)) (next ∷ parts)

abbrev pub is_line_feed : ℕ → Bool
is_line_feed b = b == 10

abbrev pub parts : Bytes → List Bytes
parts bytes = slice_split is_line_feed bytes

abbrev pub lines : Bytes → List Line
lines bytes = numbered 1 0 (parts bytes)

-- the parts of bytes that are told
abbrev pub parts_told : Option Bytes → Option (List Bytes)
parts_told told = option_map parts told

abbrev pub with_part : Bytes → Option (List Bytes) → Option (List Bytes)
with_part part told = option_map (λ rest. part ∷ rest) told

-- the lines of bytes that are told, from a number and a count of bytes on
abbrev pub lines_told : ℕ → ℕ → Option Bytes → Option (List Line)
lines_told number at told = option_map (numbered number at) (parts_told told)

abbrev pub with_line : Line → Option (List Line) → Option (List Line)
with_line line told = option_map (λ rest. line ∷ rest) told

-- the first line ends past this byte
abbrev pub EndsPast : ℕ → List Line → Type 0
EndsPast most [] = ⊥
EndsPast most (l ∷ ls) = most < l.end

-- what a reader of lines holds: bytes that were read, the next line's number, and how many bytes were taken
pub record Place : Type 0 where
  pub held : Bytes
  pub number : ℕ
  pub taken : ℕ

-- where the first part ends, its line feed counted
abbrev pub first_end : List Bytes → ℕ
first_end [] = 0
first_end (part ∷ []) = length part
first_end (part ∷ next ∷ parts) = length part + 1

abbrev pub is_blank : ℕ → Bool
is_blank b = b == 32 || b == 9

abbrev pub is_nonempty : Bytes → Bool
is_nonempty [] = false
is_nonempty (b ∷ bs) = true

-- the parts between blanks that hold something
abbrev pub words : Bytes → List Bytes
words text = filter is_nonempty (slice_split is_blank text)

-- What a line that is ended makes of the place: the next line's number, and where the line ends.
pub record Passes (old new : Place) (line : Line) : Type 0 where
  pub number : new.number ≡ old.number + 1
  pub end : line.end ≡ new.taken
  pub longer : old.taken < new.taken
  pub within : new.taken ≤ 1048576
