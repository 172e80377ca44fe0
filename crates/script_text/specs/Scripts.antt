-- The lines of a script, whatever its commands are.
use Rattle.std.specs.Prelude.{◌≡◌, ℕ, ◌+◌, ◌<◌, Bool, true, false, ◌&&◌, List, [], ◌∷◌, ◌++◌, length, replicate, nat_le, ◌==◌, if◌then◌else◌}
use Rattle.std.specs.Option.{option_map}
use Rattle.std.specs.declared.option.Option.{Option}
use Rattle.std.specs.declared.option.Option.TheVariants.{None, Some}
use Rattle.std.specs.Str.Lines.{lines}
use Rattle.tpz_base.specs.Texts.{Bytes}
use Rattle.tpz_io.specs.Told.{ahead}

-- the lines up to the first outside the grammar, None for each that is passed over, and the number of that first one, if
-- there is one
pub record ScriptLines (T : Type 0) : Type 0 where
  pub lines : List (Option T)
  pub bad : Option ℕ

-- lines in front of others
abbrev pub with_lines : {T : Type 0} → List (Option T) → ScriptLines T → ScriptLines T
with_lines front rest = record { lines = front ++ rest.lines; bad = rest.bad }

-- a line that is passed over: it is empty, or begins with `#`
abbrev pub is_passed_over : Bytes → Bool
is_passed_over [] = true
is_passed_over (b ∷ bs) = b == 35

-- at most 1,048,576 lines of at most 256 bytes
abbrev pub is_within : ℕ → Bytes → Bool
is_within number text = nat_le number 1048576 && nat_le (length text) 256

-- what a line means: nothing where it is passed over, else what is read; None where it is outside the grammar
abbrev pub meaning : {T : Type 0} → (Bytes → Option T) → ℕ → Bytes → Option (Option T)
meaning read number text =
    if is_within number text then (if is_passed_over text then Some None else option_map (λ x. Some x) (read text)) else None

abbrev pub with_meaning : {T : Type 0} → ℕ → Option (Option T) → ScriptLines T → ScriptLines T
with_meaning number None rest = record { lines = []; bad = Some number }
with_meaning number (Some line) rest = with_lines (line ∷ []) rest

-- the lines of these texts, of which the first has this number
abbrev pub script_from : {T : Type 0} → (Bytes → Option T) → ℕ → List Bytes → ScriptLines T
script_from read number [] = record { lines = []; bad = None }
script_from read number (text ∷ texts) = with_meaning number (meaning read number text) (script_from read (number + 1) texts)

-- the lines of a script
abbrev pub script : {T : Type 0} → (Bytes → Option T) → Bytes → ScriptLines T
script read bytes = script_from read 1 (lines bytes)

-- so many lines that are passed over
abbrev pub passed_over : {T : Type 0} → ℕ → List (Option T)
passed_over n = replicate n None

-- what a reader of a script holds: bytes that were read, and the number of the last line that was read
pub record Place : Type 0 where
  pub held : Bytes
  pub number : ℕ

-- the lines that are left, where the source tells its bytes
unfoldable pub script_left : {T : Type 0} → (Bytes → Option T) → Place → Option Bytes → Option (ScriptLines T)
script_left read place told = option_map (λ bytes. script_from read (place.number + 1) (lines bytes)) (ahead place.held told)

-- the texts of the lines of bytes that are told
abbrev pub lines_told : Option Bytes → Option (List Bytes)
lines_told told = option_map lines told

abbrev pub with_text : Bytes → Option (List Bytes) → Option (List Bytes)
with_text text told = option_map (λ texts. text ∷ texts) told

-- the first text is longer than a line may be
abbrev pub BeginsLong : List Bytes → Type 0
BeginsLong [] = ⊥
BeginsLong (text ∷ texts) = 256 < length text

-- there is a first text, and it isn't within the limits at this number
abbrev pub BeginsOutside : ℕ → List Bytes → Type 0
BeginsOutside number [] = ⊥
BeginsOutside number (text ∷ texts) = is_within number text ≡ false
