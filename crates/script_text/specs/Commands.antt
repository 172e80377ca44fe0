-- The commands of a script as bytes.
use Rattle.std.specs.Prelude.{◌≡◌, ℕ, ◌^◌, Bool, true, ◌&&◌, List, [], ◌∷◌, codes, decimal, find, nat_le, nat_lt, ◌==◌, ℤ, unsigned_abs}
use Rattle.std.specs.Fmt.{signed_decimal}
use Rattle.std.specs.List.{slice_index_or, slice_split}
use Rattle.std.specs.Str.{bytes_eq}
use Rattle.std.specs.Str.Parse.{signed_digits_value}
use Rattle.std.specs.declared.option.Option.{Option}
use Rattle.tpz_base.specs.Texts.{Bytes, words}
use Rattle.script_text.specs.declared.line.Line.{Line}
use Rattle.script_text.specs.declared.line.Line.TheVariants.{Look, Write}

-- the one spelling of a command
abbrev pub spelling : Line → Bytes
spelling (Look x y z tol) = words (codes "view" ∷ signed_decimal x ∷ signed_decimal y ∷ signed_decimal z ∷ decimal tol ∷ [])
spelling Write = codes "write"

-- a coordinate is at most 2^40 away from 0
abbrev pub is_near : ℤ → Bool
is_near z = nat_le (unsigned_abs z) (2 ^ 40)

abbrev pub is_in_bounds : Line → Bool
is_in_bounds (Look x y z tol) = is_near x && is_near y && is_near z && nat_lt tol (2 ^ 32)
is_in_bounds Write = true

-- The bytes are the spelling of a command whose numbers are in their bounds.
pub record IsSpelled (line : Line) (bytes : Bytes) : Type 0 where
  pub text : bytes ≡ spelling line
  pub bounds : is_in_bounds line ≡ true

abbrev pub is_spelled : Bytes → Line → Bool
is_spelled bytes line = bytes_eq bytes (spelling line) && is_in_bounds line

abbrev pub is_space : ℕ → Bool
is_space b = b == 32

-- the number that the word at a place writes
abbrev pub number_at : Bytes → ℕ → ℤ
number_at bytes i = signed_digits_value 10 (slice_index_or (slice_split is_space bytes) i [])

-- the commands with the numbers that the words of the bytes write
abbrev pub candidates : Bytes → List Line
candidates bytes = Look (number_at bytes 1) (number_at bytes 2) (number_at bytes 3) (unsigned_abs (number_at bytes 4)) ∷ Write ∷ []

-- the command that the bytes spell, if they spell one
unfoldable pub read_line : Bytes → Option Line
read_line bytes = find (is_spelled bytes) (candidates bytes)
