-- What a text means as a number.
use Rattle.std.specs.Prelude.{ℕ, ◌+◌, ◌-◌, ◌*◌, ◌/◌, ◌^◌, Bool, true, false, not, ◌&&◌, ◌||◌, List, [], ◌∷◌, ◌++◌, length, fold, nat_le, nat_lt, ◌==◌, if◌then◌else◌, ℤ, pos, neg_ℤ, Option, Some, None, Result, Ok, Err}
use Rattle.std.specs.List.{list_any, list_all, before_first, after_first}
use Rattle.ply_head.specs.declared.fault.NumberFault.{NumberFault}
use Rattle.ply_head.specs.declared.fault.NumberFault.TheVariants.{Form, Digits, Range}

abbrev pub is_digit : ℕ → Bool
is_digit c = nat_le 48 c && nat_le c 57

abbrev pub is_point : ℕ → Bool
is_point c = c == 46

abbrev pub is_exponent_mark : ℕ → Bool
is_exponent_mark c = c == 101 || c == 69

-- whether a minus sign stands in front
abbrev pub is_negative : List ℕ → Bool
is_negative [] = false
is_negative (c ∷ cs) = c == 45

-- the text without the one sign in front, if there is one
abbrev pub without_sign : List ℕ → List ℕ
without_sign [] = []
without_sign (c ∷ cs) = if c == 43 || c == 45 then cs else c ∷ cs

-- what stands before the exponent's mark, and what after it, if there is one
abbrev pub mantissa : List ℕ → List ℕ
mantissa text = before_first is_exponent_mark (without_sign text)

abbrev pub exponent : List ℕ → Option (List ℕ)
exponent text =
    if list_any is_exponent_mark (without_sign text) then Some (after_first is_exponent_mark (without_sign text)) else None

-- the digits before the point, and those after it
abbrev pub whole_digits : List ℕ → List ℕ
whole_digits text = before_first is_point (mantissa text)

abbrev pub fraction_digits : List ℕ → List ℕ
fraction_digits text = after_first is_point (mantissa text)

-- from `least` to `most` digits and nothing else
abbrev pub are_digits : ℕ → ℕ → List ℕ → Bool
are_digits least most cs = list_all is_digit cs && nat_le least (length cs) && nat_le (length cs) most

-- digits, some of them before or after the point
abbrev pub is_mantissa : List ℕ → List ℕ → Bool
is_mantissa whole fraction = list_all is_digit whole && list_all is_digit fraction && nat_le 1 (length whole + length fraction)

-- none, or a sign or none and one to four digits
abbrev pub is_exponent : Option (List ℕ) → Bool
is_exponent None = true
is_exponent (Some e) = are_digits 1 4 (without_sign e)

-- the digits without their leading zeros
abbrev pub significant : List ℕ → List ℕ
significant [] = []
significant (c ∷ cs) = if c == 48 then significant cs else c ∷ cs

-- the number that digits write behind those of n
abbrev pub value_after : ℕ → List ℕ → ℕ
value_after n ds = fold (λ n c. 10 * n + (c - 48)) n ds

abbrev pub value : List ℕ → ℕ
value ds = value_after 0 ds

-- the whole number nearest to n / d, the upper one of two
abbrev pub nearest : ℕ → ℕ → ℕ
nearest n d = (2 * n + d) / (2 * d)

-- an exponent above 0, and one below
abbrev pub raised : Option (List ℕ) → ℕ
raised None = 0
raised (Some e) = if is_negative e then 0 else value (without_sign e)

abbrev pub lowered : Option (List ℕ) → ℕ
lowered None = 0
lowered (Some e) = if is_negative e then value (without_sign e) else 0

-- the absolute value times 10^k, rounded, ties away from zero
abbrev pub magnitude : List ℕ → List ℕ → Option (List ℕ) → ℕ → ℕ
magnitude whole fraction e k =
    nearest (value (whole ++ fraction) * 10 ^ (k + raised e)) (10 ^ (length fraction + lowered e))

abbrev pub LIMIT : ℕ
LIMIT = 2147483647

-- with a sign
abbrev pub signed : Bool → ℕ → ℤ
signed minus n = if minus then neg_ℤ (pos n) else pos n

-- what the parts of a text mean at k digits
abbrev pub number_of : Bool → List ℕ → List ℕ → Option (List ℕ) → ℕ → Result ℤ NumberFault
number_of minus whole fraction e k =
    if not (is_mantissa whole fraction && is_exponent e) then Err Form else
    (if nat_lt 30 (length (significant (whole ++ fraction))) then Err Digits else
    (if nat_lt LIMIT (magnitude whole fraction e k) then Err Range else Ok (signed minus (magnitude whole fraction e k))))

-- the number that a text means at k digits, or why it means none
abbrev pub number : List ℕ → ℕ → Result ℤ NumberFault
number text k = number_of (is_negative text) (whole_digits text) (fraction_digits text) (exponent text) k
