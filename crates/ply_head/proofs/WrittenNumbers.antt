-- What the text of a written number means.
use Rattle.std.proofs.Common.{◌≡◌, ℕ, zero, suc, ◌+◌, ◌*◌, ◌/◌, ◌%◌, ◌^◌, ◌<◌, ◌≤◌, List, [], ◌∷◌, ◌++◌, length, refl, ◌∙◌, ap, arith, Bool, true, false, cond, ◌||◌}
use Rattle.std.specs.Prelude.{decimal, ◌==◌, ℤ, pos, negsuc, neg_ℤ, unsigned_abs, None, Ok}
use Rattle.std.specs.Fmt.{digits, digits_onto, digit_glyph, signed_decimal}
use Rattle.std.specs.List.{list_all, list_any, before_first, after_first, position_or_len}
use Rattle.std.proofs.lemmas.Bool.Decides.{nat_tests}
use Rattle.std.proofs.lemmas.List.{append-nil}
use Rattle.std.proofs.Math.Seq.{take-length}
use Rattle.std.proofs.Math.ListN.{drop_of_length-le}
use Rattle.std.proofs.lemmas.Str.Parse.{IsDigitsTest, FoldsDigits, IsNumeralModel, numerals_by_fold}
use Rattle.std.proofs.lemmas.Fmt.{digits_value-decimal, decimal_nonempty}
use Rattle.ply_head.specs.Numbers.{LIMIT, is_digit, is_point, is_exponent_mark, is_negative, without_sign, exponent, whole_digits, fraction_digits, value, value_after, signed, number, number_of, is_mantissa, nearest, magnitude}
use Rattle.ply_head.proofs.NumberLemmas.{is_value, same_parts}

-- Every digit that is written is one, however large the number is.
glyph_is_digit : (d : ℕ) → d < 10 → is_digit (digit_glyph false d) ≡ true
glyph_is_digit d small = grind (arith, nat_tests)

digit_in_front : (c : ℕ) (cs : List ℕ) → is_digit c ≡ true → list_all is_digit cs ≡ true → list_all is_digit (c ∷ cs) ≡ true
digit_in_front c cs first rest = rw (first, rest) refl

digits_stay : (k n : ℕ) (acc : List ℕ) → list_all is_digit acc ≡ true → list_all is_digit (digits_onto k 10 false n acc) ≡ true
digits_stay zero n acc all = all
digits_stay (suc k) n acc all = go (n / 10 == 0) (digits_stay k (n / 10) (digit_glyph false (n % 10) ∷ acc) here) where
  here : list_all is_digit (digit_glyph false (n % 10) ∷ acc) ≡ true
  here = digit_in_front (digit_glyph false (n % 10)) acc (glyph_is_digit (n % 10) (omega arith)) all

  go : (b : Bool) → list_all is_digit (digits_onto k 10 false (n / 10) (digit_glyph false (n % 10) ∷ acc)) ≡ true
      → list_all is_digit (cond b (digit_glyph false (n % 10) ∷ acc) (digits_onto k 10 false (n / 10) (digit_glyph false (n % 10) ∷ acc))) ≡ true
  go true more = here
  go false more = more

pub digits_written : (n : ℕ) → list_all is_digit (decimal n) ≡ true
unfolding digits
digits_written n = digits_stay 64 n [] refl

few_stay : (k n : ℕ) (acc : List ℕ) → length (digits_onto k 10 false n acc) ≤ k + length acc
few_stay zero n acc = omega arith
few_stay (suc k) n acc = go (n / 10 == 0) (few_stay k (n / 10) (digit_glyph false (n % 10) ∷ acc)) where
  go : (b : Bool) → length (digits_onto k 10 false (n / 10) (digit_glyph false (n % 10) ∷ acc)) ≤ k + length (digit_glyph false (n % 10) ∷ acc)
      → length (cond b (digit_glyph false (n % 10) ∷ acc) (digits_onto k 10 false (n / 10) (digit_glyph false (n % 10) ∷ acc))) ≤ suc k + length acc
  go true more = omega arith
  go false more = omega arith

pub few_written : (n : ℕ) → length (decimal n) ≤ 64
unfolding digits
few_written n = few_stay 64 n []

-- The value of the digits is the number.
tells : IsDigitsTest (λ ds. list_all is_digit ds ≡ true)
tells = record {
  empty = refl;
  parts = λ c cs all. ((grind (arith, nat_tests), grind (arith, nat_tests)), grind (arith, nat_tests));
  more = λ c cs within rest. grind (arith, nat_tests);
}

folds : FoldsDigits value_after
folds = record { empty = λ n. refl; more = λ n c cs within. ap (λ (m : ℕ). value_after m cs) (omega arith) }

own : IsNumeralModel (λ ds. list_all is_digit ds ≡ true) value
own = numerals_by_fold (λ ds. list_all is_digit ds ≡ true) tells value_after folds

pub value_written : (n : ℕ) → n < 2 ^ 64 → value (decimal n) ≡ n
value_written n small = digits_value-decimal own n small

-- A text of digits has no byte that isn't one.
pub none_among : (p : ℕ → Bool) → ((c : ℕ) → is_digit c ≡ true → p c ≡ false) → (ds : List ℕ) → list_all is_digit ds ≡ true → list_any p ds ≡ false
none_among p other [] all = refl
none_among p other (c ∷ cs) all =
    let first : is_digit c ≡ true = grind (arith, nat_tests) in
    let rest : list_all is_digit cs ≡ true = grind (arith, nat_tests) in
    rw (other c first, none_among p other cs rest) refl

no_place : (p : ℕ → Bool) (xs : List ℕ) → list_any p xs ≡ false → position_or_len p xs ≡ length xs
no_place p [] none = refl
no_place p (x ∷ xs) none =
    let first : p x ≡ false = grind (arith, nat_tests) in
    let rest : list_any p xs ≡ false = grind (arith, nat_tests) in
    rw (first, no_place p xs rest) (omega arith)

none_before : (p : ℕ → Bool) (xs : List ℕ) → list_any p xs ≡ false → before_first p xs ≡ xs
none_before p xs none = rw (no_place p xs none) (take-length xs)

none_after : (p : ℕ → Bool) (xs : List ℕ) → list_any p xs ≡ false → after_first p xs ≡ []
none_after p xs none = rw (no_place p xs none) (drop_of_length-le xs (omega arith))

-- Digits, with a sign in front or without one, write their value.
no_mark : (c : ℕ) → is_digit c ≡ true → is_exponent_mark c ≡ false
no_mark c h = grind (arith, nat_tests)

no_point : (c : ℕ) → is_digit c ≡ true → is_point c ≡ false
no_point c h = grind (arith, nat_tests)

pub no_minus : (ds : List ℕ) → list_all is_digit ds ≡ true → is_negative ds ≡ false
no_minus [] all = refl
no_minus (c ∷ cs) all = let first : is_digit c ≡ true = grind (arith, nat_tests) in grind (arith, nat_tests)

pub no_sign : (ds : List ℕ) → list_all is_digit ds ≡ true → without_sign ds ≡ ds
no_sign [] all = refl
no_sign (c ∷ cs) all =
    let first : is_digit c ≡ true = grind (arith, nat_tests) in
    let other : (c == 43 || c == 45) ≡ false = grind (arith, nat_tests) in
    rw other refl

nearest_one : (n : ℕ) → nearest n 1 ≡ n
nearest_one n = omega arith

module _ (ds : List ℕ) (all : list_all is_digit ds ≡ true) (some : 0 < length ds) (minus : Bool) where
  form : is_mantissa ds [] ≡ true
  form = rw all (grind (arith, nat_tests))

  size : magnitude ds [] None 0 ≡ value ds
  size = ap (λ (v : ℕ). nearest (v * 1) 1) (ap value (append-nil ds)) ∙ ap (λ (v : ℕ). nearest v 1) (omega arith) ∙ nearest_one (value ds)

  parts_mean : value ds ≤ LIMIT → number_of minus ds [] None 0 ≡ Ok (signed minus (value ds))
  parts_mean within =
      let same : value (ds ++ []) ≡ value ds = ap value (append-nil ds) in
      is_value minus ds [] None 0 form refl (omega (arith, same)) (omega (arith, size)) ∙ ap (λ (v : ℕ). Ok (signed minus v)) size

  pub digits_mean : (text : List ℕ) → is_negative text ≡ minus → without_sign text ≡ ds → value ds ≤ LIMIT → number text 0 ≡ Ok (signed minus (value ds))
  digits_mean text sign digits within =
      let none_marked : list_any is_exponent_mark ds ≡ false = none_among is_exponent_mark no_mark ds all in
      let none_pointed : list_any is_point ds ≡ false = none_among is_point no_point ds all in
      let front : before_first is_exponent_mark (without_sign text) ≡ ds = ap (before_first is_exponent_mark) digits ∙ none_before is_exponent_mark ds none_marked in
      let whole : whole_digits text ≡ ds = ap (before_first is_point) front ∙ none_before is_point ds none_pointed in
      let fraction : fraction_digits text ≡ [] = ap (after_first is_point) front ∙ none_after is_point ds none_pointed in
      let marked : list_any is_exponent_mark (without_sign text) ≡ false = ap (list_any is_exponent_mark) digits ∙ none_marked in
      let power : exponent text ≡ None = rw marked refl in
      ap (λ (m : Bool). number_of m (whole_digits text) (fraction_digits text) (exponent text) 0) sign
      ∙ same_parts minus (whole_digits text) ds (fraction_digits text) [] (exponent text) None 0 whole fraction power
      ∙ parts_mean within

-- A written number of at most 2,147,483,647 in absolute value is read back.
pub number_written : (z : ℤ) → unsigned_abs z ≤ LIMIT → number (signed_decimal z) 0 ≡ Ok z
number_written (pos n) small =
    let ds = decimal n in
    let all = digits_written n in
    let same : value ds ≡ n = value_written n (omega arith) in
    digits_mean ds all (decimal_nonempty n (omega arith)) false ds (no_minus ds all) (no_sign ds all) (omega (arith, same)) ∙ ap (λ (v : ℕ). Ok (pos v)) same
number_written (negsuc n) small =
    let ds = decimal (suc n) in
    let same : value ds ≡ suc n = value_written (suc n) (omega arith) in
    digits_mean ds (digits_written (suc n)) (decimal_nonempty (suc n) (omega arith)) true (45 ∷ ds) refl refl (omega (arith, same)) ∙ ap (λ (v : ℕ). Ok (neg_ℤ (pos v))) same
