-- A number as a word: there is no space in it, and it writes the number.
use Rattle.std.proofs.Common.{◌≡◌, ◌≢◌, ℕ, zero, suc, ◌<◌, ◌≤◌, ◌^◌, length, get_or, refl, ap, arith, lit<, false}
use Rattle.std.specs.Prelude.{decimal, ℤ, pos, negsuc, unsigned_abs, neg_ℤ, ◌==◌}
use Rattle.std.specs.Fmt.{signed_decimal}
use Rattle.std.specs.Str.Parse.{AllDigits, digits_value, signed_digits_value, without_leading_plus}
use Rattle.std.proofs.lemmas.Str.Parse.{IsNumeralModel, numerals_by_value, tells_digits, not_in_digits, without_leading_plus_none}
use Rattle.std.proofs.lemmas.Fmt.{digits_decimal, digits_value-decimal, decimal_nonempty}
use Rattle.std.specs.Int.Signed.{mag}
use Rattle.std.proofs.lemmas.Bool.Decides.{nat_tests}

own : IsNumeralModel (AllDigits 10) (digits_value 10)
own = numerals_by_value (AllDigits 10) tells_digits

-- what is at most 2^40 away from 0 fits 64 bits
pub near_fits : (z : ℤ) → unsigned_abs z ≤ 2 ^ 40 → mag z < 2 ^ 63
near_fits (pos n) h = omega arith
near_fits (negsuc n) h = omega arith

pub no_space_natural : (n : ℕ) → n < 2 ^ 63 → (i : ℕ) → i < length (decimal n) → get_or (decimal n) i 0 ≢ 32
no_space_natural n small i within = not_in_digits own (decimal n) 32 (digits_decimal own n (omega arith)) (λ r. omega (arith, r.0)) i within

pub no_space : (z : ℤ) → mag z < 2 ^ 63 → (i : ℕ) → i < length (signed_decimal z) → get_or (signed_decimal z) i 0 ≢ 32
no_space (pos n) small i within = no_space_natural n small i within
no_space (negsuc n) small zero within = λ e. omega (arith, e)
no_space (negsuc n) small (suc i) within =
    not_in_digits own (decimal (suc n)) 32 (digits_decimal own (suc n) (omega arith)) (λ r. omega (arith, r.0)) i (omega arith)

first_is_digit : (n c : ℕ) → n < 2 ^ 63 → c < 48 → get_or (decimal n) 0 0 ≢ c
first_is_digit n c small low =
    not_in_digits own (decimal n) c (digits_decimal own n (omega arith)) (λ r. omega (arith, r.0)) 0 (decimal_nonempty n (omega arith))

pub value_of_decimal : (z : ℤ) → mag z < 2 ^ 63 → signed_digits_value 10 (signed_decimal z) ≡ z
value_of_decimal (pos n) small = rw (minus, plain, value) refl where
  minus : (get_or (decimal n) 0 0 == 45) ≡ false
  minus = let other = first_is_digit n 45 small (lit< tt) in grind (arith, nat_tests)

  plain : without_leading_plus (decimal n) ≡ decimal n
  plain = without_leading_plus_none (decimal n) (first_is_digit n 43 small (lit< tt))

  value : digits_value 10 (decimal n) ≡ n
  value = digits_value-decimal own n (omega arith)
value_of_decimal (negsuc n) small = ap (λ (m : ℕ). neg_ℤ (pos m)) (digits_value-decimal own (suc n) (omega arith))
