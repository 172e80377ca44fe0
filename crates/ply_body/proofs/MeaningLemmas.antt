-- How great a coordinate is.
use Rattle.std.proofs.Common.{◌≡◌, ℕ, zero, suc, ◌≤◌, Bool, true, false, not, ◌&&◌, cond, ◌++◌, length, refl, subst, arith, ℤ}
use Rattle.std.proofs.lemmas.Int.{ints}
use Rattle.std.proofs.lemmas.Bool.Decides.{nat_tests}
use Rattle.std.specs.Prelude.{nat_lt, unsigned_abs, Option, Result, Ok, Err}
use Rattle.tpz_base.specs.Texts.{Bytes}
use Rattle.ply_head.specs.declared.fault.NumberFault.{NumberFault}
use Rattle.ply_head.specs.declared.fault.NumberFault.TheVariants.{Form, Digits, Range}
use Rattle.ply_head.specs.Numbers.{LIMIT, number, number_of, signed, is_mantissa, is_exponent, significant, magnitude, is_negative, whole_digits, fraction_digits, exponent}

signed_fits : (minus : Bool) (m : ℕ) → m ≤ 2147483647 → unsigned_abs (signed minus m) ≤ 2147483647
signed_fits false m small = grind (arith, ints)
signed_fits true zero small = grind (arith, ints)
signed_fits true (suc m) small = grind (arith, ints)

ranged_fits : (formless long minus large : Bool) (m : ℕ) (z : ℤ) → nat_lt LIMIT m ≡ large
    → cond {A = Result ℤ NumberFault} formless (Err Form) (cond long (Err Digits) (cond large (Err Range) (Ok (signed minus m)))) ≡ Ok z → unsigned_abs z ≤ 2147483647
ranged_fits true long minus large m z is h = absurd (cc)
ranged_fits false true minus large m z is h = absurd (cc)
ranged_fits false false minus true m z is h = absurd (cc)
ranged_fits false false minus false m z is h =
    let same : signed minus m ≡ z = cc in
    subst (λ (y : ℤ). unsigned_abs y ≤ 2147483647) same (signed_fits minus m (grind (arith, nat_tests)))

parts_fit : (minus : Bool) (whole fraction : Bytes) (e : Option Bytes) (k : ℕ) (z : ℤ) → number_of minus whole fraction e k ≡ Ok z → unsigned_abs z ≤ 2147483647
parts_fit minus whole fraction e k z h =
    ranged_fits (not (is_mantissa whole fraction && is_exponent e)) (nat_lt 30 (length (significant (whole ++ fraction)))) minus
    (nat_lt LIMIT (magnitude whole fraction e k)) (magnitude whole fraction e k) z refl h

-- a text's number is at most the limit in absolute value
pub number_fits : (text : Bytes) (k : ℕ) (z : ℤ) → number text k ≡ Ok z → unsigned_abs z ≤ 2147483647
number_fits text k z h = parts_fit (is_negative text) (whole_digits text) (fraction_digits text) (exponent text) k z h
