-- The table of numbers.
use Rattle.std.proofs.Common.{◌≡◌, refl, Ok, Err}
use Rattle.std.specs.Prelude.{pos, neg_ℤ, codes}
use Rattle.ply_head.specs.declared.fault.NumberFault.TheVariants.{Form, Digits, Range}
use Rattle.ply_head.specs.Numbers.{number}

digits_behind_the_point : number (codes "-0.0378297") 6 ≡ Ok (neg_ℤ (pos 37830))
digits_behind_the_point = refl

tie_up : number (codes "1.5e-6") 6 ≡ Ok (pos 2)
tie_up = refl

tie_of_a_negative : number (codes "-2.5E-06") 6 ≡ Ok (neg_ℤ (pos 3))
tie_of_a_negative = refl

no_digit_before : number (codes ".5") 0 ≡ Ok (pos 1)
no_digit_before = refl

no_digit_behind : number (codes "4.") 1 ≡ Ok (pos 40)
no_digit_behind = refl

zero_far_up : number (codes "0e9999") 9 ≡ Ok (pos 0)
zero_far_up = refl

just_in_range : number (codes "2147483647.49") 0 ≡ Ok (pos 2147483647)
just_in_range = refl

just_out_of_range : number (codes "2147483647.5") 0 ≡ Err Range
just_out_of_range = refl

no_number : number (codes "nan") 0 ≡ Err Form
no_number = refl

no_exponent : number (codes "1e") 0 ≡ Err Form
no_exponent = refl

point_alone : number (codes ".") 0 ≡ Err Form
point_alone = refl

five_exponent_digits : number (codes "1e00001") 0 ≡ Err Form
five_exponent_digits = refl

-- exponents far away
far_up : number (codes "1e9999") 0 ≡ Err Range
far_up = refl

far_down : number (codes "1e-9999") 9 ≡ Ok (pos 0)
far_down = refl

digits_31 : number (codes "1234567890123456789012345678901") 0 ≡ Err Digits
digits_31 = refl

digits_30 : number (codes "123456789012345678901234567890e-29") 0 ≡ Ok (pos 1)
digits_30 = refl

-- a zero in front isn't significant, before the point or behind it
zeros_in_front : number (codes "0.0000000000000000000000000000000000000001e40") 0 ≡ Ok (pos 1)
zeros_in_front = refl

-- the form comes before the digits, and they before the range
form_first : number (codes "1234567890123456789012345678901x") 0 ≡ Err Form
form_first = refl
