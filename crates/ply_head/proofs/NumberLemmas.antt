-- The values of digits, and roundings.
use Rattle.std.proofs.Common.{◌≡◌, ℕ, zero, suc, ◌+◌, ◌-◌, ◌*◌, ◌^◌, ◌<◌, ◌≤◌, List, [], ◌∷◌, ◌++◌, length, take, get_or, refl, sym, ◌∙◌, ap, subst, arith, Bool, true, false, cond, not, ◌&&◌, ◌||◌, lit<}
use Rattle.std.specs.Prelude.{◌==◌, nat_lt}
use Rattle.std.specs.List.{list_all, list_any, position_or_len}
use Rattle.std.proofs.lemmas.Bool.Decides.{nat_tests}
use Rattle.std.proofs.lemmas.Nat.{pow-add}
use Rattle.std.proofs.Math.Nat.{pow-le-pow_right, mul-le-mul_left, mul-le-mul_right, pow-suc, mul-div-mul_right, div-eq_of_lt}
use Rattle.std.proofs.lemmas.Grind.{common_steps}
use Rattle.std.specs.declared.option.Option.{Option}
use Rattle.std.specs.declared.result.Result.TheVariants.{Ok, Err}
use Rattle.ply_head.specs.declared.fault.NumberFault.TheVariants.{Digits, Range}
use Rattle.ply_head.specs.Numbers.{is_digit, is_mantissa, is_exponent, significant, value, value_after, nearest, raised, lowered, magnitude, signed, LIMIT, number_of}

-- what is written behind n is no less than n
value_after_grows : (n : ℕ) (ds : List ℕ) → n ≤ value_after n ds
value_after_grows n [] = omega arith
value_after_grows n (c ∷ cs) = omega (arith, value_after_grows (10 * n + (c - 48)) cs)

-- one digit more is no more than all of them
pub step_le : (n : ℕ) (ds : List ℕ) (i : ℕ) → i < length ds → 10 * value_after n (take i ds) + (get_or ds i 0 - 48) ≤ value_after n ds
step_le n [] i here = absurd (omega arith)
step_le n (c ∷ cs) zero here = value_after_grows (10 * n + (c - 48)) cs
step_le n (c ∷ cs) (suc i) here = step_le (10 * n + (c - 48)) cs i (omega arith)

pub value_after-append : (n : ℕ) (xs ys : List ℕ) → value_after n (xs ++ ys) ≡ value_after (value_after n xs) ys
value_after-append n [] ys = refl
value_after-append n (c ∷ cs) ys = value_after-append (10 * n + (c - 48)) cs ys

-- the digits behind n take as many places as they are
record Bounds (n : ℕ) (ds : List ℕ) : Type 0 where
  low : n * 10 ^ length ds ≤ value_after n ds
  high : value_after n ds < (n + 1) * 10 ^ length ds

digit_of : (c : ℕ) (b : Bool) → (is_digit c && b) ≡ true → (48 ≤ c) × (c ≤ 57) × (b ≡ true)
digit_of c b h = (grind (arith, nat_tests), grind (arith, nat_tests), grind (arith, nat_tests))

-- one digit: what its place is worth
digit_low : (n d p v : ℕ) → (10 * n + d) * p ≤ v → n * (p * 10) ≤ v
digit_low n d p v h = omega (arith, h)

digit_high : (n d p v : ℕ) → d ≤ 9 → v < (10 * n + d + 1) * p → v < (n + 1) * (p * 10)
digit_high n d p v small h =
    let most : (d + 1) * p ≤ 10 * p = mul-le-mul_right p (omega arith) in
    omega (arith, h, most)

bounds : (n : ℕ) (ds : List ℕ) → list_all is_digit ds ≡ true → Bounds n ds
bounds n [] all = record { low = omega arith; high = omega arith }
bounds n (c ∷ cs) all =
    let here = digit_of c (list_all is_digit cs) all in
    let rest = bounds (10 * n + (c - 48)) cs here.2 in
    record {
      low = rw pow-suc (digit_low n (c - 48) (10 ^ length cs) (value_after (10 * n + (c - 48)) cs) rest.low);
      high = rw pow-suc (digit_high n (c - 48) (10 ^ length cs) (value_after (10 * n + (c - 48)) cs) (omega arith) rest.high);
    }

lead_short : (d p v : ℕ) → d ≤ 9 → p ≤ 10 ^ 29 → v < (0 + d + 1) * p → v < 10 ^ 30
lead_short d p v small few h =
    let most : (d + 1) * p ≤ 10 * p = mul-le-mul_right p (omega arith) in
    omega (arith, h, most, few)

lead_long : (d p v : ℕ) → 0 < d → 10 ^ 30 ≤ p → (0 + d) * p ≤ v → 10 ^ 30 ≤ v
lead_long d p v some many h =
    let least : 1 * p ≤ d * p = mul-le-mul_right p some in
    omega (arith, h, least, many)

-- digits behind one that isn't 0
leading : (c : ℕ) (cs : List ℕ) → (is_digit c && list_all is_digit cs) ≡ true → (c == 48) ≡ false
    → (length (c ∷ cs) ≤ 30 → value (c ∷ cs) < 10 ^ 30) × (30 < length (c ∷ cs) → 10 ^ 30 ≤ value (c ∷ cs))
leading c cs all first =
    let here = digit_of c (list_all is_digit cs) all in
    let rest = bounds (10 * 0 + (c - 48)) cs here.2 in
    let other : 48 < c = grind (arith, nat_tests) in (
      λ short. lead_short (c - 48) (10 ^ length cs) (value (c ∷ cs)) (omega arith)
          (pow-le-pow_right {n = 10} (lit< tt) {i = length cs} {j = 29} (omega arith)) rest.high,
      λ long. lead_long (c - 48) (10 ^ length cs) (value (c ∷ cs)) (omega arith)
          (pow-le-pow_right {n = 10} (lit< tt) {i = 30} {j = length cs} (omega arith)) rest.low,
    )

-- at most 30 significant digits write a number below 10^30, and more of them write another
abbrev FewAre : List ℕ → ℕ → Type 0
FewAre ds n = (length ds ≤ 30 → n < 10 ^ 30) × (30 < length ds → 10 ^ 30 ≤ n)

pub few_digits : (ds : List ℕ) → list_all is_digit ds ≡ true
    → (length (significant ds) ≤ 30 → value ds < 10 ^ 30) × (30 < length (significant ds) → 10 ^ 30 ≤ value ds)
few_digits [] all = (λ short. lit< tt, λ long. absurd (omega arith))
few_digits (c ∷ cs) all = go (few_digits cs (digit_of c (list_all is_digit cs) all).2) (c == 48) refl where
  go : FewAre (significant cs) (value cs) → (b : Bool) → (c == 48) ≡ b → FewAre (cond b (significant cs) (c ∷ cs)) (value (c ∷ cs))
  go rest true is = let zero_first : c ≡ 48 = grind (arith, nat_tests) in
      subst (λ (k : ℕ). FewAre (significant cs) (value (k ∷ cs))) (sym zero_first) rest
  go rest false is = leading c cs all is

-- how a fraction of powers of ten is rounded
nearest_scaled : (n d c : ℕ) → 0 < c → nearest (n * c) (d * c) ≡ nearest n d
nearest_scaled n d c some =
    let above : 2 * (n * c) + d * c ≡ (2 * n + d) * c = omega arith in
    let below : 2 * (d * c) ≡ (2 * d) * c = omega arith in
    rw (above, below) (mul-div-mul_right (2 * n + d) (2 * d) some)

pub power_pos : (k : ℕ) → 0 < 10 ^ k
power_pos k = pow-le-pow_right {n = 10} (lit< tt) {i = 0} {j = k} (omega arith)

nearest_whole : (n : ℕ) → nearest n 1 ≡ n
nearest_whole n = omega arith

pub nearest_up : (m up down : ℕ) → down ≤ up → nearest (m * 10 ^ up) (10 ^ down) ≡ m * 10 ^ (up - down)
nearest_up m up down le =
    let split : up ≡ (up - down) + down = omega arith in
    let power : 10 ^ up ≡ 10 ^ (up - down) * 10 ^ down = ap (λ (k : ℕ). 10 ^ k) split ∙ pow-add 10 (up - down) down in
    let above : m * 10 ^ up ≡ m * 10 ^ (up - down) * 10 ^ down = ap (λ (p : ℕ). m * p) power ∙ omega arith in
    let below : 10 ^ down ≡ 1 * 10 ^ down = omega arith in
    ap (λ (a : ℕ). nearest a (10 ^ down)) above ∙ ap (nearest (m * 10 ^ (up - down) * 10 ^ down)) below
    ∙ nearest_scaled (m * 10 ^ (up - down)) 1 (10 ^ down) (power_pos down) ∙ nearest_whole (m * 10 ^ (up - down))

pub nearest_down : (m up down : ℕ) → up ≤ down → nearest (m * 10 ^ up) (10 ^ down) ≡ nearest m (10 ^ (down - up))
nearest_down m up down le =
    let split : down ≡ (down - up) + up = omega arith in
    let power : 10 ^ down ≡ 10 ^ (down - up) * 10 ^ up = ap (λ (k : ℕ). 10 ^ k) split ∙ pow-add 10 (down - up) up in
    ap (nearest (m * 10 ^ up)) power ∙ nearest_scaled m (10 ^ (down - up)) (10 ^ up) (power_pos up)

-- a product past the limit, and a fraction that is rounded to 0
pub large_power : (m s : ℕ) → 0 < m → 9 < s → 2147483647 < m * 10 ^ s
large_power m s some far =
    let power : 10 ^ 10 ≤ 10 ^ s = pow-le-pow_right (lit< tt) far in
    let least : 1 * 10 ^ s ≤ m * 10 ^ s = mul-le-mul_right (10 ^ s) some in
    omega (arith, power, least)

pub large_factor : (m s : ℕ) → 2147483647 < m → 2147483647 < m * 10 ^ s
large_factor m s large =
    let power : 1 ≤ 10 ^ s = power_pos s in
    let least : m * 1 ≤ m * 10 ^ s = mul-le-mul_left m power in
    omega (arith, least, large)

pub small_fraction : (m t : ℕ) → m < 10 ^ 30 → 30 < t → nearest m (10 ^ t) ≡ 0
small_fraction m t small far =
    let power : 10 ^ 31 ≤ 10 ^ t = pow-le-pow_right (lit< tt) far in
    div-eq_of_lt (omega (arith, power, small))

pub power_small : (t : ℕ) → t ≤ 30 → 10 ^ t ≤ 10 ^ 30
power_small t short = pow-le-pow_right {n = 10} (lit< tt) {i = t} {j = 30} short

pub power_fits : (t : ℕ) → t ≤ 18 → 10 ^ t ≤ 10 ^ 18
power_fits t h = pow-le-pow_right {n = 10} (lit< tt) {i = t} {j = 18} h

pub power_below : (t : ℕ) → t ≤ 4 → 10 ^ t ≤ 10000
power_below t h = pow-le-pow_right {n = 10} (lit< tt) {i = t} {j = 4} h

-- an element that passes stands before the end
pub any_before : (p : ℕ → Bool) (xs : List ℕ) → list_any p xs ≡ nat_lt (position_or_len p xs) (length xs)
any_before p [] = refl
any_before p (x ∷ xs) = go (list_any p xs) (position_or_len p xs) (any_before p xs) (p x) where
  go : (any : Bool) (place : ℕ) → any ≡ nat_lt place (length xs) → (b : Bool)
      → (b || any) ≡ nat_lt (cond (not b) (1 + place) 0) (suc (length xs))
  go any place rest true = grind (arith, nat_tests)
  go any place rest false = grind (arith, nat_tests)

-- what is written in front is no more than the whole
pub front_le : (n : ℕ) (xs ys : List ℕ) → value_after n xs ≤ value_after n (xs ++ ys)
front_le n [] ys = value_after_grows n ys
front_le n (c ∷ cs) ys = front_le (10 * n + (c - 48)) cs ys

test_holds : (a b : ℕ) → a < b → nat_lt a b ≡ true
test_holds a b lt = grind (arith, nat_tests)

test_fails : (a b : ℕ) → b ≤ a → nat_lt a b ≡ false
test_fails a b le = grind (arith, nat_tests)

few_if : (n v b : ℕ) → (30 < n → b ≤ v) → v < b → n ≤ 30
few_if n v b many small = grind arith

many_if : (n v b : ℕ) → (n ≤ 30 → v < b) → (v < b → ⊥) → 30 < n
many_if n v b few large = grind arith

pub same_parts : (minus : Bool) (w w' f f' : List ℕ) (e e' : Option (List ℕ)) (k : ℕ) → w ≡ w' → f ≡ f' → e ≡ e'
    → number_of minus w f e k ≡ number_of minus w' f' e' k
same_parts minus w w' f f' e e' k same_w same_f same_e =
    ap (λ (x : List ℕ). number_of minus x f e k) same_w ∙ ap (λ (x : List ℕ). number_of minus w' x e k) same_f
    ∙ ap (λ (x : Option (List ℕ)). number_of minus w' f' x k) same_e

pub same_magnitude : (w f : List ℕ) (e : Option (List ℕ)) (k v u r l : ℕ) → v ≡ value (w ++ f) → u ≡ k → r ≡ raised e → l ≡ lowered e
    → nearest (v * 10 ^ (u + r)) (10 ^ (length f + l)) ≡ magnitude w f e k
same_magnitude w f e k v u r l same_v same_u same_r same_l =
    ap (λ (x : ℕ). nearest (x * 10 ^ (u + r)) (10 ^ (length f + l))) same_v
    ∙ ap (λ (x : ℕ). nearest (value (w ++ f) * 10 ^ (x + r)) (10 ^ (length f + l))) same_u
    ∙ ap (λ (x : ℕ). nearest (value (w ++ f) * 10 ^ (k + x)) (10 ^ (length f + l))) same_r
    ∙ ap (λ (x : ℕ). nearest (value (w ++ f) * 10 ^ (k + raised e)) (10 ^ (length f + x))) same_l

-- which case of a number it is
module _ (minus : Bool) (whole fraction : List ℕ) (e : Option (List ℕ)) (k : ℕ) (form : is_mantissa whole fraction ≡ true) (right : is_exponent e ≡ true) where
  all_digits : list_all is_digit (whole ++ fraction) ≡ true
  all_digits = grind (arith, nat_tests, common_steps)

  few_here : value (whole ++ fraction) < 10 ^ 30 → nat_lt 30 (length (significant (whole ++ fraction))) ≡ false
  few_here small = test_fails 30 (length (significant (whole ++ fraction))) (few_if _ (value (whole ++ fraction)) (10 ^ 30) (few_digits (whole ++ fraction) all_digits).1 small)

  pub is_digits : (value (whole ++ fraction) < 10 ^ 30 → ⊥) → number_of minus whole fraction e k ≡ Err Digits
  is_digits large =
      let many : nat_lt 30 (length (significant (whole ++ fraction))) ≡ true =
      test_holds 30 (length (significant (whole ++ fraction))) (many_if _ (value (whole ++ fraction)) (10 ^ 30) (few_digits (whole ++ fraction) all_digits).0 large) in
      rw (form, right, many) refl

  pub is_range : value (whole ++ fraction) < 10 ^ 30 → (magnitude whole fraction e k ≤ LIMIT → ⊥) → number_of minus whole fraction e k ≡ Err Range
  is_range small large =
      let past : nat_lt LIMIT (magnitude whole fraction e k) ≡ true = test_holds LIMIT (magnitude whole fraction e k) (omega arith) in
      rw (form, right, few_here small, past) refl

  pub is_value : value (whole ++ fraction) < 10 ^ 30 → magnitude whole fraction e k ≤ LIMIT
      → number_of minus whole fraction e k ≡ Ok (signed minus (magnitude whole fraction e k))
  is_value small within =
      let past : nat_lt LIMIT (magnitude whole fraction e k) ≡ false = test_fails LIMIT (magnitude whole fraction e k) within in
      rw (form, right, few_here small, past) refl
