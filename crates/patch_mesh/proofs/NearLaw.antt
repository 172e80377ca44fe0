-- Corners of one star: they ascend, and stay in it while other slots change.
use Rattle.std.proofs.Common.{◌≡◌, ℕ, zero, suc, ◌+◌, ◌-◌, ◌*◌, ◌/◌, ◌<◌, ◌≤◌, ◌==◌, true, false, List, [], ◌∷◌, ◌++◌, length, get_or, refl, sym, ◌∙◌, ap, arith, inl, inr, Option, None, Some, IfSome}
use Rattle.std.specs.Prelude.{nat_eq, slice_get, nat_lt}
use Rattle.std.specs.List.{slice_set}
use Rattle.std.proofs.lemmas.Bool.{cases_Bool, ltb-true, ltb-false, eqb-true, eq-eqb, ne_eqb}
use Rattle.std.proofs.lemmas.List.{get_or-set_same, get_or-set_other, length-set}
use Rattle.tpz_base.specs.Lists.{has}
use Rattle.star_ring.specs.Rings.{times}
use Rattle.star_ring.proofs.Counts.{one_same, times-append, has_times, times_has}
use Rattle.corner_stars.specs.Stars.{IsRising}
use Rattle.patch_mesh.specs.declared.slot.Slot.{Slot}
use Rattle.patch_mesh.specs.Slots.{corner_in, corners_from, no_slot, slot_at}
use Rattle.patch_mesh.proofs.SlotLaw.{corners_high}
use Rattle.patch_mesh.proofs.SlotMembers.{corner_present}
use Rattle.patch_mesh.proofs.StarsAfter.{corner_low_is, corner_high_is}
use Rattle.patch_mesh.proofs.SheetLaw.{live_within, read_slot}
use Rattle.patch_mesh.proofs.SheetMove.{alien, one_or_none, corner_of, corner_live}

-- corners of a star ascend
rising_lower : (j k : ℕ) (xs : List ℕ) → j ≤ k → IsRising k xs → IsRising j xs
rising_lower j k [] h r = tt
rising_lower j k (x ∷ xs) h r = let le = r.0 in (omega arith, r.1)

corners_above : (v n : ℕ) (ss : List Slot) → IsRising (3 * n) (corners_from v n ss)
corners_above v n [] = tt
corners_above v n (s ∷ ss) =
    let rest = corners_above v (n + 1) ss in
    elim (one_or_none v n s) [
      | inl none ↦ rw none (rising_lower (3 * n) (3 * (n + 1)) (corners_from v (n + 1) ss) (omega arith) rest)
      | inr one ↦
          let lo = corner_low_is v n one.0 s one.1 in
          let hi = corner_high_is v n one.0 s one.1 in
          rw one.1 (lo, rising_lower (one.0 + 1) (3 * (n + 1)) (corners_from v (n + 1) ss) (omega arith) rest)
    ]

pub corners_rise : (v : ℕ) (ss : List Slot) → IsRising 0 (corners_from v 0 ss)
corners_rise v ss = rising_lower 0 (3 * 0) (corners_from v 0 ss) (omega arith) (corners_above v 0 ss)

-- places in a list
has_place : (xs : List ℕ) (c : ℕ) → has nat_eq xs c ≡ true → (i : ℕ) × (slice_get xs i ≡ Some c)
has_place [] c h = absurd (cc)
has_place (x ∷ xs) c h =
    elim (cases_Bool (x == c)) [
      | inl e ↦ (0, ap Some (eqb-true x c e))
      | inr e ↦
          let there : has nat_eq xs c ≡ true = rw e at h in
          let p = has_place xs c there in
          (suc p.0, p.1)
    ]

got_times : (xs : List ℕ) (i c : ℕ) → slice_get xs i ≡ Some c → 1 ≤ times c xs
got_times [] i c e = absurd (cc)
got_times (x ∷ xs) zero c e = let same : c ≡ x = cc in rw same (omega (arith, one_same x))
got_times (x ∷ xs) (suc i) c e = omega (arith, got_times xs i c e)

got_own : (xs : List ℕ) (i c : ℕ) → slice_get xs i ≡ Some c → has nat_eq xs c ≡ true
got_own xs i c e = times_has c xs (got_times xs i c e)

pub first_own : (xs : List ℕ) (r : Option ℕ) → r ≡ slice_get xs 0 → IfSome r (λ c. has nat_eq xs c ≡ true)
first_own xs None e = tt
first_own xs (Some c) e = got_own xs 0 c (sym e)

-- the slot of a corner
own_within : (v : ℕ) (ss : List Slot) (c : ℕ) → has nat_eq (corners_from v 0 ss) c ≡ true → c / 3 < length ss
own_within v ss c h = let p = has_place (corners_from v 0 ss) c h in (corner_of v ss p.0 c p.1).within

pub own_live : (v : ℕ) (ss : List Slot) (c : ℕ) → has nat_eq (corners_from v 0 ss) c ≡ true → (slot_at ss (c / 3)).alive ≡ true
own_live v ss c h =
    let p = has_place (corners_from v 0 ss) c h in
    corner_live v (c / 3) c (slot_at ss (c / 3)) (corner_of v ss p.0 c p.1).at

pub own_below : (v : ℕ) (ss : List Slot) (c : ℕ) → has nat_eq (corners_from v 0 ss) c ≡ true → c < 3 * length ss
own_below v ss c h =
    elim (cases_Bool (nat_lt c (3 * length ss))) [
      | inl y ↦ ltb-true c (3 * length ss) y
      | inr y ↦ absurd (omega (arith, corners_high v 0 c ss (omega (arith, ltb-false c (3 * length ss) y)), has_times c (corners_from v 0 ss) h))
    ]

pub corner_own : (v n : ℕ) (ss : List Slot) (c : ℕ) → n < length ss → corner_in v n (slot_at ss n) ≡ c ∷ [] → has nat_eq (corners_from v 0 ss) c ≡ true
corner_own v n ss c h e =
    let z : 0 + n ≡ n = omega arith in
    times_has c (corners_from v 0 ss) (corner_present v 0 ss n no_slot c h (rw z e))

-- the corner of a slot that is read
module _ (v n : ℕ) (ss : List Slot) (s : Slot) (got : s ≡ get_or ss n s) (live : (slot_at ss n).alive ≡ true) where
  within : n < length ss
  within = live_within ss n live

  is : s ≡ slot_at ss n
  is = got ∙ read_slot ss n s within

  pub own_a : s.a ≡ v → has nat_eq (corners_from v 0 ss) (3 * n) ≡ true
  own_a a =
      let e : ((slot_at ss n).a == v) ≡ true = eq-eqb (slot_at ss n).a v (ap (λ (x : Slot). x.a) (sym is) ∙ a) in
      corner_own v n ss (3 * n) within (rw (live, e) refl)

  pub own_b : (s.a ≡ v → ⊥) → s.b ≡ v → has nat_eq (corners_from v 0 ss) (3 * n + 1) ≡ true
  own_b a b =
      let d : ((slot_at ss n).a == v) ≡ false = ne_eqb (slot_at ss n).a v (λ x. a (ap (λ (x : Slot). x.a) is ∙ x)) in
      let e : ((slot_at ss n).b == v) ≡ true = eq-eqb (slot_at ss n).b v (ap (λ (x : Slot). x.b) (sym is) ∙ b) in
      corner_own v n ss (3 * n + 1) within (rw (live, d, e) refl)

  pub own_c : (s.a ≡ v → ⊥) → (s.b ≡ v → ⊥) → s.c ≡ v → has nat_eq (corners_from v 0 ss) (3 * n + 2) ≡ true
  own_c a b c =
      let d : ((slot_at ss n).a == v) ≡ false = ne_eqb (slot_at ss n).a v (λ x. a (ap (λ (x : Slot). x.a) is ∙ x)) in
      let f : ((slot_at ss n).b == v) ≡ false = ne_eqb (slot_at ss n).b v (λ x. b (ap (λ (x : Slot). x.b) is ∙ x)) in
      let e : ((slot_at ss n).c == v) ≡ true = eq-eqb (slot_at ss n).c v (ap (λ (x : Slot). x.c) (sym is) ∙ c) in
      corner_own v n ss (3 * n + 2) within (rw (live, d, f, e) refl)

-- the corner behind another one is in the star too
pub next_own : (v : ℕ) (ss : List Slot) (c d : ℕ) → has nat_eq (corners_from v 0 ss) c ≡ true
    → ((u i : ℕ) → slice_get (corners_from u 0 ss) i ≡ Some c → slice_get (corners_from u 0 ss ++ corners_from u 0 ss) (i + 1) ≡ Some d)
    → has nat_eq (corners_from v 0 ss) d ≡ true
next_own v ss c d h next =
    let p = has_place (corners_from v 0 ss) c h in
    let m = got_times (corners_from v 0 ss ++ corners_from v 0 ss) (p.0 + 1) d (next v p.0 p.1) in
    times_has d (corners_from v 0 ss) (omega (arith, times-append d (corners_from v 0 ss) (corners_from v 0 ss)))

-- a corner of another slot stays
other_stays : (v n : ℕ) (ss : List Slot) (s : Slot) (c : ℕ) → (c / 3 ≡ n → ⊥) → has nat_eq (corners_from v 0 ss) c ≡ true → has nat_eq (corners_from v 0 (slice_set ss n s)) c ≡ true
other_stays v n ss s c d h =
    let k = c / 3 in
    let within = own_within v ss c h in
    let long = length-set ss n s in
    let new = slice_set ss n s in
    let lo : 3 * (0 + k) ≤ c = omega arith in
    let hi : c < 3 * (0 + k) + 3 = omega arith in
    let before = alien v 0 c ss k within lo hi in
    let after = alien v 0 c new k (omega arith) lo hi in
    let same : times c (corner_in v (0 + k) (slot_at new k)) ≡ times c (corner_in v (0 + k) (slot_at ss k)) = ap (λ r. times c (corner_in v (0 + k) r)) (get_or-set_other ss n k s no_slot d) in
    times_has c (corners_from v 0 new) (omega (arith, has_times c (corners_from v 0 ss) h))

pub near_stays : (v n : ℕ) (ss : List Slot) (s : Slot) (near : Option ℕ) → IfSome near (λ a. has nat_eq (corners_from v 0 ss) a ≡ true) → IfSome near (λ a. a / 3 ≡ n → ⊥)
    → IfSome near (λ a. has nat_eq (corners_from v 0 (slice_set ss n s)) a ≡ true)
near_stays v n ss s None h d = tt
near_stays v n ss s (Some a) h d = other_stays v n ss s a d h

-- a corner of a slot that changes
pub changed_own : (v n : ℕ) (ss : List Slot) (s : Slot) (c : ℕ) → n < length ss → corner_in v n s ≡ c ∷ [] → has nat_eq (corners_from v 0 (slice_set ss n s)) c ≡ true
changed_own v n ss s c h e =
    corner_own v n (slice_set ss n s) c (omega (arith, length-set ss n s)) (ap (corner_in v n) (get_or-set_same ss n s no_slot h) ∙ e)

-- how far the walk still is from the end
abbrev pub left_of : ℕ → Option ℕ → ℕ
left_of m None = 0
left_of m (Some c) = m - c

pub left_less : (m c : ℕ) (at : Option ℕ) → c < m → IfSome at (λ d. c < d) → left_of m at < m - c
left_less m c None h g = omega arith
left_less m c (Some d) h g = let lt : c < d = g in omega arith
