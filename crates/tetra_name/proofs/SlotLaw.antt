-- A pair's slot is the number of the members before it.
use Rattle.std.proofs.Common.{◌≡◌, ℕ, ◌+◌, ◌*◌, Bool, true, false, ◌&&◌, List, [], ◌∷◌, length, refl, sym, ap, subst, inl, inr, arith}
use Rattle.std.specs.Prelude.{filter, slice_get, Some}
use Rattle.std.proofs.lemmas.Bool.{cases_Bool, ltb-true, le-ltb}
use Rattle.tpz_base.proofs.CutLaw.{Member}
use Rattle.tetra_name.specs.Steps.{pairs, is_member, pair_lt, slot_at}
use Rattle.tetra_name.proofs.Sorting.{Strict}
use Rattle.tetra_name.proofs.Directions.{pairs_sorted}
use Rattle.tpz_base.specs.declared.shape.Point.{Point}

module _ {X : Type 0} (below : X → X → Bool) (p : X → Bool) (q : X) (irreflexive : below q q ≡ false) (one_way : (x : X) → below q x ≡ true → below x q ≡ false) where
  none_before : (xs : List X) → ((y : X) → Member xs y → below q y ≡ true) → length (filter (λ r. below r q && p r) xs) ≡ 0
  none_before [] h = refl
  none_before (x ∷ xs) h =
      let off : below x q ≡ false = one_way x (h x (inl refl)) in
      rw off (none_before xs (λ y m. h y (inr m)))

  pub slot_law : (xs : List X) → Strict (λ x y. below x y ≡ true) xs → Member xs q → p q ≡ true → slice_get (filter p xs) (length (filter (λ r. below r q && p r) xs)) ≡ Some q
  slot_law [] h m e = absurd m
  slot_law (x ∷ xs) h m e =
      elim m [
        | inl f ↦
            let off : below x q ≡ false = subst (λ y. below y q ≡ false) (sym f) irreflexive in
            let on : p x ≡ true = subst (λ y. p y ≡ true) (sym f) e in
            let none = none_before xs (λ y n. subst (λ z. below z y ≡ true) f (h.0 y n)) in
            rw (off, on, none) (ap Some f)
        | inr n ↦
            let lower : below x q ≡ true = h.0 q n in
            elim (cases_Bool (p x)) [ inl on ↦ rw (lower, on) (slot_law xs h.1 n e) | inr off ↦ rw (lower, off) (slot_law xs h.1 n e) ]
      ]

pub slot_of_pair : (N : ℕ) (u : Point) (q : ℕ × ℕ) → Member pairs q → is_member N u q ≡ true → slice_get (filter (is_member N u) pairs) (slot_at N u q) ≡ Some q
unfolding slot_at
slot_of_pair N u q m valid =
    slot_law pair_lt (is_member N u) q (le-ltb (6 * q.0 + q.1) (6 * q.0 + q.1) (omega arith))
    (λ x e. let lt = ltb-true (6 * q.0 + q.1) (6 * x.0 + x.1) e in le-ltb (6 * x.0 + x.1) (6 * q.0 + q.1) (omega (arith, lt)))
    pairs pairs_sorted m valid
