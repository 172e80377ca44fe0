-- The two corners of a triangle that aren't at a point, by their numbers.
use Rattle.std.proofs.Common.{◌≡◌, ◌≢◌, ℕ, ◌+◌, ◌*◌, ◌%◌, true, false, List, [], ◌∷◌, length, sym, ◌∙◌, ap, subst, arith, inl, inr, Some}
use Rattle.std.specs.Prelude.{nat_eq}
use Rattle.std.specs.List.{AllByRecursion}
use Rattle.std.proofs.lemmas.Bool.{cases_Bool}
use Rattle.tpz_base.specs.declared.shape.Point.{Point}
use Rattle.tpz_base.specs.declared.shape.Tri.{Tri}
use Rattle.tpz_base.specs.Lists.{has}
use Rattle.tpz_base.specs.Points.{point_eq}
use Rattle.tpz_base.specs.Collapses.{opposite_edge}
use Rattle.patch_mesh.specs.declared.slot.Slot.{Slot}
use Rattle.patch_mesh.specs.Slots.{corner_at, point_at, tri_of, mesh_of, numbers_from, tri_numbered, slot_at, IsFace, IsGood}
use Rattle.patch_mesh.proofs.SheetLaw.{good_at}
use Rattle.patch_mesh.proofs.CornerLaw.{live_of, tri_is}

-- the triangle with a number is that of its slot, whose corners are points
pub record IsKnown (ps : List Point) (s : Slot) (t : Tri) : Type 0 where
  pub tri : t ≡ tri_of ps s
  pub face : IsFace (length ps) s

some_is : {X : Type 0} (x y : X) → Some x ≡ Some y → x ≡ y
some_is x y e = cc

pub known : (ps : List Point) (ss : List Slot) (n : ℕ) (s : Slot) (t : Tri) → AllByRecursion (IsGood (length ps)) ss → has nat_eq (numbers_from 0 ss) n ≡ true
    → tri_numbered n (numbers_from 0 ss) (mesh_of ps ss) ≡ Some t → s ≡ slot_at ss n → IsKnown ps s t
known ps ss n s t good there tri is =
    let live : (slot_at ss n).alive ≡ true = live_of n ss there in
    record {
      tri = some_is t (tri_of ps s) (sym tri ∙ tri_is ps n ss live ∙ ap (λ r. Some (tri_of ps r)) (sym is));
      face = subst (IsFace (length ps)) (sym is) (good_at (length ps) ss n good live);
    }

module _ (ps : List Point) (p : Point) (s : Slot) (t : Tri) (k : IsKnown ps s t) where
  a_is : point_at ps s.a ≡ t.a
  a_is = ap (λ (x : Tri). x.a) (sym k.tri)

  b_is : point_at ps s.b ≡ t.b
  b_is = ap (λ (x : Tri). x.b) (sym k.tri)

  c_is : point_at ps s.c ≡ t.c
  c_is = ap (λ (x : Tri). x.c) (sym k.tri)

  pub next_a : point_eq t.a p ≡ true → point_at ps s.b ≡ (opposite_edge p t).0
  next_a e = rw e b_is

  pub last_a : point_eq t.a p ≡ true → point_at ps s.c ≡ (opposite_edge p t).1
  last_a e = rw e c_is

  pub next_b : point_eq t.a p ≡ false → point_eq t.b p ≡ true → point_at ps s.c ≡ (opposite_edge p t).0
  next_b e f = rw (e, f) c_is

  pub last_b : point_eq t.a p ≡ false → point_eq t.b p ≡ true → point_at ps s.a ≡ (opposite_edge p t).1
  last_b e f = rw (e, f) a_is

  pub next_c : point_eq t.a p ≡ false → point_eq t.b p ≡ false → point_at ps s.a ≡ (opposite_edge p t).0
  next_c e f = rw (e, f) a_is

  pub last_c : point_eq t.a p ≡ false → point_eq t.b p ≡ false → point_at ps s.b ≡ (opposite_edge p t).1
  last_c e f = rw (e, f) b_is

-- which corner of a triangle is at a point, by the corner's place in it
pub record IsPlaced (p : Point) (c : ℕ) (t : Tri) : Type 0 where
  pub first : c % 3 ≡ 0 → point_eq t.a p ≡ true
  pub second : c % 3 ≡ 1 → (point_eq t.a p ≡ false) × (point_eq t.b p ≡ true)
  pub third : c % 3 ≢ 0 → c % 3 ≢ 1 → (point_eq t.a p ≡ false) × (point_eq t.b p ≡ false)

one_is : (x y : ℕ) → x ∷ [] ≡ y ∷ [] → x ≡ y
one_is x y e = cc

pub placed : (p : Point) (n c : ℕ) (t : Tri) → corner_at p n t ≡ c ∷ [] → IsPlaced p c t
placed p n c t e =
    elim (cases_Bool (point_eq t.a p)) [
      | inl a ↦
          let is : 3 * n ≡ c = one_is (3 * n) c (rw a at e) in
          record { first = λ z. a; second = λ z. absurd (omega arith); third = λ z o. absurd (z (omega arith)) }
      | inr a ↦ elim (cases_Bool (point_eq t.b p)) [
        | inl b ↦
            let is : 3 * n + 1 ≡ c = one_is (3 * n + 1) c (rw (a, b) at e) in
            record { first = λ z. absurd (omega arith); second = λ z. (a, b); third = λ z o. absurd (o (omega arith)) }
        | inr b ↦ elim (cases_Bool (point_eq t.c p)) [
          | inl d ↦
              let is : 3 * n + 2 ≡ c = one_is (3 * n + 2) c (rw (a, b, d) at e) in
              record { first = λ z. absurd (omega arith); second = λ z. absurd (omega arith); third = λ z o. (a, b) }
          | inr d ↦ absurd (cc (rw (a, b, d) at e))
        ]
      ]
    ]
