-- Each descendant has exactly one name.
use Rattle.std.proofs.Common.{◌≡◌, ℕ, zero, suc, List, [], ◌∷◌, refl, sym, ◌∙◌, ap, subst, inl, inr}
use Rattle.std.specs.Prelude.{slice_get, Some}
use Rattle.tpz_base.specs.declared.shape.Point.{Point}
use Rattle.tpz_base.specs.Tetrahedra.{Tetrahedron, diamond, descendants, members}
use Rattle.tpz_base.proofs.CutLaw.{Member}
use Rattle.tpz_base.proofs.Members.{member_named, named_member}
use Rattle.tetra_name.proofs.Sorting.{Strict, list_below_not}
use Rattle.tetra_name.proofs.MembersAre.{Before, members_strict}

pub get_member : {X : Type 0} (xs : List X) (k : ℕ) (x : X) → slice_get xs k ≡ Some x → Member xs x
get_member [] k x e = absurd cc
get_member (y ∷ ys) zero x e = inl cc
get_member (y ∷ ys) (suc k) x e = inr (get_member ys k x e)

pub member_get : {X : Type 0} (xs : List X) (x : X) → Member xs x → (i : ℕ) × (slice_get xs i ≡ Some x)
member_get [] x m = absurd m
member_get (y ∷ ys) x m = elim m [ inl e ↦ (0, ap Some e) | inr n ↦ let r = member_get ys x n in (suc r.0, r.1) ]

one_place : {X : Type 0} (R : X → X → Type 0) (irreflexive : (x : X) → R x x → ⊥) (xs : List X) → Strict R xs → (i j : ℕ) (x : X) → slice_get xs i ≡ Some x → slice_get xs j ≡ Some x → i ≡ j
one_place R irreflexive [] h i j x e f = absurd cc
one_place R irreflexive (y ∷ ys) h zero zero x e f = refl
one_place R irreflexive (y ∷ ys) h zero (suc j) x e f =
    let is : y ≡ x = cc in
    absurd (irreflexive x (subst (λ z. R z x) is (h.0 x (get_member ys j x f))))
one_place R irreflexive (y ∷ ys) h (suc i) zero x e f =
    let is : y ≡ x = cc in
    absurd (irreflexive x (subst (λ z. R z x) is (h.0 x (get_member ys i x e))))
one_place R irreflexive (y ∷ ys) h (suc i) (suc j) x e f = ap suc (one_place R irreflexive ys h.1 i j x e f)

-- a descendant has a name
pub has_name : (L : ℕ) (T : Tetrahedron) → Member (descendants L) T → (i : ℕ) × (slice_get (members L (diamond T)) i ≡ Some T)
has_name L T m = member_get (members L (diamond T)) T (named_member L T m)

-- and only one
pub one_name : (L : ℕ) (c d : Point) (i j : ℕ) (T : Tetrahedron) → slice_get (members L c) i ≡ Some T → slice_get (members L d) j ≡ Some T → (c ≡ d) × (i ≡ j)
one_name L c d i j T e f =
    let a = member_named L c T (get_member (members L c) i T e) in
    let b = member_named L d T (get_member (members L d) j T f) in
    let same : c ≡ d = sym a.1 ∙ b.1 in
    let f' : slice_get (members L c) j ≡ Some T = subst (λ x. slice_get (members L x) j ≡ Some T) (sym same) f in
    (same, one_place Before (λ S k. list_below_not S.corners k) (members L c) (members_strict L c) i j T e f')
