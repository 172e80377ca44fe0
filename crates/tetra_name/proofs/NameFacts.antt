-- What a name says of its level, and what the name of a child or a parent says of the other.
use Rattle.std.proofs.Common.{◌≡◌, ◌<◌, ◌↔◌, ℕ, zero, suc, List, [], ◌∷◌, length, sym, ◌∙◌, ap, refl, arith, inl, inr, true≢false}
use Rattle.std.specs.Prelude.{Option, Some, None, IsSome, slice_get, Contains}
use Rattle.std.specs.List.{slice_index_or}
use Rattle.tpz_base.proofs.CutLaw.{Member}
use Rattle.tpz_base.specs.Tetrahedra.{Tetrahedron, child_0, child_1, members}
use Rattle.tpz_base.specs.Diamonds.{level_of}
use Rattle.tpz_base.proofs.Members.{member_named}
use Rattle.tpz_base.proofs.Diamonds.{level_of-at}
use Rattle.tetra_name.specs.declared.shape.Half.{Half}
use Rattle.tetra_name.specs.declared.shape.Tet.{Tet}
use Rattle.tetra_name.specs.Names.{child_of, count_of, point_of, tetrahedron_of, IsName}
use Rattle.tetra_name.proofs.OneName.{get_member}

pub some_of : {X : Type 0} (o : Option X) → IsSome o → (x : X) × (o ≡ Some x)
some_of None h = absurd (true≢false (sym h))
some_of (Some x) h = (x, refl)

pub some_is : {X : Type 0} (o : Option X) (x : X) → o ≡ Some x → IsSome o
some_is None x e = absurd cc
some_is (Some y) x e = refl

pub name_level : (L : ℕ) (t : Tet) (T : Tetrahedron) → tetrahedron_of L t ≡ Some T → level_of L (point_of t.centre) ≡ T.level
unfolding tetrahedron_of
name_level L t T e =
    let r = member_named L (point_of t.centre) T (get_member (members L (point_of t.centre)) t.slot T e) in
    level_of-at L T (point_of t.centre) r.0 r.1

-- the child of a number
unfoldable pub child_at : ℕ → Tetrahedron → Tetrahedron
child_at zero T = child_0 T
child_at (suc w) T = child_1 T

pub child_of-some : (which : ℕ) (T : Tetrahedron) → child_of which (Some T) ≡ Some (child_at which T)
unfolding child_of child_at
child_of-some zero T = refl
child_of-some (suc w) T = refl

pub child_at-level : (which : ℕ) (T : Tetrahedron) → (child_at which T).level ≡ suc T.level
unfolding child_at
child_at-level zero T = refl
child_at-level (suc w) T = refl

-- r is the name of the child of t
pub record IsChild (L : ℕ) (t r : Tet) : Type 0 where
  pub name : IsName L r
  pub level : level_of L (point_of r.centre) ≡ suc (level_of L (point_of t.centre))

pub is_child : (L which : ℕ) (t r : Tet) → IsName L t → tetrahedron_of L r ≡ child_of which (tetrahedron_of L t) → IsChild L t r
unfolding IsName
is_child L which t r name e =
    let s = some_of (tetrahedron_of L t) name in
    let is : tetrahedron_of L r ≡ Some (child_at which s.0) = e ∙ ap (child_of which) s.1 ∙ child_of-some which s.0 in
    record { name = some_is (tetrahedron_of L r) (child_at which s.0) is; level = name_level L r (child_at which s.0) is ∙ child_at-level which s.0 ∙ ap suc (sym (name_level L t s.0 s.1)) }

within_some : {X : Type 0} (xs : List X) (i : ℕ) → i < length xs → IsSome (slice_get xs i)
within_some [] i lt = absurd (omega (arith, lt))
within_some (x ∷ xs) zero lt = refl
within_some (x ∷ xs) (suc i) lt = within_some xs i (omega (arith, lt))

some_within : {X : Type 0} (xs : List X) (i : ℕ) → IsSome (slice_get xs i) → i < length xs
some_within [] i h = absurd (true≢false (sym h))
some_within (x ∷ xs) zero h = omega arith
some_within (x ∷ xs) (suc i) h = let lt = some_within xs i h in omega (arith, lt)

-- the slots of a centre are counted from 0
pub slots_of : (L : ℕ) (c : Half) (n : ℕ) → n ≡ count_of L (point_of c) → (i : ℕ) → i < n ↔ IsName L (record { centre = c; slot = i })
unfolding IsName count_of tetrahedron_of
slots_of L c n e i = (λ lt. within_some (members L (point_of c)) i (omega (arith, lt, e)), λ h. (let lt = some_within (members L (point_of c)) i h in omega (arith, lt, e)))

contained-member : {X : Type 0} (xs : List X) (x : X) (k : ℕ) → k < length xs → slice_index_or xs k x ≡ x → Member xs x
contained-member [] x k lt e = absurd (omega (arith, lt))
contained-member (y ∷ ys) x zero lt e = inl e
contained-member (y ∷ ys) x (suc k) lt e = inr (contained-member ys x k (omega (arith, lt)) e)

pub contains-member : {X : Type 0} (xs : List X) (x : X) → Contains xs x → Member xs x
contains-member xs x h = contained-member xs x h.0 h.1 h.2

pub member-contains : {X : Type 0} (xs : List X) (x : X) → Member xs x → Contains xs x
member-contains [] x m = absurd m
member-contains (y ∷ ys) x m = elim m [ inl e ↦ (0, omega arith, e) | inr k ↦ let r = member-contains ys x k in (suc r.0, omega (arith, r.1), r.2) ]
