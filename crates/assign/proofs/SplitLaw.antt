-- The split diamonds of a mesh are closed, above the last level and in record order, and the finest cut holds each triangle once.
use Rattle.std.proofs.Common.{◌≡◌, ℕ, zero, suc, ◌+◌, ◌-◌, ◌*◌, ◌<◌, Bool, true, List, [], ◌∷◌, take, refl, sym, ◌∙◌, ap, subst, inl, inr, arith}
use Rattle.std.specs.Prelude.{filter, flat_map, nat_lt, sum_by}
use Rattle.std.proofs.lemmas.Bool.{cases_lt}
use Rattle.tpz_base.specs.declared.shape.Point.{Point}
use Rattle.tpz_base.specs.declared.shape.Tri.{Tri}
use Rattle.tpz_base.specs.Meshes.{Mesh, SameTriangles}
use Rattle.tpz_base.specs.Tetrahedra.{Tetrahedron, diamond, at_level, descendants}
use Rattle.tpz_base.specs.Cuts.{has_diamond, cut_mesh}
use Rattle.diamond_graph.specs.Closed.{IsConforming}
use Rattle.tpz_base.proofs.CutLaw.{Member, HasParents}
use Rattle.diamond_graph.proofs.CutBuilding.{BuiltUp, empty, IsCut, HasParents-from_IsConforming, cut_built_up}
use Rattle.tpz_base.proofs.Distinct.{member-flat_map, at_its_level}
use Rattle.tpz_base.proofs.Members.{member-filter, one_level_of}
use Rattle.tpz_base.proofs.Elements.{Ascending, has-member, member-has, member-map}
use Rattle.tpz_base.specs.Diamonds.{record_lt}
use Rattle.tpz_base.proofs.Diamonds.{IsSplittable, in_levels}
use Rattle.diamond_graph.proofs.ClosureLaw.{closure_above, closure_closed, closure_ascends}
use Rattle.assign.specs.Paths.{path, path_below}
use Rattle.assign.specs.Leaf.{leaf_patch}
use Rattle.assign.specs.Splits.{visitors, crowded, split_set}
use Rattle.assign.proofs.PathLaw.{walk, walk_member}
use Rattle.assign.proofs.FinestCut.{finest_cut, finest_cut_sum}

-- the first steps of the path from level k on
on_front : (L : ℕ) (t : Tri) (n m k : ℕ) (S : Tetrahedron) → Member (take m (path_below n t (walk L t k))) S → (i : ℕ) × (i < k + m) × (walk L t i ≡ S)
unfolding walk path_below
on_front L t n zero k S h = absurd h
on_front L t zero (suc m) k S h = elim h [ inl e ↦ (k, omega arith, e) | inr none ↦ absurd (nothing m none) ] where
  nothing : (m : ℕ) → Member (take m []) S → ⊥
  nothing zero h = h
  nothing (suc m) h = h
on_front L t (suc n) (suc m) k S h =
    elim h [ inl e ↦ (k, omega arith, e) | inr r ↦ let q = on_front L t n m (suc k) S r in (q.0, omega (arith, q.1), q.2) ]

pub front_on_path : (L : ℕ) (t : Tri) (S : Tetrahedron) → Member (take (3 * L) (path L t)) S → (i : ℕ) × (i < 3 * L) × (walk L t i ≡ S)
unfolding walk path
front_on_path L t S m = let r = on_front L t (3 * L) (3 * L) 0 S m in (r.0, omega (arith, r.1), r.2)

-- the crowded diamonds are above the last level
pub crowded_above : (L cap : ℕ) (M : Mesh) (d : Point) → Member (crowded L cap M) d → IsSplittable L d
unfolding crowded
crowded_above L cap M d m =
    let a = member-map diamond (filter (λ T. nat_lt cap (visitors L M T)) (flat_map (λ t. take (3 * L) (path L t)) M)) d m in
    let b = member-filter (λ T. nat_lt cap (visitors L M T)) (flat_map (λ t. take (3 * L) (path L t)) M) a.0 a.1 in
    let c = member-flat_map (λ t. take (3 * L) (path L t)) M a.0 b.0 in
    let r = front_on_path L c.0 a.0 c.2 in
    let at = subst (Member (at_level L r.0)) r.2 (walk_member L c.0 r.0) in
    let level = at_its_level L r.0 a.0 at in
    record { member = a.0; within = in_levels L (3 * L) r.0 a.0 (omega (arith, r.1)) at; named = a.2; above = omega (arith, r.1, level) }

pub split_above : (L cap : ℕ) (M : Mesh) (x : Point) → Member (split_set L cap M) x → IsSplittable L x
unfolding split_set
split_above L cap M = closure_above L (crowded L cap M) (crowded_above L cap M)

pub split_closed : (L cap : ℕ) (M : Mesh) → IsConforming L (split_set L cap M)
unfolding split_set
split_closed L cap M = closure_closed L (crowded L cap M)

pub split_ascends : (L cap : ℕ) (M : Mesh) → Ascending (record_lt L) (split_set L cap M)
unfolding split_set
split_ascends L cap M = closure_ascends L (crowded L cap M)

filter-all : (p : Point → Bool) (xs : List Point) → ((x : Point) → Member xs x → p x ≡ true) → filter p xs ≡ xs
filter-all p [] h = refl
filter-all p (x ∷ xs) h = let here = h x (inl refl) in rw here (ap (λ ys. x ∷ ys) (filter-all p xs (λ y k. h y (inr k))))

-- the whole is a cut
pub whole_cut : (L : ℕ) (F : List Point) → IsConforming L F → IsCut L F F
whole_cut L F closed = (filter-all (has_diamond F) F (member-has F), closed)

no_member : (xs : List Point) → ((x : Point) → Member xs x → ⊥) → xs ≡ []
no_member [] h = refl
no_member (x ∷ xs) h = absurd (h x (inl refl))

-- every cut of the split diamonds is built up
pub split_built_up : (L cap : ℕ) (M : Mesh) (R : List Point) → IsCut L (split_set L cap M) R → BuiltUp L (3 * L - 1) (split_set L cap M) R
split_built_up L cap M R cut =
    elim (cases_lt 0 L) [
      | inl more ↦ cut_built_up L (3 * L - 1) (split_set L cap M) R (omega (arith, more)) (split_ascends L cap M) (split_above L cap M) cut
      | inr none ↦
          let nothing : split_set L cap M ≡ [] = no_member (split_set L cap M) (λ x m. let s = split_above L cap M x m in omega (arith, none, s.above)) in
          let is : R ≡ [] = sym cut.0 ∙ ap (filter (has_diamond R)) nothing in
          subst (BuiltUp L (3 * L - 1) (split_set L cap M)) (sym is) empty
    ]

pub split_parents : (L cap : ℕ) (M : Mesh) (x : Point) → has_diamond (split_set L cap M) x ≡ true → HasParents L (split_set L cap M) x
split_parents L cap M = HasParents-from_IsConforming L (split_set L cap M) (split_closed L cap M)

pub split_levels : (L cap : ℕ) (M : Mesh) (d : Point) → has_diamond (split_set L cap M) d ≡ true → (P : Tetrahedron) → Member (descendants L) P → diamond P ≡ d → P.level < 3 * L
split_levels L cap M d in_F P m e =
    let s = split_above L cap M d (has-member (split_set L cap M) d in_F) in
    let same = one_level_of L P s.member m s.within (e ∙ sym s.named) in
    omega (arith, same, s.above)

-- the finest cut holds each of the mesh's triangles once
pub split_finest_sum : (L cap : ℕ) (M : Mesh) (f : Tri → ℕ) → sum_by f (cut_mesh L (leaf_patch L (split_set L cap M) M) (split_set L cap M)) ≡ sum_by f M
split_finest_sum L cap M f =
    finest_cut_sum L (3 * L - 1) (split_set L cap M) M (split_parents L cap M) (split_levels L cap M)
    (split_built_up L cap M (split_set L cap M) (whole_cut L (split_set L cap M) (split_closed L cap M))) f

pub split_finest : (L cap : ℕ) (M : Mesh) → SameTriangles (cut_mesh L (leaf_patch L (split_set L cap M) M) (split_set L cap M)) M
split_finest L cap M =
    finest_cut L (3 * L - 1) (split_set L cap M) M (split_parents L cap M) (split_levels L cap M)
    (split_built_up L cap M (split_set L cap M) (whole_cut L (split_set L cap M) (split_closed L cap M)))
