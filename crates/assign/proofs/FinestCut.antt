-- The finest cut holds each triangle once.
use Rattle.std.proofs.Common.{◌≡◌, ℕ, zero, suc, ◌+◌, ◌-◌, ◌*◌, ◌<◌, ◌≤◌, ◌⊎◌, Bool, true, false, cond, not, List, [], ◌∷◌, ◌++◌, refl, sym, ◌∙◌, ap, subst, inl, inr, arith, true≢false, add-zero}
use Rattle.std.specs.Prelude.{sum_by, flat_map, find, Option, Some, None}
use Rattle.std.specs.Option.{option_map_or}
use Rattle.std.proofs.lemmas.Bool.{cases_Bool, false_from_ne_true, not_from_true, or_left, or_right}
use Rattle.tpz_base.specs.declared.shape.Point.{Point}
use Rattle.tpz_base.specs.declared.shape.Tri.{Tri}
use Rattle.tpz_base.specs.Meshes.{Mesh, tri_eq, SameTriangles}
use Rattle.tpz_base.specs.Tetrahedra.{Tetrahedron, diamond, children, roots, at_level, descendants, members, parts, tetrahedron_eq}
use Rattle.tpz_base.specs.Lists.{has}
use Rattle.tpz_base.specs.Points.{point_eq}
use Rattle.tpz_base.specs.Tetrahedra.{child_0, child_1}
use Rattle.tpz_base.proofs.PointLemmas.{eq-point_eq}
use Rattle.tpz_base.specs.Cuts.{active, has_diamond, cut_mesh}
use Rattle.tpz_base.proofs.SumLemmas.{sum_by-filter, sum_by-flat_map, sum_by-swap, sum_by_same_all}
use Rattle.tpz_base.proofs.CutLaw.{Member, HasParents, is_parent, sum_by_same_on}
use Rattle.diamond_graph.proofs.CutBuilding.{BuiltUp}
use Rattle.tpz_base.proofs.Members.{tetrahedron_eq-true, tetrahedron_eq_refl, member-filter, member_named, level_within, level_differs, no_twice-differ}
use Rattle.tpz_base.proofs.Diamonds.{in_levels}
use Rattle.tpz_base.proofs.Distinct.{member-append, member-flat_map, at_its_level}
use Rattle.assign.specs.Paths.{path, path_below}
use Rattle.assign.specs.Leaf.{leaf, leaf_patch}
use Rattle.assign.proofs.PathLaw.{walk, walk_same, walk_member, in_children, next_child, one_parent, on_path-walk, on_path, weight, weight_is, path_meets_one}

-- the leaf of t is T
unfoldable pub leaf_is : ℕ → List Point → Tri → Tetrahedron → Bool
leaf_is L F t T = option_map_or (tetrahedron_eq T) (leaf L F t) false

-- where, of the active tetrahedra, the leaf is the one on the path, the finest cut holds each triangle once
pub finest : (L n : ℕ) (F : List Point) (M : Mesh)
    → ((d : Point) → has_diamond F d ≡ true → (P : Tetrahedron) → Member (descendants L) P → diamond P ≡ d → P.level < 3 * L)
    → BuiltUp L n F F
    → ((t : Tri) (T : Tetrahedron) → Member (active L F) T → leaf_is L F t T ≡ on_path L t T)
    → (one : Tri → ℕ) → sum_by one (cut_mesh L (leaf_patch L F M) F) ≡ sum_by one M
unfolding leaf_is leaf_patch
finest L n F M above up same one =
    sum_by-flat_map one (leaf_patch L F M) (active L F)
    ∙ sum_by_same_all (λ T. sum_by one (leaf_patch L F M T)) (λ T. sum_by (λ s. cond (option_map_or (tetrahedron_eq T) (leaf L F s) false) (one s) 0) M)
    (λ T. sum_by-filter one (λ s. option_map_or (tetrahedron_eq T) (leaf L F s) false) M) (active L F)
    ∙ sum_by-swap (λ T s. cond (option_map_or (tetrahedron_eq T) (leaf L F s) false) (one s) 0) (active L F) M
    ∙ sum_by_same_all (λ s. sum_by (λ T. cond (option_map_or (tetrahedron_eq T) (leaf L F s) false) (one s) 0) (active L F)) one
    (λ s. sum_by_same_on (λ T. cond (option_map_or (tetrahedron_eq T) (leaf L F s) false) (one s) 0) (weight L s (one s)) (active L F)
    (λ T m. ap (λ b. cond b (one s) 0) (same s T m) ∙ sym (weight_is L s (one s) T))
    ∙ path_meets_one L n F s (one s) above up) M

found_in : (p : Tetrahedron → Bool) (xs : List Tetrahedron) (S : Tetrahedron) → find p xs ≡ Some S → has tetrahedron_eq xs S ≡ true
found_in p [] S e = cc
found_in p (x ∷ xs) S e =
    elim (cases_Bool (p x)) [
      | inl h ↦
          let k : ◌≡◌ {A = Option Tetrahedron} (Some x) (Some S) = rw h at e in
          let is : x ≡ S = cc in
          or_left (tetrahedron_eq x S) _ (subst (λ y. tetrahedron_eq x y ≡ true) is (tetrahedron_eq_refl x))
      | inr h ↦
          let k : find p xs ≡ Some S = rw h at e in
          or_right (tetrahedron_eq x S) _ (found_in p xs S k)
    ]

module _ (L : ℕ) (F : List Point) (t : Tri) where
  passes : Tetrahedron → Bool
  passes T = not (has_diamond F (diamond T))

  find_first : (n k m : ℕ) → m ≤ n → ((i : ℕ) → i < m → passes (walk L t (k + i)) ≡ false) → passes (walk L t (k + m)) ≡ true
      → find passes (path_below n t (walk L t k)) ≡ Some (walk L t (k + m))
  unfolding walk path_below
  find_first zero k m h before here =
      let e : walk L t (k + m) ≡ walk L t k = walk_same L t (k + m) k (omega (arith, h)) in
      let here' : passes (walk L t k) ≡ true = ap passes (sym e) ∙ here in
      rw here' (ap Some (sym e))
  find_first (suc n) k zero h before here =
      let e : walk L t (k + 0) ≡ walk L t k = walk_same L t (k + 0) k (omega arith) in
      let here' : passes (walk L t k) ≡ true = ap passes (sym e) ∙ here in
      rw here' (ap Some (sym e))
  find_first (suc n) k (suc m) h before here =
      let e0 : walk L t (k + 0) ≡ walk L t k = walk_same L t (k + 0) k (omega arith) in
      let off : passes (walk L t k) ≡ false = ap passes (sym e0) ∙ before 0 (omega arith) in
      let e : walk L t (k + suc m) ≡ walk L t (suc k + m) = walk_same L t (k + suc m) (suc k + m) (omega arith) in
      let rest : find passes (path_below n t (walk L t (suc k))) ≡ Some (walk L t (suc k + m))
      = find_first n (suc k) m (omega (arith, h))
      (λ i below. ap passes (walk_same L t (suc k + i) (k + suc i) (omega arith)) ∙ before (suc i) (omega (arith, below)))
      (ap passes (sym e) ∙ here) in
      rw off (rest ∙ ap Some (sym e))

  -- a cut that holds the diamond of a step of the path holds those before it
  module _ (conforming : (x : Point) → has_diamond F x ≡ true → HasParents L F x) where
    step_up : (m : ℕ) → m < 3 * L → has_diamond F (diamond (walk L t (suc m))) ≡ true → has_diamond F (diamond (walk L t m)) ≡ true
    step_up m h k =
        conforming (diamond (walk L t (suc m))) k (walk L t m) (in_levels L (3 * L) m (walk L t m) (omega (arith, h)) (walk_member L t m))
        (is_its_parent (walk L t m) (walk L t (suc m)) (next_child L t m))
      where
        is_its_parent : (P S : Tetrahedron) → Member (children P) S → is_parent L P (diamond S) ≡ true
        is_its_parent P S m = elim m [
          | inl e ↦ or_left (point_eq (diamond (child_0 P)) (diamond S)) _ (eq-point_eq (diamond (child_0 P)) (diamond S) (ap diamond e))
          | inr g ↦ elim g [
            | inl e ↦ or_right (point_eq (diamond (child_0 P)) (diamond S)) _ (eq-point_eq (diamond (child_1 P)) (diamond S) (ap diamond e))
            | inr none ↦ absurd none
          ]
        ]

    steps_up : (j i : ℕ) → i + j ≤ 3 * L → has_diamond F (diamond (walk L t (i + j))) ≡ true → has_diamond F (diamond (walk L t i)) ≡ true
    steps_up zero i h k = subst (λ x. has_diamond F (diamond (walk L t x)) ≡ true) (add-zero i) k
    steps_up (suc j) i h k =
        let k' : has_diamond F (diamond (walk L t (suc (i + j)))) ≡ true = ap (λ S. has_diamond F (diamond S)) (walk_same L t (suc (i + j)) (i + suc j) (omega arith)) ∙ k in
        steps_up j i (omega (arith, h)) (step_up (i + j) (omega (arith, h)) k')

    -- the first step of the path whose diamond isn't in F is the leaf
    leaf-walk : (m : ℕ) → m ≤ 3 * L → passes (walk L t m) ≡ true → ((i : ℕ) → suc i ≡ m → has_diamond F (diamond (walk L t i)) ≡ true) → leaf L F t ≡ Some (walk L t m)
    unfolding passes walk leaf path
    leaf-walk m h here last =
        let e : walk L t (0 + m) ≡ walk L t m = walk_same L t (0 + m) m (omega arith) in
        find_first (3 * L) 0 m h
        (λ i below. not_from_true _ (ap (λ S. has_diamond F (diamond S)) (walk_same L t (0 + i) i (omega arith)) ∙ before m last h i below))
        (ap passes e ∙ here)
        ∙ ap Some e
      where
        before : (m : ℕ) → ((i : ℕ) → suc i ≡ m → has_diamond F (diamond (walk L t i)) ≡ true) → m ≤ 3 * L → (i : ℕ) → i < m → has_diamond F (diamond (walk L t i)) ≡ true
        before zero last h i below = absurd (omega (arith, below))
        before (suc m) last h i below =
            let at : has_diamond F (diamond (walk L t m)) ≡ true = last m refl in
            let e : walk L t m ≡ walk L t (i + (m - i)) = walk_same L t m (i + (m - i)) (omega (arith, below)) in
            steps_up (m - i) i (omega (arith, below, h)) (ap (λ S. has_diamond F (diamond S)) (sym e) ∙ at)

    -- T has a root's place, or is a child of a tetrahedron whose diamond is in F
    module _ (above : (d : Point) → has_diamond F d ≡ true → (P : Tetrahedron) → Member (descendants L) P → diamond P ≡ d → P.level < 3 * L) where
      from_root : (T : Tetrahedron) → Member (roots L) T → passes T ≡ true → on_path L t T ≡ true → leaf_is L F t T ≡ true
      unfolding leaf_is
      from_root T m here on =
          let is : walk L t 0 ≡ T = on_path-walk L t 0 T m on in
          let found : leaf L F t ≡ Some (walk L t 0) = leaf-walk 0 (omega arith) (ap passes is ∙ here) (λ i e. absurd (omega (arith, e))) in
          rw found (subst (λ S. tetrahedron_eq T S ≡ true) (sym is) (tetrahedron_eq_refl T))

      from_part : (e : Point) (P T : Tetrahedron) → has_diamond F e ≡ true → Member (members L e) P → Member (children P) T → passes T ≡ true → on_path L t T ≡ true → leaf_is L F t T ≡ true
      unfolding leaf_is
      from_part e P T in_F member child here on =
          let named = member_named L e P member in
          let r = level_within L (3 * L) P named.0 in
          let level : P.level ≡ r.0 = at_its_level L r.0 P r.2 in
          let low : P.level < 3 * L = above e in_F P named.0 named.1 in
          let within : suc r.0 ≤ 3 * L = omega (arith, low, level) in
          let at : Member (at_level L (suc r.0)) T = in_children (at_level L r.0) P T r.2 child in
          let is : walk L t (suc r.0) ≡ T = on_path-walk L t (suc r.0) T at on in
          let from : Member (children (walk L t r.0)) T = subst (Member (children (walk L t r.0))) is (next_child L t r.0) in
          let once = no_twice-differ (at_level L (suc r.0)) (level_differs L (suc r.0) within) in
          let same : walk L t r.0 ≡ P = one_parent (at_level L r.0) (walk L t r.0) P T once (walk_member L t r.0) r.2 from child in
          let split : has_diamond F (diamond (walk L t r.0)) ≡ true = ap (λ S. has_diamond F (diamond S)) same ∙ ap (has_diamond F) named.1 ∙ in_F in
          let found : leaf L F t ≡ Some (walk L t (suc r.0)) = leaf-walk (suc r.0) within (ap passes is ∙ here)
          (λ i k. let i_is : i ≡ r.0 = omega (arith, k) in ap (λ x. has_diamond F (diamond (walk L t x))) i_is ∙ split) in
          rw found (subst (λ S. tetrahedron_eq T S ≡ true) (sym is) (tetrahedron_eq_refl T))

      leaf_on_path : (T : Tetrahedron) → leaf_is L F t T ≡ true → on_path L t T ≡ true
      unfolding leaf_is on_path leaf
      leaf_on_path T h =
          elim (cases_leaf (leaf L F t)) [
            | inl none ↦ (let k : ◌≡◌ {A = Bool} false true = rw none at h in absurd (true≢false (sym k)))
            | inr some ↦
                let k : tetrahedron_eq T some.0 ≡ true = rw some.1 at h in
                subst (λ S. has tetrahedron_eq (path L t) S ≡ true) (sym (tetrahedron_eq-true T some.0 k)) (found_in (λ S. not (has_diamond F (diamond S))) (path L t) some.0 some.1)
          ]
        where
          cases_leaf : (o : Option Tetrahedron) → (o ≡ None) ⊎ ((S : Tetrahedron) × (o ≡ Some S))
          cases_leaf None = inl refl
          cases_leaf (Some S) = inr (S, refl)

      member_has : (xs : List Point) (e : Point) → Member xs e → has_diamond xs e ≡ true
      member_has [] e m = absurd m
      member_has (x ∷ xs) e m = elim m [ inl f ↦ or_left (point_eq x e) _ (eq-point_eq x e f) | inr k ↦ or_right (point_eq x e) _ (member_has xs e k) ]

      -- of the active tetrahedra the one on the path is the leaf
      same_leaf : (T : Tetrahedron) → Member (active L F) T → leaf_is L F t T ≡ on_path L t T
      unfolding passes
      same_leaf T m =
          let r = member-filter (λ S. not (has_diamond F (diamond S))) (roots L ++ flat_map (parts L) F) T m in
          elim (cases_Bool (on_path L t T)) [
            | inl on ↦ elim (member-append (roots L) (flat_map (parts L) F) T r.0) [
              | inl root ↦ from_root T root r.1 on ∙ sym on
              | inr part ↦
                  let a = member-flat_map (parts L) F T part in
                  let b = member-flat_map children (members L a.0) T a.2 in
                  from_part a.0 b.0 T (member_has F a.0 a.1) b.1 b.2 r.1 on ∙ sym on
            ]
            | inr off ↦ false_from_ne_true (leaf_is L F t T) (λ h. true≢false (sym (leaf_on_path T h) ∙ off)) ∙ sym off
          ]

-- the finest cut has the mesh's sum of every weight of triangles
pub finest_cut_sum : (L n : ℕ) (F : List Point) (M : Mesh) → ((x : Point) → has_diamond F x ≡ true → HasParents L F x)
    → ((d : Point) → has_diamond F d ≡ true → (P : Tetrahedron) → Member (descendants L) P → diamond P ≡ d → P.level < 3 * L)
    → BuiltUp L n F F → (f : Tri → ℕ) → sum_by f (cut_mesh L (leaf_patch L F M) F) ≡ sum_by f M
finest_cut_sum L n F M conforming above up f = finest L n F M above up (λ t. same_leaf L F t conforming above) f

-- the finest cut holds the mesh's triangles, each once
pub finest_cut : (L n : ℕ) (F : List Point) (M : Mesh) → ((x : Point) → has_diamond F x ≡ true → HasParents L F x)
    → ((d : Point) → has_diamond F d ≡ true → (P : Tetrahedron) → Member (descendants L) P → diamond P ≡ d → P.level < 3 * L)
    → BuiltUp L n F F → SameTriangles (cut_mesh L (leaf_patch L F M) F) M
finest_cut L n F M conforming above up t = finest_cut_sum L n F M conforming above up (λ s. cond (tri_eq t s) 1 0)
