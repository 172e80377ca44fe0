-- A path goes through one tetrahedron of each level, and from a tetrahedron to one of its children.
use Rattle.std.proofs.Common.{◌≡◌, ◌≢◌, ℕ, zero, suc, ◌+◌, ◌*◌, ◌<◌, ◌≤◌, ◌⊎◌, Bool, true, false, cond, List, [], ◌∷◌, ◌++◌, refl, sym, ◌∙◌, ap, subst, inl, inr, arith, true≢false, leb}
use Rattle.std.specs.Prelude.{sum_by, flat_map}
use Rattle.std.specs.List.{slice_index_or}
use Rattle.std.proofs.lemmas.Bool.{cases_Bool, or_cases, or_left, or_right, false_from_ne_true}
use Rattle.tpz_base.specs.declared.shape.Tri.{Tri}
use Rattle.tpz_base.specs.Lists.{has}
use Rattle.tpz_base.specs.Tetrahedra.{Tetrahedron, diamond, child_0, child_1, children, roots, at_level, descendants, tetrahedron_eq}
use Rattle.tpz_base.specs.declared.shape.Point.{Point}
use Rattle.tpz_base.specs.Points.{point_eq}
use Rattle.tpz_base.specs.Tetrahedra.{members, parts}
use Rattle.tpz_base.specs.Cuts.{active, has_diamond}
use Rattle.tpz_base.proofs.PointLemmas.{point_eq-true}
use Rattle.diamond_graph.proofs.CutBuilding.{BuiltUp, empty, joined}
use Rattle.tpz_base.proofs.Members.{hit, level_within}
use Rattle.tpz_base.proofs.CutLaw.{Member, join_sum, child_sum, child_sum_is, members_sum, parts_sum, sum_by_same_on}
use Rattle.tpz_base.proofs.Distinct.{at_its_level}
use Rattle.tpz_base.proofs.Members.{NoTwice, tetrahedron_eq-true, tetrahedron_eq_refl, level_differs, no_twice-differ}
use Rattle.tpz_base.specs.Roots.{corner_sum, root_of}
use Rattle.assign.specs.Paths.{path, path_below, entered, is_beyond}

-- the tetrahedron of level m on the path
unfoldable pub walk : ℕ → Tri → ℕ → Tetrahedron
walk L t zero = root_of L t
walk L t (suc m) = entered t (walk L t m)

-- the child that is entered is one of the two
entered_is : (t : Tri) (T : Tetrahedron) → (entered t T ≡ child_0 T) ⊎ (entered t T ≡ child_1 T)
unfolding entered
entered_is t T = by_test (is_beyond t T)
  where
    by_test : (b : Bool) → (cond b (child_1 T) (child_0 T) ≡ child_0 T) ⊎ (cond b (child_1 T) (child_0 T) ≡ child_1 T)
    by_test true = inr refl
    by_test false = inl refl

-- two children that are equal have one parent, where no child stands twice
pub one_parent : (xs : List Tetrahedron) (P Q : Tetrahedron) (S : Tetrahedron) → NoTwice (flat_map children xs) → Member xs P → Member xs Q → Member (children P) S → Member (children Q) S → P ≡ Q
one_parent [] P Q S once p q a b = absurd p
one_parent (x ∷ xs) P Q S once p q a b =
    elim p [
      | inl e ↦ elim q [
        | inl f ↦ sym e ∙ f
        | inr n ↦ absurd (clash Q n (subst (λ y. Member (children y) S) (sym e) a) b)
      ]
      | inr m ↦ elim q [
        | inl f ↦ absurd (clash P m (subst (λ y. Member (children y) S) (sym f) b) a)
        | inr n ↦ one_parent xs P Q S once.1.1 m n a b
      ]
    ]
  where
    below : (ys : List Tetrahedron) (Q S : Tetrahedron) → Member ys Q → Member (children Q) S → Member (flat_map children ys) S
    below [] Q S n k = absurd n
    below (y ∷ ys) Q S n k = elim n [
      | inl e ↦ (let k' : Member (children y) S = subst (λ z. Member (children z) S) (sym e) k in
          elim k' [ inl f ↦ inl f | inr g ↦ elim g [ inl f ↦ inr (inl f) | inr none ↦ absurd none ] ])
      | inr r ↦ inr (inr (below ys Q S r k))
    ]

    clash : (Q : Tetrahedron) → Member xs Q → Member (children x) S → Member (children Q) S → ⊥
    clash Q n c k =
        let later : Member (flat_map children xs) S = below xs Q S n k in
        elim c [
          | inl f ↦ once.0 S (inr later) f
          | inr g ↦ elim g [ inl f ↦ once.1.0 S later f | inr none ↦ absurd none ]
        ]

pub two_children : (xs : List Tetrahedron) (P : Tetrahedron) → NoTwice (flat_map children xs) → Member xs P → child_0 P ≢ child_1 P
two_children [] P once m = absurd m
two_children (x ∷ xs) P once m =
    elim m [
      | inl e ↦ subst (λ y. child_0 y ≢ child_1 y) e (λ f. once.0 (child_1 x) (inl refl) f)
      | inr k ↦ two_children xs P once.1.1 k
    ]

pub in_children : (xs : List Tetrahedron) (P S : Tetrahedron) → Member xs P → Member (children P) S → Member (flat_map children xs) S
in_children [] P S m k = absurd m
in_children (x ∷ xs) P S m k =
    elim m [
      | inl e ↦ (let k' : Member (children x) S = subst (λ z. Member (children z) S) (sym e) k in
          elim k' [ inl f ↦ inl f | inr g ↦ elim g [ inl f ↦ inr (inl f) | inr none ↦ absurd none ] ])
      | inr r ↦ inr (inr (in_children xs P S r k))
    ]

root_member : (L : ℕ) (b1 b2 b3 b4 b5 : Bool) → Member (roots L) (slice_index_or (roots L) (cond b1 (cond b2 0 (cond b3 1 4)) (cond b4 2 (cond b5 3 5))) (record { level = 0; corners = [] }))
root_member L true true b3 b4 b5 = inl refl
root_member L true false true b4 b5 = inr (inl refl)
root_member L true false false b4 b5 = inr (inr (inr (inr (inl refl))))
root_member L false b2 b3 true b5 = inr (inr (inl refl))
root_member L false b2 b3 false true = inr (inr (inr (inl refl)))
root_member L false b2 b3 false false = inr (inr (inr (inr (inr (inl refl)))))

pub entered_child : (t : Tri) (T : Tetrahedron) → Member (children T) (entered t T)
entered_child t T = elim (entered_is t T) [ inl e ↦ inl (sym e) | inr e ↦ inr (inl (sym e)) ]

pub walk_member : (L : ℕ) (t : Tri) (m : ℕ) → Member (at_level L m) (walk L t m)
unfolding walk
walk_member L t zero = root_member L (leb (corner_sum t).y (corner_sum t).x) (leb (corner_sum t).z (corner_sum t).y) (leb (corner_sum t).z (corner_sum t).x) (leb (corner_sum t).z (corner_sum t).x) (leb (corner_sum t).z (corner_sum t).y)
walk_member L t (suc m) = in_children (at_level L m) (walk L t m) (entered t (walk L t m)) (walk_member L t m) (entered_child t (walk L t m))

-- what is on the path from level k on is a step of the walk
on_walk : (L : ℕ) (t : Tri) (n k : ℕ) (S : Tetrahedron) → has tetrahedron_eq (path_below n t (walk L t k)) S ≡ true → (i : ℕ) × (i ≤ k + n) × (walk L t i ≡ S)
unfolding walk path_below
on_walk L t zero k S h =
    elim (or_cases (tetrahedron_eq (walk L t k) S) false h) [ inl e ↦ (k, omega arith, tetrahedron_eq-true (walk L t k) S e) | inr e ↦ absurd (true≢false (sym e)) ]
on_walk L t (suc n) k S h =
    elim (or_cases (tetrahedron_eq (walk L t k) S) (has tetrahedron_eq (path_below n t (walk L t (suc k))) S) h) [
      | inl e ↦ (k, omega arith, tetrahedron_eq-true (walk L t k) S e)
      | inr e ↦ let r = on_walk L t n (suc k) S e in (r.0, omega (arith, r.1), r.2)
    ]

pub walk_same : (L : ℕ) (t : Tri) (a b : ℕ) → a ≡ b → walk L t a ≡ walk L t b
walk_same L t a b e = ap (walk L t) e

walk_on : (L : ℕ) (t : Tri) (n k i : ℕ) → i ≤ n → has tetrahedron_eq (path_below n t (walk L t k)) (walk L t (k + i)) ≡ true
unfolding walk path_below
walk_on L t zero k i h =
    let e : walk L t (k + i) ≡ walk L t k = walk_same L t (k + i) k (omega (arith, h)) in
    rw e (or_left (tetrahedron_eq (walk L t k) (walk L t k)) false (tetrahedron_eq_refl (walk L t k)))
walk_on L t (suc n) k zero h =
    let e : walk L t (k + 0) ≡ walk L t k = walk_same L t (k + 0) k (omega arith) in
    subst (λ S. has tetrahedron_eq (path_below (suc n) t (walk L t k)) S ≡ true) (sym e)
    (or_left (tetrahedron_eq (walk L t k) (walk L t k)) _ (tetrahedron_eq_refl (walk L t k)))
walk_on L t (suc n) k (suc i) h =
    let e : walk L t (k + suc i) ≡ walk L t (suc k + i) = walk_same L t (k + suc i) (suc k + i) (omega arith) in
    subst (λ S. has tetrahedron_eq (path_below (suc n) t (walk L t k)) S ≡ true) (sym e)
    (or_right (tetrahedron_eq (walk L t k) (walk L t (suc k + i))) _ (walk_on L t n (suc k) i (omega (arith, h))))

-- T is on the path of t
unfoldable pub on_path : ℕ → Tri → Tetrahedron → Bool
on_path L t T = has tetrahedron_eq (path L t) T

pub on_path-walk : (L : ℕ) (t : Tri) (m : ℕ) (S : Tetrahedron) → Member (at_level L m) S → on_path L t S ≡ true → walk L t m ≡ S
unfolding on_path walk path
on_path-walk L t m S k h =
    let r = on_walk L t (3 * L) 0 S h in
    let level : r.0 ≡ m = sym (at_its_level L r.0 (walk L t r.0) (walk_member L t r.0)) ∙ ap (λ (T : Tetrahedron). T.level) r.2 ∙ at_its_level L m S k in
    ap (walk L t) (sym level) ∙ r.2

pub walk-on_path : (L : ℕ) (t : Tri) (m : ℕ) → m ≤ 3 * L → on_path L t (walk L t m) ≡ true
unfolding on_path walk path
walk-on_path L t m h =
    let e : walk L t (0 + m) ≡ walk L t m = walk_same L t (0 + m) m (omega arith) in
    rw (← e) (walk_on L t (3 * L) 0 m h)

next_is : (L : ℕ) (t : Tri) (m : ℕ) → (walk L t (suc m) ≡ child_0 (walk L t m)) ⊎ (walk L t (suc m) ≡ child_1 (walk L t m))
unfolding walk
next_is L t m = entered_is t (walk L t m)

pub next_child : (L : ℕ) (t : Tri) (m : ℕ) → Member (children (walk L t m)) (walk L t (suc m))
unfolding walk
next_child L t m = entered_child t (walk L t m)

sum_one : (a b c : Bool) (n : ℕ) → a ≡ true → b ≡ false → c ≡ true → cond a n 0 + cond b n 0 ≡ cond c n 0
sum_one a b c n e f g = rw (e, f, g) (omega arith)

sum_two : (a b c : Bool) (n : ℕ) → a ≡ false → b ≡ true → c ≡ true → cond a n 0 + cond b n 0 ≡ cond c n 0
sum_two a b c n e f g = rw (e, f, g) (omega arith)

sum_none : (a b c : Bool) (n : ℕ) → a ≡ false → b ≡ false → c ≡ false → cond a n 0 + cond b n 0 ≡ cond c n 0
sum_none a b c n e f g = rw (e, f, g) refl

-- a tetrahedron above the last level has as many children on the path as it is itself there
pub children_on_path : (L : ℕ) (t : Tri) (m : ℕ) (P : Tetrahedron) (n : ℕ) → suc m ≤ 3 * L → Member (at_level L m) P
    → cond (on_path L t (child_0 P)) n 0 + cond (on_path L t (child_1 P)) n 0 ≡ cond (on_path L t P) n 0
children_on_path L t m P n within k =
    let once : NoTwice (at_level L (suc m)) = no_twice-differ (at_level L (suc m)) (level_differs L (suc m) within) in
    let apart : child_0 P ≢ child_1 P = two_children (at_level L m) P once k in
    let in_0 : Member (at_level L (suc m)) (child_0 P) = in_children (at_level L m) P (child_0 P) k (inl refl) in
    let in_1 : Member (at_level L (suc m)) (child_1 P) = in_children (at_level L m) P (child_1 P) k (inr (inl refl)) in
    let next_on : on_path L t (walk L t (suc m)) ≡ true = walk-on_path L t (suc m) within in
    elim (cases_Bool (on_path L t P)) [
      | inl e ↦
          let here : walk L t m ≡ P = on_path-walk L t m P k e in
          elim (next_is L t m) [
            | inl f ↦
                let is : walk L t (suc m) ≡ child_0 P = f ∙ ap child_0 here in
                let a : on_path L t (child_0 P) ≡ true = subst (λ S. on_path L t S ≡ true) is next_on in
                let b : on_path L t (child_1 P) ≡ false = false_from_ne_true (on_path L t (child_1 P)) (λ h. apart (sym is ∙ on_path-walk L t (suc m) (child_1 P) in_1 h)) in
                sum_one (on_path L t (child_0 P)) (on_path L t (child_1 P)) (on_path L t P) n a b e
            | inr f ↦
                let is : walk L t (suc m) ≡ child_1 P = f ∙ ap child_1 here in
                let a : on_path L t (child_1 P) ≡ true = subst (λ S. on_path L t S ≡ true) is next_on in
                let b : on_path L t (child_0 P) ≡ false = false_from_ne_true (on_path L t (child_0 P)) (λ h. apart (sym (sym is ∙ on_path-walk L t (suc m) (child_0 P) in_0 h))) in
                sum_two (on_path L t (child_0 P)) (on_path L t (child_1 P)) (on_path L t P) n b a e
          ]
      | inr e ↦
          let off : (S : Tetrahedron) → Member (at_level L (suc m)) S → Member (children P) S → on_path L t S ≡ false = λ S in_level in_P.
          false_from_ne_true (on_path L t S) (λ h.
          let is : walk L t (suc m) ≡ S = on_path-walk L t (suc m) S in_level h in
          let from : Member (children (walk L t m)) S = subst (Member (children (walk L t m))) is (next_child L t m) in
          let same : walk L t m ≡ P = one_parent (at_level L m) (walk L t m) P S once (walk_member L t m) k from in_P in
          true≢false (sym (walk-on_path L t m (omega (arith, within))) ∙ ap (on_path L t) same ∙ e)) in
          sum_none (on_path L t (child_0 P)) (on_path L t (child_1 P)) (on_path L t P) n (off (child_0 P) in_0 (inl refl)) (off (child_1 P) in_1 (inr (inl refl))) e
    ]

-- the weight k of what is on the path
pub weight : ℕ → Tri → ℕ → Tetrahedron → ℕ
weight L t k T = cond (on_path L t T) k 0

weights : (L : ℕ) (t : Tri) (k : ℕ) (P : Tetrahedron) (m : ℕ) → suc m ≤ 3 * L → Member (at_level L m) P → weight L t k (child_0 P) + weight L t k (child_1 P) ≡ weight L t k P
unfolding weight
weights L t k P m h g = children_on_path L t m P k h g

parts_weight : (L : ℕ) (t : Tri) (k : ℕ) (d : Point) → ((P : Tetrahedron) → Member (descendants L) P → diamond P ≡ d → P.level < 3 * L)
    → sum_by (weight L t k) (parts L d) ≡ sum_by (weight L t k) (members L d)
parts_weight L t k d above =
    parts_sum L (weight L t k) d
    ∙ sum_by_same_on (λ P. cond (point_eq (diamond P) d) (child_sum L (weight L t k) P) 0) (λ P. cond (point_eq (diamond P) d) (weight L t k P) 0) (descendants L)
    (λ P m. elim (cases_Bool (point_eq (diamond P) d)) [
      | inl e ↦ ap (λ x. cond (point_eq (diamond P) d) x 0) (one_child P m (point_eq-true (diamond P) d e))
      | inr e ↦ both_off (point_eq (diamond P) d) (child_sum L (weight L t k) P) (weight L t k P) e
    ])
    ∙ sym (members_sum L (weight L t k) d)
  where
    both_off : (b : Bool) (x y : ℕ) → b ≡ false → cond b x 0 ≡ cond b y 0
    both_off b x y e = rw e refl

    one_child : (P : Tetrahedron) → Member (descendants L) P → diamond P ≡ d → child_sum L (weight L t k) P ≡ weight L t k P
    one_child P m e =
        let r = level_within L (3 * L) P m in
        let level : P.level ≡ r.0 = at_its_level L r.0 P r.2 in
        child_sum_is L (weight L t k) P ∙ weights L t k P r.0 (omega (arith, above P m e, level)) r.2

roots_weight : (L : ℕ) (t : Tri) (k : ℕ) → sum_by (weight L t k) (roots L) ≡ k
unfolding weight
roots_weight L t k =
    sum_by_same_on (λ T. cond (on_path L t T) k 0) (λ T. cond (tetrahedron_eq T (walk L t 0)) k 0) (roots L)
    (λ T m. ap (λ b. cond b k 0) (same_test T m))
    ∙ hit (roots L) (no_twice-differ (roots L) (level_differs L 0 (omega arith))) (walk L t 0) k (walk_member L t 0)
  where
    same_test : (T : Tetrahedron) → Member (roots L) T → on_path L t T ≡ tetrahedron_eq T (walk L t 0)
    same_test T m =
        elim (cases_Bool (on_path L t T)) [
          | inl e ↦ e ∙ sym (subst (λ S. tetrahedron_eq T S ≡ true) (sym (on_path-walk L t 0 T m e)) (tetrahedron_eq_refl T))
          | inr e ↦ e ∙ sym (false_from_ne_true (tetrahedron_eq T (walk L t 0)) (λ h.
              true≢false (sym (walk-on_path L t 0 (omega arith)) ∙ ap (on_path L t) (sym (tetrahedron_eq-true T (walk L t 0) h)) ∙ e)))
        ]

-- a path meets one active tetrahedron of every cut that is built up
pub path_meets_one : (L n : ℕ) (F : List Point) (t : Tri) (k : ℕ)
    → ((d : Point) → has_diamond F d ≡ true → (P : Tetrahedron) → Member (descendants L) P → diamond P ≡ d → P.level < 3 * L)
    → {R : List Point} → BuiltUp L n F R → sum_by (weight L t k) (active L R) ≡ k
path_meets_one L n F t k above empty = roots_weight L t k
path_meets_one L n F t k above (joined {R = R} {d = d} before in_F h) =
    same_added _ _ _ _ k (join_sum L n R (R ++ d ∷ []) d h (weight L t k)) (parts_weight L t k d (above d in_F)) (path_meets_one L n F t k above before)
  where
    same_added : (new old m p k : ℕ) → new + m ≡ old + p → p ≡ m → old ≡ k → new ≡ k
    same_added new old m p k a b c = omega arith

pub weight_is : (L : ℕ) (t : Tri) (k : ℕ) (T : Tetrahedron) → weight L t k T ≡ cond (on_path L t T) k 0
unfolding weight
weight_is L t k T = refl
