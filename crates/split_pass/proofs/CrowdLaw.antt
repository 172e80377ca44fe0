-- The diamonds that a search from the roots adds are those that are crowded.
use Rattle.std.proofs.Common.{◌≡◌, ℕ, zero, suc, ◌+◌, ◌-◌, ◌*◌, ◌∷◌, ◌<◌, ◌≤◌, [], List, Bool, true, false, cond, refl, sym, ◌∙◌, ap, ap₂, subst, inl, inr, ◌⊎◌, arith, length, true≢false}
use Rattle.std.specs.Prelude.{nat_lt, not, ◌&&◌, ◌==◌, filter, flat_map, map, take}
use Rattle.std.specs.List.{slice_index_or}
use Rattle.std.proofs.lemmas.Bool.{cases_Bool, or_cases, or_left, ltb-true, lt-ltb, eq-eqb, eqb-true, cases_lt}
use Rattle.std.proofs.lemmas.List.Elements.{filter_agree}
use Rattle.tpz_base.specs.declared.shape.Point.{Point}
use Rattle.tpz_base.specs.declared.shape.Tri.{Tri}
use Rattle.tpz_base.specs.Lists.{has}
use Rattle.tpz_base.specs.Points.{point_eq}
use Rattle.tpz_base.specs.Meshes.{Mesh}
use Rattle.tpz_base.specs.Cuts.{has_diamond}
use Rattle.tpz_base.specs.Roots.{corner_sum, is_in_root, root_part, root_slot}
use Rattle.tpz_base.specs.Tetrahedra.{Tetrahedron, at_level, child_0, child_1, children, diamond, roots, tetrahedron_eq}
use Rattle.tpz_base.proofs.CutLaw.{Member}
use Rattle.tpz_base.proofs.Distinct.{member-flat_map}
use Rattle.tpz_base.proofs.Elements.{count_by-filter, filter_twice, flat_map-member, has-member, map-member, member-has, member-map}
use Rattle.tpz_base.proofs.Members.{NoTwice, filter-member, level_differs, member-filter, no_twice-differ}
use Rattle.tpz_base.proofs.PointLemmas.{point_eq-true, point_eq_refl}
use Rattle.tpz_base.proofs.RootMesh.{each_slot}
use Rattle.diamond_graph.specs.Closed.{closure}
use Rattle.diamond_graph.proofs.SetLaw.{both_ways, closure_same}
use Rattle.assign.specs.Paths.{entered, is_beyond, path, path_below}
use Rattle.assign.specs.Splits.{crowded, split_set, visitors}
use Rattle.assign.proofs.PathLaw.{children_on_path, in_children, next_child, on_path, on_path-walk, walk, walk_member, walk-on_path}
use Rattle.assign.proofs.SplitLaw.{front_on_path}
use Rattle.split_pass.specs.Crowds.{first_part, goes_through, second_part, through, with_crowded, with_roots}
use Rattle.split_pass.proofs.Crowding.{root_slot_of, roots_kept, roots_next, with_kept, with_none, with_some}

-- the triangles that go through T, by the word of `assign`
abbrev passing : ℕ → Mesh → Tetrahedron → Mesh
passing L M T = filter (λ t. on_path L t T) M

visitors_through : (L : ℕ) (M : Mesh) (T : Tetrahedron) → visitors L M T ≡ length (passing L M T)
unfolding visitors on_path
visitors_through L M T = count_by-filter (λ t. has tetrahedron_eq (path L t) T) M

neither : (a b c : Bool) → cond a 1 0 + cond b 1 0 ≡ cond c 1 0 → c ≡ false → (a ≡ false) × (b ≡ false)
neither true b false h e = absurd (omega arith)
neither false true false h e = absurd (omega arith)
neither false false c h e = (refl, refl)
neither true b true h e = absurd cc
neither false true true h e = absurd cc

other_first : (a b c : Bool) → cond a 1 0 + cond b 1 0 ≡ cond c 1 0 → b ≡ true → a ≡ false
other_first true true true h e = absurd (omega arith)
other_first true true false h e = absurd (omega arith)
other_first true false c h e = absurd cc
other_first false b c h e = refl

other_second : (a b c : Bool) → cond a 1 0 + cond b 1 0 ≡ cond c 1 0 → a ≡ true → b ≡ false
other_second true true true h e = absurd (omega arith)
other_second true true false h e = absurd (omega arith)
other_second false true c h e = absurd cc
other_second a false c h e = refl

enters_second : (t : Tri) (T : Tetrahedron) → is_beyond t T ≡ true → entered t T ≡ child_1 T
unfolding entered
enters_second t T b = rw b refl

enters_first : (t : Tri) (T : Tetrahedron) → is_beyond t T ≡ false → entered t T ≡ child_0 T
unfolding entered
enters_first t T b = rw b refl

walk_next : (L : ℕ) (t : Tri) (m : ℕ) → walk L t (suc m) ≡ entered t (walk L t m)
unfolding walk
walk_next L t m = refl

-- which of the two children the path goes on to
pub record Forks (L : ℕ) (t : Tri) (P : Tetrahedron) : Type 0 where
  pub first : on_path L t (child_0 P) ≡ on_path L t P && not (is_beyond t P)
  pub second : on_path L t (child_1 P) ≡ on_path L t P && is_beyond t P

forks : (L : ℕ) (t : Tri) (m : ℕ) (P : Tetrahedron) → suc m ≤ 3 * L → Member (at_level L m) P → Forks L t P
forks L t m P within k =
    let sum = children_on_path L t m P 1 within k in
    let next_on = walk-on_path L t (suc m) within in
    elim (cases_Bool (on_path L t P)) [
      | inl on ↦
          let here : walk L t m ≡ P = on_path-walk L t m P k on in
          let next : walk L t (suc m) ≡ entered t P = walk_next L t m ∙ ap (entered t) here in
          elim (cases_Bool (is_beyond t P)) [
            | inl b ↦
                let second : on_path L t (child_1 P) ≡ true = subst (λ S. on_path L t S ≡ true) (next ∙ enters_second t P b) next_on in
                let first : on_path L t (child_0 P) ≡ false = other_first (on_path L t (child_0 P)) (on_path L t (child_1 P)) (on_path L t P) sum second in
                record { first = rw (first, on, b) refl; second = rw (second, on, b) refl }
            | inr b ↦
                let first : on_path L t (child_0 P) ≡ true = subst (λ S. on_path L t S ≡ true) (next ∙ enters_first t P b) next_on in
                let second : on_path L t (child_1 P) ≡ false = other_second (on_path L t (child_0 P)) (on_path L t (child_1 P)) (on_path L t P) sum first in
                record { first = rw (first, on, b) refl; second = rw (second, on, b) refl }
          ]
      | inr off ↦
          let none = neither (on_path L t (child_0 P)) (on_path L t (child_1 P)) (on_path L t P) sum off in
          record { first = rw (none.0, off) refl; second = rw (none.1, off) refl }
    ]

first_through : (L : ℕ) (M : Mesh) (m : ℕ) (P : Tetrahedron) → suc m ≤ 3 * L → Member (at_level L m) P → first_part P (passing L M P) ≡ passing L M (child_0 P)
first_through L M m P within k =
    sym (filter_twice (λ t. not (is_beyond t P)) (λ t. on_path L t P) (λ t. on_path L t (child_0 P)) M (λ t h. (forks L t m P within k).first))

second_through : (L : ℕ) (M : Mesh) (m : ℕ) (P : Tetrahedron) → suc m ≤ 3 * L → Member (at_level L m) P → second_part P (passing L M P) ≡ passing L M (child_1 P)
second_through L M m P within k =
    sym (filter_twice (λ t. is_beyond t P) (λ t. on_path L t P) (λ t. on_path L t (child_1 P)) M (λ t h. (forks L t m P within k).second))

at_first : (L m : ℕ) (P : Tetrahedron) → Member (at_level L m) P → Member (at_level L (suc m)) (child_0 P)
at_first L m P k = in_children (at_level L m) P (child_0 P) k (inl refl)

at_second : (L m : ℕ) (P : Tetrahedron) → Member (at_level L m) P → Member (at_level L (suc m)) (child_1 P)
at_second L m P k = in_children (at_level L m) P (child_1 P) k (inr (inl refl))

-- a tetrahedron above the last level that more than cap triangles go through
pub record IsCrowd (L cap : ℕ) (M : Mesh) (S : Tetrahedron) : Type 0 where
  pub level : ℕ
  pub above : level < 3 * L
  pub member : Member (at_level L level) S
  pub more : cap < length (passing L M S)

-- what is added is crowded
added : (n m L cap : ℕ) (T : Tetrahedron) (M : Mesh) (V : List Point) (x : Point) → m + n ≡ 3 * L → Member (at_level L m) T
    → has_diamond (with_crowded n cap T (passing L M T) V) x ≡ true → (has_diamond V x ≡ true) ⊎ ((S : Tetrahedron) × IsCrowd L cap M S × (diamond S ≡ x))
added zero m L cap T M V x all k h =
    inl (subst (λ (ds : List Point). has_diamond ds x ≡ true) (with_none zero cap T (passing L M T) V (inr refl)) h)
added (suc n) m L cap T M V x all k h =
    elim (cases_lt cap (length (passing L M T))) [
      | inr few ↦ inl (subst (λ (ds : List Point). has_diamond ds x ≡ true) (with_none (suc n) cap T (passing L M T) V (inl few)) h)
      | inl more ↦
          let within : suc m ≤ 3 * L = omega arith in
          let rest : suc m + n ≡ 3 * L = omega arith in
          let V1 = with_crowded n cap (child_0 T) (passing L M (child_0 T)) (diamond T ∷ V) in
          let is : with_crowded (suc n) cap T (passing L M T) V ≡ with_crowded n cap (child_1 T) (passing L M (child_1 T)) V1 =
          with_some (suc n) n cap T (passing L M T) V more (omega arith)
          ∙ ap₂ (λ (a b : Mesh). with_crowded n cap (child_1 T) a (with_crowded n cap (child_0 T) b (diamond T ∷ V))) (second_through L M m T within k) (first_through L M m T within k)
          in
          let h1 : has_diamond (with_crowded n cap (child_1 T) (passing L M (child_1 T)) V1) x ≡ true = subst (λ (ds : List Point). has_diamond ds x ≡ true) is h in
          elim (added n (suc m) L cap (child_1 T) M V1 x rest (at_second L m T k) h1) [
            | inr found ↦ inr found
            | inl h2 ↦ elim (added n (suc m) L cap (child_0 T) M (diamond T ∷ V) x rest (at_first L m T k) h2) [
              | inr found ↦ inr found
              | inl h3 ↦ elim (or_cases (point_eq (diamond T) x) (has_diamond V x) h3) [
                | inl e ↦ inr (T, record { level = m; above = omega arith; member = k; more = more }, point_eq-true (diamond T) x e)
                | inr e ↦ inl e
              ]
            ]
          ]
    ]

filter_le : (p : Tri → Bool) (M : Mesh) → length (filter p M) ≤ length M
filter_le p [] = omega arith
filter_le p (t ∷ M) =
    let rest = filter_le p M in
    elim (cases_Bool (p t)) [ inl e ↦ rw e (omega arith) | inr e ↦ rw e (omega arith) ]

child_le : (L : ℕ) (M : Mesh) (m : ℕ) (P S : Tetrahedron) → suc m ≤ 3 * L → Member (at_level L m) P → Member (children P) S
    → length (passing L M S) ≤ length (passing L M P)
child_le L M m P S within k c =
    elim c [
      | inl e ↦ rw (← e, ← first_through L M m P within k) (filter_le (λ t. not (is_beyond t P)) (passing L M P))
      | inr r ↦ elim r [
        | inl e ↦ rw (← e, ← second_through L M m P within k) (filter_le (λ t. is_beyond t P) (passing L M P))
        | inr none ↦ absurd none
      ]
    ]

-- no more go through what is further down the path
further_le : (L : ℕ) (M : Mesh) (t : Tri) (m j : ℕ) → m + j ≤ 3 * L → length (passing L M (walk L t (m + j))) ≤ length (passing L M (walk L t m))
further_le L M t m zero h = let e : m + zero ≡ m = omega arith in rw e (omega arith)
further_le L M t m (suc j) h =
    let e : m + suc j ≡ suc (m + j) = omega arith in
    let before = further_le L M t m j (omega arith) in
    let step = child_le L M (m + j) (walk L t (m + j)) (walk L t (suc (m + j))) (omega arith) (walk_member L t (m + j)) (next_child L t (m + j)) in
    rw e (omega arith)

-- what is added where more than cap triangles go through T
abbrev below : ℕ → ℕ → ℕ → Tetrahedron → Mesh → List Point → List Point
below n L cap T M V = with_crowded n cap (child_1 T) (passing L M (child_1 T)) (with_crowded n cap (child_0 T) (passing L M (child_0 T)) (diamond T ∷ V))

opened : (n m L cap : ℕ) (T : Tetrahedron) (M : Mesh) (V : List Point) → suc m ≤ 3 * L → Member (at_level L m) T → cap < length (passing L M T)
    → with_crowded (suc n) cap T (passing L M T) V ≡ below n L cap T M V
opened n m L cap T M V within k many =
    with_some (suc n) n cap T (passing L M T) V many (omega arith)
    ∙ ap₂ (λ (a b : Mesh). with_crowded n cap (child_1 T) a (with_crowded n cap (child_0 T) b (diamond T ∷ V))) (second_through L M m T within k) (first_through L M m T within k)

many_here : (L cap m j : ℕ) (T : Tetrahedron) (M : Mesh) (t : Tri) → m + j ≤ 3 * L → walk L t m ≡ T → cap < length (passing L M (walk L t (m + j)))
    → cap < length (passing L M T)
many_here L cap m j T M t within here more =
    let le = further_le L M t m j within in
    let same : length (passing L M (walk L t m)) ≡ length (passing L M T) = ap (λ S. length (passing L M S)) here in
    omega arith

-- a crowded tetrahedron on the path from T on is added
reached : (n m L cap : ℕ) (T : Tetrahedron) (M : Mesh) (V : List Point) (t : Tri) (j : ℕ) → m + n ≡ 3 * L → Member (at_level L m) T → walk L t m ≡ T → j < n
    → cap < length (passing L M (walk L t (m + j))) → has_diamond (with_crowded n cap T (passing L M T) V) (diamond (walk L t (m + j))) ≡ true
reached zero m L cap T M V t j all k here h more = absurd (omega arith)
reached (suc n) m L cap T M V t zero all k here h more =
    let many = many_here L cap m zero T M t (omega arith) here more in
    let e : walk L t (m + zero) ≡ T = ap (walk L t) (omega arith) ∙ here in
    let d = diamond (walk L t (m + zero)) in
    let first : has_diamond (diamond T ∷ V) d ≡ true =
    or_left (point_eq (diamond T) d) (has_diamond V d) (subst (λ S. point_eq (diamond T) (diamond S) ≡ true) (sym e) (point_eq_refl (diamond T)))
    in
    subst (λ (ds : List Point). has_diamond ds d ≡ true) (sym (opened n m L cap T M V (omega arith) k many))
    (with_kept n cap (child_1 T) (passing L M (child_1 T)) (with_crowded n cap (child_0 T) (passing L M (child_0 T)) (diamond T ∷ V)) d
    (with_kept n cap (child_0 T) (passing L M (child_0 T)) (diamond T ∷ V) d first))
reached (suc n) m L cap T M V t (suc j) all k here h more =
    let many = many_here L cap m (suc j) T M t (omega arith) here more in
    let rest : suc m + n ≡ 3 * L = omega arith in
    let e : walk L t (m + suc j) ≡ walk L t (suc m + j) = ap (walk L t) (omega arith) in
    let more' : cap < length (passing L M (walk L t (suc m + j))) = subst (λ S. cap < length (passing L M S)) e more in
    let next : walk L t (suc m) ≡ entered t T = walk_next L t m ∙ ap (entered t) here in
    let V1 = with_crowded n cap (child_0 T) (passing L M (child_0 T)) (diamond T ∷ V) in
    let there : has_diamond (below n L cap T M V) (diamond (walk L t (suc m + j))) ≡ true =
    elim (cases_Bool (is_beyond t T)) [
      | inl b ↦ reached n (suc m) L cap (child_1 T) M V1 t j rest (at_second L m T k) (next ∙ enters_second t T b) (omega arith) more'
      | inr b ↦
          with_kept n cap (child_1 T) (passing L M (child_1 T)) V1 (diamond (walk L t (suc m + j)))
          (reached n (suc m) L cap (child_0 T) M (diamond T ∷ V) t j rest (at_first L m T k) (next ∙ enters_first t T b) (omega arith) more')
    ]
    in
    subst (λ (ds : List Point). has_diamond ds (diamond (walk L t (m + suc j))) ≡ true) (sym (opened n m L cap T M V (omega arith) k many))
    (subst (λ S. has_diamond (below n L cap T M V) (diamond S) ≡ true) (sym e) there)

-- the roots
pub slot_few : (p : Point) → root_slot p < 6
slot_few = each_slot (λ n. n < 6) (omega arith) (omega arith) (omega arith) (omega arith) (omega arith) (omega arith)

pub root_member : (L k : ℕ) → k < 6 → Member (roots L) (root_slot_of L k)
unfolding root_slot_of
root_member L zero h = inl refl
root_member L (suc zero) h = inr (inl refl)
root_member L (suc (suc zero)) h = inr (inr (inl refl))
root_member L (suc (suc (suc zero))) h = inr (inr (inr (inl refl)))
root_member L (suc (suc (suc (suc zero)))) h = inr (inr (inr (inr (inl refl))))
root_member L (suc (suc (suc (suc (suc zero))))) h = inr (inr (inr (inr (inr (inl refl)))))
root_member L (suc (suc (suc (suc (suc (suc k)))))) h = absurd (omega arith)

-- in a list without twins an element stands at one place
pub one_place : (xs : List Tetrahedron) (d : Tetrahedron) (i j : ℕ) → NoTwice xs → i < length xs → j < length xs → slice_index_or xs i d ≡ slice_index_or xs j d → i ≡ j
one_place [] d i j once h k e = absurd (omega arith)
one_place (x ∷ xs) d zero zero once h k e = refl
one_place (x ∷ xs) d zero (suc j) once h k e = absurd (once.0 (slice_index_or xs j d) (stands xs d j (omega arith)) e)
  where
    stands : (xs : List Tetrahedron) (d : Tetrahedron) (j : ℕ) → j < length xs → Member xs (slice_index_or xs j d)
    stands [] d j h = absurd (omega arith)
    stands (x ∷ xs) d zero h = inl refl
    stands (x ∷ xs) d (suc j) h = inr (stands xs d j (omega arith))
one_place (x ∷ xs) d (suc i) zero once h k e = absurd (once.0 (slice_index_or xs i d) (stands xs d i (omega arith)) (sym e))
  where
    stands : (xs : List Tetrahedron) (d : Tetrahedron) (j : ℕ) → j < length xs → Member xs (slice_index_or xs j d)
    stands [] d j h = absurd (omega arith)
    stands (x ∷ xs) d zero h = inl refl
    stands (x ∷ xs) d (suc j) h = inr (stands xs d j (omega arith))
one_place (x ∷ xs) d (suc i) (suc j) once h k e = ap suc (one_place xs d i j once.1 (omega arith) (omega arith) e)

pub root_first : (L : ℕ) (t : Tri) → walk L t 0 ≡ root_slot_of L (root_slot (corner_sum t))
unfolding walk root_slot_of
root_first L t = refl

in_root_on_path : (L slot : ℕ) (t : Tri) → slot < 6 → is_in_root slot t ≡ on_path L t (root_slot_of L slot)
unfolding is_in_root root_slot_of
in_root_on_path L slot t h =
    both_ways (root_slot (corner_sum t) == slot) (on_path L t (root_slot_of L slot))
    (λ e.
    let same = eqb-true (root_slot (corner_sum t)) slot e in
    subst (λ S. on_path L t S ≡ true) (root_first L t ∙ ap (root_slot_of L) same) (walk-on_path L t 0 (omega arith)))
    (λ e.
    let here = sym (root_first L t) ∙ on_path-walk L t 0 (root_slot_of L slot) (root_member L slot h) e in
    let once : NoTwice (roots L) = no_twice-differ (roots L) (level_differs L 0 (omega arith)) in
    eq-eqb (root_slot (corner_sum t)) slot
    (one_place (roots L) (record { level = 0; corners = [] }) (root_slot (corner_sum t)) slot once (slot_few (corner_sum t)) h here))

root_through : (L : ℕ) (M : Mesh) (slot : ℕ) → slot < 6 → root_part M slot ≡ passing L M (root_slot_of L slot)
root_through L M slot h = filter_agree (is_in_root slot) (λ t. on_path L t (root_slot_of L slot)) (λ t. in_root_on_path L slot t h) M

roots_added : (L cap : ℕ) (M : Mesh) (k : ℕ) (x : Point) → k ≤ 6 → has_diamond (with_roots L cap M k) x ≡ true → (S : Tetrahedron) × IsCrowd L cap M S × (diamond S ≡ x)
unfolding with_roots
roots_added L cap M zero x within h = absurd (true≢false (sym h))
roots_added L cap M (suc k) x within h =
    let part = root_through L M k (omega arith) in
    let h1 : has_diamond (with_crowded (3 * L) cap (root_slot_of L k) (passing L M (root_slot_of L k)) (with_roots L cap M k)) x ≡ true =
    subst (λ (N : Mesh). has_diamond (with_crowded (3 * L) cap (root_slot_of L k) N (with_roots L cap M k)) x ≡ true) part
    (subst (λ (ds : List Point). has_diamond ds x ≡ true) (roots_next L cap M k) h)
    in
    elim (added (3 * L) 0 L cap (root_slot_of L k) M (with_roots L cap M k) x (omega arith) (root_member L k (omega arith)) h1) [
      | inl before ↦ roots_added L cap M k x (omega arith) before
      | inr found ↦ found
    ]

roots_reached : (L cap : ℕ) (M : Mesh) (t : Tri) (i : ℕ) → i < 3 * L → cap < length (passing L M (walk L t i))
    → has_diamond (with_roots L cap M 6) (diamond (walk L t i)) ≡ true
roots_reached L cap M t i h more =
    let k = root_slot (corner_sum t) in
    let few = slot_few (corner_sum t) in
    let d = diamond (walk L t i) in
    let e : walk L t (0 + i) ≡ walk L t i = ap (walk L t) (omega arith) in
    let there = reached (3 * L) 0 L cap (root_slot_of L k) M (with_roots L cap M k) t i (omega arith) (root_member L k few) (root_first L t) h
    (subst (λ S. cap < length (passing L M S)) (sym e) more)
    in
    let there' : has_diamond (with_crowded (3 * L) cap (root_slot_of L k) (root_part M k) (with_roots L cap M k)) d ≡ true =
    subst (λ (N : Mesh). has_diamond (with_crowded (3 * L) cap (root_slot_of L k) N (with_roots L cap M k)) d ≡ true) (sym (root_through L M k few))
    (subst (λ S. has_diamond (with_crowded (3 * L) cap (root_slot_of L k) (passing L M (root_slot_of L k)) (with_roots L cap M k)) (diamond S) ≡ true) e there)
    in
    let so_far : has_diamond (with_roots L cap M (suc k)) d ≡ true = subst (λ (ds : List Point). has_diamond ds d ≡ true) (sym (roots_next L cap M k)) there' in
    let last : (6 - suc k) + suc k ≡ 6 = omega arith in
    subst (λ (n : ℕ). has_diamond (with_roots L cap M n) d ≡ true) last (roots_kept L cap M (suc k) (6 - suc k) d so_far)

some_visitor : (L : ℕ) (M : Mesh) (T : Tetrahedron) (n : ℕ) → n < length (passing L M T) → (t : Tri) × Member M t × (on_path L t T ≡ true)
some_visitor L [] T n h = absurd (omega arith)
some_visitor L (t ∷ M) T n h =
    elim (cases_Bool (on_path L t T)) [
      | inl e ↦ (t, inl refl, e)
      | inr e ↦ (let h' : n < length (passing L M T) = rw e at h in let r = some_visitor L M T n h' in (r.0, inr r.1, r.2))
    ]

-- a step of the walk is among the first of the path
on_the_way : (L : ℕ) (t : Tri) (n m k i : ℕ) → i < m → i ≤ n → Member (take m (path_below n t (walk L t k))) (walk L t (k + i))
unfolding path_below
on_the_way L t n zero k i h l = absurd (omega arith)
on_the_way L t zero (suc m) k i h l = inl (ap (walk L t) (omega arith))
on_the_way L t (suc n) (suc m) k zero h l = inl (ap (walk L t) (omega arith))
on_the_way L t (suc n) (suc m) k (suc i) h l =
    let e : walk L t (suc k + i) ≡ walk L t (k + suc i) = ap (walk L t) (omega arith) in
    let next : path_below n t (walk L t (suc k)) ≡ path_below n t (entered t (walk L t k)) = ap (path_below n t) (walk_next L t k) in
    inr (subst (Member (take m (path_below n t (entered t (walk L t k))))) e
    (subst (λ (ps : List Tetrahedron). Member (take m ps) (walk L t (suc k + i))) next (on_the_way L t n m (suc k) i (omega arith) (omega arith))))

walk_in_front : (L : ℕ) (t : Tri) (i : ℕ) → i < 3 * L → Member (take (3 * L) (path L t)) (walk L t i)
unfolding path walk
walk_in_front L t i h =
    let e : walk L t (0 + i) ≡ walk L t i = ap (walk L t) (omega arith) in
    subst (Member (take (3 * L) (path L t))) e (on_the_way L t (3 * L) (3 * L) 0 i h (omega arith))

is_crowded : (L cap : ℕ) (M : Mesh) (S : Tetrahedron) → IsCrowd L cap M S → has_diamond (crowded L cap M) (diamond S) ≡ true
unfolding crowded
is_crowded L cap M S c =
    let v = some_visitor L M S cap c.more in
    let here : walk L v.0 c.level ≡ S = on_path-walk L v.0 c.level S c.member v.2 in
    let front : Member (take (3 * L) (path L v.0)) S = subst (Member (take (3 * L) (path L v.0))) here (walk_in_front L v.0 c.level c.above) in
    let all = flat_map-member (λ t. take (3 * L) (path L t)) M v.0 S v.1 front in
    let more : nat_lt cap (visitors L M S) ≡ true = lt-ltb cap (visitors L M S) (rw (visitors_through L M S) c.more) in
    member-has (map diamond (filter (λ T. nat_lt cap (visitors L M T)) (flat_map (λ t. take (3 * L) (path L t)) M))) (diamond S)
    (map-member diamond (filter (λ T. nat_lt cap (visitors L M T)) (flat_map (λ t. take (3 * L) (path L t)) M)) S
    (filter-member (λ T. nat_lt cap (visitors L M T)) (flat_map (λ t. take (3 * L) (path L t)) M) S all more))

crowded_reached : (L cap : ℕ) (M : Mesh) (x : Point) → has_diamond (crowded L cap M) x ≡ true → has_diamond (with_roots L cap M 6) x ≡ true
unfolding crowded
crowded_reached L cap M x h =
    let all = flat_map (λ t. take (3 * L) (path L t)) M in
    let many = filter (λ T. nat_lt cap (visitors L M T)) all in
    let a = member-map diamond many x (has-member (map diamond many) x h) in
    let b = member-filter (λ T. nat_lt cap (visitors L M T)) all a.0 a.1 in
    let c = member-flat_map (λ t. take (3 * L) (path L t)) M a.0 b.0 in
    let r = front_on_path L c.0 a.0 c.2 in
    let more : cap < length (passing L M a.0) = rw (visitors_through L M a.0) at (ltb-true cap (visitors L M a.0) b.1) in
    let more' : cap < length (passing L M (walk L c.0 r.0)) = subst (λ S. cap < length (passing L M S)) (sym r.2) more in
    subst (λ (d : Point). has_diamond (with_roots L cap M 6) d ≡ true) (ap diamond r.2 ∙ a.2) (roots_reached L cap M c.0 r.0 r.1 more')

-- the search over all roots finds what is split
pub found_split : (L cap : ℕ) (M : Mesh) → closure L (with_roots L cap M 6) ≡ split_set L cap M
unfolding split_set
found_split L cap M =
    closure_same L (with_roots L cap M 6) (crowded L cap M)
    (λ x. both_ways (has_diamond (with_roots L cap M 6) x) (has_diamond (crowded L cap M) x)
    (λ h.
    let r = roots_added L cap M 6 x (omega arith) h in
    subst (λ (d : Point). has_diamond (crowded L cap M) d ≡ true) r.2 (is_crowded L cap M r.0 r.1))
    (crowded_reached L cap M x))

-- the same in the words of this crate
pub goes : (L : ℕ) (t : Tri) (T : Tetrahedron) → goes_through L t T ≡ on_path L t T
unfolding goes_through on_path
goes L t T = refl

passes : (L : ℕ) (M : Mesh) (T : Tetrahedron) → through L M T ≡ passing L M T
passes L M T = filter_agree (λ t. goes_through L t T) (λ t. on_path L t T) (λ t. goes L t T) M

-- those that go through a tetrahedron go on to one of its children
pub first_goes : (L : ℕ) (M : Mesh) (m : ℕ) (P : Tetrahedron) → suc m ≤ 3 * L → Member (at_level L m) P → first_part P (through L M P) ≡ through L M (child_0 P)
first_goes L M m P within k = ap (first_part P) (passes L M P) ∙ first_through L M m P within k ∙ sym (passes L M (child_0 P))

pub second_goes : (L : ℕ) (M : Mesh) (m : ℕ) (P : Tetrahedron) → suc m ≤ 3 * L → Member (at_level L m) P → second_part P (through L M P) ≡ through L M (child_1 P)
second_goes L M m P within k = ap (second_part P) (passes L M P) ∙ second_through L M m P within k ∙ sym (passes L M (child_1 P))

-- a triangle goes through the root of its slot, and through no other
pub root_on : (L : ℕ) (t : Tri) → goes_through L t (root_slot_of L (root_slot (corner_sum t))) ≡ true
root_on L t =
    goes L t (root_slot_of L (root_slot (corner_sum t)))
    ∙ subst (λ S. on_path L t S ≡ true) (root_first L t) (walk-on_path L t 0 (omega arith))

pub root_alone : (L slot : ℕ) (t : Tri) → slot < 6 → goes_through L t (root_slot_of L slot) ≡ true → slot ≡ root_slot (corner_sum t)
unfolding is_in_root
root_alone L slot t h on =
    sym (eqb-true (root_slot (corner_sum t)) slot (in_root_on_path L slot t h ∙ sym (goes L t (root_slot_of L slot)) ∙ on))

pub roots_apart : (L i j : ℕ) → i < 6 → j < 6 → root_slot_of L i ≡ root_slot_of L j → i ≡ j
unfolding root_slot_of
roots_apart L i j h k e =
    one_place (roots L) (record { level = 0; corners = [] }) i j (no_twice-differ (roots L) (level_differs L 0 (omega arith))) h k e

-- those of a root
pub root_goes : (L : ℕ) (M : Mesh) (slot : ℕ) → slot < 6 → root_part M slot ≡ through L M (root_slot_of L slot)
root_goes L M slot h = root_through L M slot h ∙ sym (passes L M (root_slot_of L slot))

-- a triangle that goes through a child goes through its parent, and through no other child
pub record Goes (L : ℕ) (t : Tri) (P : Tetrahedron) : Type 0 where
  pub up_first : goes_through L t (child_0 P) ≡ true → goes_through L t P ≡ true
  pub up_second : goes_through L t (child_1 P) ≡ true → goes_through L t P ≡ true
  pub down : goes_through L t P ≡ true → (goes_through L t (child_0 P) ≡ true) ⊎ (goes_through L t (child_1 P) ≡ true)
  pub apart : goes_through L t (child_0 P) ≡ true → goes_through L t (child_1 P) ≡ false

pub goes_on : (L : ℕ) (t : Tri) (m : ℕ) (P : Tetrahedron) → suc m ≤ 3 * L → Member (at_level L m) P → Goes L t P
goes_on L t m P within k =
    let f = forks L t m P within k in
    let a : goes_through L t (child_0 P) ≡ (goes_through L t P && not (is_beyond t P)) = goes L t (child_0 P) ∙ f.first ∙ ap (λ b. b && not (is_beyond t P)) (sym (goes L t P)) in
    let b : goes_through L t (child_1 P) ≡ (goes_through L t P && is_beyond t P) = goes L t (child_1 P) ∙ f.second ∙ ap (λ b. b && is_beyond t P) (sym (goes L t P)) in
    record {
      up_first = λ h. and_first (goes_through L t P) (not (is_beyond t P)) (sym a ∙ h);
      up_second = λ h. and_first (goes_through L t P) (is_beyond t P) (sym b ∙ h);
      down = λ h. one_way (goes_through L t P) (is_beyond t P) (goes_through L t (child_0 P)) (goes_through L t (child_1 P)) a b h;
      apart = λ h. other_way (goes_through L t P) (is_beyond t P) (goes_through L t (child_1 P)) b (sym a ∙ h);
    }
  where
    and_first : (a b : Bool) → (a && b) ≡ true → a ≡ true
    and_first true b h = refl
    and_first false b h = absurd cc

    one_way : (a b c d : Bool) → c ≡ (a && not b) → d ≡ (a && b) → a ≡ true → (c ≡ true) ⊎ (d ≡ true)
    one_way true true c d e f h = inr f
    one_way true false c d e f h = inl e
    one_way false b c d e f h = absurd cc

    other_way : (a b d : Bool) → d ≡ (a && b) → (a && not b) ≡ true → d ≡ false
    other_way true true d f h = absurd cc
    other_way true false d f h = f
    other_way false b d f h = absurd cc
