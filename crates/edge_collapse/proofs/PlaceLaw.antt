-- The moves by numbers are those of the definition.
use Rattle.std.proofs.Common.{◌≡◌, ℕ, zero, suc, ◌+◌, ◌<◌, ◌≤◌, ◌⊎◌, Bool, true, false, not, ◌||◌, List, [], ◌∷◌, ◌++◌, map, take, drop, set, length, get_or, refl, sym, ◌∙◌, ap, ap₂, subst, inl, inr, arith, rules, add-one, zero-add, Some, true≢false}
use Rattle.std.specs.Prelude.{filter, slice_get, slice_index, All, zip, IsPermutation}
use Rattle.std.specs.List.{list_all, range_with_len, AllByRecursion, IsDistinct as IsDistinctBy}
use Rattle.std.specs.List.Sorted.{IsSortedBy}
use Rattle.std.specs.Ordering.{ordering_then, nat_cmp, is_lt}
use Rattle.std.proofs.Math.Path.{fun_ext}
use Rattle.std.proofs.Math.Seq.{drop-cons}
use Rattle.std.proofs.lemmas.Bool.{cases_Bool, cases_eq, or_cases, or_left, or_right, and_from, not-true, false_from_ne_true}
use Rattle.std.proofs.lemmas.List.{length-set, get_or-set_same, get_or-set_other, take_more, take_all, take-append-le, map-append, map-id}
use Rattle.std.proofs.lemmas.List.Elements.{All-head, All-tail, All-cons, All-nil, filter-append}
use Rattle.std.proofs.lemmas.List.FromFn.{length-range_with_len, get_or-range_with_len, map-range_with_len_more}
use Rattle.std.proofs.lemmas.List.Sorted.{IsPermutation-sym, All-permutation}
use Rattle.std.proofs.lemmas.Map.Keys.{IsDistinct-IsPermutation}
use Rattle.tpz_base.specs.declared.shape.Point.{Point}
use Rattle.tpz_base.specs.declared.shape.Tri.{Tri}
use Rattle.tpz_base.specs.declared.shape.Move.{Move}
use Rattle.tpz_base.specs.Lists.{has, in_order}
use Rattle.tpz_base.specs.Points.{point_eq, point_lt}
use Rattle.tpz_base.specs.Meshes.{Mesh, Edge, has_vertex, has_corner, is_whole, corners_of}
use Rattle.tpz_base.specs.Collapses.{image, replaced, replaced_in, collapsed, next_pair, move_to}
use Rattle.tpz_base.proofs.CutLaw.{Member}
use Rattle.tpz_base.proofs.Members.{member-filter, filter-member}
use Rattle.tpz_base.proofs.Elements.{Ascending, IsTransitive, member-map, map-member, has-member, in_order-member, in_order-ascending, ascending_from}
use Rattle.tpz_base.proofs.MovesLaw.{vertex-corner}
use Rattle.tpz_base.proofs.PointLemmas.{point_eq-true, point_eq_sym, eq-point_eq}
use Rattle.tpz_base.proofs.PointOrder.{point_lt_tie, point_lt-through, point_lt-same}
use Rattle.tpz_base.proofs.SimplifyLaw.{next_is_legal, cases_option, corner_is}
use Rattle.patch_mesh.specs.Slots.{point_at, IsDistinct}
use Rattle.patch_mesh.proofs.PlaceLaw.{got_point}
use Rattle.edge_collapse.specs.declared.pair.Pair.{Pair}
use Rattle.edge_collapse.specs.Places.{ends_at, taken_by, AreLed, moves_between, moves_among, starts_below}
use Rattle.edge_collapse.proofs.LeastLaw.{legal_pair}

-- two ascending lists with the same elements are one
ascending_same : {X : Type 0} (below : X → X → Bool) → IsTransitive below → ((x : X) → below x x ≡ false) → (xs ys : List X) → Ascending below xs → Ascending below ys
    → ((x : X) → Member xs x → Member ys x) → ((x : X) → Member ys x → Member xs x) → xs ≡ ys
ascending_same below through never [] [] h k there back = refl
ascending_same below through never [] (y ∷ ys) h k there back = absurd (back y (inl refl))
ascending_same below through never (x ∷ xs) [] h k there back = absurd (there x (inl refl))
ascending_same {X} below through never (x ∷ xs) (y ∷ ys) h k there back =
    let first : x ≡ y =
    elim (there x (inl refl)) [
      | inl e ↦ sym e
      | inr m ↦ elim (back y (inl refl)) [
        | inl e ↦ e
        | inr n ↦ absurd (true≢false (sym (through x y x (h.0 y n) (k.0 x m)) ∙ never x))
      ]
    ] in
    let not_first : (z : X) → below x z ≡ true → x ≡ z → ⊥ = λ z b e. true≢false (sym b ∙ subst (λ v. below x v ≡ false) e (never x)) in
    let rest : xs ≡ ys =
    ascending_same below through never xs ys h.1 k.1
    (λ z m. elim (there z (inr m)) [ inl e ↦ absurd (not_first z (h.0 z m) (first ∙ e)) | inr n ↦ n ])
    (λ z m. elim (back z (inr m)) [ inl e ↦ absurd (not_first z (subst (λ v. below v z ≡ true) (sym first) (k.0 z m)) e) | inr n ↦ n ]) in
    ap₂ (λ v vs. v ∷ vs) first rest

-- what holds of all elements, at one of them
all_member : {X : Type 0} (P : X → Type 0) (xs : List X) → All P xs → (x : X) → Member xs x → P x
all_member P [] h x m = absurd m
all_member P (y ∷ ys) h x m = elim m [ inl e ↦ subst P e (All-head P y ys h) | inr k ↦ all_member P ys (All-tail P y ys h) x k ]

member_all : {X : Type 0} (P : X → Type 0) (xs : List X) → ((x : X) → Member xs x → P x) → All P xs
member_all P [] h = All-nil P
member_all P (x ∷ xs) h = All-cons P x xs (h x (inl refl)) (member_all P xs (λ y m. h y (inr m)))

-- a list and its permutation have the same elements
permuted_member : {X : Type 0} (xs ys : List X) → IsPermutation xs ys → (x : X) → Member xs x → Member ys x
permuted_member xs ys same x m =
    all_member (Member ys) xs (All-permutation (Member ys) ys xs (IsPermutation-sym xs ys same) (member_all (Member ys) ys (λ y n. n))) x m

-- f takes v elsewhere
abbrev goes : (Point → Point) → Point → Bool
goes f v = not (point_eq v (f v))

member_among : (f : Point → Point) (vs : List Point) (m : Move) → Member (moves_among f vs) m → (v : Point) × Member vs v × (goes f v ≡ true) × (move_to f v ≡ m)
member_among f vs m h =
    let r = member-map (move_to f) (filter (goes f) vs) m h in
    let q = member-filter (goes f) vs r.0 r.1 in
    (r.0, q.0, q.1, r.2)

among_member : (f : Point → Point) (vs : List Point) (v : Point) → Member vs v → goes f v ≡ true → Member (moves_among f vs) (move_to f v)
among_member f vs v m e = map-member (move_to f) (filter (goes f) vs) v (filter-member (goes f) vs v m e)

among_yes : (f : Point → Point) (v : Point) (vs : List Point) → goes f v ≡ true → moves_among f (v ∷ vs) ≡ move_to f v ∷ moves_among f vs
among_yes f v vs e = rw e refl

among_no : (f : Point → Point) (v : Point) (vs : List Point) → goes f v ≡ false → moves_among f (v ∷ vs) ≡ moves_among f vs
among_no f v vs e = rw e refl

-- moves of points in order are in order
among_ascending : (f : Point → Point) (vs : List Point) → Ascending point_lt vs → Ascending starts_below (moves_among f vs)
among_ascending f [] h = tt
among_ascending f (v ∷ vs) h =
    elim (cases_Bool (goes f v)) [
      | inl e ↦ subst (Ascending starts_below) (sym (among_yes f v vs e)) (
        λ m k. (let r = member_among f vs m k in subst (λ (n : Move). point_lt v n.from ≡ true) r.3 (h.0 r.0 r.1)),
        among_ascending f vs h.1,
      )
      | inr e ↦ subst (Ascending starts_below) (sym (among_no f v vs e)) (among_ascending f vs h.1)
    ]

-- the moves start at one point
abbrev same_start : Move → Move → Bool
same_start m n = point_eq m.from n.from

by_place : (P : Point → Type 0) (vs : List Point) → ((i : ℕ) → i < length vs → P (point_at vs i)) → AllByRecursion P vs
by_place P [] h = tt
by_place P (v ∷ vs) h = (h 0 (omega arith), by_place P vs (λ i l. h (suc i) (omega (arith, l))))

points_differ : (vs : List Point) → IsDistinct vs → IsDistinctBy point_eq vs
unfolding IsDistinctBy
points_differ [] h = tt
points_differ (v ∷ vs) h = (
  by_place (λ y. point_eq v y ≡ false) vs (λ i l. false_from_ne_true (point_eq v (point_at vs i)) (λ e.
      let same : 0 ≡ suc i = h.once 0 (suc i) e (omega arith) (omega (arith, l)) in omega (arith, same))),
  points_differ vs (record { once = λ i j e l k. (let same : suc i ≡ suc j = h.once (suc i) (suc j) e (omega (arith, l)) (omega (arith, k)) in omega (arith, same)) }),
)

starts_apart : (f : Point → Point) (v : Point) (vs : List Point) → AllByRecursion (λ y. point_eq v y ≡ false) vs
    → AllByRecursion (λ (n : Move). point_eq v n.from ≡ false) (moves_among f vs)
starts_apart f v [] h = tt
starts_apart f v (y ∷ ys) h =
    let P : List Move → Type 0 = λ ms. AllByRecursion (λ (n : Move). point_eq v n.from ≡ false) ms in
    elim (cases_Bool (goes f y)) [
      | inl e ↦ subst P (sym (among_yes f y ys e)) (h.0, starts_apart f v ys h.1)
      | inr e ↦ subst P (sym (among_no f y ys e)) (starts_apart f v ys h.1)
    ]

starts_differ : (f : Point → Point) (vs : List Point) → IsDistinctBy point_eq vs → IsDistinctBy same_start (moves_among f vs)
unfolding IsDistinctBy
starts_differ f [] h = tt
starts_differ f (v ∷ vs) h =
    elim (cases_Bool (goes f v)) [
      | inl e ↦ subst (IsDistinctBy same_start) (sym (among_yes f v vs e)) (starts_apart f v vs h.0, starts_differ f vs h.1)
      | inr e ↦ subst (IsDistinctBy same_start) (sym (among_no f v vs e)) (starts_differ f vs h.1)
    ]

-- no move starts below the one before it
abbrev Falls : List Move → Type 0
Falls ms = (k : ℕ) (d : Move) → suc k < length ms → starts_below (get_or ms (suc k) d) (get_or ms k d) ≡ false

-- in a sorted list of moves with different starts each starts below the next
adjacent : (ms : List Move) → IsDistinctBy same_start ms → Falls ms → list_all (λ (e : Move × Move). starts_below e.0 e.1) (zip ms (drop 1 ms)) ≡ true
unfolding IsDistinctBy
adjacent [] differ up = refl
adjacent (m ∷ []) differ up = refl
adjacent (m ∷ n ∷ ms) differ up =
    let back : starts_below n m ≡ false = up 0 m (omega arith) in
    let here : starts_below m n ≡ true =
    elim (cases_Bool (starts_below m n)) [
      | inl e ↦ e
      | inr e ↦ absurd (true≢false (sym (eq-point_eq m.from n.from (point_lt_tie m.from n.from e back)) ∙ differ.0.0))
    ] in
    and_from (starts_below m n) _ here (adjacent (n ∷ ms) differ.1 (λ k d l. up (suc k) d (omega (arith, l))))

through : IsTransitive starts_below
through m n o h k = point_lt-through m.from n.from o.from h k

sorted_ascending : (ms : List Move) → IsDistinctBy same_start ms → IsSortedBy starts_below ms → Ascending starts_below ms
sorted_ascending ms differ sorted =
    ascending_from starts_below through ms (adjacent ms differ (λ k d l.
    (let e : k + 1 ≡ suc k = omega arith in
    subst (λ i. starts_below (get_or ms i d) (get_or ms k d) ≡ false) e (sorted k d (omega arith) (omega (arith, l))))))

goes_vertex : (M : Mesh) (f : Point → Point) (p : Point) → ((p : Point) → has_vertex M p ≡ false → f p ≡ p) → goes f p ≡ true → has_vertex M p ≡ true
goes_vertex M f p rests e =
    elim (cases_Bool (has_vertex M p)) [
      | inl h ↦ h
      | inr h ↦ absurd (true≢false (sym (eq-point_eq p (f p) (sym (rests p h))) ∙ not-true (point_eq p (f p)) e))
    ]

-- sorted moves of the vertices are those of the definition
pub sorted_moves : (vs : List Point) (g : Point → Point) (made ms : List Move) → IsDistinct vs → made ≡ moves_among g vs → IsPermutation made ms → IsSortedBy starts_below ms
    → (M : Mesh) (f : Point → Point) → ((p : Point) → has_vertex M p ≡ true → has point_eq vs p ≡ true) → ((p : Point) → f p ≡ g p)
    → ((p : Point) → has_vertex M p ≡ false → f p ≡ p)
    → ms ≡ moves_among f (in_order point_lt (corners_of M))
sorted_moves vs g made ms distinct is moved sorted M f listed same rests =
    let is' : made ≡ moves_among f vs = is ∙ ap (λ (h : Point → Point). moves_among h vs) (sym (fun_ext same)) in
    let moved' : IsPermutation (moves_among f vs) ms = subst (λ xs. IsPermutation xs ms) is' moved in
    let differ = IsDistinct-IsPermutation same_start (λ m n. point_eq_sym m.from n.from) (moves_among f vs) ms moved' (starts_differ f vs (points_differ vs distinct)) in
    let ordered = in_order point_lt (corners_of M) in
    ascending_same starts_below through (λ m. point_lt-same m.from) ms (moves_among f ordered)
    (sorted_ascending ms differ sorted)
    (among_ascending f ordered (in_order-ascending point_lt point_lt-through (corners_of M)))
    (λ m k.
    let r = member_among f vs m (permuted_member ms (moves_among f vs) (IsPermutation-sym (moves_among f vs) ms moved') m k) in
    let here = has-member (corners_of M) r.0 (vertex-corner M r.0 (goes_vertex M f r.0 rests r.2)) in
    subst (Member (moves_among f ordered)) r.3 (among_member f ordered r.0 (in_order-member point_lt point_lt_tie (corners_of M) r.0 here) r.2))
    (λ m k.
    let r = member_among f ordered m k in
    let here = has-member vs r.0 (listed r.0 (goes_vertex M f r.0 rests r.2)) in
    permuted_member (moves_among f vs) ms moved' m (subst (Member (moves_among f vs)) r.3 (among_member f vs r.0 here r.2)))

-- the derived order of points
pub point_cmp_is : (p q : Point) → is_lt (ordering_then (nat_cmp p.x q.x) (ordering_then (nat_cmp p.y q.y) (nat_cmp p.z q.z))) ≡ point_lt p q
point_cmp_is p q = search rules

-- before any collapse each vertex is in its own place
pub start_led : (vs : List Point) (ps : List ℕ) (n : ℕ) → ps ≡ range_with_len 0 n → n ≡ length vs → AreLed vs [] ps
unfolding taken_by
start_led vs ps n e l =
    let at : (v : ℕ) → v < length vs → slice_index ps v ≡ v =
    λ v h. ap (λ xs. slice_index xs v) e ∙ get_or-range_with_len 0 n v 0 (omega (arith, h, l)) ∙ (let z : 0 + v ≡ v = omega arith in z) in
    record {
      long = ap length e ∙ length-range_with_len 0 n ∙ l;
      within = λ v h. (let a = at v h in omega (arith, a, h));
      led = λ v h. ap (point_at vs) (at v h);
    }

pub range_more : (v : ℕ) → range_with_len 0 (v + 1) ≡ range_with_len 0 v ++ v ∷ []
range_more v = sym (map-id _) ∙ map-range_with_len_more (λ k. k) 0 v v (zero-add v) ∙ ap (λ xs. xs ++ v ∷ []) (map-id _)

-- a vector holds what was written into the slice of its elements
pub written_back : (xs ys : List ℕ) (n : ℕ) → n ≡ length xs → take n (xs ++ drop (length xs) ys) ≡ xs
written_back xs ys n e =
    let within : n ≤ length xs = omega arith in
    take-append-le n xs (drop (length xs) ys) within ∙ take_all n xs (omega (arith, e))

-- a pair before the others
pub follow_led : (vs : List Point) (es : List Edge) (ps qs : List ℕ) (k : Pair) → IsDistinct vs → k.from < length vs → k.to < length vs → AreLed vs es ps
    → qs ≡ set ps k.from (slice_index ps k.to) → AreLed vs (ends_at vs k ∷ es) qs
unfolding taken_by
follow_led vs es ps qs k distinct from to h e =
    let long = h.long in
    let here : (v : ℕ) → v ≡ k.from → slice_index qs v ≡ slice_index ps k.to =
    λ v same. ap₂ (λ xs i. slice_index xs i) e same ∙ get_or-set_same ps k.from (slice_index ps k.to) 0 (omega arith) in
    let there : (v : ℕ) → (v ≡ k.from → ⊥) → slice_index qs v ≡ slice_index ps v =
    λ v other. ap (λ xs. slice_index xs v) e ∙ get_or-set_other ps k.from v (slice_index ps k.to) 0 other in
    record {
      long = ap length e ∙ length-set ps k.from (slice_index ps k.to) ∙ long;
      within = λ v l. elim (cases_eq v k.from) [
        | inl same ↦ (let a = here v same in let b = h.within k.to to in omega (arith, a, b))
        | inr other ↦ (let a = there v other in let b = h.within v l in omega (arith, a, b))
      ];
      led = λ v l. elim (cases_eq v k.from) [
        | inl same ↦
            let is : point_eq (point_at vs v) (point_at vs k.from) ≡ true = eq-point_eq _ _ (ap (point_at vs) same) in
            rw is (ap (point_at vs) (here v same) ∙ h.led k.to to)
        | inr other ↦
            let is : point_eq (point_at vs v) (point_at vs k.from) ≡ false = false_from_ne_true _ (λ y. other (distinct.once v k.from y l from)) in
            rw is (ap (point_at vs) (there v other) ∙ h.led v l)
      ];
    }

-- from the last pair on
pub follow_down : (vs : List Point) (pairs : List Pair) (i : ℕ) (d : Pair) (ps qs : List ℕ) → IsDistinct vs
    → All (λ (k : Pair). (k.from < length vs) × (k.to < length vs)) pairs
    → i < length pairs → AreLed vs (map (ends_at vs) (drop (i + 1) pairs)) ps
    → qs ≡ set ps (get_or pairs i d).from (slice_index ps (get_or pairs i d).to) → AreLed vs (map (ends_at vs) (drop i pairs)) qs
follow_down vs pairs i d ps qs distinct all l h e =
    let k = get_or pairs i d in
    let split : drop i pairs ≡ k ∷ drop (i + 1) pairs = rw add-one (drop-cons pairs i d l) in
    let within = all i d l in
    subst (λ ks. AreLed vs (map (ends_at vs) ks) qs) (sym split) (follow_led vs (map (ends_at vs) (drop (i + 1) pairs)) ps qs k distinct within.0 within.1 h e)

-- the move of one more vertex
pub among_more : (f : Point → Point) (vs : List Point) (i : ℕ) → i < length vs
    → moves_among f (take (i + 1) vs) ≡ moves_among f (take i vs) ++ moves_between (point_at vs i) (f (point_at vs i))
among_more f vs i l =
    let v = point_at vs i in
    let one : moves_among f (v ∷ []) ≡ moves_between v (f v) =
    elim (cases_Bool (point_eq v (f v))) [ inl e ↦ rw e refl | inr e ↦ rw e refl ] in
    ap (moves_among f) (take_more vs i _ l)
    ∙ ap (map (move_to f)) (filter-append (goes f) (take i vs) (v ∷ []))
    ∙ map-append (move_to f) (filter (goes f) (take i vs)) (filter (goes f) (v ∷ []))
    ∙ ap (λ ms. moves_among f (take i vs) ++ ms) one

pub among_all : (vs : List Point) (n : ℕ) → n ≡ length vs → take n vs ≡ vs
among_all vs n e = take_all n vs (omega (arith, e))

-- a number twice is no move
pub between_same : (vs : List Point) (v w : ℕ) → v ≡ w → moves_between (point_at vs v) (point_at vs w) ≡ []
between_same vs v w e = let y : point_eq (point_at vs v) (point_at vs w) ≡ true = eq-point_eq _ _ (ap (point_at vs) e) in rw y refl

-- two numbers are
pub between_other : (vs : List Point) (v w : ℕ) (p q : Point) → IsDistinct vs → (v ≡ w → ⊥) → v < length vs → w < length vs → slice_get vs v ≡ Some p → slice_get vs w ≡ Some q
    → moves_between (point_at vs v) (point_at vs w) ≡ record { from = p; to = q } ∷ []
between_other vs v w p q distinct other from to is_p is_q =
    let n : point_eq (point_at vs v) (point_at vs w) ≡ false = false_from_ne_true _ (λ y. other (distinct.once v w y from to)) in
    rw n (ap₂ (λ (a b : Point). record { from = a; to = b } ∷ []) (got_point vs v p is_p) (got_point vs w q is_q))

corner_after : (u w v : Point) (t : Tri) → has_corner v (replaced_in u w t) ≡ true → (has_corner v t ≡ true) ⊎ (w ≡ v)
corner_after u w v t h =
    elim (corner_is v (replaced_in u w t) h) [
      | inl e ↦ elim (was t.a e) [ inl k ↦ inl (or_left (point_eq t.a v) _ k) | inr k ↦ inr k ]
      | inr r ↦ elim r [
        | inl e ↦ elim (was t.b e) [ inl k ↦ inl (or_right (point_eq t.a v) _ (or_left (point_eq t.b v) _ k)) | inr k ↦ inr k ]
        | inr e ↦ elim (was t.c e) [ inl k ↦ inl (or_right (point_eq t.a v) _ (or_right (point_eq t.b v) _ k)) | inr k ↦ inr k ]
      ]
    ]
  where
    was : (p : Point) → replaced u w p ≡ v → (point_eq p v ≡ true) ⊎ (w ≡ v)
    was p e =
        elim (cases_Bool (point_eq p u)) [
          | inl k ↦ inr (rw k at e)
          | inr k ↦ (let same : p ≡ v = rw k at e in inl (eq-point_eq p v same))
        ]

-- a vertex of the image was one, or is w
image_was : (M : Mesh) (u w v : Point) → has_vertex (image M u w) v ≡ true → (has_vertex M v ≡ true) ⊎ (w ≡ v)
image_was [] u w v h = inl h
image_was (t ∷ M) u w v h =
    elim (cases_Bool (is_whole (replaced_in u w t))) [
      | inl e ↦
          let k : has_corner v (replaced_in u w t) || has_vertex (image M u w) v ≡ true = rw e at h in
          elim (or_cases (has_corner v (replaced_in u w t)) (has_vertex (image M u w) v) k) [
            | inl c ↦ elim (corner_after u w v t c) [ inl a ↦ inl (or_left (has_corner v t) _ a) | inr a ↦ inr a ]
            | inr c ↦ elim (image_was M u w v c) [ inl a ↦ inl (or_right (has_corner v t) _ a) | inr a ↦ inr a ]
          ]
      | inr e ↦
          let k : has_vertex (image M u w) v ≡ true = rw e at h in
          elim (image_was M u w v k) [ inl a ↦ inl (or_right (has_corner v t) _ a) | inr a ↦ inr a ]
    ]

-- what isn't a vertex stays
pub unmoved : (n target : ℕ) (M : Mesh) (p : Point) → has_vertex M p ≡ false → (collapsed n target M).place p ≡ p
unmoved zero target M p h = refl
unmoved (suc n) target M p h =
    elim (cases_option (next_pair target M)) [
      | inl none ↦ rw none refl
      | inr found ↦
          let e = found.0 in
          let pair = legal_pair M e.0 e.1 (next_is_legal target M e found.1) in
          let apart : point_eq p e.0 ≡ false = false_from_ne_true (point_eq p e.0) (λ k.
          true≢false (sym (subst (λ v. has_vertex M v ≡ true) (sym (point_eq-true p e.0 k)) pair.from) ∙ h)) in
          let none : has_vertex (image M e.0 e.1) p ≡ false = false_from_ne_true (has_vertex (image M e.0 e.1) p) (λ k.
          elim (image_was M e.0 e.1 p k) [
            | inl a ↦ true≢false (sym a ∙ h)
            | inr a ↦ true≢false (sym (subst (λ v. has_vertex M v ≡ true) a pair.to) ∙ h)
          ]) in
          rw (found.1, apart) (unmoved n target (image M e.0 e.1) p none)
    ]
