-- The states of the axes tell the members.
use Rattle.std.proofs.Common.{◌≡◌, ℕ, zero, suc, ◌+◌, ◌/◌, ◌%◌, ◌≤◌, ◌<◌, Bool, true, false, ◌&&◌, ◌||◌, List, [], ◌∷◌, length, refl, sym, ◌∙◌, ap, ap₂, subst, inl, inr, arith, true≢false}
use Rattle.std.specs.Prelude.{filter, slice_get, nat_lt, ◌==◌, Some}
use Rattle.std.specs.List.{list_all}
use Rattle.std.specs.Option.{option_map_or}
use Rattle.std.proofs.lemmas.Bool.{cases_Bool, and_parts, or_cases, eq-eqb, eqb-true, lt-ltb, le-ltb, ltb-true}
use Rattle.tpz_base.specs.declared.shape.Point.{Point}
use Rattle.tpz_base.specs.Points.{point}
use Rattle.tpz_base.proofs.CutLaw.{Member}
use Rattle.std.proofs.lemmas.Option.{slice_get_within}
use Rattle.tpz_base.proofs.Elements.{at_all}
use Rattle.tpz_base.proofs.Members.{filter-member}
use Rattle.tetra_name.specs.Steps.{coordinate, is_forwards, allows, is_allowed, is_member, long_axes, pairs, pair_lt, slot_at}
use Rattle.tetra_name.specs.States.{one, axis_state, states_of, edge_axes, ways, along_edge, across, third_direction, is_upper, other_before, quick_slot, cube_pairs, cube_pair, face_pair, edge_pair, edge_pair_at, quick_pair, quick_count}
use Rattle.tetra_name.specs.Names.{IsWithin}
use Rattle.tetra_name.specs.Places.{InBox}

-- a coordinate of each state in a cube of side 8
rep : ℕ → ℕ
rep zero = 1
rep (suc zero) = 3
rep (suc (suc zero)) = 2
rep (suc (suc (suc zero))) = 0
rep (suc (suc (suc (suc s)))) = 8

rep_point : Point → Point
rep_point S = point (rep S.x) (rep S.y) (rep S.z)

pair_eq : ℕ × ℕ → ℕ × ℕ → Bool
pair_eq q r = q.0 == r.0 && q.1 == r.1

eight : List ℕ
eight = 0 ∷ 1 ∷ 2 ∷ 3 ∷ 4 ∷ 5 ∷ 6 ∷ 7 ∷ []

five : List ℕ
five = 0 ∷ 1 ∷ 2 ∷ 3 ∷ 4 ∷ []

listed : Point → List (ℕ × ℕ)
listed S = filter (is_member 8 (rep_point S)) pairs

-- the quick words against the filter
check : Point → Bool
check S =
    edge_axes S == 0 || ((length (listed S) == quick_count S && nat_lt (length (listed S)) 9)
    && (list_all (λ i. option_map_or (λ q. pair_eq q (quick_pair S i)) (slice_get (listed S) i) true) eight
    && list_all (λ q. quick_slot S q == length (filter (λ r. pair_lt r q && is_member 8 (rep_point S) r) pairs)) (listed S)))

check_with : ℕ → Bool
check_with x = list_all (λ y. list_all (λ z. check (point x y z)) five) five

checked_0 : check_with 0 ≡ true
unfolding check_with check five eight listed pair_eq rep_point rep coordinate is_forwards allows is_allowed is_member long_axes pairs axis_state states_of edge_axes ways along_edge across third_direction is_upper other_before quick_slot cube_pairs cube_pair face_pair edge_pair edge_pair_at quick_pair quick_count
checked_0 = refl

checked_1 : check_with 1 ≡ true
unfolding check_with check five eight listed pair_eq rep_point rep coordinate is_forwards allows is_allowed is_member long_axes pairs axis_state states_of edge_axes ways along_edge across third_direction is_upper other_before quick_slot cube_pairs cube_pair face_pair edge_pair edge_pair_at quick_pair quick_count
checked_1 = refl

checked_2 : check_with 2 ≡ true
unfolding check_with check five eight listed pair_eq rep_point rep coordinate is_forwards allows is_allowed is_member long_axes pairs axis_state states_of edge_axes ways along_edge across third_direction is_upper other_before quick_slot cube_pairs cube_pair face_pair edge_pair edge_pair_at quick_pair quick_count
checked_2 = refl

checked_3 : check_with 3 ≡ true
unfolding check_with check five eight listed pair_eq rep_point rep coordinate is_forwards allows is_allowed is_member long_axes pairs axis_state states_of edge_axes ways along_edge across third_direction is_upper other_before quick_slot cube_pairs cube_pair face_pair edge_pair edge_pair_at quick_pair quick_count
checked_3 = refl

checked_4 : check_with 4 ≡ true
unfolding check_with check five eight listed pair_eq rep_point rep coordinate is_forwards allows is_allowed is_member long_axes pairs axis_state states_of edge_axes ways along_edge across third_direction is_upper other_before quick_slot cube_pairs cube_pair face_pair edge_pair edge_pair_at quick_pair quick_count
checked_4 = refl

five_member : (s : ℕ) → s < 5 → Member five s
unfolding five
five_member zero h = inl refl
five_member (suc zero) h = inr (inl refl)
five_member (suc (suc zero)) h = inr (inr (inl refl))
five_member (suc (suc (suc zero))) h = inr (inr (inr (inl refl)))
five_member (suc (suc (suc (suc zero)))) h = inr (inr (inr (inr (inl refl))))
five_member (suc (suc (suc (suc (suc s))))) h = absurd (omega (arith, h))

eight_member : (i : ℕ) → i < 8 → Member eight i
unfolding eight
eight_member zero h = inl refl
eight_member (suc zero) h = inr (inl refl)
eight_member (suc (suc zero)) h = inr (inr (inl refl))
eight_member (suc (suc (suc zero))) h = inr (inr (inr (inl refl)))
eight_member (suc (suc (suc (suc zero)))) h = inr (inr (inr (inr (inl refl))))
eight_member (suc (suc (suc (suc (suc zero))))) h = inr (inr (inr (inr (inr (inl refl)))))
eight_member (suc (suc (suc (suc (suc (suc zero)))))) h = inr (inr (inr (inr (inr (inr (inl refl))))))
eight_member (suc (suc (suc (suc (suc (suc (suc zero))))))) h = inr (inr (inr (inr (inr (inr (inr (inl refl)))))))
eight_member (suc (suc (suc (suc (suc (suc (suc (suc i)))))))) h = absurd (omega (arith, h))

checked_with : (x : ℕ) → x < 5 → check_with x ≡ true
checked_with zero h = checked_0
checked_with (suc zero) h = checked_1
checked_with (suc (suc zero)) h = checked_2
checked_with (suc (suc (suc zero))) h = checked_3
checked_with (suc (suc (suc (suc zero)))) h = checked_4
checked_with (suc (suc (suc (suc (suc x))))) h = absurd (omega (arith, h))

checked : (x y z : ℕ) → x < 5 → y < 5 → z < 5 → check (point x y z) ≡ true
unfolding check_with
checked x y z a b c = at_all (λ v. check (point x y v)) five z (at_all (λ v. list_all (λ w. check (point x v w)) five) five y (checked_with x a) (five_member y b)) (five_member z c)

-- what the check says
record Checked (S : Point) : Type 0 where
  count : length (listed S) ≡ quick_count S
  few : length (listed S) < 9
  pairs_are : (i : ℕ) → i < 8 → option_map_or (λ q. pair_eq q (quick_pair S i)) (slice_get (listed S) i) true ≡ true
  slots_are : (q : ℕ × ℕ) → Member (listed S) q → quick_slot S q ≡ length (filter (λ r. pair_lt r q && is_member 8 (rep_point S) r) pairs)

zero_or : (n : ℕ) → n == 0 ≡ true → n ≡ 0
zero_or n e = eqb-true n 0 e

of_checked : (S : Point) → S.x < 5 → S.y < 5 → S.z < 5 → 0 < edge_axes S → Checked S
unfolding check
of_checked S a b c some =
    elim (or_cases (edge_axes S == 0) _ (checked S.x S.y S.z a b c)) [
      | inl e ↦ absurd (omega (arith, some, zero_or (edge_axes S) e))
      | inr e ↦
          let k = and_parts (length (listed S) == quick_count S && nat_lt (length (listed S)) 9) _ e in
          let n = and_parts (length (listed S) == quick_count S) (nat_lt (length (listed S)) 9) k.0 in
          let l = and_parts (list_all (λ i. option_map_or (λ q. pair_eq q (quick_pair S i)) (slice_get (listed S) i) true) eight) _ k.1 in
          record {
            count = eqb-true (length (listed S)) (quick_count S) n.0;
            few = ltb-true (length (listed S)) 9 n.1;
            pairs_are = λ i lt. at_all (λ j. option_map_or (λ q. pair_eq q (quick_pair S j)) (slice_get (listed S) j) true) eight i l.0 (eight_member i lt);
            slots_are = λ q m. eqb-true (quick_slot S q) (length (filter (λ r. pair_lt r q && is_member 8 (rep_point S) r) pairs))
                (at_all (λ p. quick_slot S p == length (filter (λ r. pair_lt r p && is_member 8 (rep_point S) r) pairs)) (listed S) q l.1 m);
          }
    ]

-- a coordinate acts as that of its state
record SameState (N n : ℕ) : Type 0 where
  few : axis_state N n < 5
  long : n % 2 ≡ one (nat_lt (axis_state N n) 2)
  parity : n % 2 ≡ rep (axis_state N n) % 2
  may : (b : Bool) → allows N b n ≡ allows 8 b (rep (axis_state N n))

same_state : (N n : ℕ) → N % 2 ≡ 0 → 0 < N → n ≤ N → SameState N n
unfolding rep axis_state allows
same_state N n even pos le = cases (n % 4) refl where
  flat : n % 2 ≡ 0 → SameState N n
  flat h = elim (cases_Bool (n == 0)) [
    | inl z ↦
        let is : n ≡ 0 = eqb-true n 0 z in
        let up : nat_lt n N ≡ true = lt-ltb n N (omega (arith, is, pos)) in
        let down : nat_lt 0 n ≡ false = le-ltb 0 n (omega (arith, is)) in
        record { few = rw (h, z) (omega arith); long = rw (h, z) refl; parity = rw (h, z) refl; may = λ b. rw (h, z, up, down) refl }
    | inr z ↦ elim (cases_Bool (n == N)) [
      | inl t ↦
          let is : n ≡ N = eqb-true n N t in
          let up : nat_lt n N ≡ false = le-ltb n N (omega (arith, is)) in
          let down : nat_lt 0 n ≡ true = lt-ltb 0 n (omega (arith, is, pos)) in
          record { few = rw (h, z, t) (omega arith); long = rw (h, z, t) refl; parity = rw (h, z, t) refl; may = λ b. rw (h, z, t, up, down) refl }
      | inr t ↦
          let not_end : n ≡ N → ⊥ = λ f. true≢false (sym (eq-eqb n N f) ∙ t) in
          let not_zero : n ≡ 0 → ⊥ = λ f. true≢false (sym (eq-eqb n 0 f) ∙ z) in
          let up : nat_lt n N ≡ true = lt-ltb n N (omega (arith, not_end, le)) in
          let down : nat_lt 0 n ≡ true = lt-ltb 0 n (omega (arith, not_zero)) in
          record { few = rw (h, z, t) (omega arith); long = rw (h, z, t) refl; parity = rw (h, z, t) refl; may = λ b. rw (h, z, t, up, down) refl }
    ]
  ]

  cases : (r : ℕ) → n % 4 ≡ r → SameState N n
  cases zero e = flat (omega (arith, e))
  cases (suc zero) e =
      let odd : n % 2 ≡ 1 = omega (arith, e) in
      record { few = rw (odd, e) (omega arith); long = rw (odd, e) refl; parity = rw (odd, e) refl; may = λ b. rw (odd, e) refl }
  cases (suc (suc zero)) e = flat (omega (arith, e))
  cases (suc (suc (suc zero))) e =
      let odd : n % 2 ≡ 1 = omega (arith, e) in
      record { few = rw (odd, e) (omega arith); long = rw (odd, e) refl; parity = rw (odd, e) refl; may = λ b. rw (odd, e) refl }
  cases (suc (suc (suc (suc r)))) e = absurd (omega (arith, e))

filter_same : {X : Type 0} (p q : X → Bool) (xs : List X) → ((x : X) → p x ≡ q x) → filter p xs ≡ filter q xs
filter_same p q [] h = refl
filter_same p q (x ∷ xs) h = elim (cases_Bool (q x)) [
  | inl e ↦ (let k : p x ≡ true = h x ∙ e in rw (k, e) (ap (λ ys. x ∷ ys) (filter_same p q xs h)))
  | inr e ↦ (let k : p x ≡ false = h x ∙ e in rw (k, e) (filter_same p q xs h))
]

coordinate-states : (N d : ℕ) (u : Point) → coordinate d (states_of N u) ≡ axis_state N (coordinate d u)
unfolding coordinate states_of
coordinate-states N zero u = refl
coordinate-states N (suc zero) u = refl
coordinate-states N (suc (suc zero)) u = refl
coordinate-states N (suc (suc (suc zero))) u = refl
coordinate-states N (suc (suc (suc (suc zero)))) u = refl
coordinate-states N (suc (suc (suc (suc (suc d))))) u = refl

coordinate-rep : (d : ℕ) (S : Point) → coordinate d (rep_point S) ≡ rep (coordinate d S)
unfolding coordinate rep_point
coordinate-rep zero S = refl
coordinate-rep (suc zero) S = refl
coordinate-rep (suc (suc zero)) S = refl
coordinate-rep (suc (suc (suc zero))) S = refl
coordinate-rep (suc (suc (suc (suc zero)))) S = refl
coordinate-rep (suc (suc (suc (suc (suc d))))) S = refl

coordinate-in : (N d : ℕ) (u : Point) → InBox N u → coordinate d u ≤ N
unfolding coordinate
coordinate-in N zero u h = h.x
coordinate-in N (suc zero) u h = h.y
coordinate-in N (suc (suc zero)) u h = h.z
coordinate-in N (suc (suc (suc zero))) u h = h.z
coordinate-in N (suc (suc (suc (suc zero)))) u h = h.y
coordinate-in N (suc (suc (suc (suc (suc d))))) u h = h.x

module _ (N : ℕ) (u : Point) (box : InBox N u) (even : N % 2 ≡ 0) (some : 0 < long_axes u) where
  pos : 0 < N
  unfolding long_axes
  pos = omega (arith, box.x, box.y, box.z, some)

  S : Point
  S = states_of N u

  at : (d : ℕ) → SameState N (coordinate d u)
  at d = same_state N (coordinate d u) even pos (coordinate-in N d u box)

  x_same : SameState N u.x
  x_same = same_state N u.x even pos box.x

  y_same : SameState N u.y
  y_same = same_state N u.y even pos box.y

  z_same : SameState N u.z
  z_same = same_state N u.z even pos box.z

  axes_same : long_axes u ≡ long_axes (rep_point S)
  unfolding long_axes rep_point states_of S
  axes_same = ap₂ (λ m n. m + n) x_same.parity (ap₂ (λ m n. m + n) y_same.parity z_same.parity)

  pub axes_of_states : long_axes u ≡ edge_axes (states_of N u)
  unfolding long_axes edge_axes states_of
  axes_of_states = ap₂ (λ m n. m + n) x_same.long (ap₂ (λ m n. m + n) y_same.long z_same.long)

  turned_to : (d : ℕ) → coordinate d (rep_point S) ≡ rep (axis_state N (coordinate d u))
  unfolding S
  turned_to d = coordinate-rep d (states_of N u) ∙ ap rep (coordinate-states N d u)

  allowed_same : (d : ℕ) → is_allowed N u d ≡ is_allowed 8 (rep_point S) d
  unfolding is_allowed
  allowed_same d = (at d).may (is_forwards d) ∙ ap (allows 8 (is_forwards d)) (sym (turned_to d))

  parity_same : (d : ℕ) → coordinate d u % 2 ≡ coordinate d (rep_point S) % 2
  parity_same d = (at d).parity ∙ ap (λ n. n % 2) (sym (turned_to d))

  member_same : (q : ℕ × ℕ) → is_member N u q ≡ is_member 8 (rep_point S) q
  unfolding is_member
  member_same q =
      ap₂ (λ a b. a && b) (ap₂ (λ a b. a && b) (allowed_same q.0) (allowed_same q.1))
      (ap₂ (λ a b. a && b) (ap₂ (λ m n. m == n / 2) (parity_same q.0) axes_same) (ap₂ (λ m n. m == n / 3) (parity_same q.1) axes_same))

  listed_same : filter (is_member N u) pairs ≡ listed S
  unfolding listed
  listed_same = filter_same (is_member N u) (is_member 8 (rep_point S)) pairs member_same

  C : Checked S
  unfolding states_of S
  C = of_checked (states_of N u) x_same.few y_same.few z_same.few (omega (arith, some, axes_of_states))

  pub count_law : length (filter (is_member N u) pairs) ≡ quick_count (states_of N u)
  unfolding S
  count_law = ap length listed_same ∙ C.count

  pub slot_law : (q : ℕ × ℕ) → Member pairs q → is_member N u q ≡ true → quick_slot (states_of N u) q ≡ slot_at N u q
  unfolding S slot_at
  slot_law q m valid =
      let here : Member (listed (states_of N u)) q = subst (λ qs. Member qs q) listed_same (filter-member (is_member N u) pairs q m valid) in
      C.slots_are q here ∙ ap length (sym (filter_same (λ r. pair_lt r q && is_member N u r) (λ r. pair_lt r q && is_member 8 (rep_point (states_of N u)) r) pairs (λ r. ap (λ b. pair_lt r q && b) (member_same r))))

  pub slot_below : (slot : ℕ) (q : ℕ × ℕ) → slice_get (filter (is_member N u) pairs) slot ≡ Some q → slot < 8
  unfolding S
  slot_below slot q e = let w = slice_get_within (filter (is_member N u) pairs) slot q e in omega (arith, w, ap length listed_same, C.few)

  pub cube_slot : (slot : ℕ) (q : ℕ × ℕ) → slice_get (filter (is_member N u) pairs) slot ≡ Some q → edge_axes (states_of N u) ≡ 3 → slot < 6
  unfolding quick_count
  cube_slot slot q e three =
      let w = slice_get_within (filter (is_member N u) pairs) slot q e in
      let six : quick_count (states_of N u) ≡ 6 = rw three refl in
      omega (arith, w, count_law, six)

  pub pair_law : (slot : ℕ) (q : ℕ × ℕ) → slice_get (filter (is_member N u) pairs) slot ≡ Some q → quick_pair (states_of N u) slot ≡ q
  unfolding S pair_eq
  pair_law slot q e =
      let found : slice_get (listed (states_of N u)) slot ≡ Some q = ap (λ qs. slice_get qs slot) (sym listed_same) ∙ e in
      let test = subst (λ o. option_map_or (λ r. pair_eq r (quick_pair (states_of N u) slot)) o true ≡ true) found (C.pairs_are slot (slot_below slot q e)) in
      let k = and_parts (q.0 == (quick_pair (states_of N u) slot).0) (q.1 == (quick_pair (states_of N u) slot).1) test in
      same_pair (quick_pair (states_of N u) slot) q (sym (eqb-true q.0 (quick_pair (states_of N u) slot).0 k.0)) (sym (eqb-true q.1 (quick_pair (states_of N u) slot).1 k.1))
    where
      same_pair : (p r : ℕ × ℕ) → p.0 ≡ r.0 → p.1 ≡ r.1 → p ≡ r
      same_pair p r a b = ap₂ (λ (m n : ℕ). let x : ℕ × ℕ = (m, n) in x) a b

pub box_of : (N : ℕ) (u : Point) → IsWithin N u → InBox N u
box_of N u h = record { x = h.0; y = h.1; z = h.2 }
