-- The members of a diamond, in closed form.
use Rattle.std.proofs.Common.{◌≡◌, ℕ, zero, suc, ◌*◌, ◌%◌, ◌≤◌, ◌<◌, ◌⊎◌, Bool, true, false, List, [], ◌∷◌, map, refl, sym, ◌∙◌, ap, subst, inl, inr, arith}
use Rattle.std.specs.Prelude.{filter}
use Rattle.std.specs.List.{AllByRecursion}
use Rattle.std.proofs.lemmas.Bool.{cases_Bool, ltb-true}
use Rattle.std.proofs.Math.Nat.{mul-lt-mul_of_pos_left}
use Rattle.tpz_base.specs.declared.shape.Point.{Point}
use Rattle.tpz_base.specs.Lists.{sort_by}
use Rattle.tpz_base.specs.Points.{point_eq, point_scale}
use Rattle.tpz_base.specs.Tetrahedra.{Tetrahedron, diamond, descendants, members, points_lt}
use Rattle.tpz_base.proofs.CutLaw.{Member}
use Rattle.tpz_base.proofs.Distinct.{all_at, tetrahedron_cong}
use Rattle.tpz_base.proofs.Members.{member-filter, one_level_of, NoTwice, descendants_once}
use Rattle.tpz_base.proofs.PointLemmas.{point_eq-true}
use Rattle.tetra_name.specs.Steps.{moved, coordinate, is_forwards, start, start_point, allows, is_member, long_axes, pair_lt, pairs, cube_corners, face_corners, edge_corners, corners_at, member_at, members_closed}
use Rattle.tetra_name.proofs.Sorting.{Below, ListBelow, list_below-true, true-list_below, list_below_trans, list_below_or, Strict, insert_member, insert_strict}
use Rattle.tetra_name.proofs.Directions.{moved_below, PairBelow, pairs_sorted, below_six, pair_below}
use Rattle.tetra_name.proofs.Closed.{start_down, long_allows, member_parts, cube_kind, face_kind, edge_kind}

-- a step on one axis leaves the others alone
abbrev pub OtherAxis : ℕ × ℕ → Type 0
OtherAxis q = (s : ℕ) (p : Point) → coordinate q.1 (moved s q.0 p) ≡ coordinate q.1 p

other_axis_all : AllByRecursion OtherAxis pairs
unfolding pairs moved coordinate
other_axis_all =
    (λ s p. refl, (λ s p. refl, (λ s p. refl, (λ s p. refl, (λ s p. refl, (λ s p. refl, (λ s p. refl, (λ s p. refl, (λ s p. refl, (λ s p. refl, (λ s p. refl, (λ s p. refl, (λ s p. refl, (λ s p. refl, (λ s p. refl, (λ s p. refl, (λ s p. refl, (λ s p. refl, (λ s p. refl, (λ s p. refl, (λ s p. refl, (λ s p. refl, (λ s p. refl, (λ s p. refl, tt))))))))))))))))))))))))

pub other_axis : (q : ℕ × ℕ) → Member pairs q → OtherAxis q
other_axis q m = all_at OtherAxis pairs other_axis_all q m

pub coordinate-start : (d : ℕ) (u : Point) → coordinate d (start_point u) ≡ start (coordinate d u)
unfolding coordinate start_point
coordinate-start zero u = refl
coordinate-start (suc zero) u = refl
coordinate-start (suc (suc zero)) u = refl
coordinate-start (suc (suc (suc zero))) u = refl
coordinate-start (suc (suc (suc (suc zero)))) u = refl
coordinate-start (suc (suc (suc (suc (suc d))))) u = refl

-- a step backwards that is allowed stays above 0
room_long : (N n : ℕ) → n % 2 ≡ 1 → allows N false n ≡ true → 2 ≤ start n
room_long N n o h = let e = long_allows N false n o h in omega (arith, e, start_down n e)

room_flat : (N n : ℕ) → n % 2 ≡ 0 → allows N false n ≡ true → 1 ≤ n
unfolding allows
room_flat N n e h = ltb-true 0 n (rw e at h)

long_room : (N : ℕ) (b : Bool) (n : ℕ) → n % 2 ≡ 1 → allows N b n ≡ true → (b ≡ true) ⊎ (2 ≤ start n)
long_room N true n o h = inl refl
long_room N false n o h = inr (room_long N n o h)

flat_room : (N : ℕ) (b : Bool) (n : ℕ) → n % 2 ≡ 0 → allows N b n ≡ true → (b ≡ true) ⊎ (1 ≤ n)
flat_room N true n o h = inl refl
flat_room N false n o h = inr (room_flat N n o h)

pub record Rooms (s : ℕ) (u : Point) (q : ℕ × ℕ) : Type 0 where
  pub one : (is_forwards q.0 ≡ true) ⊎ (s ≤ coordinate q.0 u)
  pub two : (is_forwards q.1 ≡ true) ⊎ (s ≤ coordinate q.1 u)

pub cube_rooms : (N : ℕ) (u : Point) (q : ℕ × ℕ) → long_axes u ≡ 3 → is_member N u q ≡ true → Rooms 2 (start_point u) q
cube_rooms N u q o valid =
    let a = member_parts N u q.0 q.1 (is_forwards q.0) (is_forwards q.1) (coordinate q.0 u) (coordinate q.1 u) refl refl refl refl valid in
    record {
      one = rw coordinate-start (long_room N (is_forwards q.0) (coordinate q.0 u) (omega (arith, a.m_odd, o)) a.may);
      two = rw coordinate-start (long_room N (is_forwards q.1) (coordinate q.1 u) (omega (arith, a.n_odd, o)) a.may');
    }

pub face_room_0 : (N : ℕ) (u : Point) (q : ℕ × ℕ) → long_axes u ≡ 2 → is_member N u q ≡ true → (is_forwards q.0 ≡ true) ⊎ (2 ≤ coordinate q.0 (start_point u))
face_room_0 N u q o valid =
    let a = member_parts N u q.0 q.1 (is_forwards q.0) (is_forwards q.1) (coordinate q.0 u) (coordinate q.1 u) refl refl refl refl valid in
    rw coordinate-start (long_room N (is_forwards q.0) (coordinate q.0 u) (omega (arith, a.m_odd, o)) a.may)

pub face_room_1 : (N : ℕ) (u : Point) (q : ℕ × ℕ) → long_axes u ≡ 2 → is_member N u q ≡ true → (is_forwards q.1 ≡ true) ⊎ (1 ≤ coordinate q.1 u)
face_room_1 N u q o valid =
    let a = member_parts N u q.0 q.1 (is_forwards q.0) (is_forwards q.1) (coordinate q.0 u) (coordinate q.1 u) refl refl refl refl valid in
    flat_room N (is_forwards q.1) (coordinate q.1 u) (omega (arith, a.n_odd, o)) a.may'

pub edge_rooms : (N : ℕ) (u : Point) (q : ℕ × ℕ) → long_axes u ≡ 1 → is_member N u q ≡ true → Rooms 1 u q
edge_rooms N u q o valid =
    let a = member_parts N u q.0 q.1 (is_forwards q.0) (is_forwards q.1) (coordinate q.0 u) (coordinate q.1 u) refl refl refl refl valid in
    record {
      one = flat_room N (is_forwards q.0) (coordinate q.0 u) (omega (arith, a.m_odd, o)) a.may;
      two = flat_room N (is_forwards q.1) (coordinate q.1 u) (omega (arith, a.n_odd, o)) a.may';
    }

-- the earlier pair has the greater corners
module _ (N : ℕ) (u : Point) (q r : ℕ × ℕ) (mr : Member pairs r) (valid : is_member N u r ≡ true) (below : PairBelow q r) where
  six0 : r.0 < 6
  six0 = (below_six r mr).0

  six1 : r.1 < 6
  six1 = (below_six r mr).1

  pub cube_below : long_axes u ≡ 3 → ListBelow (cube_corners u r) (cube_corners u q)
  unfolding cube_corners
  cube_below o =
      let room = cube_rooms N u r o valid in
      elim below [
        | inl lt ↦ inr (refl, inl (moved_below 2 q.0 r.0 (start_point u) (omega arith) lt six0 room.one))
        | inr e ↦
            let same : moved 2 r.0 (start_point u) ≡ moved 2 q.0 (start_point u) = ap (λ d. moved 2 d (start_point u)) (sym e.0) in
            let here : (is_forwards r.1 ≡ true) ⊎ (2 ≤ coordinate r.1 (moved 2 r.0 (start_point u))) = rw (other_axis r mr 2 (start_point u)) room.two in
            let lower = moved_below 2 q.1 r.1 (moved 2 r.0 (start_point u)) (omega arith) e.1 six1 here in
            inr (refl, inr (same, inl (subst (λ p. Below (moved 2 r.1 (moved 2 r.0 (start_point u))) (moved 2 q.1 p)) same lower)))
      ]

  pub face_below : long_axes u ≡ 2 → ListBelow (face_corners u r) (face_corners u q)
  unfolding face_corners
  face_below o =
      elim below [
        | inl lt ↦ inr (refl, inl (moved_below 2 q.0 r.0 (start_point u) (omega arith) lt six0 (face_room_0 N u r o valid)))
        | inr e ↦
            let same : moved 2 r.0 (start_point u) ≡ moved 2 q.0 (start_point u) = ap (λ d. moved 2 d (start_point u)) (sym e.0) in
            inr (refl, inr (same, inr (refl, inl (moved_below 1 q.1 r.1 u (omega arith) e.1 six1 (face_room_1 N u r o valid)))))
      ]

  pub edge_below : long_axes u ≡ 1 → ListBelow (edge_corners u r) (edge_corners u q)
  unfolding edge_corners
  edge_below o =
      let room = edge_rooms N u r o valid in
      elim below [
        | inl lt ↦ inr (refl, inr (refl, inl (moved_below 1 q.0 r.0 u (omega arith) lt six0 room.one)))
        | inr e ↦
            let same : moved 1 r.0 u ≡ moved 1 q.0 u = ap (λ d. moved 1 d u) (sym e.0) in
            let here : (is_forwards r.1 ≡ true) ⊎ (1 ≤ coordinate r.1 (moved 1 r.0 u)) = rw (other_axis r mr 1 u) room.two in
            let lower = moved_below 1 q.1 r.1 (moved 1 r.0 u) (omega arith) e.1 six1 here in
            inr (refl, inr (refl, inr (same, inl (subst (λ p. Below (moved 1 r.1 (moved 1 r.0 u)) (moved 1 q.1 p)) same lower))))
      ]

-- a scale keeps the order
times_below : (h m n : ℕ) → 0 < h → m < n → h * m < h * n
times_below h m n pos lt = mul-lt-mul_of_pos_left lt pos

pub scale_below : (h : ℕ) → 0 < h → (p q : Point) → Below p q → Below (point_scale h p) (point_scale h q)
scale_below h pos p q b =
    elim b [
      | inl x ↦ inl (times_below h p.x q.x pos x)
      | inr k ↦ elim k.1 [
        | inl y ↦ inr (ap (λ n. h * n) k.0, inl (times_below h p.y q.y pos y))
        | inr z ↦ inr (ap (λ n. h * n) k.0, inr (ap (λ n. h * n) z.0, times_below h p.z q.z pos z.1))
      ]
    ]

scale_list_below : (h : ℕ) → 0 < h → (ps qs : List Point) → ListBelow ps qs → ListBelow (map (point_scale h) ps) (map (point_scale h) qs)
scale_list_below h pos [] [] b = b
scale_list_below h pos [] (q ∷ qs) b = tt
scale_list_below h pos (p ∷ ps) [] b = b
scale_list_below h pos (p ∷ ps) (q ∷ qs) b =
    elim b [ inl k ↦ inl (scale_below h pos p q k) | inr k ↦ inr (ap (point_scale h) k.0, scale_list_below h pos ps qs k.1) ]

-- tetrahedra in the order of slots
abbrev pub Before : Tetrahedron → Tetrahedron → Type 0
Before S T = ListBelow T.corners S.corners

pub member-map : {X Y : Type 0} (f : X → Y) (xs : List X) (y : Y) → Member (map f xs) y → (x : X) × Member xs x × (f x ≡ y)
member-map f [] y m = absurd m
member-map f (x ∷ xs) y m = elim m [ inl e ↦ (x, inl refl, e) | inr n ↦ let r = member-map f xs y n in (r.0, inr r.1, r.2) ]

pub map-member : {X Y : Type 0} (f : X → Y) (xs : List X) (x : X) → Member xs x → Member (map f xs) (f x)
map-member f [] x m = m
map-member f (a ∷ xs) x m = elim m [ inl e ↦ inl (ap f e) | inr n ↦ inr (map-member f xs x n) ]

pub filter-member : {X : Type 0} (p : X → Bool) (xs : List X) (z : X) → Member xs z → p z ≡ true → Member (filter p xs) z
filter-member p [] z h e = h
filter-member p (x ∷ xs) z h e =
    elim h [
      | inl f ↦ let here : p x ≡ true = subst (λ y. p y ≡ true) (sym f) e in rw here (inl f)
      | inr m ↦ elim (cases_Bool (p x)) [ inl k ↦ rw k (inr (filter-member p xs z m e)) | inr k ↦ rw k (filter-member p xs z m e) ]
    ]

pub strict-map-filter : {X Y : Type 0} (R : X → X → Type 0) (S : Y → Y → Type 0) (f : X → Y) (t : X → Bool) (xs : List X) → Strict R xs
    → ((x y : X) → Member xs x → Member xs y → t x ≡ true → t y ≡ true → R x y → S (f x) (f y)) → Strict S (map f (filter t xs))
strict-map-filter R S f t [] h step = tt
strict-map-filter R S f t (x ∷ xs) h step =
    let rest = strict-map-filter R S f t xs h.1 (λ a b m n. step a b (inr m) (inr n)) in
    elim (cases_Bool (t x)) [
      | inl e ↦ rw e (
        λ y m. (let r = member-map f (filter t xs) y m in
            let k = member-filter t xs r.0 r.1 in
            subst (λ z. S (f x) z) r.2 (step x r.0 (inl refl) (inr k.0) e k.1 (h.0 r.0 k.0))),
        rest,
      )
      | inr e ↦ rw e rest
    ]

corners_below : (N : ℕ) (u : Point) (q r : ℕ × ℕ) → Member pairs r → is_member N u r ≡ true → PairBelow q r → (o : ℕ) → long_axes u ≡ suc o → o < 3 → ListBelow (corners_at u r) (corners_at u q)
corners_below N u q r m valid b zero e lt = rw (edge_kind u r e, edge_kind u q e) (edge_below N u q r m valid b e)
corners_below N u q r m valid b (suc zero) e lt = rw (face_kind u r e, face_kind u q e) (face_below N u q r m valid b e)
corners_below N u q r m valid b (suc (suc zero)) e lt = rw (cube_kind u r e, cube_kind u q e) (cube_below N u q r m valid b e)
corners_below N u q r m valid b (suc (suc (suc o))) e lt = absurd (omega (arith, lt))

pub closed_strict : (n h N : ℕ) (u : Point) (o : ℕ) → 0 < h → long_axes u ≡ suc o → o < 3 → Strict Before (members_closed n h N u)
unfolding members_closed member_at
closed_strict n h N u o pos e lt =
    strict-map-filter (λ q r. pair_lt q r ≡ true) Before (member_at n h u) (is_member N u) pairs pairs_sorted
    (λ q r mq mr vq vr b.
    scale_list_below h pos (corners_at u r) (corners_at u q)
    (corners_below N u q r mr vr (pair_below q r (below_six q mq).1 (below_six r mr).1 b) o e lt))

-- the members as they are defined
abbrev slot_lt : Tetrahedron → Tetrahedron → Bool
slot_lt S T = points_lt T.corners S.corners

before-fact : (S T : Tetrahedron) → slot_lt S T ≡ true → Before S T
before-fact S T e = list_below-true T.corners S.corners e

pub before-trans : (S T U : Tetrahedron) → Before S T → Before T U → Before S U
before-trans S T U a b = list_below_trans U.corners T.corners S.corners b a

sort_member : (xs : List Tetrahedron) (z : Tetrahedron) → Member (sort_by slot_lt xs) z → Member xs z
sort_member [] z m = m
sort_member (x ∷ xs) z m = elim (insert_member slot_lt Before before-fact before-trans x (sort_by slot_lt xs) z m) [ inl e ↦ inl e | inr n ↦ inr (sort_member xs z n) ]

sort_strict : (xs : List Tetrahedron) → NoTwice xs → ((S T : Tetrahedron) → Member xs S → Member xs T → S.corners ≡ T.corners → S ≡ T) → Strict Before (sort_by slot_lt xs)
sort_strict [] once same = tt
sort_strict (x ∷ xs) once same =
    insert_strict slot_lt Before before-fact before-trans x (sort_by slot_lt xs) (sort_strict xs once.1 (λ S T m n. same S T (inr m) (inr n)))
    (λ y m. let n = sort_member xs y m in
    elim (list_below_or x.corners y.corners) [
      | inl e ↦ absurd (once.0 y n (same x y (inl refl) (inr n) e))
      | inr k ↦ elim k [ inl b ↦ inr (true-list_below x.corners y.corners b) | inr b ↦ inl b ]
    ])

no_twice-filter : (t : Tetrahedron → Bool) (xs : List Tetrahedron) → NoTwice xs → NoTwice (filter t xs)
no_twice-filter t [] h = tt
no_twice-filter t (x ∷ xs) h =
    elim (cases_Bool (t x)) [
      | inl e ↦ rw e (λ y m. h.0 y (member-filter t xs y m).0, no_twice-filter t xs h.1)
      | inr e ↦ rw e (no_twice-filter t xs h.1)
    ]

pub members_strict : (L : ℕ) (d : Point) → Strict Before (members L d)
members_strict L d =
    sort_strict (filter (λ T. point_eq (diamond T) d) (descendants L)) (no_twice-filter (λ T. point_eq (diamond T) d) (descendants L) (descendants_once L))
    (λ S T m n e.
    let a = member-filter (λ U. point_eq (diamond U) d) (descendants L) S m in
    let b = member-filter (λ U. point_eq (diamond U) d) (descendants L) T n in
    let same : diamond S ≡ diamond T = point_eq-true (diamond S) d a.1 ∙ sym (point_eq-true (diamond T) d b.1) in
    tetrahedron_cong S T (one_level_of L S T a.0 b.0 same) e)
