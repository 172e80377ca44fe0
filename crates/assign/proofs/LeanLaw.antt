-- The sum of coordinates that the code compares with 0 has the sign of the side.
use Rattle.std.proofs.Common.{w64, to_z, of_z, ◌≡◌, ◌<◌, ◌≤◌, ℕ, zero, suc, ◌+◌, ◌-◌, ◌*◌, ◌/◌, ◌%◌, ◌^◌, Bool, true, false, List, [], ◌∷◌, ◌++◌, map, length, refl, sym, ◌∙◌, ap, ap₂, subst, arith, pow_pos}
use Rattle.std.specs.Prelude.{ℤ, pos, ◌+ℤ◌, ◌-ℤ◌, int_lt, unsigned_abs, min, filter, slice_get, Some, None, IfSome}
use Rattle.std.specs.List.{slice_index_or}
use Rattle.std.proofs.lemmas.Int.{ints, to_z-of_z, fits_signed_from_abs}
use Rattle.std.proofs.Math.IntN.{+ℤ_comm}
use Rattle.std.proofs.Math.Nat.{mul-div_cancel_left}
use Rattle.tpz_base.specs.declared.shape.Point.{Point}
use Rattle.tpz_base.specs.declared.shape.Tri.{Tri}
use Rattle.tpz_base.specs.Diamonds.{level_of}
use Rattle.tpz_base.specs.Points.{point, point_scale}
use Rattle.tpz_base.specs.Roots.{corner_sum}
use Rattle.tpz_base.specs.Tetrahedra.{Tetrahedron}
use Rattle.tpz_base.proofs.PointLemmas.{point_cong}
use Rattle.tpz_base.proofs.AxisPaths.{Order, xyz, xzy, yxz, yzx, zxy, zyx, along}
use Rattle.tetra_name.specs.declared.shape.Half.{Half}
use Rattle.tetra_name.specs.declared.shape.Tet.{Tet}
use Rattle.tetra_name.specs.Names.{IsName, over, point_of, tetrahedron_of}
use Rattle.tetra_name.specs.Places.{IsScale, IsPlace}
use Rattle.tetra_name.specs.States.{axis_state, states_of, edge_axes, cube_pairs, cube_pair, quick_pair}
use Rattle.tetra_name.specs.Steps.{cube_corners, face_corners, edge_corners, is_member, long_axes, pairs, start, finish, corners_at, member_at}
use Rattle.tetra_name.proofs.NamesLaw.{unit_of_centre, axes_within}
use Rattle.tetra_name.proofs.NameFacts.{some_of}
use Rattle.tetra_name.proofs.Flags.{spot, cube_list, face_list, edge_list}
use Rattle.tetra_name.proofs.Closed.{way, scale-along, cube_is, face_is, edge_is, cube_kind, face_kind, edge_kind}
use Rattle.tetra_name.proofs.Directions.{second, shifted, by_order}
use Rattle.tetra_name.proofs.Children.{cube_parts, face_parts, edge_parts}
use Rattle.tetra_name.proofs.ChildLaw.{may_back}
use Rattle.tetra_name.proofs.PlaceLaw.{centre_of_name, has_pair, picked, stands, level_of_scale, box_of_scale, even_of_scale}
use Rattle.tetra_name.proofs.StatesLaw.{axes_of_states, cube_slot, pair_law}
use Rattle.assign.specs.Leans.{lean, middle_axes, middle_axis, middle_step, outer}
use Rattle.assign.specs.Paths.{is_beyond}
use Rattle.assign.proofs.Volumes.{toward}
use Rattle.assign.proofs.SideLaw.{scale_at, cube_beyond, face_beyond, edge_beyond}

-- a name's place in units
record Placed (L : ℕ) (t : Tet) : Type 0 where
  j : ℕ
  N : ℕ
  u : Point
  q : ℕ × ℕ
  place : IsPlace L t j N u q

placed : (L : ℕ) (t : Tet) → IsName L t → Placed L t
placed L t h =
    let U = unit_of_centre L (point_of t.centre) (centre_of_name L t h) in
    let S : IsScale L (point_of t.centre) U.j (2 ^ suc U.k) U.u = record { k = U.k; n = U.n; unit = U.unit; side = refl; is = U.is } in
    let q = some_of (slice_get (filter (is_member (2 ^ suc U.k) U.u) pairs) t.slot) (has_pair L t U.j (2 ^ suc U.k) U.u S h) in
    record { j = U.j; N = 2 ^ suc U.k; u = U.u; q = q.0; place = record { scale = S; slot = q.1 } }

-- the lean on an axis that the edge runs along, and on another
long_lean : (s h m : ℕ) (b : Bool) → m % 4 ≡ way b → lean s (h * m) m ≡ toward b (pos (2 * s) -ℤ pos (3 * h * m))
unfolding lean
long_lean s h m true e =
    let odd : m % 2 ≡ 1 = omega (arith, e) in
    let k : 3 * (h * m) ≡ 3 * h * m = omega arith in
    rw (odd, e, k) refl
long_lean s h m false e =
    let odd : m % 2 ≡ 1 = omega (arith, e) in
    let k : 3 * (h * m) ≡ 3 * h * m = omega arith in
    rw (odd, e, k) (omega (arith, ints))

flat_lean : (s c m : ℕ) → m % 2 ≡ 0 → lean s c m ≡ pos 0
unfolding lean
flat_lean s c m e = rw e refl

-- the leans of three points, summed
unfoldable leans : Point → Point → Point → ℤ
leans s c u = lean s.x c.x u.x +ℤ (lean s.y c.y u.y +ℤ lean s.z c.z u.z)

leans-along : (w : Order) (s0 s1 s2 c0 c1 c2 m0 m1 m2 : ℕ) → leans (along w s0 s1 s2) (along w c0 c1 c2) (along w m0 m1 m2) ≡ lean s0 c0 m0 +ℤ (lean s1 c1 m1 +ℤ lean s2 c2 m2)
unfolding leans
leans-along xyz s0 s1 s2 c0 c1 c2 m0 m1 m2 = refl
leans-along xzy s0 s1 s2 c0 c1 c2 m0 m1 m2 = omega (arith, ints)
leans-along yxz s0 s1 s2 c0 c1 c2 m0 m1 m2 = omega (arith, ints)
leans-along yzx s0 s1 s2 c0 c1 c2 m0 m1 m2 = omega (arith, ints)
leans-along zxy s0 s1 s2 c0 c1 c2 m0 m1 m2 = omega (arith, ints)
leans-along zyx s0 s1 s2 c0 c1 c2 m0 m1 m2 = omega (arith, ints)

-- the outer two
unfoldable outer_leans : ℕ → Point → Point → Point → ℤ
outer_leans axis s c u = outer axis (lean s.x c.x u.x) (lean s.y c.y u.y) (lean s.z c.z u.z)

-- the axis of a direction
abbrev axis_of : ℕ → ℕ
axis_of d = min d (5 - d)

axis_second : (w : Order) (b b' : Bool) → axis_of (second w b) ≡ axis_of (second w b')
axis_second xyz true true = refl
axis_second xyz true false = refl
axis_second xyz false true = refl
axis_second xyz false false = refl
axis_second xzy true true = refl
axis_second xzy true false = refl
axis_second xzy false true = refl
axis_second xzy false false = refl
axis_second yxz true true = refl
axis_second yxz true false = refl
axis_second yxz false true = refl
axis_second yxz false false = refl
axis_second yzx true true = refl
axis_second yzx true false = refl
axis_second yzx false true = refl
axis_second yzx false false = refl
axis_second zxy true true = refl
axis_second zxy true false = refl
axis_second zxy false true = refl
axis_second zxy false false = refl
axis_second zyx true true = refl
axis_second zyx true false = refl
axis_second zyx false true = refl
axis_second zyx false false = refl

outer-along : (w : Order) (s0 s1 s2 c0 c1 c2 m0 m1 m2 : ℕ) → outer_leans (axis_of (second w true)) (along w s0 s1 s2) (along w c0 c1 c2) (along w m0 m1 m2) ≡ lean s0 c0 m0 +ℤ lean s2 c2 m2
unfolding outer_leans outer
outer-along xyz s0 s1 s2 c0 c1 c2 m0 m1 m2 = refl
outer-along xzy s0 s1 s2 c0 c1 c2 m0 m1 m2 = refl
outer-along yxz s0 s1 s2 c0 c1 c2 m0 m1 m2 = refl
outer-along yzx s0 s1 s2 c0 c1 c2 m0 m1 m2 = +ℤ_comm (lean s2 c2 m2) (lean s0 c0 m0)
outer-along zxy s0 s1 s2 c0 c1 c2 m0 m1 m2 = +ℤ_comm (lean s2 c2 m2) (lean s0 c0 m0)
outer-along zyx s0 s1 s2 c0 c1 c2 m0 m1 m2 = +ℤ_comm (lean s2 c2 m2) (lean s0 c0 m0)

at_left : {X : Type 0} (xs ys : List X) (i : ℕ) (d : X) → i < length xs → slice_index_or (xs ++ ys) i d ≡ slice_index_or xs i d
at_left [] ys i d h = absurd (omega (arith, h))
at_left (x ∷ xs) ys zero d h = refl
at_left (x ∷ xs) ys (suc i) d h = at_left xs ys i d (omega (arith, h))

at_right : {X : Type 0} (xs ys : List X) (i k : ℕ) (d : X) → k ≡ length xs + i → slice_index_or (xs ++ ys) k d ≡ slice_index_or ys i d
at_right [] ys i k d e = let f : k ≡ i = omega (arith, e) in ap (λ n. slice_index_or ys n d) f
at_right (x ∷ xs) ys i zero d e = absurd (omega (arith, e))
at_right (x ∷ xs) ys i (suc k) d e = at_right xs ys i k d (omega (arith, e))

mapped : {X Y : Type 0} (f : X → Y) (xs : List X) (i : ℕ) (d : X) → slice_index_or (map f xs) i (f d) ≡ f (slice_index_or xs i d)
mapped f [] i d = refl
mapped f (x ∷ xs) zero d = refl
mapped f (x ∷ xs) (suc i) d = mapped f xs i d

table_is : map (λ (q : ℕ × ℕ). axis_of q.1) cube_pairs ≡ middle_axes ++ middle_axes
unfolding cube_pairs middle_axes
table_is = refl

-- the middle step's axis by the table of all directions
middle_of : (z i k : ℕ) → z < 2 → i < 24 → k ≡ 24 * z + i → axis_of (slice_index_or cube_pairs k (0, 0)).1 ≡ slice_index_or middle_axes i 0
unfolding middle_axes
middle_of zero i k hz hi e =
    let f : k ≡ i = omega (arith, e) in
    sym (mapped (λ (q : ℕ × ℕ). axis_of q.1) cube_pairs k (0, 0)) ∙ ap₂ (λ xs n. slice_index_or xs n 0) table_is f ∙ at_left middle_axes middle_axes i 0 hi
middle_of (suc zero) i k hz hi e =
    sym (mapped (λ (q : ℕ × ℕ). axis_of q.1) cube_pairs k (0, 0)) ∙ ap (λ xs. slice_index_or xs k 0) table_is ∙ at_right middle_axes middle_axes i k 0 (omega (arith, e))
middle_of (suc (suc z)) i k hz hi e = absurd (omega (arith, hz))

pub mapped_at : (at : List Half) (i : ℕ) → point_of (slice_index_or at i (record { x = 0; y = 0; z = 0 })) ≡ slice_index_or (map point_of at) i (point 0 0 0)
mapped_at at i = sym (mapped point_of at i (record { x = 0; y = 0; z = 0 }))

outer_leans_cong : {a a' : ℕ} {s s' c c' u u' : Point} → a ≡ a' → s ≡ s' → c ≡ c' → u ≡ u' → outer_leans a s c u ≡ outer_leans a' s' c' u'
outer_leans_cong e g h k = cc

two_leans : (x y z a b : ℤ) → x ≡ a → y ≡ b → z ≡ pos 0 → x +ℤ (y +ℤ z) ≡ a +ℤ b
two_leans x y z a b e f g = omega (arith, ints)

one_lean : (x y z a : ℤ) → x ≡ a → y ≡ pos 0 → z ≡ pos 0 → x +ℤ (y +ℤ z) ≡ a
one_lean x y z a e f g = omega (arith, ints)

leans_cong : {s s' c c' u u' : Point} → s ≡ s' → c ≡ c' → u ≡ u' → leans s c u ≡ leans s' c' u'
leans_cong g h k = cc

module _ (L : ℕ) (t : Tet) (Q : Placed L t) where
  -- which kind it is, and how long a unit is
  record Kind (n power : ℕ) : Type 0 where
    axes : long_axes Q.u + n % 3 ≡ 3
    power_is : Q.j ≡ power
    level_is : Q.place.scale.n ≡ n

  kind : (n power : ℕ) → n ≡ level_of L (point_of t.centre) → power ≡ L - n / 3 → Kind n power
  kind n power e f =
      let S = Q.place.scale in
      let level = level_of_scale L (point_of t.centre) Q.j Q.N Q.u S in
      let few = axes_within Q.u in
      let is : S.n ≡ n = omega (arith, level, e) in
      record {
        axes = omega (arith, is, S.unit.some, S.unit.level, few);
        power_is = omega (arith, is, f, S.unit.some, S.unit.level, S.unit.sum, few);
        level_is = is;
      }

  -- the centre in units
  units_of : (power : ℕ) → Q.j ≡ power → over power (point_of t.centre) ≡ Q.u
  unfolding over
  units_of power e =
      point_cong _ _ _ _ _ _
      (ap (λ (p : Point). p.x / 2 ^ power) Q.place.scale.is ∙ back Q.u.x)
      (ap (λ (p : Point). p.y / 2 ^ power) Q.place.scale.is ∙ back Q.u.y)
      (ap (λ (p : Point). p.z / 2 ^ power) Q.place.scale.is ∙ back Q.u.z)
    where
      back : (n : ℕ) → 2 ^ Q.j * n / 2 ^ power ≡ n
      back n = ap (λ i. 2 ^ Q.j * n / 2 ^ i) (sym e) ∙ mul-div_cancel_left n (pow_pos Q.j)

  -- a cube's directions by the states of its axes
  quick_cube : edge_axes (states_of Q.N Q.u) ≡ 3 → quick_pair (states_of Q.N Q.u) t.slot ≡ slice_index_or cube_pairs (6 * ((states_of Q.N Q.u).x + 2 * (states_of Q.N Q.u).y + 4 * (states_of Q.N Q.u).z) + t.slot) (0, 0)
  unfolding quick_pair cube_pair
  quick_cube three = rw three refl

  odd_state : (n : ℕ) → n % 2 ≡ 1 → axis_state Q.N n ≡ n % 4 / 2
  unfolding axis_state
  odd_state n e = rw e refl

  states_are : (x y z : ℕ) → x ≡ axis_state Q.N Q.u.x → y ≡ axis_state Q.N Q.u.y → z ≡ axis_state Q.N Q.u.z → (x ≡ (states_of Q.N Q.u).x) × (y ≡ (states_of Q.N Q.u).y) × (z ≡ (states_of Q.N Q.u).z)
  unfolding states_of
  states_are x y z e f g = (e, f, g)

  all_odd : long_axes Q.u ≡ 3 → (Q.u.x % 2 ≡ 1) × (Q.u.y % 2 ≡ 1) × (Q.u.z % 2 ≡ 1)
  unfolding long_axes
  all_odd o = (omega (arith, o), omega (arith, o), omega (arith, o))

  slot_few : long_axes Q.u ≡ 3 → t.slot < 6
  slot_few o =
      let S = Q.place.scale in
      let box = box_of_scale L (point_of t.centre) Q.j Q.N Q.u S in
      let even = even_of_scale L (point_of t.centre) Q.j Q.N Q.u S in
      cube_slot Q.N Q.u box even S.unit.some t.slot Q.q Q.place.slot (sym (axes_of_states Q.N Q.u box even S.unit.some) ∙ o)

  middle_here : long_axes Q.u ≡ 3 → middle_axis Q.u t.slot ≡ axis_of Q.q.1
  unfolding middle_axis
  middle_here o =
      let S = Q.place.scale in
      let box = box_of_scale L (point_of t.centre) Q.j Q.N Q.u S in
      let even = even_of_scale L (point_of t.centre) Q.j Q.N Q.u S in
      let three = sym (axes_of_states Q.N Q.u box even S.unit.some) ∙ o in
      let odd = all_odd o in
      let few = slot_few o in
      let x = odd_state Q.u.x odd.0 in
      let y = odd_state Q.u.y odd.1 in
      let z = odd_state Q.u.z odd.2 in
      let s = states_are (Q.u.x % 4 / 2) (Q.u.y % 4 / 2) (Q.u.z % 4 / 2) (sym x) (sym y) (sym z) in
      let at : 6 * ((states_of Q.N Q.u).x + 2 * (states_of Q.N Q.u).y + 4 * (states_of Q.N Q.u).z) + t.slot ≡ 24 * (Q.u.z % 4 / 2) + (6 * (Q.u.x % 4 / 2 + 2 * (Q.u.y % 4 / 2)) + t.slot) = omega (arith, s.0, s.1, s.2) in
      sym (middle_of (Q.u.z % 4 / 2) (6 * (Q.u.x % 4 / 2 + 2 * (Q.u.y % 4 / 2)) + t.slot) _ (omega arith) (omega (arith, few)) at)
      ∙ ap (λ (q : ℕ × ℕ). axis_of q.1) (sym (quick_cube three) ∙ pair_law Q.N Q.u box even S.unit.some t.slot Q.q Q.place.slot)

  -- what holds of the member that the directions tell holds of the named tetrahedron
  of_name : (F : Tetrahedron → Type 0) → F (member_at Q.place.scale.n (2 ^ Q.j) Q.u Q.q) → IfSome (tetrahedron_of L t) F
  of_name F k = subst (λ o. IfSome o F) (sym (stands L t Q.j Q.N Q.u Q.q Q.place)) k

  the_level : (member_at Q.place.scale.n (2 ^ Q.j) Q.u Q.q).level ≡ Q.place.scale.n
  unfolding member_at
  the_level = refl

  the_corners : (member_at Q.place.scale.n (2 ^ Q.j) Q.u Q.q).corners ≡ map (point_scale (2 ^ Q.j)) (corners_at Q.u Q.q)
  unfolding member_at
  the_corners = refl

  centre_along : (w : Order) (x y z : ℕ) → Q.u ≡ along w x y z → point_of t.centre ≡ spot (2 ^ Q.j) w x y z
  centre_along w x y z e = Q.place.scale.is ∙ ap (point_scale (2 ^ Q.j)) e ∙ scale-along (2 ^ Q.j) w x y z

module _ (L : ℕ) (t : Tet) (tri : Tri) (Q : Placed L t) where
  -- three steps
  cube_sign : (n power : ℕ) → n ≡ level_of L (point_of t.centre) → power ≡ L - n / 3 → n % 3 ≡ 0 → (r : ℤ)
      → r ≡ outer_leans (middle_axis (over power (point_of t.centre)) t.slot) (corner_sum tri) (point_of t.centre) (over power (point_of t.centre))
      → IfSome (tetrahedron_of L t) (λ T. int_lt (pos 0) r ≡ is_beyond tri T)
  cube_sign n power e f m r is =
      let K = kind L t Q n power e f in
      let o : long_axes Q.u ≡ 3 = omega (arith, K.axes, m) in
      let k = picked L t Q.j Q.N Q.u Q.q Q.place in
      let C = cube_parts Q.N Q.u Q.q (box_of_scale L (point_of t.centre) Q.j Q.N Q.u Q.place.scale) o k.0 k.1 in
      let A = by_order C.w (corner_sum tri) in
      let list : map (point_scale (2 ^ Q.j)) (corners_at Q.u Q.q) ≡ cube_list (2 ^ Q.j) C.w (start C.x) (start C.y) (start C.z) (finish C.x) (finish C.y) (finish C.z)
      = ap (map (point_scale (2 ^ Q.j))) (cube_kind Q.u Q.q o) ∙ ap₂ (λ v q. map (point_scale (2 ^ Q.j)) (cube_corners v q)) C.u_is C.q_is ∙ cube_is (2 ^ Q.j) C.w C.b C.c C.x C.y C.z C.x_way C.y_way in
      let beyond = cube_beyond (2 ^ Q.j) (member_at Q.place.scale.n (2 ^ Q.j) Q.u Q.q) C.w C.b C.c C.d C.x C.y C.z C.x_way C.y_way C.z_way (ap (λ i. i % 3) (the_level L t Q ∙ K.level_is) ∙ m) (the_corners L t Q ∙ list)
      tri (2 * A.p) (2 * A.q) (2 * A.r) (pow_pos Q.j) (ap (point_scale 2) A.is ∙ scale_at 2 C.w A.p A.q A.r) in
      let units = units_of L t Q power K.power_is in
      let middle : middle_axis (over power (point_of t.centre)) t.slot ≡ axis_of (second C.w true) =
      ap (λ u. middle_axis u t.slot) units ∙ middle_here L t Q o ∙ ap (λ (q : ℕ × ℕ). axis_of q.1) C.q_is ∙ axis_second C.w C.c true in
      let sum : r ≡ lean A.p (2 ^ Q.j * C.x) C.x +ℤ lean A.r (2 ^ Q.j * C.z) C.z
      = is ∙ outer_leans_cong middle A.is (centre_along L t Q C.w C.x C.y C.z C.u_is) (units ∙ C.u_is) ∙ outer-along C.w A.p A.q A.r _ _ _ C.x C.y C.z in
      of_name L t Q (λ T. int_lt (pos 0) r ≡ is_beyond tri T)
      (ap (int_lt (pos 0)) (sum ∙ ap₂ (λ x y. x +ℤ y) (long_lean A.p (2 ^ Q.j) C.x C.b C.x_way) (long_lean A.r (2 ^ Q.j) C.z C.d C.z_way)) ∙ sym beyond)

  -- two steps
  face_sign : (n power : ℕ) → n ≡ level_of L (point_of t.centre) → power ≡ L - n / 3 → n % 3 ≡ 1 → (r : ℤ)
      → r ≡ leans (corner_sum tri) (point_of t.centre) (over power (point_of t.centre))
      → IfSome (tetrahedron_of L t) (λ T. int_lt (pos 0) r ≡ is_beyond tri T)
  face_sign n power e f m r is =
      let K = kind L t Q n power e f in
      let o : long_axes Q.u ≡ 2 = omega (arith, K.axes, m) in
      let k = picked L t Q.j Q.N Q.u Q.q Q.place in
      let C = face_parts Q.N Q.u Q.q (box_of_scale L (point_of t.centre) Q.j Q.N Q.u Q.place.scale) o k.0 k.1 in
      let A = by_order C.w (corner_sum tri) in
      let list : map (point_scale (2 ^ Q.j)) (corners_at Q.u Q.q) ≡ face_list (2 ^ Q.j) C.w (start C.x) (start C.y) C.z (finish C.x) (finish C.y) C.x C.y (shifted C.s 1 C.z)
      = ap (map (point_scale (2 ^ Q.j))) (face_kind Q.u Q.q o) ∙ ap₂ (λ v q. map (point_scale (2 ^ Q.j)) (face_corners v q)) C.u_is C.q_is ∙ face_is (2 ^ Q.j) C.w C.b C.s C.x C.y C.z C.x_way C.even in
      let beyond = face_beyond (2 ^ Q.j) (member_at Q.place.scale.n (2 ^ Q.j) Q.u Q.q) C.w C.b C.c C.s C.x C.y C.z C.x_way C.y_way (may_back Q.N C.s C.z C.even C.may)
      (ap (λ i. i % 3) (the_level L t Q ∙ K.level_is) ∙ m) (the_corners L t Q ∙ list)
      tri (2 * A.p) (2 * A.q) (2 * A.r) (pow_pos Q.j) (ap (point_scale 2) A.is ∙ scale_at 2 C.w A.p A.q A.r) in
      let sum : r ≡ lean A.p (2 ^ Q.j * C.x) C.x +ℤ (lean A.q (2 ^ Q.j * C.y) C.y +ℤ lean A.r (2 ^ Q.j * C.z) C.z)
      = is ∙ leans_cong A.is (centre_along L t Q C.w C.x C.y C.z C.u_is) (units_of L t Q power K.power_is ∙ C.u_is) ∙ leans-along C.w A.p A.q A.r _ _ _ C.x C.y C.z in
      of_name L t Q (λ T. int_lt (pos 0) r ≡ is_beyond tri T)
      (ap (int_lt (pos 0)) (sum ∙ two_leans _ _ _ _ _ (long_lean A.p (2 ^ Q.j) C.x C.b C.x_way) (long_lean A.q (2 ^ Q.j) C.y C.c C.y_way) (flat_lean A.r (2 ^ Q.j * C.z) C.z C.even)) ∙ sym beyond)

  -- one step
  edge_sign : (n power : ℕ) → n ≡ level_of L (point_of t.centre) → power ≡ L - n / 3 → n % 3 ≡ 2 → (r : ℤ)
      → r ≡ leans (corner_sum tri) (point_of t.centre) (over power (point_of t.centre))
      → IfSome (tetrahedron_of L t) (λ T. int_lt (pos 0) r ≡ is_beyond tri T)
  edge_sign n power e f m r is =
      let K = kind L t Q n power e f in
      let o : long_axes Q.u ≡ 1 = omega (arith, K.axes, m) in
      let k = picked L t Q.j Q.N Q.u Q.q Q.place in
      let C = edge_parts Q.N Q.u Q.q (box_of_scale L (point_of t.centre) Q.j Q.N Q.u Q.place.scale) o k.0 k.1 in
      let A = by_order C.w (corner_sum tri) in
      let list : map (point_scale (2 ^ Q.j)) (corners_at Q.u Q.q) ≡ edge_list (2 ^ Q.j) C.w (start C.x) C.y C.z (finish C.x) C.x (shifted C.s 1 C.y) (shifted C.t 1 C.z)
      = ap (map (point_scale (2 ^ Q.j))) (edge_kind Q.u Q.q o) ∙ ap₂ (λ v q. map (point_scale (2 ^ Q.j)) (edge_corners v q)) C.u_is C.q_is ∙ edge_is (2 ^ Q.j) C.w C.s C.t C.x C.y C.z C.y_even C.z_even in
      let beyond = edge_beyond (2 ^ Q.j) (member_at Q.place.scale.n (2 ^ Q.j) Q.u Q.q) C.w C.b C.s C.t C.x C.y C.z C.x_way (may_back Q.N C.s C.y C.y_even C.may) (may_back Q.N C.t C.z C.z_even C.may')
      (ap (λ i. i % 3) (the_level L t Q ∙ K.level_is) ∙ m) (the_corners L t Q ∙ list)
      tri (2 * A.p) (2 * A.q) (2 * A.r) (pow_pos Q.j) (ap (point_scale 2) A.is ∙ scale_at 2 C.w A.p A.q A.r) in
      let sum : r ≡ lean A.p (2 ^ Q.j * C.x) C.x +ℤ (lean A.q (2 ^ Q.j * C.y) C.y +ℤ lean A.r (2 ^ Q.j * C.z) C.z)
      = is ∙ leans_cong A.is (centre_along L t Q C.w C.x C.y C.z C.u_is) (units_of L t Q power K.power_is ∙ C.u_is) ∙ leans-along C.w A.p A.q A.r _ _ _ C.x C.y C.z in
      of_name L t Q (λ T. int_lt (pos 0) r ≡ is_beyond tri T)
      (ap (int_lt (pos 0)) (sum ∙ one_lean _ _ _ _ (long_lean A.p (2 ^ Q.j) C.x C.b C.x_way) (flat_lean A.q (2 ^ Q.j * C.y) C.y C.y_even) (flat_lean A.r (2 ^ Q.j * C.z) C.z C.z_even)) ∙ sym beyond)

  other_sign : (n power : ℕ) → n ≡ level_of L (point_of t.centre) → power ≡ L - n / 3 → (n % 3 ≡ 0 → ⊥) → (r : ℤ)
      → r ≡ leans (corner_sum tri) (point_of t.centre) (over power (point_of t.centre))
      → IfSome (tetrahedron_of L t) (λ T. int_lt (pos 0) r ≡ is_beyond tri T)
  other_sign n power e f m r is = cases (n % 3) refl where
    cases : (i : ℕ) → n % 3 ≡ i → IfSome (tetrahedron_of L t) (λ T. int_lt (pos 0) r ≡ is_beyond tri T)
    cases zero k = absurd (m k)
    cases (suc zero) k = face_sign n power e f k r is
    cases (suc (suc zero)) k = edge_sign n power e f k r is
    cases (suc (suc (suc i))) k = absurd (omega (arith, k))

-- a name of a cube has one of six slots
pub few_slots : (L : ℕ) (t : Tet) → IsName L t → (n : ℕ) → n ≡ level_of L (point_of t.centre) → n % 3 ≡ 0 → t.slot < 6
few_slots L t h n e m =
    let Q = placed L t h in
    let K = kind L t Q n (L - n / 3) e refl in
    slot_few L t Q (omega (arith, K.axes, m))

-- the sums of coordinates by their fields
pub by_three : (L : ℕ) (t : Tet) (tri : Tri) → IsName L t → (n power : ℕ) → n ≡ level_of L (point_of t.centre) → power ≡ L - n / 3 → n % 3 ≡ 0
    → (u : Half) → point_of u ≡ over power (point_of t.centre) → (s : Point) → s ≡ corner_sum tri → (axis : ℕ) → axis ≡ middle_axis (point_of u) t.slot → (x y z r : ℤ)
    → x ≡ lean s.x t.centre.x u.x → y ≡ lean s.y t.centre.y u.y → z ≡ lean s.z t.centre.z u.z → r ≡ outer axis x y z
    → (b : Bool) → b ≡ int_lt (pos 0) r → IfSome (tetrahedron_of L t) (λ T. b ≡ is_beyond tri T)
unfolding outer_leans
by_three L t tri h n power e f m u u_is s s_is axis axis_is x y z r ex ey ez is b b_is =
    let k : r ≡ outer_leans axis s (point_of t.centre) (point_of u) = rw (← ex, ← ey, ← ez) is in
    subst (λ v. IfSome (tetrahedron_of L t) (λ T. v ≡ is_beyond tri T)) (sym b_is)
    (cube_sign L t tri (placed L t h) n power e f m r (k ∙ outer_leans_cong (axis_is ∙ ap (λ v. middle_axis v t.slot) u_is) s_is refl u_is))

pub by_fewer : (L : ℕ) (t : Tet) (tri : Tri) → IsName L t → (n power : ℕ) → n ≡ level_of L (point_of t.centre) → power ≡ L - n / 3 → (n % 3 ≡ 0 → ⊥)
    → (u : Half) → point_of u ≡ over power (point_of t.centre) → (s : Point) → s ≡ corner_sum tri → (x y z r : ℤ)
    → x ≡ lean s.x t.centre.x u.x → y ≡ lean s.y t.centre.y u.y → z ≡ lean s.z t.centre.z u.z
    → r ≡ x +ℤ (y +ℤ z) → (b : Bool) → b ≡ int_lt (pos 0) r → IfSome (tetrahedron_of L t) (λ T. b ≡ is_beyond tri T)
unfolding leans
by_fewer L t tri h n power e f m u u_is s s_is x y z r ex ey ez is b b_is =
    let k : r ≡ leans s (point_of t.centre) (point_of u) = is ∙ ap₂ (λ u v. u +ℤ v) ex (ap₂ (λ u v. u +ℤ v) ey ez) in
    subst (λ v. IfSome (tetrahedron_of L t) (λ T. v ≡ is_beyond tri T)) (sym b_is) (other_sign L t tri (placed L t h) n power e f m r (k ∙ leans_cong s_is refl u_is))

-- a number that went through its bits
pub read_back : (z : ℤ) → unsigned_abs z ≤ 2 ^ 35 → to_z w64 (of_z w64 z) ≡ z
read_back z h = to_z-of_z w64 z (fits_signed_from_abs w64 z (omega (arith, h)))

pub outer_same : (axis : ℕ) {x x' y y' z z' : ℤ} → x ≡ x' → y ≡ y' → z ≡ z' → outer axis x y z ≡ outer axis x' y' z'
outer_same axis e f g = cc

pub total_same : {x x' y y' z z' : ℤ} → x ≡ x' → y ≡ y' → z ≡ z' → x +ℤ (y +ℤ z) ≡ x' +ℤ (y' +ℤ z')
total_same e f g = ap₂ (λ u v. u +ℤ v) e (ap₂ (λ u v. u +ℤ v) f g)

-- whether there are three steps, by the axis of the middle one
pub three_steps : (r : ℕ) (u : Point) (slot axis : ℕ) → Some axis ≡ middle_step r u slot → (r ≡ 0) × (axis ≡ middle_axis u slot)
unfolding middle_step
three_steps zero u slot axis e = let k : axis ≡ middle_axis u slot = cc in (refl, k)
three_steps (suc r) u slot axis e = absurd cc

pub fewer_steps : (r : ℕ) (u : Point) (slot : ℕ) → None ≡ middle_step r u slot → r ≡ 0 → ⊥
unfolding middle_step
fewer_steps zero u slot e m = absurd cc
fewer_steps (suc r) u slot e m = omega (arith, m)

pub step_there : (n r : ℕ) (u : Point) (slot axis : ℕ) → r ≡ n % 3 → n % 3 ≡ 0 → axis ≡ middle_axis u slot → Some axis ≡ middle_step r u slot
unfolding middle_step
step_there n zero u slot axis k m e = ap Some e
step_there n (suc r) u slot axis k m e = absurd (omega (arith, k, m))

pub no_step : (n r : ℕ) (u : Point) (slot : ℕ) → r ≡ n % 3 → (n % 3 ≡ 0 → ⊥) → None ≡ middle_step r u slot
unfolding middle_step
no_step n zero u slot k m = absurd (m (sym k))
no_step n (suc r) u slot k m = refl
