-- The parent of every member below the roots, in closed form.
use Rattle.std.proofs.Common.{◌≡◌, ℕ, ◌*◌, ◌/◌, ◌%◌, ◌≤◌, ◌<◌, ◌⊎◌, Bool, true, false, not, cond, refl, sym, ◌∙◌, ap, subst, inl, inr, arith}
use Rattle.std.specs.Prelude.{◌==◌}
use Rattle.std.proofs.lemmas.Bool.{lt-ltb, ltb-true}
use Rattle.tpz_base.specs.declared.shape.Point.{Point}
use Rattle.tpz_base.specs.Points.{point_scale}
use Rattle.tpz_base.proofs.CutLaw.{Member}
use Rattle.tpz_base.proofs.AxisPaths.{Order, xyz, xzy, yxz, yzx, zxy, zyx, along, turned}
use Rattle.tetra_name.specs.Places.{InBox}
use Rattle.tetra_name.specs.Steps.{moved, coordinate, start, finish, start_point, allows, is_member, long_axes, pairs, opposite, rest_of, child_pair, child_point, parent_which, parent_pair, parent_point, half_point}
use Rattle.tetra_name.proofs.Flags.{by_four}
use Rattle.tetra_name.proofs.Directions.{first, second, third, shifted, moved-first, moved-second, moved-third, coordinate-first, coordinate-second, coordinate-third, forwards-first, forwards-second, forwards-third, start-along, long_axes-along, pair-first_second, pair-first_third, pair-second_third}
use Rattle.tetra_name.proofs.Closed.{way, start_up, start_down, finish_up, finish_down, shift_start, allows_long, member_from}
use Rattle.tetra_name.proofs.Units.{along-box, parity}
use Rattle.tetra_name.proofs.ChildLaw.{opposite-first, opposite-second, opposite-third, turned-first, turned-second, turned-third, rest-first_second, rest-first_third, rest-second_third, shift_start_half, shift_finish_half, odd_one, may_back, along_cong}
use Rattle.tetra_name.proofs.Children.{both, pair_3_0, pair_3_1, pair_2_0, pair_2_1, pair_1_0, pair_1_1, point_more_0, point_more_1, point_1_0, point_1_1, three_steps, cube_parts, face_parts, edge_parts}

-- v and p are the parent of u and q, which is its child of this number; M is the side of the cube in the parent's units
pub record ParentIs (M o which : ℕ) (u : Point) (q : ℕ × ℕ) (v : Point) (p : ℕ × ℕ) : Type 0 where
  pub few : which < 2
  pub has : Member pairs p
  pub axes : long_axes v ≡ o
  pub valid : is_member M v p ≡ true
  pub inside : InBox M v
  pub pair : child_pair which v p ≡ q
  pub point : child_point which v p ≡ u

-- the words of the code at each kind
module _ (u : Point) (q : ℕ × ℕ) where
  which_3 : long_axes u ≡ 3 → parent_which u q ≡ cond (coordinate q.0 (start_point u) % 8 == 0) 0 1
  unfolding parent_which
  which_3 e = rw e refl

  which_2 : long_axes u ≡ 2 → parent_which u q ≡ cond (coordinate q.1 u % 4 == 0) 0 1
  unfolding parent_which
  which_2 e = rw e refl

  which_1 : long_axes u ≡ 1 → parent_which u q ≡ cond (coordinate q.0 u % 4 == 0) 0 1
  unfolding parent_which
  which_1 e = rw e refl

  above_3 : long_axes u ≡ 3 → parent_pair u q ≡ (q.1, rest_of u q)
  unfolding parent_pair
  above_3 e = rw e refl

  above_2_0 : long_axes u ≡ 2 → parent_which u q ≡ 0 → parent_pair u q ≡ (q.0, rest_of u q)
  unfolding parent_pair
  above_2_0 e f = rw (e, f) refl

  above_2_1 : long_axes u ≡ 2 → parent_which u q ≡ 1 → parent_pair u q ≡ (opposite q.1, q.0)
  unfolding parent_pair
  above_2_1 e f = rw (e, f) refl

  above_1_0 : long_axes u ≡ 1 → parent_which u q ≡ 0 → parent_pair u q ≡ (rest_of u q, q.1)
  unfolding parent_pair
  above_1_0 e f = rw (e, f) refl

  above_1_1 : long_axes u ≡ 1 → parent_which u q ≡ 1 → parent_pair u q ≡ (opposite q.0, q.1)
  unfolding parent_pair
  above_1_1 e f = rw (e, f) refl

  pub centre_3 : long_axes u ≡ 3 → parent_point u q ≡ half_point (moved 2 q.0 (start_point u))
  unfolding parent_point
  centre_3 e = rw e refl

  pub centre_2 : long_axes u ≡ 2 → parent_point u q ≡ moved 1 q.1 u
  unfolding parent_point
  centre_2 e = rw e refl

  pub centre_1 : long_axes u ≡ 1 → parent_point u q ≡ moved 1 q.0 u
  unfolding parent_point
  centre_1 e = rw e refl

not_not : (b : Bool) → not (not b) ≡ b
not_not true = refl
not_not false = refl

-- a step from an even number
module _ (N : ℕ) (s : Bool) (n : ℕ) (even : n % 2 ≡ 0) (may : allows N s n ≡ true) where
  step_back : shifted (not s) 1 (shifted s 1 n) ≡ n
  step_back = back s (may_back N s n even may) where
    back : (s : Bool) → (s ≡ false → 0 < n) → shifted (not s) 1 (shifted s 1 n) ≡ n
    back true h = omega arith
    back false h = let pos = h refl in omega (arith, pos)

  step_way_0 : n % 4 ≡ 0 → shifted s 1 n % 4 ≡ way s
  step_way_0 e = at s (may_back N s n even may) where
    at : (s : Bool) → (s ≡ false → 0 < n) → shifted s 1 n % 4 ≡ way s
    at true h = omega (arith, e)
    at false h = let pos = h refl in omega (arith, e, pos)

  step_way_2 : n % 4 ≡ 2 → shifted s 1 n % 4 ≡ way (not s)
  step_way_2 e = at s where
    at : (s : Bool) → shifted s 1 n % 4 ≡ way (not s)
    at true = omega (arith, e)
    at false = omega (arith, e)

  step_odd : shifted s 1 n % 2 ≡ 1
  step_odd = at s (may_back N s n even may) where
    at : (s : Bool) → (s ≡ false → 0 < n) → shifted s 1 n % 2 ≡ 1
    at true h = omega (arith, even)
    at false h = let pos = h refl in omega (arith, even, pos)

  step_in : n ≤ N → shifted s 1 n ≤ N
  unfolding allows
  step_in h = at s may where
    at : (s : Bool) → allows N s n ≡ true → shifted s 1 n ≤ N
    at true m = let lt : n < N = ltb-true n N (rw even at m) in omega (arith, lt)
    at false m = omega (arith, h)

pair-third_first : (w : Order) (b c : Bool) → Member pairs (third w b, first w c)
pair-third_first w b c =
    let e : first (turned (turned w)) b ≡ third w b = turned-first (turned w) b ∙ turned-second w b in
    let f : second (turned (turned w)) c ≡ first w c = turned-second (turned w) c ∙ turned-third w c in
    subst (λ d. Member pairs (d, first w c)) e (subst (λ d. Member pairs (first (turned (turned w)) b, d)) f (pair-first_second (turned (turned w)) b c))

-- the parent of a face's member
module _ (N : ℕ) (w : Order) (b c s : Bool) (x y z : ℕ) (inside : (x ≤ N) × (y ≤ N) × (z ≤ N)) (x_way : x % 4 ≡ way b) (y_way : y % 4 ≡ way c) (even : z % 2 ≡ 0) (may : allows N s z ≡ true) where
  face_u : Point
  face_u = along w x y z

  face_q : ℕ × ℕ
  face_q = (first w b, third w s)

  face_v : Point
  face_v = along w x y (shifted s 1 z)

  face_u_axes : long_axes face_u ≡ 2
  unfolding face_u
  face_u_axes = long_axes-along w x y z ∙ omega (arith, odd_one b x x_way, odd_one c y y_way, even)

  face_v_axes : long_axes face_v ≡ 3
  unfolding face_v
  face_v_axes = long_axes-along w x y (shifted s 1 z) ∙ omega (arith, odd_one b x x_way, odd_one c y y_way, step_odd N s z even may)

  face_centre_is : parent_point face_u face_q ≡ face_v
  unfolding face_u face_q face_v
  face_centre_is = centre_2 (along w x y z) (first w b, third w s) face_u_axes ∙ moved-third 1 w s x y z

  face_v_inside : InBox N face_v
  unfolding face_v
  face_v_inside = along-box N w x y (shifted s 1 z) inside.0 inside.1 (step_in N s z even may inside.2)

  face_which_0 : z % 4 ≡ 0 → parent_which face_u face_q ≡ 0
  unfolding face_u face_q
  face_which_0 e = which_2 (along w x y z) (first w b, third w s) face_u_axes ∙ rw (coordinate-third w s x y z, e) refl

  face_which_1 : z % 4 ≡ 2 → parent_which face_u face_q ≡ 1
  unfolding face_u face_q
  face_which_1 e = which_2 (along w x y z) (first w b, third w s) face_u_axes ∙ rw (coordinate-third w s x y z, e) refl

  face_above_0 : z % 4 ≡ 0 → ParentIs N 3 0 face_u face_q face_v (first w b, second w c)
  unfolding face_u face_q face_v
  face_above_0 e =
      let z_way = step_way_0 N s z even may e in
      let rest = rest-first_second w b c s x y (shifted s 1 z) z_way in
      record {
        few = omega arith;
        has = pair-first_second w b c;
        axes = face_v_axes;
        valid = member_from N (along w x y (shifted s 1 z)) (first w b) (second w c) b c x y (forwards-first w b) (coordinate-first w b x y (shifted s 1 z)) (forwards-second w c) (coordinate-second w c x y (shifted s 1 z))
            (allows_long N b x x_way) (allows_long N c y y_way) (omega (arith, odd_one b x x_way, face_v_axes)) (omega (arith, odd_one c y y_way, face_v_axes));
        inside = face_v_inside;
        pair = pair_3_0 (along w x y (shifted s 1 z)) (first w b, second w c) face_v_axes ∙ ap (λ d. (first w b, d)) rest;
        point = point_more_0 (along w x y (shifted s 1 z)) (first w b, second w c) 1 face_v_axes ∙ ap (λ d. moved 1 d (along w x y (shifted s 1 z))) (ap opposite rest ∙ opposite-third w s)
            ∙ moved-third 1 w (not s) x y (shifted s 1 z) ∙ ap (along w x y) (step_back N s z even may);
      }

  face_above_1 : z % 4 ≡ 2 → ParentIs N 3 1 face_u face_q face_v (third w (not s), first w b)
  unfolding face_u face_q face_v
  face_above_1 e =
      let z_way = step_way_2 N s z even may e in
      let twice : opposite (third w (not s)) ≡ third w s = opposite-third w (not s) ∙ ap (third w) (not_not s) in
      record {
        few = omega arith;
        has = pair-third_first w (not s) b;
        axes = face_v_axes;
        valid = member_from N (along w x y (shifted s 1 z)) (third w (not s)) (first w b) (not s) b (shifted s 1 z) x (forwards-third w (not s)) (coordinate-third w (not s) x y (shifted s 1 z)) (forwards-first w b) (coordinate-first w b x y (shifted s 1 z))
            (allows_long N (not s) (shifted s 1 z) z_way) (allows_long N b x x_way) (omega (arith, step_odd N s z even may, face_v_axes)) (omega (arith, odd_one b x x_way, face_v_axes));
        inside = face_v_inside;
        pair = pair_3_1 (along w x y (shifted s 1 z)) (third w (not s), first w b) face_v_axes ∙ ap (λ d. (first w b, d)) twice;
        point = point_more_1 (along w x y (shifted s 1 z)) (third w (not s), first w b) 1 face_v_axes ∙ moved-third 1 w (not s) x y (shifted s 1 z) ∙ ap (along w x y) (step_back N s z even may);
      }

  face_pair_0 : z % 4 ≡ 0 → parent_pair face_u face_q ≡ (first w b, second w c)
  unfolding face_u face_q
  face_pair_0 e = above_2_0 (along w x y z) (first w b, third w s) face_u_axes (face_which_0 e) ∙ ap (λ d. (first w b, d)) (rest-first_third w b s c x y z y_way)

  face_pair_1 : z % 4 ≡ 2 → parent_pair face_u face_q ≡ (third w (not s), first w b)
  unfolding face_u face_q
  face_pair_1 e = above_2_1 (along w x y z) (first w b, third w s) face_u_axes (face_which_1 e) ∙ ap (λ d. (d, first w b)) (opposite-third w s)

  face_parent : ParentIs N 3 (parent_which face_u face_q) face_u face_q (parent_point face_u face_q) (parent_pair face_u face_q)
  face_parent =
      rw face_centre_is (elim (by_four z even) [
        | inl e ↦ rw (face_pair_0 e, face_which_0 e) (face_above_0 e)
        | inr e ↦ rw (face_pair_1 e, face_which_1 e) (face_above_1 e)
      ])

  pub face_parent_at : ParentIs N 3 (parent_which (along w x y z) (first w b, third w s)) (along w x y z) (first w b, third w s) (parent_point (along w x y z) (first w b, third w s)) (parent_pair (along w x y z) (first w b, third w s))
  unfolding face_u face_q
  face_parent_at = face_parent

-- the parent of an edge's member
module _ (N : ℕ) (w : Order) (b s t : Bool) (x y z : ℕ) (inside : (x ≤ N) × (y ≤ N) × (z ≤ N)) (x_way : x % 4 ≡ way b) (y_even : y % 2 ≡ 0) (z_even : z % 2 ≡ 0) (may : allows N s y ≡ true) (may' : allows N t z ≡ true) where
  edge_u : Point
  edge_u = along w x y z

  edge_q : ℕ × ℕ
  edge_q = (second w s, third w t)

  edge_v : Point
  edge_v = along w x (shifted s 1 y) z

  edge_u_axes : long_axes edge_u ≡ 1
  unfolding edge_u
  edge_u_axes = long_axes-along w x y z ∙ omega (arith, odd_one b x x_way, y_even, z_even)

  edge_v_axes : long_axes edge_v ≡ 2
  unfolding edge_v
  edge_v_axes = long_axes-along w x (shifted s 1 y) z ∙ omega (arith, odd_one b x x_way, step_odd N s y y_even may, z_even)

  edge_centre_is : parent_point edge_u edge_q ≡ edge_v
  unfolding edge_u edge_q edge_v
  edge_centre_is = centre_1 (along w x y z) (second w s, third w t) edge_u_axes ∙ moved-second 1 w s x y z

  edge_v_inside : InBox N edge_v
  unfolding edge_v
  edge_v_inside = along-box N w x (shifted s 1 y) z inside.0 (step_in N s y y_even may inside.1) inside.2

  edge_which_0 : y % 4 ≡ 0 → parent_which edge_u edge_q ≡ 0
  unfolding edge_u edge_q
  edge_which_0 e = which_1 (along w x y z) (second w s, third w t) edge_u_axes ∙ rw (coordinate-second w s x y z, e) refl

  edge_which_1 : y % 4 ≡ 2 → parent_which edge_u edge_q ≡ 1
  unfolding edge_u edge_q
  edge_which_1 e = which_1 (along w x y z) (second w s, third w t) edge_u_axes ∙ rw (coordinate-second w s x y z, e) refl

  edge_above_0 : y % 4 ≡ 0 → ParentIs N 2 0 edge_u edge_q edge_v (first w b, third w t)
  unfolding edge_u edge_q edge_v
  edge_above_0 e =
      let y_way = step_way_0 N s y y_even may e in
      let rest = rest-first_third w b t s x (shifted s 1 y) z y_way in
      record {
        few = omega arith;
        has = pair-first_third w b t;
        axes = edge_v_axes;
        valid = member_from N (along w x (shifted s 1 y) z) (first w b) (third w t) b t x z (forwards-first w b) (coordinate-first w b x (shifted s 1 y) z) (forwards-third w t) (coordinate-third w t x (shifted s 1 y) z)
            (allows_long N b x x_way) may' (omega (arith, odd_one b x x_way, edge_v_axes)) (omega (arith, z_even, edge_v_axes));
        inside = edge_v_inside;
        pair = pair_2_0 (along w x (shifted s 1 y) z) (first w b, third w t) edge_v_axes ∙ ap (λ d. (d, third w t)) rest;
        point = point_more_0 (along w x (shifted s 1 y) z) (first w b, third w t) 0 edge_v_axes ∙ ap (λ d. moved 1 d (along w x (shifted s 1 y) z)) (ap opposite rest ∙ opposite-second w s)
            ∙ moved-second 1 w (not s) x (shifted s 1 y) z ∙ ap (λ n. along w x n z) (step_back N s y y_even may);
      }

  edge_above_1 : y % 4 ≡ 2 → ParentIs N 2 1 edge_u edge_q edge_v (second w (not s), third w t)
  unfolding edge_u edge_q edge_v
  edge_above_1 e =
      let y_way = step_way_2 N s y y_even may e in
      let twice : opposite (second w (not s)) ≡ second w s = opposite-second w (not s) ∙ ap (second w) (not_not s) in
      record {
        few = omega arith;
        has = pair-second_third w (not s) t;
        axes = edge_v_axes;
        valid = member_from N (along w x (shifted s 1 y) z) (second w (not s)) (third w t) (not s) t (shifted s 1 y) z (forwards-second w (not s)) (coordinate-second w (not s) x (shifted s 1 y) z) (forwards-third w t) (coordinate-third w t x (shifted s 1 y) z)
            (allows_long N (not s) (shifted s 1 y) y_way) may' (omega (arith, step_odd N s y y_even may, edge_v_axes)) (omega (arith, z_even, edge_v_axes));
        inside = edge_v_inside;
        pair = pair_2_1 (along w x (shifted s 1 y) z) (second w (not s), third w t) edge_v_axes ∙ ap (λ d. (d, third w t)) twice;
        point = point_more_1 (along w x (shifted s 1 y) z) (second w (not s), third w t) 0 edge_v_axes ∙ moved-second 1 w (not s) x (shifted s 1 y) z ∙ ap (λ n. along w x n z) (step_back N s y y_even may);
      }

  edge_pair_0 : y % 4 ≡ 0 → parent_pair edge_u edge_q ≡ (first w b, third w t)
  unfolding edge_u edge_q
  edge_pair_0 e = above_1_0 (along w x y z) (second w s, third w t) edge_u_axes (edge_which_0 e) ∙ ap (λ d. (d, third w t)) (rest-second_third w s t b x y z x_way)

  edge_pair_1 : y % 4 ≡ 2 → parent_pair edge_u edge_q ≡ (second w (not s), third w t)
  unfolding edge_u edge_q
  edge_pair_1 e = above_1_1 (along w x y z) (second w s, third w t) edge_u_axes (edge_which_1 e) ∙ ap (λ d. (d, third w t)) (opposite-second w s)

  edge_parent : ParentIs N 2 (parent_which edge_u edge_q) edge_u edge_q (parent_point edge_u edge_q) (parent_pair edge_u edge_q)
  edge_parent =
      rw edge_centre_is (elim (by_four y y_even) [
        | inl e ↦ rw (edge_pair_0 e, edge_which_0 e) (edge_above_0 e)
        | inr e ↦ rw (edge_pair_1 e, edge_which_1 e) (edge_above_1 e)
      ])

  pub edge_parent_at : ParentIs N 2 (parent_which (along w x y z) (second w s, third w t)) (along w x y z) (second w s, third w t) (parent_point (along w x y z) (second w s, third w t)) (parent_pair (along w x y z) (second w s, third w t))
  unfolding edge_u edge_q
  edge_parent_at = edge_parent

half-along : (w : Order) (p q r : ℕ) → half_point (along w p q r) ≡ along w (p / 2) (q / 2) (r / 2)
unfolding half_point
half-along xyz p q r = refl
half-along xzy p q r = refl
half-along yxz p q r = refl
half-along yzx p q r = refl
half-along zxy p q r = refl
half-along zyx p q r = refl

by_eight : (a : ℕ) → a % 4 ≡ 0 → (a % 8 ≡ 0) ⊎ (a % 8 ≡ 4)
by_eight a e = elim (parity (a / 4)) [ inl h ↦ inl (omega (arith, e, h)) | inr h ↦ inr (omega (arith, e, h)) ]

-- the ends of a long axis in units of twice the length
pub start_four : (b : Bool) (m : ℕ) → m % 4 ≡ way b → start m % 4 ≡ 0
start_four true m e = rw (start_up m e) (omega (arith, e))
start_four false m e = rw (start_down m e) (omega (arith, e))

pub finish_two : (b : Bool) (m : ℕ) → m % 4 ≡ way b → finish m % 4 ≡ 2
finish_two true m e = rw (finish_up m e) (omega (arith, e))
finish_two false m e = rw (finish_down m e) (omega (arith, e))

half_way_0 : (b : Bool) (m : ℕ) → m % 4 ≡ way b → start m % 8 ≡ 0 → finish m / 2 % 4 ≡ way b
half_way_0 true m e f = rw (finish_up m e) (omega (arith, e, f, start_up m e))
half_way_0 false m e f = rw (finish_down m e) (omega (arith, e, f, start_down m e))

half_way_1 : (b : Bool) (m : ℕ) → m % 4 ≡ way b → start m % 8 ≡ 4 → finish m / 2 % 4 ≡ way (not b)
half_way_1 true m e f = rw (finish_up m e) (omega (arith, e, f, start_up m e))
half_way_1 false m e f = rw (finish_down m e) (omega (arith, e, f, start_down m e))

half_finish_in : (M : ℕ) (b : Bool) (m : ℕ) → m ≤ 2 * M → m % 4 ≡ way b → finish m / 2 ≤ M
half_finish_in M true m h e = rw (finish_up m e) (omega (arith, e, h))
half_finish_in M false m h e = rw (finish_down m e) (omega (arith, e, h))

half_start_in : (M : ℕ) (b : Bool) (m : ℕ) → m ≤ 2 * M → m % 4 ≡ way b → start m / 2 ≤ M
half_start_in M true m h e = rw (start_up m e) (omega (arith, e, h))
half_start_in M false m h e = rw (start_down m e) (omega (arith, e, h))

half_start_even : (b : Bool) (m : ℕ) → m % 4 ≡ way b → start m / 2 % 2 ≡ 0
half_start_even b m e = let f = start_four b m e in omega (arith, f)

half_start_may : (M : ℕ) (b : Bool) (m : ℕ) → m ≤ 2 * M → m % 4 ≡ way b → allows M b (start m / 2) ≡ true
unfolding allows
half_start_may M true m h e = let even = half_start_even true m e in rw even (lt-ltb (start m / 2) M (omega (arith, start_up m e, e, h)))
half_start_may M false m h e = let even = half_start_even false m e in rw even (lt-ltb 0 (start m / 2) (omega (arith, start_down m e, e, h)))

double_half_start : (b : Bool) (m : ℕ) → m % 4 ≡ way b → 2 * (start m / 2) ≡ start m
double_half_start b m e = let f = start_four b m e in omega (arith, f)

double_half_finish : (b : Bool) (m : ℕ) → m % 4 ≡ way b → 2 * (finish m / 2) ≡ finish m
double_half_finish b m e = let f = finish_two b m e in omega (arith, f)

-- the parent of a cube's member
module _ (M : ℕ) (w : Order) (b c d : Bool) (x y z : ℕ) (inside : (x ≤ 2 * M) × (y ≤ 2 * M) × (z ≤ 2 * M)) (x_way : x % 4 ≡ way b) (y_way : y % 4 ≡ way c) (z_way : z % 4 ≡ way d) where
  cube_u : Point
  cube_u = along w x y z

  cube_q : ℕ × ℕ
  cube_q = (first w b, second w c)

  cube_v : Point
  cube_v = along w (finish x / 2) (start y / 2) (start z / 2)

  cube_p : ℕ × ℕ
  cube_p = (second w c, third w d)

  cube_u_axes : long_axes cube_u ≡ 3
  unfolding cube_u
  cube_u_axes = long_axes-along w x y z ∙ omega (arith, odd_one b x x_way, odd_one c y y_way, odd_one d z z_way)

  cube_v_axes : long_axes cube_v ≡ 1
  unfolding cube_v
  cube_v_axes = long_axes-along w (finish x / 2) (start y / 2) (start z / 2) ∙ omega (arith, finish_two b x x_way, half_start_even c y y_way, half_start_even d z z_way)

  cube_start : start_point cube_u ≡ along w (start x) (start y) (start z)
  unfolding cube_u
  cube_start = start-along w x y z

  cube_centre_is : parent_point cube_u cube_q ≡ cube_v
  unfolding cube_q cube_v
  cube_centre_is =
      centre_3 cube_u (first w b, second w c) cube_u_axes
      ∙ ap (λ v. half_point (moved 2 (first w b) v)) cube_start
      ∙ ap half_point (moved-first 2 w b (start x) (start y) (start z) ∙ ap (λ n. along w n (start y) (start z)) (shift_start b x x_way))
      ∙ half-along w (finish x) (start y) (start z)

  cube_v_inside : InBox M cube_v
  unfolding cube_v
  cube_v_inside = along-box M w (finish x / 2) (start y / 2) (start z / 2) (half_finish_in M b x inside.0 x_way) (half_start_in M c y inside.1 y_way) (half_start_in M d z inside.2 z_way)

  cube_pair_is : parent_pair cube_u cube_q ≡ cube_p
  unfolding cube_u cube_q cube_p
  cube_pair_is = above_3 (along w x y z) (first w b, second w c) cube_u_axes ∙ ap (λ e. (second w c, e)) (rest-first_second w b c d x y z z_way)

  cube_valid : is_member M cube_v cube_p ≡ true
  unfolding cube_v cube_p
  cube_valid =
      member_from M (along w (finish x / 2) (start y / 2) (start z / 2)) (second w c) (third w d) c d (start y / 2) (start z / 2) (forwards-second w c) (coordinate-second w c (finish x / 2) (start y / 2) (start z / 2))
      (forwards-third w d) (coordinate-third w d (finish x / 2) (start y / 2) (start z / 2)) (half_start_may M c y inside.1 y_way) (half_start_may M d z inside.2 z_way)
      (omega (arith, half_start_even c y y_way, cube_v_axes)) (omega (arith, half_start_even d z z_way, cube_v_axes))

  cube_coordinate : coordinate (first w b) (start_point cube_u) ≡ start x
  cube_coordinate = ap (coordinate (first w b)) cube_start ∙ coordinate-first w b (start x) (start y) (start z)

  cube_which_0 : start x % 8 ≡ 0 → parent_which cube_u cube_q ≡ 0
  unfolding cube_q
  cube_which_0 e = which_3 cube_u (first w b, second w c) cube_u_axes ∙ rw (cube_coordinate, e) refl

  cube_which_1 : start x % 8 ≡ 4 → parent_which cube_u cube_q ≡ 1
  unfolding cube_q
  cube_which_1 e = which_3 cube_u (first w b, second w c) cube_u_axes ∙ rw (cube_coordinate, e) refl

  -- three half steps from twice the parent's centre
  cube_back : along w (shifted (not b) 1 (2 * (finish x / 2))) (shifted c 1 (2 * (start y / 2))) (shifted d 1 (2 * (start z / 2))) ≡ cube_u
  unfolding cube_u
  cube_back =
      along_cong w _ _ _ _ _ _
      (ap (shifted (not b) 1) (double_half_finish b x x_way) ∙ shift_finish_half b x x_way)
      (ap (shifted c 1) (double_half_start c y y_way) ∙ shift_start_half c y y_way)
      (ap (shifted d 1) (double_half_start d z z_way) ∙ shift_start_half d z z_way)

  cube_has : Member pairs cube_p
  unfolding cube_p
  cube_has = pair-second_third w c d

  cube_rest_0 : start x % 8 ≡ 0 → rest_of cube_v cube_p ≡ first w b
  unfolding cube_v cube_p
  cube_rest_0 e = rest-second_third w c d b (finish x / 2) (start y / 2) (start z / 2) (half_way_0 b x x_way e)

  cube_rest_1 : start x % 8 ≡ 4 → rest_of cube_v cube_p ≡ first w (not b)
  unfolding cube_v cube_p
  cube_rest_1 e = rest-second_third w c d (not b) (finish x / 2) (start y / 2) (start z / 2) (half_way_1 b x x_way e)

  cube_steps : moved 1 (first w (not b)) (moved 1 cube_p.0 (moved 1 cube_p.1 (point_scale 2 cube_v))) ≡ cube_u
  unfolding cube_v cube_p
  cube_steps = three_steps w (not b) c d (finish x / 2) (start y / 2) (start z / 2) ∙ cube_back

  cube_pair_0 : start x % 8 ≡ 0 → child_pair 0 cube_v cube_p ≡ cube_q
  unfolding cube_q cube_p
  cube_pair_0 e = pair_1_0 cube_v cube_p cube_v_axes ∙ ap (λ r. (r, second w c)) (cube_rest_0 e)

  cube_pair_1 : start x % 8 ≡ 4 → child_pair 1 cube_v cube_p ≡ cube_q
  unfolding cube_q cube_p
  cube_pair_1 e = pair_1_1 cube_v cube_p cube_v_axes ∙ ap (λ r. (r, second w c)) (ap opposite (cube_rest_1 e) ∙ opposite-first w (not b) ∙ ap (first w) (not_not b))

  cube_point_0 : start x % 8 ≡ 0 → child_point 0 cube_v cube_p ≡ cube_u
  cube_point_0 e =
      point_1_0 cube_v cube_p cube_v_axes
      ∙ ap (λ r. moved 1 r (moved 1 cube_p.0 (moved 1 cube_p.1 (point_scale 2 cube_v)))) (ap opposite (cube_rest_0 e) ∙ opposite-first w b)
      ∙ cube_steps

  cube_point_1 : start x % 8 ≡ 4 → child_point 1 cube_v cube_p ≡ cube_u
  cube_point_1 e = point_1_1 cube_v cube_p cube_v_axes ∙ ap (λ r. moved 1 r (moved 1 cube_p.0 (moved 1 cube_p.1 (point_scale 2 cube_v)))) (cube_rest_1 e) ∙ cube_steps

  cube_above_0 : start x % 8 ≡ 0 → ParentIs M 1 0 cube_u cube_q cube_v cube_p
  cube_above_0 e = record { few = omega arith; has = cube_has; axes = cube_v_axes; valid = cube_valid; inside = cube_v_inside; pair = cube_pair_0 e; point = cube_point_0 e }

  cube_above_1 : start x % 8 ≡ 4 → ParentIs M 1 1 cube_u cube_q cube_v cube_p
  cube_above_1 e = record { few = omega arith; has = cube_has; axes = cube_v_axes; valid = cube_valid; inside = cube_v_inside; pair = cube_pair_1 e; point = cube_point_1 e }

  cube_parent : ParentIs M 1 (parent_which cube_u cube_q) cube_u cube_q (parent_point cube_u cube_q) (parent_pair cube_u cube_q)
  cube_parent =
      rw (cube_centre_is, cube_pair_is) (elim (by_eight (start x) (start_four b x x_way)) [
        | inl e ↦ rw (cube_which_0 e) (cube_above_0 e)
        | inr e ↦ rw (cube_which_1 e) (cube_above_1 e)
      ])

  pub cube_parent_at : ParentIs M 1 (parent_which (along w x y z) (first w b, second w c)) (along w x y z) (first w b, second w c) (parent_point (along w x y z) (first w b, second w c)) (parent_pair (along w x y z) (first w b, second w c))
  unfolding cube_u cube_q
  cube_parent_at = cube_parent

-- the parent by the words of the code
pub of_cube : (M N : ℕ) (u : Point) (q : ℕ × ℕ) → N ≡ 2 * M → InBox N u → long_axes u ≡ 3 → Member pairs q → is_member N u q ≡ true → ParentIs M 1 (parent_which u q) u q (parent_point u q) (parent_pair u q)
of_cube M N u q double box o m valid =
    let P = cube_parts N u q box o m valid in
    let inside : (P.x ≤ 2 * M) × (P.y ≤ 2 * M) × (P.z ≤ 2 * M) = (omega (arith, P.inside.0, double), omega (arith, P.inside.1, double), omega (arith, P.inside.2, double)) in
    both (λ v r. ParentIs M 1 (parent_which v r) v r (parent_point v r) (parent_pair v r)) _ _ _ _ (sym P.u_is) (sym P.q_is)
    (cube_parent_at M P.w P.b P.c P.d P.x P.y P.z inside P.x_way P.y_way P.z_way)

pub of_face : (N : ℕ) (u : Point) (q : ℕ × ℕ) → InBox N u → long_axes u ≡ 2 → Member pairs q → is_member N u q ≡ true → ParentIs N 3 (parent_which u q) u q (parent_point u q) (parent_pair u q)
of_face N u q box o m valid =
    let P = face_parts N u q box o m valid in
    both (λ v r. ParentIs N 3 (parent_which v r) v r (parent_point v r) (parent_pair v r)) _ _ _ _ (sym P.u_is) (sym P.q_is)
    (face_parent_at N P.w P.b P.c P.s P.x P.y P.z P.inside P.x_way P.y_way P.even P.may)

pub of_edge : (N : ℕ) (u : Point) (q : ℕ × ℕ) → InBox N u → long_axes u ≡ 1 → Member pairs q → is_member N u q ≡ true → ParentIs N 2 (parent_which u q) u q (parent_point u q) (parent_pair u q)
of_edge N u q box o m valid =
    let P = edge_parts N u q box o m valid in
    both (λ v r. ParentIs N 2 (parent_which v r) v r (parent_point v r) (parent_pair v r)) _ _ _ _ (sym P.u_is) (sym P.q_is)
    (edge_parent_at N P.w P.b P.s P.t P.x P.y P.z P.inside P.x_way P.y_even P.z_even P.may P.may')
