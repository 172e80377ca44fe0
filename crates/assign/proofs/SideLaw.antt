-- The side of the bisecting plane, of each of the three kinds of tetrahedra.
use Rattle.std.proofs.Common.{◌≡◌, ◌<◌, ℕ, zero, suc, ◌+◌, ◌-◌, ◌*◌, ◌%◌, Bool, true, false, not, [], ◌∷◌, map, refl, ◌∙◌, ap, ap₂, arith}
use Rattle.std.specs.Prelude.{ℤ, pos, ◌+ℤ◌, ◌-ℤ◌, ◌*ℤ◌, int_lt}
use Rattle.std.proofs.lemmas.Int.{ints}
use Rattle.tpz_base.specs.declared.shape.Point.{Point}
use Rattle.tpz_base.specs.declared.shape.Tri.{Tri}
use Rattle.tpz_base.specs.Points.{point_scale, midpoint, det}
use Rattle.tpz_base.specs.Roots.{corner_sum}
use Rattle.tpz_base.specs.Tetrahedra.{Tetrahedron, corner, tag}
use Rattle.tpz_base.proofs.AxisPaths.{Order, xyz, xzy, yxz, yzx, zxy, zyx, along}
use Rattle.tetra_name.specs.Steps.{start, finish}
use Rattle.tetra_name.proofs.Flags.{spot, cube_list, face_list, edge_list, middle, twice, four}
use Rattle.tetra_name.proofs.Closed.{way, start_up, start_down, finish_up, finish_down}
use Rattle.tetra_name.proofs.ChildLaw.{along_cong}
use Rattle.tetra_name.proofs.Directions.{shifted}
use Rattle.assign.specs.Paths.{height, tripled, is_beyond}
use Rattle.assign.proofs.Volumes.{signed, toward, turn, volume, det-along, odd_sign, cube_volume, face_volume, edge_volume}
use Rattle.assign.proofs.SideSign.{same_sign}

-- heights over the plane
height_at_0 : (T : Tetrahedron) (a b c d p : Point) → T.level % 3 ≡ 0 → T.corners ≡ a ∷ b ∷ c ∷ d ∷ [] → height T p ≡ det (midpoint a d) b c p
unfolding height
height_at_0 T a b c d p n e = rw (n, e) refl

height_at_1 : (T : Tetrahedron) (a b c d p : Point) → T.level % 3 ≡ 1 → T.corners ≡ a ∷ b ∷ c ∷ d ∷ [] → height T p ≡ det (midpoint a c) b d p
unfolding height
height_at_1 T a b c d p n e = rw (n, e) refl

height_at_2 : (T : Tetrahedron) (a b c d p : Point) → T.level % 3 ≡ 2 → T.corners ≡ a ∷ b ∷ c ∷ d ∷ [] → height T p ≡ det (midpoint a b) c d p
unfolding height
height_at_2 T a b c d p n e = rw (n, e) refl

end_at_0 : (T : Tetrahedron) (a b c d : Point) → T.level % 3 ≡ 0 → T.corners ≡ a ∷ b ∷ c ∷ d ∷ [] → corner T (tag T) ≡ d
end_at_0 T a b c d n e = rw (n, e) refl

end_at_1 : (T : Tetrahedron) (a b c d : Point) → T.level % 3 ≡ 1 → T.corners ≡ a ∷ b ∷ c ∷ d ∷ [] → corner T (tag T) ≡ c
end_at_1 T a b c d n e = rw (n, e) refl

end_at_2 : (T : Tetrahedron) (a b c d : Point) → T.level % 3 ≡ 2 → T.corners ≡ a ∷ b ∷ c ∷ d ∷ [] → corner T (tag T) ≡ b
end_at_2 T a b c d n e = rw (n, e) refl

-- three times as large
pub scale_at : (k : ℕ) (w : Order) (p q r : ℕ) → point_scale k (along w p q r) ≡ along w (k * p) (k * q) (k * r)
scale_at k xyz p q r = refl
scale_at k xzy p q r = refl
scale_at k yxz p q r = refl
scale_at k yzx p q r = refl
scale_at k zxy p q r = refl
scale_at k zyx p q r = refl

thrice : (h n : ℕ) → 3 * (h * n) ≡ 3 * h * n
thrice h n = omega arith

spot_tripled : (h : ℕ) (w : Order) (p q r : ℕ) → point_scale 3 (spot h w p q r) ≡ spot (3 * h) w p q r
spot_tripled h w p q r = scale_at 3 w (h * p) (h * q) (h * r) ∙ along_cong w _ _ _ _ _ _ (thrice h p) (thrice h q) (thrice h r)

cube_tripled : (h : ℕ) (T : Tetrahedron) (w : Order) (a0 a1 a2 b0 b1 b2 : ℕ) → T.corners ≡ cube_list h w a0 a1 a2 b0 b1 b2
    → (tripled T).corners ≡ spot (3 * h) w a0 a1 a2 ∷ spot (3 * h) w b0 a1 a2 ∷ spot (3 * h) w b0 b1 a2 ∷ spot (3 * h) w b0 b1 b2 ∷ []
unfolding tripled cube_list
cube_tripled h T w a0 a1 a2 b0 b1 b2 e =
    ap (map (point_scale 3)) e ∙ four (spot_tripled h w a0 a1 a2) (spot_tripled h w b0 a1 a2) (spot_tripled h w b0 b1 a2) (spot_tripled h w b0 b1 b2)

face_tripled : (h : ℕ) (T : Tetrahedron) (w : Order) (a0 a1 a2 b0 b1 m0 m1 b2 : ℕ) → T.corners ≡ face_list h w a0 a1 a2 b0 b1 m0 m1 b2
    → (tripled T).corners ≡ spot (3 * h) w a0 a1 a2 ∷ spot (3 * h) w b0 a1 a2 ∷ spot (3 * h) w b0 b1 a2 ∷ spot (3 * h) w m0 m1 b2 ∷ []
unfolding tripled face_list
face_tripled h T w a0 a1 a2 b0 b1 m0 m1 b2 e =
    ap (map (point_scale 3)) e ∙ four (spot_tripled h w a0 a1 a2) (spot_tripled h w b0 a1 a2) (spot_tripled h w b0 b1 a2) (spot_tripled h w m0 m1 b2)

edge_tripled : (h : ℕ) (T : Tetrahedron) (w : Order) (a0 a1 a2 b0 m0 b1 b2 : ℕ) → T.corners ≡ edge_list h w a0 a1 a2 b0 m0 b1 b2
    → (tripled T).corners ≡ spot (3 * h) w a0 a1 a2 ∷ spot (3 * h) w b0 a1 a2 ∷ spot (3 * h) w m0 b1 a2 ∷ spot (3 * h) w m0 b1 b2 ∷ []
unfolding tripled edge_list
edge_tripled h T w a0 a1 a2 b0 m0 b1 b2 e =
    ap (map (point_scale 3)) e ∙ four (spot_tripled h w a0 a1 a2) (spot_tripled h w b0 a1 a2) (spot_tripled h w m0 b1 a2) (spot_tripled h w m0 b1 b2)

level_tripled : (T : Tetrahedron) → (tripled T).level ≡ T.level
unfolding tripled
level_tripled T = refl

-- steps from the middle
to_finish : (H : ℕ) (b : Bool) (m : ℕ) → m % 4 ≡ way b → pos (H * finish m) -ℤ pos (H * m) ≡ signed b H
to_finish H true m e = let f : H * finish m ≡ H * m + H = rw (finish_up m e) (omega arith) in omega (arith, ints, f)
to_finish H false m e =
    let g : m ≡ suc (m - 1) = omega (arith, e) in
    let f : H * m ≡ H * finish m + H = ap (λ n. H * n) g ∙ rw (finish_down m e) (omega arith) in
    omega (arith, ints, f)

to_start : (H : ℕ) (b : Bool) (m : ℕ) → m % 4 ≡ way b → pos (H * start m) -ℤ pos (H * m) ≡ signed (not b) H
to_start H true m e =
    let g : m ≡ suc (m - 1) = omega (arith, e) in
    let f : H * m ≡ H * start m + H = ap (λ n. H * n) g ∙ rw (start_up m e) (omega arith) in
    omega (arith, ints, f)
to_start H false m e = let f : H * start m ≡ H * m + H = rw (start_down m e) (omega arith) in omega (arith, ints, f)

to_side : (H : ℕ) (b : Bool) (m : ℕ) → (b ≡ false → 0 < m) → pos (H * shifted b 1 m) -ℤ pos (H * m) ≡ signed b H
to_side H true m h = let f : H * (m + 1) ≡ H * m + H = omega arith in omega (arith, ints, f)
to_side H false m h =
    let more : 0 < m = h refl in
    let g : m ≡ suc (m - 1) = omega (arith, more) in
    let f : H * m ≡ H * (m - 1) + H = ap (λ n. H * n) g ∙ omega arith in
    omega (arith, ints, f)

at_rest : (n : ℕ) → pos n -ℤ pos n ≡ pos 0
at_rest n = omega (arith, ints)

toward_signed : (b : Bool) (H : ℕ) → toward b (signed b H) ≡ pos H
toward_signed true H = refl
toward_signed false H = omega (arith, ints)

volume_cong : (x0 x1 x2 y0 y1 y2 x0' x1' x2' y0' y1' y2' v0 v1 v2 : ℤ) → x0 ≡ x0' → x1 ≡ x1' → x2 ≡ x2' → y0 ≡ y0' → y1 ≡ y1' → y2 ≡ y2'
    → volume x0 x1 x2 y0 y1 y2 v0 v1 v2 ≡ volume x0' x1' x2' y0' y1' y2' v0 v1 v2
volume_cong x0 x1 x2 y0 y1 y2 x0' x1' x2' y0' y1' y2' v0 v1 v2 e0 e1 e2 f0 f1 f2 = cc

start_finish : (b : Bool) (m : ℕ) → m % 4 ≡ way b → start m + finish m ≡ 2 * m
start_finish true m e = rw (start_up m e, finish_up m e) (omega (arith, e))
start_finish false m e = rw (start_down m e, finish_down m e) (omega (arith, e))

square : (k h : ℕ) → 0 < k → 0 < h → 0 < k * (3 * h * (3 * h))
square zero h p q = absurd (omega (arith, p))
square (suc k) zero p q = absurd (omega (arith, q))
square (suc k) (suc h) p q = omega arith

one_square : (h : ℕ) → 0 < h → 0 < 3 * h * (3 * h)
one_square h p = omega (arith, square 1 h (omega arith) p)

-- three steps
module _ (h : ℕ) (T : Tetrahedron) (w : Order) (b0 b1 b2 : Bool) (m0 m1 m2 : ℕ) (e0 : m0 % 4 ≡ way b0) (e1 : m1 % 4 ≡ way b1) (e2 : m2 % 4 ≡ way b2) (n : T.level % 3 ≡ 0)
    (is : T.corners ≡ cube_list h w (start m0) (start m1) (start m2) (finish m0) (finish m1) (finish m2)) where
  cube_height : (s0 s1 s2 : ℕ) → height (tripled T) (along w s0 s1 s2)
      ≡ turn w (signed (odd_sign true b0 b1 b2) (2 * (3 * h * (3 * h))) *ℤ (toward b0 (pos s0 -ℤ pos (3 * h * m0)) +ℤ toward b2 (pos s2 -ℤ pos (3 * h * m2))))
  cube_height s0 s1 s2 =
      height_at_0 (tripled T) _ _ _ _ (along w s0 s1 s2) (ap (λ k. k % 3) (level_tripled T) ∙ n) (cube_tripled h T w _ _ _ _ _ _ is)
      ∙ ap (λ z. det z (spot (3 * h) w (finish m0) (start m1) (start m2)) (spot (3 * h) w (finish m0) (finish m1) (start m2)) (along w s0 s1 s2))
      (middle (3 * h) w (start m0) (start m1) (start m2) (finish m0) (finish m1) (finish m2) m0 m1 m2 (start_finish b0 m0 e0) (start_finish b1 m1 e1) (start_finish b2 m2 e2))
      ∙ det-along w (3 * h * m0) (3 * h * m1) (3 * h * m2) (3 * h * finish m0) (3 * h * start m1) (3 * h * start m2) (3 * h * finish m0) (3 * h * finish m1) (3 * h * start m2) s0 s1 s2
      ∙ ap (turn w) (volume_cong _ _ _ _ _ _ _ _ _ _ _ _ _ _ _ (to_finish (3 * h) b0 m0 e0) (to_start (3 * h) b1 m1 e1) (to_start (3 * h) b2 m2 e2) (to_finish (3 * h) b0 m0 e0)
      (to_finish (3 * h) b1 m1 e1) (to_start (3 * h) b2 m2 e2)
      ∙ cube_volume b0 b1 b2 (3 * h) _ _ _)

  pub cube_beyond : (t : Tri) (p0 p1 p2 : ℕ) → 0 < h → point_scale 2 (corner_sum t) ≡ along w p0 p1 p2
      → is_beyond t T ≡ int_lt (pos 0) (toward b0 (pos p0 -ℤ pos (3 * h * m0)) +ℤ toward b2 (pos p2 -ℤ pos (3 * h * m2)))
  unfolding is_beyond tripled
  cube_beyond t p0 p1 p2 some at =
      let far : corner (tripled T) (tag T) ≡ spot (3 * h) w (finish m0) (finish m1) (finish m2) = end_at_0 (tripled T) _ _ _ _ n (cube_tripled h T w _ _ _ _ _ _ is) in
      let gone : toward b0 (pos (3 * h * finish m0) -ℤ pos (3 * h * m0)) +ℤ toward b2 (pos (3 * h * finish m2) -ℤ pos (3 * h * m2)) ≡ pos (3 * h + 3 * h)
      = ap₂ (λ x y. x +ℤ y) (ap (toward b0) (to_finish (3 * h) b0 m0 e0) ∙ toward_signed b0 (3 * h)) (ap (toward b2) (to_finish (3 * h) b2 m2 e2) ∙ toward_signed b2 (3 * h)) in
      let more : 0 < 2 * (3 * h * (3 * h)) = square 2 h (omega arith) some in
      ap (int_lt (pos 0)) (ap₂ (λ x y. x *ℤ y) (ap (height (tripled T)) at ∙ cube_height p0 p1 p2)
      (ap (height (tripled T)) far ∙ cube_height (3 * h * finish m0) (3 * h * finish m1) (3 * h * finish m2)
      ∙ ap (λ x. turn w (signed (odd_sign true b0 b1 b2) (2 * (3 * h * (3 * h))) *ℤ x)) gone))
      ∙ same_sign w (odd_sign true b0 b1 b2) (2 * (3 * h * (3 * h))) (3 * h + 3 * h) _ more (omega (arith, some))

-- two steps, and the centre of a cube beside
module _ (h : ℕ) (T : Tetrahedron) (w : Order) (b0 b1 b2 : Bool) (m0 m1 a2 : ℕ) (e0 : m0 % 4 ≡ way b0) (e1 : m1 % 4 ≡ way b1) (e2 : b2 ≡ false → 0 < a2) (n : T.level % 3 ≡ 1)
    (is : T.corners ≡ face_list h w (start m0) (start m1) a2 (finish m0) (finish m1) m0 m1 (shifted b2 1 a2)) where
  face_height : (s0 s1 s2 : ℕ) → height (tripled T) (along w s0 s1 s2)
      ≡ turn w (signed (odd_sign false b0 b1 b2) (3 * h * (3 * h)) *ℤ (toward b0 (pos s0 -ℤ pos (3 * h * m0)) +ℤ toward b1 (pos s1 -ℤ pos (3 * h * m1))))
  face_height s0 s1 s2 =
      height_at_1 (tripled T) _ _ _ _ (along w s0 s1 s2) (ap (λ k. k % 3) (level_tripled T) ∙ n) (face_tripled h T w _ _ _ _ _ _ _ _ is)
      ∙ ap (λ z. det z (spot (3 * h) w (finish m0) (start m1) a2) (spot (3 * h) w m0 m1 (shifted b2 1 a2)) (along w s0 s1 s2))
      (middle (3 * h) w (start m0) (start m1) a2 (finish m0) (finish m1) a2 m0 m1 a2 (start_finish b0 m0 e0) (start_finish b1 m1 e1) (twice a2))
      ∙ det-along w (3 * h * m0) (3 * h * m1) (3 * h * a2) (3 * h * finish m0) (3 * h * start m1) (3 * h * a2) (3 * h * m0) (3 * h * m1) (3 * h * shifted b2 1 a2) s0 s1 s2
      ∙ ap (turn w) (volume_cong _ _ _ _ _ _ _ _ _ _ _ _ _ _ _ (to_finish (3 * h) b0 m0 e0) (to_start (3 * h) b1 m1 e1) (at_rest (3 * h * a2)) (at_rest (3 * h * m0))
      (at_rest (3 * h * m1)) (to_side (3 * h) b2 a2 e2)
      ∙ face_volume b0 b1 b2 (3 * h) _ _ _)

  pub face_beyond : (t : Tri) (p0 p1 p2 : ℕ) → 0 < h → point_scale 2 (corner_sum t) ≡ along w p0 p1 p2
      → is_beyond t T ≡ int_lt (pos 0) (toward b0 (pos p0 -ℤ pos (3 * h * m0)) +ℤ toward b1 (pos p1 -ℤ pos (3 * h * m1)))
  unfolding is_beyond tripled
  face_beyond t p0 p1 p2 some at =
      let far : corner (tripled T) (tag T) ≡ spot (3 * h) w (finish m0) (finish m1) a2 = end_at_1 (tripled T) _ _ _ _ n (face_tripled h T w _ _ _ _ _ _ _ _ is) in
      let gone : toward b0 (pos (3 * h * finish m0) -ℤ pos (3 * h * m0)) +ℤ toward b1 (pos (3 * h * finish m1) -ℤ pos (3 * h * m1)) ≡ pos (3 * h + 3 * h)
      = ap₂ (λ x y. x +ℤ y) (ap (toward b0) (to_finish (3 * h) b0 m0 e0) ∙ toward_signed b0 (3 * h)) (ap (toward b1) (to_finish (3 * h) b1 m1 e1) ∙ toward_signed b1 (3 * h)) in
      ap (int_lt (pos 0)) (ap₂ (λ x y. x *ℤ y) (ap (height (tripled T)) at ∙ face_height p0 p1 p2)
      (ap (height (tripled T)) far ∙ face_height (3 * h * finish m0) (3 * h * finish m1) (3 * h * a2)
      ∙ ap (λ x. turn w (signed (odd_sign false b0 b1 b2) (3 * h * (3 * h)) *ℤ x)) gone))
      ∙ same_sign w (odd_sign false b0 b1 b2) (3 * h * (3 * h)) (3 * h + 3 * h) _ (one_square h some) (omega (arith, some))

-- one step, the centre of a face at it, and that of a cube beside
module _ (h : ℕ) (T : Tetrahedron) (w : Order) (b0 b1 b2 : Bool) (m0 a1 a2 : ℕ) (e0 : m0 % 4 ≡ way b0) (e1 : b1 ≡ false → 0 < a1) (e2 : b2 ≡ false → 0 < a2) (n : T.level % 3 ≡ 2)
    (is : T.corners ≡ edge_list h w (start m0) a1 a2 (finish m0) m0 (shifted b1 1 a1) (shifted b2 1 a2)) where
  edge_height : (s0 s1 s2 : ℕ) → height (tripled T) (along w s0 s1 s2)
      ≡ turn w (signed (odd_sign true b0 b1 b2) (3 * h * (3 * h)) *ℤ toward b0 (pos s0 -ℤ pos (3 * h * m0)))
  edge_height s0 s1 s2 =
      height_at_2 (tripled T) _ _ _ _ (along w s0 s1 s2) (ap (λ k. k % 3) (level_tripled T) ∙ n) (edge_tripled h T w _ _ _ _ _ _ _ is)
      ∙ ap (λ z. det z (spot (3 * h) w m0 (shifted b1 1 a1) a2) (spot (3 * h) w m0 (shifted b1 1 a1) (shifted b2 1 a2)) (along w s0 s1 s2))
      (middle (3 * h) w (start m0) a1 a2 (finish m0) a1 a2 m0 a1 a2 (start_finish b0 m0 e0) (twice a1) (twice a2))
      ∙ det-along w (3 * h * m0) (3 * h * a1) (3 * h * a2) (3 * h * m0) (3 * h * shifted b1 1 a1) (3 * h * a2) (3 * h * m0) (3 * h * shifted b1 1 a1) (3 * h * shifted b2 1 a2) s0 s1 s2
      ∙ ap (turn w) (volume_cong _ _ _ _ _ _ _ _ _ _ _ _ _ _ _ (at_rest (3 * h * m0)) (to_side (3 * h) b1 a1 e1) (at_rest (3 * h * a2)) (at_rest (3 * h * m0))
      (to_side (3 * h) b1 a1 e1) (to_side (3 * h) b2 a2 e2)
      ∙ edge_volume b0 b1 b2 (3 * h) _ _ _)

  pub edge_beyond : (t : Tri) (p0 p1 p2 : ℕ) → 0 < h → point_scale 2 (corner_sum t) ≡ along w p0 p1 p2
      → is_beyond t T ≡ int_lt (pos 0) (toward b0 (pos p0 -ℤ pos (3 * h * m0)))
  unfolding is_beyond tripled
  edge_beyond t p0 p1 p2 some at =
      let far : corner (tripled T) (tag T) ≡ spot (3 * h) w (finish m0) a1 a2 = end_at_2 (tripled T) _ _ _ _ n (edge_tripled h T w _ _ _ _ _ _ _ is) in
      let gone : toward b0 (pos (3 * h * finish m0) -ℤ pos (3 * h * m0)) ≡ pos (3 * h) = ap (toward b0) (to_finish (3 * h) b0 m0 e0) ∙ toward_signed b0 (3 * h) in
      ap (int_lt (pos 0)) (ap₂ (λ x y. x *ℤ y) (ap (height (tripled T)) at ∙ edge_height p0 p1 p2)
      (ap (height (tripled T)) far ∙ edge_height (3 * h * finish m0) (3 * h * a1) (3 * h * a2)
      ∙ ap (λ x. turn w (signed (odd_sign true b0 b1 b2) (3 * h * (3 * h)) *ℤ x)) gone))
      ∙ same_sign w (odd_sign true b0 b1 b2) (3 * h * (3 * h)) (3 * h) _ (one_square h some) (omega (arith, some))
