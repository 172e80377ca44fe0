-- The kids of a diamond in closed form.
use Rattle.std.proofs.Common.{◌≡◌, ℕ, zero, suc, ◌+◌, ◌-◌, ◌*◌, ◌%◌, ◌^◌, ◌≤◌, ◌<◌, ◌≢◌, ◌⊎◌, Bool, true, false, not, ◌&&◌, map, refl, sym, ◌∙◌, ap, ap₂, subst, inl, inr, arith, pow_pos}
use Rattle.std.specs.Prelude.{filter, nat_lt}
use Rattle.std.specs.List.{AllByRecursion}
use Rattle.std.proofs.lemmas.Bool.{and_parts, and_from, eq-eqb, eqb-true, lt-ltb, ltb-true}
use Rattle.tpz_base.specs.declared.shape.Point.{Point}
use Rattle.tpz_base.specs.Points.{point, point_lt, point_scale}
use Rattle.tpz_base.specs.Tetrahedra.{kids}
use Rattle.tpz_base.proofs.CutLaw.{Member}
use Rattle.tpz_base.proofs.AxisPaths.{Order, xyz, xzy, yxz, yzx, zxy, zyx, along}
use Rattle.tpz_base.proofs.Distinct.{all_at}
use Rattle.tpz_base.proofs.Members.{member-filter, filter-member}
use Rattle.tpz_base.proofs.Elements.{member-map, map-member}
use Rattle.tetra_name.specs.Steps.{moved, coordinate, is_forwards, allows, long_axes, opposite, child_point, step_directions, is_kid_step, half_offsets, is_half, is_half_step, half_step}
use Rattle.tetra_name.specs.Places.{InBox, IsScale}
use Rattle.tetra_name.proofs.Sorting.{Below, Strict, below-true}
use Rattle.tetra_name.proofs.Directions.{first, second, third, shifted, moved_below, coordinate-first, coordinate-second, coordinate-third, forwards-first, forwards-second, forwards-third, long_axes-along, by_order, below_six, pair-first_second, pair-first_third, pair-second_third, steps_sorted, offsets_sorted, step_below_six, step_member, by_first, other, first-other, along-other}
use Rattle.tetra_name.proofs.Closed.{way, ways, allows_long, member_from}
use Rattle.tetra_name.proofs.MembersAre.{strict-map-filter, scale_below}
use Rattle.tetra_name.proofs.Units.{parity}
use Rattle.tetra_name.proofs.NamesLaw.{side_of, axes_within}
use Rattle.tetra_name.proofs.ChildLaw.{opposite-first, opposite-second, opposite-third, rest-first_second, rest-first_third, rest-second_third, odd_one, along_cong}
use Rattle.tetra_name.proofs.Children.{both, point_more_0, point_more_1, point_1_0, point_1_1, three_steps, cube_parts, face_parts, edge_parts}
use Rattle.tetra_name.proofs.PlaceLaw.{box_of_scale, even_of_scale}
use Rattle.tetra_name.proofs.Adjacency.{IsPair, kids_are, flat_child, edge_child}

-- steps along the axes lead to ascending points
pub steps_strict : (h s : ℕ) (from : Point) (p : ℕ → Bool) → 0 < h → 0 < s → ((d : ℕ) → d < 6 → p d ≡ true → (is_forwards d ≡ true) ⊎ (s ≤ coordinate d from))
    → Strict Below (map (λ d. point_scale h (moved s d from)) (filter p step_directions))
steps_strict h s from p pos some room =
    strict-map-filter (λ d e. nat_lt e d ≡ true) Below (λ d. point_scale h (moved s d from)) p step_directions steps_sorted
    (λ d e md me pd pe r. scale_below h pos (moved s d from) (moved s e from) (moved_below s e d from some (ltb-true e d r) (step_below_six d md) (room d (step_below_six d md) pd)))

kid_odd : (u : Point) (d : ℕ) → is_kid_step u d ≡ true → coordinate d u % 2 ≡ 1
unfolding is_kid_step
kid_odd u d e = eqb-true (coordinate d u % 2) 1 e

odd_kid : (u : Point) (d : ℕ) → coordinate d u % 2 ≡ 1 → is_kid_step u d ≡ true
unfolding is_kid_step
odd_kid u d e = eq-eqb (coordinate d u % 2) 1 e

pub same_or_not : (a b : Bool) → (a ≡ b) ⊎ (a ≡ not b)
same_or_not true true = inl refl
same_or_not true false = inr refl
same_or_not false true = inr refl
same_or_not false false = inl refl

not_not : (b : Bool) → not (not b) ≡ b
not_not true = refl
not_not false = refl

-- a child's centre by a step
abbrev Stepped : Point → ℕ × ℕ → Type 0
Stepped u q = (which : ℕ) → which < 2 → (d : ℕ) × (d < 6) × (is_kid_step u d ≡ true) × (child_point which u q ≡ moved 1 d u)

cube_stepped_at : (w : Order) (b c e : Bool) (x y z : ℕ) → x % 4 ≡ way b → y % 4 ≡ way c → z % 4 ≡ way e → long_axes (along w x y z) ≡ 3 → Stepped (along w x y z) (first w b, second w c)
cube_stepped_at w b c e x y z f g h o zero lt = (
  third w (not e),
  (below_six (first w b, third w (not e)) (pair-first_third w b (not e))).1,
  odd_kid (along w x y z) (third w (not e)) (ap (λ n. n % 2) (coordinate-third w (not e) x y z) ∙ odd_one e z h),
  point_more_0 (along w x y z) (first w b, second w c) 1 o ∙ ap (λ d. moved 1 d (along w x y z)) (ap opposite (rest-first_second w b c e x y z h) ∙ opposite-third w e),
)
cube_stepped_at w b c e x y z f g h o (suc zero) lt = (
  first w b,
  (below_six (first w b, second w c) (pair-first_second w b c)).0,
  odd_kid (along w x y z) (first w b) (ap (λ n. n % 2) (coordinate-first w b x y z) ∙ odd_one b x f),
  point_more_1 (along w x y z) (first w b, second w c) 1 o,
)
cube_stepped_at w b c e x y z f g h o (suc (suc v)) lt = absurd (omega (arith, lt))

face_stepped_at : (w : Order) (b c s : Bool) (x y z : ℕ) → x % 4 ≡ way b → y % 4 ≡ way c → long_axes (along w x y z) ≡ 2 → Stepped (along w x y z) (first w b, third w s)
face_stepped_at w b c s x y z f g o zero lt = (
  second w (not c),
  (below_six (first w b, second w (not c)) (pair-first_second w b (not c))).1,
  odd_kid (along w x y z) (second w (not c)) (ap (λ n. n % 2) (coordinate-second w (not c) x y z) ∙ odd_one c y g),
  point_more_0 (along w x y z) (first w b, third w s) 0 o ∙ ap (λ d. moved 1 d (along w x y z)) (ap opposite (rest-first_third w b s c x y z g) ∙ opposite-second w c),
)
face_stepped_at w b c s x y z f g o (suc zero) lt = (
  first w b,
  (below_six (first w b, second w c) (pair-first_second w b c)).0,
  odd_kid (along w x y z) (first w b) (ap (λ n. n % 2) (coordinate-first w b x y z) ∙ odd_one b x f),
  point_more_1 (along w x y z) (first w b, third w s) 0 o,
)
face_stepped_at w b c s x y z f g o (suc (suc v)) lt = absurd (omega (arith, lt))

stepped : (N : ℕ) (u : Point) (q : ℕ × ℕ) → InBox N u → (o : ℕ) → long_axes u ≡ suc (suc o) → IsPair N u q → Stepped u q
stepped N u q box zero o v =
    let P = face_parts N u q box o v.has v.valid in
    both Stepped _ _ _ _ (sym P.u_is) (sym P.q_is) (face_stepped_at P.w P.b P.c P.s P.x P.y P.z P.x_way P.y_way (subst (λ x. long_axes x ≡ 2) P.u_is o))
stepped N u q box (suc zero) o v =
    let P = cube_parts N u q box o v.has v.valid in
    both Stepped _ _ _ _ (sym P.u_is) (sym P.q_is) (cube_stepped_at P.w P.b P.c P.d P.x P.y P.z P.x_way P.y_way P.z_way (subst (λ x. long_axes x ≡ 3) P.u_is o))
stepped N u q box (suc (suc n)) o v = absurd (omega (arith, o, axes_within u))

-- a step to a child's centre
record Child_by (N : ℕ) (u : Point) (d : ℕ) : Type 0 where
  q : ℕ × ℕ
  pair : IsPair N u q
  which : ℕ
  few : which < 2
  is : child_point which u q ≡ moved 1 d u

cube_by : (N : ℕ) (w : Order) (b : Bool) (p q r : ℕ) → long_axes (along w p q r) ≡ 3 → Child_by N (along w p q r) (first w b)
cube_by N w b p q r o =
    let s : p % 2 + (q % 2 + r % 2) ≡ 3 = sym (long_axes-along w p q r) ∙ o in
    let k = ways p (omega (arith, s)) in
    let c = ways q (omega (arith, s)) in
    let e = ways r (omega (arith, s)) in
    elim (same_or_not k.0 b) [
      | inl same ↦
          let p_way : p % 4 ≡ way b = k.1 ∙ ap way same in
          record {
            q = (first w b, second w c.0);
            pair = record {
              has = pair-first_second w b c.0;
              valid = member_from N (along w p q r) (first w b) (second w c.0) b c.0 p q (forwards-first w b) (coordinate-first w b p q r) (forwards-second w c.0) (coordinate-second w c.0 p q r)
                  (allows_long N b p p_way) (allows_long N c.0 q c.1) (omega (arith, s, o)) (omega (arith, s, o));
            };
            which = 1;
            few = omega arith;
            is = point_more_1 (along w p q r) (first w b, second w c.0) 1 o;
          }
      | inr not_b ↦
          let rest = rest-second_third w c.0 e.0 k.0 p q r k.1 in
          let back : opposite (first w k.0) ≡ first w b = opposite-first w k.0 ∙ ap (λ x. first w (not x)) not_b ∙ ap (first w) (not_not b) in
          record {
            q = (second w c.0, third w e.0);
            pair = record {
              has = pair-second_third w c.0 e.0;
              valid = member_from N (along w p q r) (second w c.0) (third w e.0) c.0 e.0 q r (forwards-second w c.0) (coordinate-second w c.0 p q r) (forwards-third w e.0) (coordinate-third w e.0 p q r)
                  (allows_long N c.0 q c.1) (allows_long N e.0 r e.1) (omega (arith, s, o)) (omega (arith, s, o));
            };
            which = 0;
            few = omega arith;
            is = point_more_0 (along w p q r) (second w c.0, third w e.0) 1 o ∙ ap (λ d. moved 1 d (along w p q r)) (ap opposite rest ∙ back);
          }
    ]

face_by : (N : ℕ) (w : Order) (b : Bool) (p q r : ℕ) → 0 < N → long_axes (along w p q r) ≡ 2 → p % 2 ≡ 1 → q % 2 ≡ 1 → r % 2 ≡ 0 → Child_by N (along w p q r) (first w b)
face_by N w b p q r pos o odd odd' even =
    let k = ways p odd in
    let c = ways q odd' in
    let t = side_of N r pos even in
    elim (same_or_not k.0 b) [
      | inl same ↦
          let p_way : p % 4 ≡ way b = k.1 ∙ ap way same in
          record {
            q = (first w b, third w t.0);
            pair = record {
              has = pair-first_third w b t.0;
              valid = member_from N (along w p q r) (first w b) (third w t.0) b t.0 p r (forwards-first w b) (coordinate-first w b p q r) (forwards-third w t.0) (coordinate-third w t.0 p q r)
                  (allows_long N b p p_way) t.1 (omega (arith, odd, o)) (omega (arith, even, o));
            };
            which = 1;
            few = omega arith;
            is = point_more_1 (along w p q r) (first w b, third w t.0) 0 o;
          }
      | inr not_b ↦
          let rest = rest-second_third w c.0 t.0 k.0 p q r k.1 in
          let back : opposite (first w k.0) ≡ first w b = opposite-first w k.0 ∙ ap (λ x. first w (not x)) not_b ∙ ap (first w) (not_not b) in
          record {
            q = (second w c.0, third w t.0);
            pair = record {
              has = pair-second_third w c.0 t.0;
              valid = member_from N (along w p q r) (second w c.0) (third w t.0) c.0 t.0 q r (forwards-second w c.0) (coordinate-second w c.0 p q r) (forwards-third w t.0) (coordinate-third w t.0 p q r)
                  (allows_long N c.0 q c.1) t.1 (omega (arith, odd', o)) (omega (arith, even, o));
            };
            which = 0;
            few = omega arith;
            is = point_more_0 (along w p q r) (second w c.0, third w t.0) 0 o ∙ ap (λ d. moved 1 d (along w p q r)) (ap opposite rest ∙ back);
          }
    ]

child_by : (N : ℕ) (u : Point) (d : ℕ) → 0 < N → d < 6 → is_kid_step u d ≡ true → (o : ℕ) → long_axes u ≡ suc (suc o) → Child_by N u d
child_by N u d pos lt step o axes =
    let f = by_first d lt in
    let k = by_order f.w u in
    let axes' : long_axes (along f.w k.p k.q k.r) ≡ suc (suc o) = subst (λ v. long_axes v ≡ suc (suc o)) k.is axes in
    let odd : k.p % 2 ≡ 1 = ap (λ n. n % 2) (sym (coordinate-first f.w f.b k.p k.q k.r)) ∙ ap₂ (λ e v. coordinate e v % 2) (sym f.is) (sym k.is) ∙ kid_odd u d step in
    both (Child_by N) _ _ _ _ (sym k.is) (sym f.is) (by_kind f.w f.b k.p k.q k.r o axes' odd)
  where
    by_kind : (w : Order) (b : Bool) (p q r : ℕ) (o : ℕ) → long_axes (along w p q r) ≡ suc (suc o) → p % 2 ≡ 1 → Child_by N (along w p q r) (first w b)
    by_kind w b p q r zero e odd =
        let s : p % 2 + (q % 2 + r % 2) ≡ 2 = sym (long_axes-along w p q r) ∙ e in
        elim (parity q) [
          | inr h ↦ face_by N w b p q r pos e odd h (omega (arith, s, odd, h))
          | inl h ↦
              let e' : long_axes (along (other w) p r q) ≡ 2 = ap long_axes (along-other w p q r) ∙ e in
              both (Child_by N) _ _ _ _ (along-other w p q r) (first-other w b) (face_by N (other w) b p r q pos e' odd (omega (arith, s, odd, h)) h)
        ]
    by_kind w b p q r (suc zero) e odd = cube_by N w b p q r e
    by_kind w b p q r (suc (suc n)) e odd = absurd (omega (arith, e, axes_within (along w p q r)))

-- the kids of a cube's and of a face's centre
pub flat_kids : (L : ℕ) (c : Point) (j N : ℕ) (u : Point) (S : IsScale L c j N u) → L ≤ 30 → S.n < 3 * L → long_axes u ≢ 1
    → kids L c ≡ map (λ d. point_scale (2 ^ j) (moved 1 d u)) (filter (is_kid_step u) step_directions)
flat_kids L c j N u S most low n =
    kids_are L c j N u S most low j (λ q v which lt. flat_child L c j N u S most low q v which lt n) (map f (filter (is_kid_step u) step_directions))
    (steps_strict (2 ^ j) 1 u (is_kid_step u) (pow_pos j) (omega arith) (λ d lt e. let odd = kid_odd u d e in inr (omega (arith, odd))))
    (λ q v which lt. let r = stepped N u q (box_of_scale L c j N u S) (long_axes u - 2) more v which lt in
    subst (λ x. Member (map f (filter (is_kid_step u) step_directions)) (point_scale (2 ^ j) x)) (sym r.3) (map-member f (filter (is_kid_step u) step_directions) r.0 (filter-member (is_kid_step u) step_directions r.0 (step_member r.0 r.1) r.2)))
    (λ z m. let r = member-map f (filter (is_kid_step u) step_directions) z m in
    let k = member-filter (is_kid_step u) step_directions r.0 r.1 in
    let B = child_by N u r.0 pos (step_below_six r.0 k.0) k.1 (long_axes u - 2) more in
    (B.q, B.pair, (B.which, B.few, ap (point_scale (2 ^ j)) B.is ∙ r.2)))
  where
    f : ℕ → Point
    f d = point_scale (2 ^ j) (moved 1 d u)

    more : long_axes u ≡ suc (suc (long_axes u - 2))
    more = omega (arith, n, S.unit.some)

    pos : 0 < N
    pos = let p : 0 < 2 ^ suc S.k = pow_pos (suc S.k) in omega (arith, p, S.side)

-- an offset by a sign on each axis
abbrev off : Bool → ℕ
off true = 2
off false = 0

offset_member : (a b c : Bool) → Member half_offsets (point (off a) (off b) (off c))
unfolding half_offsets
offset_member false false false = inl refl
offset_member false false true = inr (inl refl)
offset_member false true false = inr (inr (inl refl))
offset_member false true true = inr (inr (inr (inl refl)))
offset_member true false false = inr (inr (inr (inr (inl refl))))
offset_member true false true = inr (inr (inr (inr (inr (inl refl)))))
offset_member true true false = inr (inr (inr (inr (inr (inr (inl refl))))))
offset_member true true true = inr (inr (inr (inr (inr (inr (inr (inl refl)))))))

offset_along : (w : Order) (a b c : Bool) → Member half_offsets (along w (off a) (off b) (off c))
offset_along xyz a b c = offset_member a b c
offset_along xzy a b c = offset_member a c b
offset_along yxz a b c = offset_member b a c
offset_along yzx a b c = offset_member c a b
offset_along zxy a b c = offset_member b c a
offset_along zyx a b c = offset_member c b a

record OffsetAt (o : Point) : Type 0 where
  a : Bool
  b : Bool
  c : Bool
  is : o ≡ point (off a) (off b) (off c)

all_offsets : AllByRecursion OffsetAt half_offsets
unfolding half_offsets
all_offsets = (record { a = false; b = false; c = false; is = refl }, (record { a = false; b = false; c = true; is = refl }, (record { a = false; b = true; c = false; is = refl }, (record { a = false; b = true; c = true; is = refl }, (record { a = true; b = false; c = false; is = refl }, (record { a = true; b = false; c = true; is = refl }, (record { a = true; b = true; c = false; is = refl }, (record { a = true; b = true; c = true; is = refl }, tt))))))))

record OffsetAlong (w : Order) (o : Point) : Type 0 where
  a : Bool
  b : Bool
  c : Bool
  is : o ≡ along w (off a) (off b) (off c)

offset_in : (w : Order) (o : Point) → Member half_offsets o → OffsetAlong w o
offset_in w o m = by w (all_at OffsetAt half_offsets all_offsets o m) where
  by : (w : Order) → OffsetAt o → OffsetAlong w o
  by xyz k = record { a = k.a; b = k.b; c = k.c; is = k.is }
  by xzy k = record { a = k.a; b = k.c; c = k.b; is = k.is }
  by yxz k = record { a = k.b; b = k.a; c = k.c; is = k.is }
  by yzx k = record { a = k.b; b = k.c; c = k.a; is = k.is }
  by zxy k = record { a = k.c; b = k.a; c = k.b; is = k.is }
  by zyx k = record { a = k.c; b = k.b; c = k.a; is = k.is }

half_step-along : (w : Order) (x y z a b c : ℕ) → half_step (along w x y z) (along w a b c) ≡ along w (2 * x + a - 1) (2 * y + b - 1) (2 * z + c - 1)
unfolding half_step
half_step-along xyz x y z a b c = refl
half_step-along xzy x y z a b c = refl
half_step-along yxz x y z a b c = refl
half_step-along yzx x y z a b c = refl
half_step-along zxy x y z a b c = refl
half_step-along zyx x y z a b c = refl

record AreHalves (N x y z a b c : ℕ) : Type 0 where
  first_is : is_half N (2 * x + a) ≡ true
  second_is : is_half N (2 * y + b) ≡ true
  third_is : is_half N (2 * z + c) ≡ true

halves_from : (N : ℕ) (w : Order) (x y z a b c : ℕ) → AreHalves N x y z a b c → is_half_step N (along w x y z) (along w a b c) ≡ true
unfolding is_half_step
halves_from N xyz x y z a b c h = and_from (is_half N (2 * x + a)) (is_half N (2 * y + b) && is_half N (2 * z + c)) h.first_is (and_from (is_half N (2 * y + b)) (is_half N (2 * z + c)) h.second_is h.third_is)
halves_from N xzy x y z a b c h = and_from (is_half N (2 * x + a)) (is_half N (2 * z + c) && is_half N (2 * y + b)) h.first_is (and_from (is_half N (2 * z + c)) (is_half N (2 * y + b)) h.third_is h.second_is)
halves_from N yxz x y z a b c h = and_from (is_half N (2 * y + b)) (is_half N (2 * x + a) && is_half N (2 * z + c)) h.second_is (and_from (is_half N (2 * x + a)) (is_half N (2 * z + c)) h.first_is h.third_is)
halves_from N yzx x y z a b c h = and_from (is_half N (2 * z + c)) (is_half N (2 * x + a) && is_half N (2 * y + b)) h.third_is (and_from (is_half N (2 * x + a)) (is_half N (2 * y + b)) h.first_is h.second_is)
halves_from N zxy x y z a b c h = and_from (is_half N (2 * y + b)) (is_half N (2 * z + c) && is_half N (2 * x + a)) h.second_is (and_from (is_half N (2 * z + c)) (is_half N (2 * x + a)) h.third_is h.first_is)
halves_from N zyx x y z a b c h = and_from (is_half N (2 * z + c)) (is_half N (2 * y + b) && is_half N (2 * x + a)) h.third_is (and_from (is_half N (2 * y + b)) (is_half N (2 * x + a)) h.second_is h.first_is)

halves_of : (N : ℕ) (w : Order) (x y z a b c : ℕ) → is_half_step N (along w x y z) (along w a b c) ≡ true → AreHalves N x y z a b c
unfolding is_half_step
halves_of N xyz x y z a b c e =
    let k = and_parts (is_half N (2 * x + a)) (is_half N (2 * y + b) && is_half N (2 * z + c)) e in
    let l = and_parts (is_half N (2 * y + b)) (is_half N (2 * z + c)) k.1 in
    record { first_is = k.0; second_is = l.0; third_is = l.1 }
halves_of N xzy x y z a b c e =
    let k = and_parts (is_half N (2 * x + a)) (is_half N (2 * z + c) && is_half N (2 * y + b)) e in
    let l = and_parts (is_half N (2 * z + c)) (is_half N (2 * y + b)) k.1 in
    record { first_is = k.0; second_is = l.1; third_is = l.0 }
halves_of N yxz x y z a b c e =
    let k = and_parts (is_half N (2 * y + b)) (is_half N (2 * x + a) && is_half N (2 * z + c)) e in
    let l = and_parts (is_half N (2 * x + a)) (is_half N (2 * z + c)) k.1 in
    record { first_is = l.0; second_is = k.0; third_is = l.1 }
halves_of N yzx x y z a b c e =
    let k = and_parts (is_half N (2 * z + c)) (is_half N (2 * x + a) && is_half N (2 * y + b)) e in
    let l = and_parts (is_half N (2 * x + a)) (is_half N (2 * y + b)) k.1 in
    record { first_is = l.0; second_is = l.1; third_is = k.0 }
halves_of N zxy x y z a b c e =
    let k = and_parts (is_half N (2 * y + b)) (is_half N (2 * z + c) && is_half N (2 * x + a)) e in
    let l = and_parts (is_half N (2 * z + c)) (is_half N (2 * x + a)) k.1 in
    record { first_is = l.1; second_is = k.0; third_is = l.0 }
halves_of N zyx x y z a b c e =
    let k = and_parts (is_half N (2 * z + c)) (is_half N (2 * y + b) && is_half N (2 * x + a)) e in
    let l = and_parts (is_half N (2 * y + b)) (is_half N (2 * x + a)) k.1 in
    record { first_is = l.1; second_is = l.0; third_is = k.0 }

half_of_flat : (N : ℕ) (s : Bool) (n : ℕ) → n ≤ N → n % 2 ≡ 0 → allows N s n ≡ true → is_half N (2 * n + off s) ≡ true
unfolding allows
half_of_flat N true n le e m = let lt : n < N = ltb-true n N (rw e at m) in and_from (nat_lt 0 (2 * n + 2)) (nat_lt (2 * n + 2) (2 * N + 2)) (lt-ltb 0 (2 * n + 2) (omega arith)) (lt-ltb (2 * n + 2) (2 * N + 2) (omega (arith, lt)))
half_of_flat N false n le e m = let lt : 0 < n = ltb-true 0 n (rw e at m) in and_from (nat_lt 0 (2 * n + 0)) (nat_lt (2 * n + 0) (2 * N + 2)) (lt-ltb 0 (2 * n + 0) (omega (arith, lt))) (lt-ltb (2 * n + 0) (2 * N + 2) (omega (arith, le)))

half_of_long : (N : ℕ) (d : Bool) (n : ℕ) → n < N → n % 2 ≡ 1 → is_half N (2 * n + off d) ≡ true
half_of_long N true n lt e = and_from (nat_lt 0 (2 * n + 2)) (nat_lt (2 * n + 2) (2 * N + 2)) (lt-ltb 0 (2 * n + 2) (omega arith)) (lt-ltb (2 * n + 2) (2 * N + 2) (omega (arith, lt)))
half_of_long N false n lt e = and_from (nat_lt 0 (2 * n + 0)) (nat_lt (2 * n + 0) (2 * N + 2)) (lt-ltb 0 (2 * n + 0) (omega (arith, e))) (lt-ltb (2 * n + 0) (2 * N + 2) (omega (arith, lt)))

flat_of_half : (N : ℕ) (s : Bool) (n : ℕ) → n % 2 ≡ 0 → is_half N (2 * n + off s) ≡ true → allows N s n ≡ true
unfolding allows
flat_of_half N true n e m =
    let k = and_parts (nat_lt 0 (2 * n + 2)) (nat_lt (2 * n + 2) (2 * N + 2)) m in
    rw e (lt-ltb n N (let lt = ltb-true (2 * n + 2) (2 * N + 2) k.1 in omega (arith, lt)))
flat_of_half N false n e m =
    let k = and_parts (nat_lt 0 (2 * n + 0)) (nat_lt (2 * n + 0) (2 * N + 2)) m in
    rw e (lt-ltb 0 n (let lt = ltb-true 0 (2 * n + 0) k.0 in omega (arith, lt)))

off_step : (d : Bool) (n : ℕ) → 2 * n + off d - 1 ≡ shifted d 1 (2 * n)
off_step true n = omega arith
off_step false n = omega arith

half_step-off : (w : Order) (d s t : Bool) (x y z : ℕ) → half_step (along w x y z) (along w (off d) (off s) (off t)) ≡ along w (shifted d 1 (2 * x)) (shifted s 1 (2 * y)) (shifted t 1 (2 * z))
half_step-off w d s t x y z = half_step-along w x y z (off d) (off s) (off t) ∙ along_cong w _ _ _ _ _ _ (off_step d x) (off_step s y) (off_step t z)

-- both children of an edge's member, half a step away
edge_centre_0 : (w : Order) (b s t : Bool) (x y z : ℕ) → x % 4 ≡ way b → long_axes (along w x y z) ≡ 1
    → child_point 0 (along w x y z) (second w s, third w t) ≡ half_step (along w x y z) (along w (off (not b)) (off s) (off t))
edge_centre_0 w b s t x y z f o =
    point_1_0 (along w x y z) (second w s, third w t) o
    ∙ ap (λ r. moved 1 r (moved 1 (second w s) (moved 1 (third w t) (point_scale 2 (along w x y z))))) (ap opposite (rest-second_third w s t b x y z f) ∙ opposite-first w b)
    ∙ three_steps w (not b) s t x y z ∙ sym (half_step-off w (not b) s t x y z)

edge_centre_1 : (w : Order) (b s t : Bool) (x y z : ℕ) → x % 4 ≡ way b → long_axes (along w x y z) ≡ 1
    → child_point 1 (along w x y z) (second w s, third w t) ≡ half_step (along w x y z) (along w (off b) (off s) (off t))
edge_centre_1 w b s t x y z f o =
    point_1_1 (along w x y z) (second w s, third w t) o
    ∙ ap (λ r. moved 1 r (moved 1 (second w s) (moved 1 (third w t) (point_scale 2 (along w x y z))))) (rest-second_third w s t b x y z f)
    ∙ three_steps w b s t x y z ∙ sym (half_step-off w b s t x y z)

abbrev Halved : ℕ → Point → ℕ × ℕ → Type 0
Halved N u q = (which : ℕ) → which < 2 → (o : Point) × Member half_offsets o × (is_half_step N u o ≡ true) × (child_point which u q ≡ half_step u o)

halved : (N : ℕ) (u : Point) (q : ℕ × ℕ) → N % 2 ≡ 0 → InBox N u → long_axes u ≡ 1 → IsPair N u q → Halved N u q
halved N u q even box o v =
    let P = edge_parts N u q box o v.has v.valid in
    let odd = odd_one P.b P.x P.x_way in
    let x_in : P.x < N = omega (arith, P.inside.0, odd, even) in
    both (Halved N) _ _ _ _ (sym P.u_is) (sym P.q_is)
    (at P.w P.b P.s P.t P.x P.y P.z P.x_way (subst (λ x. long_axes x ≡ 1) P.u_is o) (λ d. half_of_long N d P.x x_in odd) (half_of_flat N P.s P.y P.inside.1 P.y_even P.may) (half_of_flat N P.t P.z P.inside.2 P.z_even P.may'))
  where
    at : (w : Order) (b s t : Bool) (x y z : ℕ) → x % 4 ≡ way b → long_axes (along w x y z) ≡ 1 → ((d : Bool) → is_half N (2 * x + off d) ≡ true) → is_half N (2 * y + off s) ≡ true → is_half N (2 * z + off t) ≡ true
        → Halved N (along w x y z) (second w s, third w t)
    at w b s t x y z f o hx hy hz zero lt =
        (along w (off (not b)) (off s) (off t), offset_along w (not b) s t, halves_from N w x y z _ _ _ (record { first_is = hx (not b); second_is = hy; third_is = hz }), edge_centre_0 w b s t x y z f o)
    at w b s t x y z f o hx hy hz (suc zero) lt =
        (along w (off b) (off s) (off t), offset_along w b s t, halves_from N w x y z _ _ _ (record { first_is = hx b; second_is = hy; third_is = hz }), edge_centre_1 w b s t x y z f o)
    at w b s t x y z f o hx hy hz (suc (suc v)) lt = absurd (omega (arith, lt))

record Child_half (N : ℕ) (u : Point) (o : Point) : Type 0 where
  q : ℕ × ℕ
  pair : IsPair N u q
  which : ℕ
  few : which < 2
  is : child_point which u q ≡ half_step u o

half_by : (N : ℕ) (w : Order) (d s t : Bool) (x y z : ℕ) → long_axes (along w x y z) ≡ 1 → x % 2 ≡ 1 → y % 2 ≡ 0 → z % 2 ≡ 0 → is_half_step N (along w x y z) (along w (off d) (off s) (off t)) ≡ true
    → Child_half N (along w x y z) (along w (off d) (off s) (off t))
half_by N w d s t x y z o odd even even' h =
    let H = halves_of N w x y z (off d) (off s) (off t) h in
    let k = ways x odd in
    let pair : IsPair N (along w x y z) (second w s, third w t) = record {
      has = pair-second_third w s t;
      valid = member_from N (along w x y z) (second w s) (third w t) s t y z (forwards-second w s) (coordinate-second w s x y z) (forwards-third w t) (coordinate-third w t x y z)
          (flat_of_half N s y even H.second_is) (flat_of_half N t z even' H.third_is) (omega (arith, even, o)) (omega (arith, even', o));
    } in
    elim (same_or_not k.0 d) [
      | inl same ↦ record {
        q = (second w s, third w t);
        pair = pair;
        which = 1;
        few = omega arith;
        is = edge_centre_1 w k.0 s t x y z k.1 o ∙ ap (λ e. half_step (along w x y z) (along w (off e) (off s) (off t))) same;
      }
      | inr not_d ↦ record {
        q = (second w s, third w t);
        pair = pair;
        which = 0;
        few = omega arith;
        is = edge_centre_0 w k.0 s t x y z k.1 o ∙ ap (λ e. half_step (along w x y z) (along w (off (not e)) (off s) (off t))) not_d ∙ ap (λ e. half_step (along w x y z) (along w (off e) (off s) (off t))) (not_not d);
      }
    ]

-- an edge's long axis comes first in some order
record LongFirst (u : Point) : Type 0 where
  w : Order
  x : ℕ
  y : ℕ
  z : ℕ
  is : u ≡ along w x y z
  x_odd : x % 2 ≡ 1
  y_even : y % 2 ≡ 0
  z_even : z % 2 ≡ 0

long_first : (u : Point) → long_axes u ≡ 1 → LongFirst u
unfolding long_axes
long_first u o =
    elim (parity u.x) [
      | inr x ↦ record { w = xyz; x = u.x; y = u.y; z = u.z; is = refl; x_odd = x; y_even = omega (arith, o, x); z_even = omega (arith, o, x) }
      | inl x ↦ elim (parity u.y) [
        | inr y ↦ record { w = yxz; x = u.y; y = u.x; z = u.z; is = refl; x_odd = y; y_even = x; z_even = omega (arith, o, x, y) }
        | inl y ↦ record { w = zxy; x = u.z; y = u.x; z = u.y; is = refl; x_odd = omega (arith, o, x, y); y_even = x; z_even = y }
      ]
    ]

child_half : (N : ℕ) (u o : Point) → long_axes u ≡ 1 → Member half_offsets o → is_half_step N u o ≡ true → Child_half N u o
child_half N u o axes m h =
    let F = long_first u axes in
    let k = offset_in F.w o m in
    let axes' : long_axes (along F.w F.x F.y F.z) ≡ 1 = subst (λ v. long_axes v ≡ 1) F.is axes in
    let h' : is_half_step N (along F.w F.x F.y F.z) (along F.w (off k.a) (off k.b) (off k.c)) ≡ true = ap₂ (is_half_step N) (sym F.is) (sym k.is) ∙ h in
    both (Child_half N) _ _ _ _ (sym F.is) (sym k.is) (half_by N F.w k.a k.b k.c F.x F.y F.z axes' F.x_odd F.y_even F.z_even h')

less_one : (m a b : ℕ) → 0 < m + a → a < b → m + a - 1 < m + b - 1
less_one m a b pos lt = omega (arith, pos, lt)

half_positive : (N n : ℕ) → is_half N n ≡ true → 0 < n
half_positive N n e = ltb-true 0 n (and_parts (nat_lt 0 n) (nat_lt n (2 * N + 2)) e).0

half_below : (N : ℕ) (u o p : Point) → is_half_step N u o ≡ true → Below o p → Below (half_step u o) (half_step u p)
unfolding is_half_step half_step
half_below N u o p e b =
    let k = and_parts (is_half N (2 * u.x + o.x)) (is_half N (2 * u.y + o.y) && is_half N (2 * u.z + o.z)) e in
    let l = and_parts (is_half N (2 * u.y + o.y)) (is_half N (2 * u.z + o.z)) k.1 in
    elim b [
      | inl lt ↦ inl (less_one (2 * u.x) o.x p.x (half_positive N _ k.0) lt)
      | inr r ↦ inr (
        ap (λ n. 2 * u.x + n - 1) r.0,
        elim r.1 [
          | inl lt ↦ inl (less_one (2 * u.y) o.y p.y (half_positive N _ l.0) lt)
          | inr s ↦ inr (ap (λ n. 2 * u.y + n - 1) s.0, less_one (2 * u.z) o.z p.z (half_positive N _ l.1) s.1)
        ],
      )
    ]

-- the kids of an edge's centre
pub edge_kids : (L : ℕ) (c : Point) (j N : ℕ) (u : Point) (S : IsScale L c j N u) → L ≤ 30 → S.n < 3 * L → long_axes u ≡ 1
    → kids L c ≡ map (λ o. point_scale (2 ^ (j - 1)) (half_step u o)) (filter (is_half_step N u) half_offsets)
edge_kids L c j N u S most low one =
    kids_are L c j N u S most low (j - 1) (λ q v which lt. edge_child L c j N u S most low q v which lt one) (map f (filter (is_half_step N u) half_offsets))
    (strict-map-filter (λ o p. point_lt o p ≡ true) Below f (is_half_step N u) half_offsets offsets_sorted
    (λ o p mo mp ho hp r. scale_below (2 ^ (j - 1)) (pow_pos (j - 1)) (half_step u o) (half_step u p) (half_below N u o p ho (below-true o p r))))
    (λ q v which lt. let r = halved N u q (even_of_scale L c j N u S) (box_of_scale L c j N u S) one v which lt in
    subst (λ x. Member (map f (filter (is_half_step N u) half_offsets)) (point_scale (2 ^ (j - 1)) x)) (sym r.3) (map-member f (filter (is_half_step N u) half_offsets) r.0 (filter-member (is_half_step N u) half_offsets r.0 r.1 r.2)))
    (λ z m. let r = member-map f (filter (is_half_step N u) half_offsets) z m in
    let k = member-filter (is_half_step N u) half_offsets r.0 r.1 in
    let B = child_half N u r.0 one k.0 k.1 in
    (B.q, B.pair, (B.which, B.few, ap (point_scale (2 ^ (j - 1))) B.is ∙ r.2)))
  where
    f : Point → Point
    f o = point_scale (2 ^ (j - 1)) (half_step u o)
