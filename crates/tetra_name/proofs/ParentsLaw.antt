-- The parents of a diamond in closed form.
use Rattle.std.proofs.Common.{◌≡◌, ℕ, zero, suc, ◌+◌, ◌*◌, ◌/◌, ◌%◌, ◌^◌, ◌≤◌, ◌<◌, ◌≢◌, ◌⊎◌, Bool, true, false, [], map, refl, sym, ◌∙◌, ap, ap₂, subst, inl, inr, arith, pow_pos}
use Rattle.std.specs.Prelude.{filter, ◌==◌}
use Rattle.std.proofs.lemmas.Bool.{and_parts, and_from, cases_Bool, eq-eqb, eqb-true, ltb-true}
use Rattle.tpz_base.specs.declared.shape.Point.{Point}
use Rattle.tpz_base.specs.Points.{point_scale}
use Rattle.tpz_base.specs.Tetrahedra.{parents}
use Rattle.tpz_base.proofs.CutLaw.{Member}
use Rattle.tpz_base.proofs.AxisPaths.{Order, xyz, xzy, yxz, yzx, zxy, zyx, along, turned, swapped}
use Rattle.tpz_base.proofs.Members.{member-filter, filter-member}
use Rattle.tpz_base.proofs.Elements.{member-map, map-member}
use Rattle.tpz_base.proofs.PointLemmas.{point_cong}
use Rattle.tetra_name.specs.Steps.{moved, coordinate, is_forwards, is_allowed, start, finish, start_point, allows, long_axes, step_directions, is_parent_step, half_point, parent_point}
use Rattle.tetra_name.specs.Places.{InBox, IsScale}
use Rattle.tetra_name.proofs.Directions.{first, second, third, moved-first, start-along, coordinate-first, coordinate-second, coordinate-third, forwards-first, forwards-second, forwards-third, long_axes-along, by_order, below_six, pair-first_second, pair-first_third, pair-second_third, step_below_six, step_member, by_first}
use Rattle.tetra_name.proofs.Closed.{way, ways, allows_long, long_allows, member_from, shift_start, start_down}
use Rattle.tetra_name.proofs.MembersAre.{coordinate-start}
use Rattle.tetra_name.proofs.Units.{parity}
use Rattle.tetra_name.proofs.NamesLaw.{side_of, axes_within}
use Rattle.tetra_name.proofs.ChildLaw.{odd_one, along-turned, along-swapped, turned-second, turned-third, swapped-second}
use Rattle.tetra_name.proofs.Children.{both, cube_parts, face_parts, edge_parts}
use Rattle.tetra_name.proofs.ParentLaw.{centre_1, centre_2, centre_3, start_four, finish_two}
use Rattle.tetra_name.proofs.PlaceLaw.{box_of_scale}
use Rattle.tetra_name.proofs.Adjacency.{IsPair, parents_are, flat_above, cube_above, no_parents}
use Rattle.tetra_name.proofs.KidsLaw.{steps_strict}

step_from : (N : ℕ) (u : Point) (d : ℕ) (b : Bool) (n : ℕ) → is_forwards d ≡ b → coordinate d u ≡ n → allows N b n ≡ true → n % 2 ≡ long_axes u / 3 → is_parent_step N u d ≡ true
unfolding is_parent_step is_allowed
step_from N u d b n f g may odd = rw (f, g) (and_from (allows N b n) (n % 2 == long_axes u / 3) may (eq-eqb (n % 2) (long_axes u / 3) odd))

step_may : (N : ℕ) (u : Point) (d : ℕ) → is_parent_step N u d ≡ true → allows N (is_forwards d) (coordinate d u) ≡ true
unfolding is_parent_step is_allowed
step_may N u d e = (and_parts (allows N (is_forwards d) (coordinate d u)) (coordinate d u % 2 == long_axes u / 3) e).0

step_parity : (N : ℕ) (u : Point) (d : ℕ) → is_parent_step N u d ≡ true → coordinate d u % 2 ≡ long_axes u / 3
unfolding is_parent_step is_allowed
step_parity N u d e = eqb-true (coordinate d u % 2) (long_axes u / 3) (and_parts (allows N (is_forwards d) (coordinate d u)) (coordinate d u % 2 == long_axes u / 3) e).1

back_flat : (N n : ℕ) → n % 2 ≡ 0 → allows N false n ≡ true → 1 ≤ n
unfolding allows
back_flat N n e m = ltb-true 0 n (rw e at m)

back_long : (N n : ℕ) → n % 2 ≡ 1 → allows N false n ≡ true → 2 ≤ start n
back_long N n e m = let w = long_allows N false n e m in omega (arith, start_down n w, w)

flat_room : (N : ℕ) (u : Point) → long_axes u / 3 ≡ 0 → (d : ℕ) → is_parent_step N u d ≡ true → (is_forwards d ≡ true) ⊎ (1 ≤ coordinate d u)
flat_room N u flat d e =
    elim (cases_Bool (is_forwards d)) [
      | inl f ↦ inl f
      | inr f ↦ inr (back_flat N (coordinate d u) (step_parity N u d e ∙ flat) (subst (λ b. allows N b (coordinate d u) ≡ true) f (step_may N u d e)))
    ]

cube_room : (N : ℕ) (u : Point) → long_axes u ≡ 3 → (d : ℕ) → is_parent_step N u d ≡ true → (is_forwards d ≡ true) ⊎ (2 ≤ coordinate d (start_point u))
cube_room N u o d e =
    elim (cases_Bool (is_forwards d)) [
      | inl f ↦ inl f
      | inr f ↦
          let odd : coordinate d u % 2 ≡ 1 = step_parity N u d e ∙ ap (λ n. n / 3) o in
          let two = back_long N (coordinate d u) odd (subst (λ b. allows N b (coordinate d u) ≡ true) f (step_may N u d e)) in
          inr (omega (arith, two, coordinate-start d u))
    ]

-- a parent's centre by a step
abbrev Risen : ℕ → Point → ℕ × ℕ → Type 0
Risen N u q = (d : ℕ) × (d < 6) × (is_parent_step N u d ≡ true) × (parent_point u q ≡ moved 1 d u)

risen_face : (N : ℕ) (u : Point) (q : ℕ × ℕ) → InBox N u → long_axes u ≡ 2 → IsPair N u q → Risen N u q
risen_face N u q box o v =
    let P = face_parts N u q box o v.has v.valid in
    both (Risen N) _ _ _ _ (sym P.u_is) (sym P.q_is) (at P.w P.b P.s P.x P.y P.z P.even P.may (subst (λ x. long_axes x ≡ 2) P.u_is o))
  where
    at : (w : Order) (b s : Bool) (x y z : ℕ) → z % 2 ≡ 0 → allows N s z ≡ true → long_axes (along w x y z) ≡ 2 → Risen N (along w x y z) (first w b, third w s)
    at w b s x y z even may o = (
      third w s,
      (below_six (first w b, third w s) (pair-first_third w b s)).1,
      step_from N (along w x y z) (third w s) s z (forwards-third w s) (coordinate-third w s x y z) may (omega (arith, even, o)),
      centre_2 (along w x y z) (first w b, third w s) o,
    )

risen_edge : (N : ℕ) (u : Point) (q : ℕ × ℕ) → InBox N u → long_axes u ≡ 1 → IsPair N u q → Risen N u q
risen_edge N u q box o v =
    let P = edge_parts N u q box o v.has v.valid in
    both (Risen N) _ _ _ _ (sym P.u_is) (sym P.q_is) (at P.w P.s P.t P.x P.y P.z P.y_even P.may (subst (λ x. long_axes x ≡ 1) P.u_is o))
  where
    at : (w : Order) (s t : Bool) (x y z : ℕ) → y % 2 ≡ 0 → allows N s y ≡ true → long_axes (along w x y z) ≡ 1 → Risen N (along w x y z) (second w s, third w t)
    at w s t x y z even may o = (
      second w s,
      (below_six (second w s, third w t) (pair-second_third w s t)).0,
      step_from N (along w x y z) (second w s) s y (forwards-second w s) (coordinate-second w s x y z) may (omega (arith, even, o)),
      centre_1 (along w x y z) (second w s, third w t) o,
    )

risen : (N : ℕ) (u : Point) (q : ℕ × ℕ) → InBox N u → 0 < long_axes u → long_axes u ≢ 3 → IsPair N u q → Risen N u q
risen N u q box some n v = cases (long_axes u) refl where
  cases : (o : ℕ) → long_axes u ≡ o → Risen N u q
  cases zero e = absurd (omega (arith, e, some))
  cases (suc zero) e = risen_edge N u q box e v
  cases (suc (suc zero)) e = risen_face N u q box e v
  cases (suc (suc (suc zero))) e = absurd (n e)
  cases (suc (suc (suc (suc o)))) e = absurd (omega (arith, e, axes_within u))

-- a step to a parent's centre
record Risen_by (N : ℕ) (u : Point) (d : ℕ) : Type 0 where
  q : ℕ × ℕ
  pair : IsPair N u q
  is : parent_point u q ≡ moved 1 d u

face_by : (N : ℕ) (w : Order) (s : Bool) (x y z : ℕ) → long_axes (along w x y z) ≡ 2 → x % 2 ≡ 1 → z % 2 ≡ 0 → allows N s z ≡ true → Risen_by N (along w x y z) (third w s)
face_by N w s x y z o odd even may =
    let k = ways x odd in
    record {
      q = (first w k.0, third w s);
      pair = record {
        has = pair-first_third w k.0 s;
        valid = member_from N (along w x y z) (first w k.0) (third w s) k.0 s x z (forwards-first w k.0) (coordinate-first w k.0 x y z) (forwards-third w s) (coordinate-third w s x y z)
            (allows_long N k.0 x k.1) may (omega (arith, odd, o)) (omega (arith, even, o));
      };
      is = centre_2 (along w x y z) (first w k.0, third w s) o;
    }

edge_by : (N : ℕ) (w : Order) (s : Bool) (x y z : ℕ) → 0 < N → long_axes (along w x y z) ≡ 1 → y % 2 ≡ 0 → z % 2 ≡ 0 → allows N s y ≡ true → Risen_by N (along w x y z) (second w s)
edge_by N w s x y z pos o even even' may =
    let k = side_of N z pos even' in
    record {
      q = (second w s, third w k.0);
      pair = record {
        has = pair-second_third w s k.0;
        valid = member_from N (along w x y z) (second w s) (third w k.0) s k.0 y z (forwards-second w s) (coordinate-second w s x y z) (forwards-third w k.0) (coordinate-third w k.0 x y z)
            may k.1 (omega (arith, even, o)) (omega (arith, even', o));
      };
      is = centre_1 (along w x y z) (second w s, third w k.0) o;
    }

risen_by : (N : ℕ) (u : Point) (d : ℕ) → 0 < N → d < 6 → is_parent_step N u d ≡ true → 0 < long_axes u → long_axes u ≢ 3 → Risen_by N u d
risen_by N u d pos lt step some n =
    let f = by_first d lt in
    let k = by_order f.w u in
    let flat : long_axes u / 3 ≡ 0 = omega (arith, n, axes_within u) in
    let e : coordinate d u ≡ k.p = ap₂ coordinate f.is k.is ∙ coordinate-first f.w f.b k.p k.q k.r in
    let g : is_forwards d ≡ f.b = ap is_forwards f.is ∙ forwards-first f.w f.b in
    let even : k.p % 2 ≡ 0 = ap (λ m. m % 2) (sym e) ∙ step_parity N u d step ∙ flat in
    let may : allows N f.b k.p ≡ true = ap₂ (allows N) (sym g) (sym e) ∙ step_may N u d step in
    both (Risen_by N) _ _ _ _ (sym k.is) (sym f.is)
    (by_kind f.w f.b k.p k.q k.r even may (long_axes (along f.w k.p k.q k.r)) refl (subst (λ v. 0 < long_axes v) k.is some) (λ h. n (ap long_axes k.is ∙ h)))
  where
    by_kind : (w : Order) (b : Bool) (p q r : ℕ) → p % 2 ≡ 0 → allows N b p ≡ true → (o : ℕ) → long_axes (along w p q r) ≡ o → 0 < long_axes (along w p q r) → long_axes (along w p q r) ≢ 3 → Risen_by N (along w p q r) (first w b)
    by_kind w b p q r even may zero e some n = absurd (omega (arith, e, some))
    by_kind w b p q r even may (suc zero) e some n =
        let s : p % 2 + (q % 2 + r % 2) ≡ 1 = sym (long_axes-along w p q r) ∙ e in
        elim (parity q) [
          | inr h ↦
              let at : along (swapped w) q p r ≡ along w p q r = along-swapped w q p r in
              both (Risen_by N) _ _ _ _ at (swapped-second w b) (edge_by N (swapped w) b q p r pos (ap long_axes at ∙ e) even (omega (arith, s, even, h)) may)
          | inl h ↦
              let at : along (turned (turned w)) r p q ≡ along w p q r = along-turned (turned w) r p q ∙ along-turned w q r p in
              both (Risen_by N) _ _ _ _ at (turned-second (turned w) b ∙ turned-third w b) (edge_by N (turned (turned w)) b r p q pos (ap long_axes at ∙ e) even h may)
        ]
    by_kind w b p q r even may (suc (suc zero)) e some n =
        let s : p % 2 + (q % 2 + r % 2) ≡ 2 = sym (long_axes-along w p q r) ∙ e in
        let at : along (turned w) q r p ≡ along w p q r = along-turned w q r p in
        both (Risen_by N) _ _ _ _ at (turned-third w b) (face_by N (turned w) b q r p (ap long_axes at ∙ e) (omega (arith, s, even)) even may)
    by_kind w b p q r even may (suc (suc (suc zero))) e some n = absurd (n e)
    by_kind w b p q r even may (suc (suc (suc (suc o)))) e some n = absurd (omega (arith, e, axes_within (along w p q r)))

-- the parents of a face's and of an edge's centre
pub flat_parents : (L : ℕ) (c : Point) (j N : ℕ) (u : Point) (S : IsScale L c j N u) → L ≤ 30 → long_axes u ≢ 3
    → parents L c ≡ map (λ d. point_scale (2 ^ j) (moved 1 d u)) (filter (is_parent_step N u) step_directions)
flat_parents L c j N u S most n =
    parents_are L c j N u S most (λ q. point_scale (2 ^ j) (parent_point u q)) (λ q v. flat_above L c j N u S most q v n) (map f (filter (is_parent_step N u) step_directions))
    (steps_strict (2 ^ j) 1 u (is_parent_step N u) (pow_pos j) (omega arith) (λ d lt e. flat_room N u flat d e))
    (λ q v. let r = risen N u q (box_of_scale L c j N u S) S.unit.some n v in
    subst (λ x. Member (map f (filter (is_parent_step N u) step_directions)) (point_scale (2 ^ j) x)) (sym r.3) (map-member f (filter (is_parent_step N u) step_directions) r.0 (filter-member (is_parent_step N u) step_directions r.0 (step_member r.0 r.1) r.2)))
    (λ z m. let r = member-map f (filter (is_parent_step N u) step_directions) z m in
    let k = member-filter (is_parent_step N u) step_directions r.0 r.1 in
    let B = risen_by N u r.0 pos (step_below_six r.0 k.0) k.1 S.unit.some n in
    (B.q, B.pair, ap (point_scale (2 ^ j)) B.is ∙ r.2))
  where
    f : ℕ → Point
    f d = point_scale (2 ^ j) (moved 1 d u)

    flat : long_axes u / 3 ≡ 0
    flat = omega (arith, n, axes_within u)

    pos : 0 < N
    pos = let p : 0 < 2 ^ suc S.k = pow_pos (suc S.k) in omega (arith, p, S.side)

-- cubes
times_half : (j n : ℕ) → n % 2 ≡ 0 → 2 ^ (j + 1) * (n / 2) ≡ 2 ^ j * n
times_half j n e =
    let up : j + 1 ≡ suc j = omega arith in
    let double : 2 ^ (j + 1) ≡ 2 * 2 ^ j = ap (λ x. 2 ^ x) up ∙ omega arith in
    let whole : n ≡ 2 * (n / 2) = omega (arith, e) in
    ap (λ x. x * (n / 2)) double ∙ omega (arith, ap (λ x. 2 ^ j * x) whole)

scale_half : (j : ℕ) (p : Point) → p.x % 2 ≡ 0 → p.y % 2 ≡ 0 → p.z % 2 ≡ 0 → point_scale (2 ^ (j + 1)) (half_point p) ≡ point_scale (2 ^ j) p
unfolding half_point
scale_half j p x y z = point_cong _ _ _ _ _ _ (times_half j p.x x) (times_half j p.y y) (times_half j p.z z)

even_along : (w : Order) (x y z : ℕ) → x % 2 ≡ 0 → y % 2 ≡ 0 → z % 2 ≡ 0 → ((along w x y z).x % 2 ≡ 0) × ((along w x y z).y % 2 ≡ 0) × ((along w x y z).z % 2 ≡ 0)
even_along xyz x y z a b c = (a, b, c)
even_along xzy x y z a b c = (a, c, b)
even_along yxz x y z a b c = (b, a, c)
even_along yzx x y z a b c = (c, a, b)
even_along zxy x y z a b c = (b, c, a)
even_along zyx x y z a b c = (c, b, a)

-- the step from the start of a cube's edge to the parent's centre
cube_rise : (j : ℕ) (w : Order) (b c e : Bool) (x y z : ℕ) (q : ℕ) → x % 4 ≡ way b → y % 4 ≡ way c → z % 4 ≡ way e → long_axes (along w x y z) ≡ 3
    → point_scale (2 ^ (j + 1)) (parent_point (along w x y z) (first w b, q)) ≡ point_scale (2 ^ j) (moved 2 (first w b) (start_point (along w x y z)))
cube_rise j w b c e x y z q f g h o =
    let at : moved 2 (first w b) (start_point (along w x y z)) ≡ along w (finish x) (start y) (start z) =
    ap (moved 2 (first w b)) (start-along w x y z) ∙ moved-first 2 w b (start x) (start y) (start z) ∙ ap (λ n. along w n (start y) (start z)) (shift_start b x f) in
    let evens = even_along w (finish x) (start y) (start z) (omega (arith, finish_two b x f)) (omega (arith, start_four c y g)) (omega (arith, start_four e z h)) in
    ap (point_scale (2 ^ (j + 1))) (centre_3 (along w x y z) (first w b, q) o ∙ ap half_point at) ∙ scale_half j (along w (finish x) (start y) (start z)) evens.0 evens.1 evens.2 ∙ ap (point_scale (2 ^ j)) (sym at)

abbrev CubeRisen : ℕ → ℕ → Point → ℕ × ℕ → Type 0
CubeRisen j N u q = (d : ℕ) × (d < 6) × (is_parent_step N u d ≡ true) × (point_scale (2 ^ (j + 1)) (parent_point u q) ≡ point_scale (2 ^ j) (moved 2 d (start_point u)))

cube_risen : (j N : ℕ) (u : Point) (q : ℕ × ℕ) → InBox N u → long_axes u ≡ 3 → IsPair N u q → CubeRisen j N u q
cube_risen j N u q box o v =
    let P = cube_parts N u q box o v.has v.valid in
    both (CubeRisen j N) _ _ _ _ (sym P.u_is) (sym P.q_is) (at P.w P.b P.c P.d P.x P.y P.z P.x_way P.y_way P.z_way (subst (λ x. long_axes x ≡ 3) P.u_is o))
  where
    at : (w : Order) (b c e : Bool) (x y z : ℕ) → x % 4 ≡ way b → y % 4 ≡ way c → z % 4 ≡ way e → long_axes (along w x y z) ≡ 3 → CubeRisen j N (along w x y z) (first w b, second w c)
    at w b c e x y z f g h o = (
      first w b,
      (below_six (first w b, second w c) (pair-first_second w b c)).0,
      step_from N (along w x y z) (first w b) b x (forwards-first w b) (coordinate-first w b x y z) (allows_long N b x f) (omega (arith, odd_one b x f, o)),
      cube_rise j w b c e x y z (second w c) f g h o,
    )

record CubeRisen_by (j N : ℕ) (u : Point) (d : ℕ) : Type 0 where
  q : ℕ × ℕ
  pair : IsPair N u q
  is : point_scale (2 ^ (j + 1)) (parent_point u q) ≡ point_scale (2 ^ j) (moved 2 d (start_point u))

cube_by : (j N : ℕ) (w : Order) (b : Bool) (x y z : ℕ) → long_axes (along w x y z) ≡ 3 → allows N b x ≡ true → CubeRisen_by j N (along w x y z) (first w b)
cube_by j N w b x y z o may =
    let s : x % 2 + (y % 2 + z % 2) ≡ 3 = sym (long_axes-along w x y z) ∙ o in
    let f = long_allows N b x (omega (arith, s)) may in
    let c = ways y (omega (arith, s)) in
    let e = ways z (omega (arith, s)) in
    record {
      q = (first w b, second w c.0);
      pair = record {
        has = pair-first_second w b c.0;
        valid = member_from N (along w x y z) (first w b) (second w c.0) b c.0 x y (forwards-first w b) (coordinate-first w b x y z) (forwards-second w c.0) (coordinate-second w c.0 x y z)
            may (allows_long N c.0 y c.1) (omega (arith, s, o)) (omega (arith, s, o));
      };
      is = cube_rise j w b c.0 e.0 x y z (second w c.0) f c.1 e.1 o;
    }

cube_risen_by : (j N : ℕ) (u : Point) (d : ℕ) → d < 6 → is_parent_step N u d ≡ true → long_axes u ≡ 3 → CubeRisen_by j N u d
cube_risen_by j N u d lt step o =
    let f = by_first d lt in
    let k = by_order f.w u in
    let e : coordinate d u ≡ k.p = ap₂ coordinate f.is k.is ∙ coordinate-first f.w f.b k.p k.q k.r in
    let g : is_forwards d ≡ f.b = ap is_forwards f.is ∙ forwards-first f.w f.b in
    let may : allows N f.b k.p ≡ true = ap₂ (allows N) (sym g) (sym e) ∙ step_may N u d step in
    both (CubeRisen_by j N) _ _ _ _ (sym k.is) (sym f.is) (cube_by j N f.w f.b k.p k.q k.r (subst (λ v. long_axes v ≡ 3) k.is o) may)

-- the parents of a cube's centre
pub cube_parents : (L : ℕ) (c : Point) (j N : ℕ) (u : Point) (S : IsScale L c j N u) → L ≤ 30 → long_axes u ≡ 3 → j ≢ L
    → parents L c ≡ map (λ d. point_scale (2 ^ j) (moved 2 d (start_point u))) (filter (is_parent_step N u) step_directions)
cube_parents L c j N u S most o n =
    parents_are L c j N u S most (λ q. point_scale (2 ^ (j + 1)) (parent_point u q)) (λ q v. cube_above L c j N u S most q v o n) (map f (filter (is_parent_step N u) step_directions))
    (steps_strict (2 ^ j) 2 (start_point u) (is_parent_step N u) (pow_pos j) (omega arith) (λ d lt e. cube_room N u o d e))
    (λ q v. let r = cube_risen j N u q (box_of_scale L c j N u S) o v in
    subst (Member (map f (filter (is_parent_step N u) step_directions))) (sym r.3) (map-member f (filter (is_parent_step N u) step_directions) r.0 (filter-member (is_parent_step N u) step_directions r.0 (step_member r.0 r.1) r.2)))
    (λ z m. let r = member-map f (filter (is_parent_step N u) step_directions) z m in
    let k = member-filter (is_parent_step N u) step_directions r.0 r.1 in
    let B = cube_risen_by j N u r.0 (step_below_six r.0 k.0) k.1 o in
    (B.q, B.pair, B.is ∙ r.2))
  where
    f : ℕ → Point
    f d = point_scale (2 ^ j) (moved 2 d (start_point u))

-- the whole cube's centre has none
pub root_parents : (L : ℕ) (c : Point) (j N : ℕ) (u : Point) (S : IsScale L c j N u) → L ≤ 30 → long_axes u ≡ 3 → j ≡ L → parents L c ≡ []
root_parents L c j N u S most o e = no_parents L c j N u S most (omega (arith, o, e, S.unit.level, S.unit.sum))
