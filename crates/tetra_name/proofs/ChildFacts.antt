-- What `child` needs, from a name.
use Rattle.std.proofs.Common.{◌≡◌, ℕ, zero, suc, true, ◌≢◌, ◌+◌, ◌-◌, ◌*◌, ◌%◌, ◌^◌, ◌≤◌, ◌<◌, refl, sym, ◌∙◌, ap, arith}
use Rattle.std.specs.Prelude.{Some}
use Rattle.std.specs.Option.{option_map}
use Rattle.tpz_base.specs.declared.shape.Point.{Point}
use Rattle.tpz_base.specs.Points.{point_scale}
use Rattle.tpz_base.specs.Tetrahedra.{Tetrahedron, diamond, child_0, child_1, at_level}
use Rattle.tpz_base.specs.Diamonds.{level_of}
use Rattle.tpz_base.proofs.CutLaw.{Member}
use Rattle.tetra_name.specs.Places.{InBox, IsPlace, TellsMember}
use Rattle.tetra_name.proofs.Rounds.{even_side}
use Rattle.tetra_name.proofs.NameFacts.{member-contains}
use Rattle.tetra_name.specs.declared.shape.Tet.{Tet}
use Rattle.tetra_name.specs.Names.{child_of, point_of, tetrahedron_of, IsWithin}
use Rattle.tetra_name.specs.Steps.{is_member, long_axes, pairs, member_at, slot_at, child_pair, child_point, IsScalable}
use Rattle.tetra_name.proofs.Closed.{Corners}
use Rattle.tetra_name.proofs.MembersLaw.{cube_centre, face_centre, edge_centre}
use Rattle.tetra_name.proofs.PlaceLaw.{stands, picked, in_its_level, level_of_scale, box_of_scale, side_small, side_of_scale}
use Rattle.std.proofs.Math.Pow.{pow_mono}
use Rattle.std.proofs.Common.{pow-add}
use Rattle.tetra_name.proofs.NamesLaw.{axes_within}
use Rattle.tetra_name.proofs.Rooms.{in_range}
use Rattle.tetra_name.proofs.ChildLaw.{Child}
use Rattle.tetra_name.proofs.Children.{cube_children, face_children, edge_children}
use Rattle.tetra_name.proofs.ChildName.{inside_of_closed, child_0_in, child_1_in, name_of_closed}

-- both children, with their centres
pub record Both (j N o : ℕ) (T : Tetrahedron) (u : Point) (q : ℕ × ℕ) : Type 0 where
  pub c0 : Child (2 ^ j) N o (child_0 T) (child_point 0 u q) (child_pair 0 u q)
  pub c1 : Child (2 ^ j) N o (child_1 T) (child_point 1 u q) (child_pair 1 u q)
  pub d0 : diamond (child_0 T) ≡ point_scale (2 ^ j) (child_point 0 u q)
  pub d1 : diamond (child_1 T) ≡ point_scale (2 ^ j) (child_point 1 u q)

module _ (L : ℕ) (t : Tet) (j N : ℕ) (u : Point) (q : ℕ × ℕ) (most : L ≤ 30) (P : IsPlace L t j N u q) (above : level_of L (point_of t.centre) < 3 * L) where
  pub T : Tetrahedron
  T = member_at P.scale.n (2 ^ j) u q

  T_level : T.level ≡ P.scale.n
  unfolding T member_at
  T_level = refl

  T_corners : T.corners ≡ Corners (2 ^ j) u q
  unfolding T member_at
  T_corners = refl

  T_stands : tetrahedron_of L t ≡ Some T
  unfolding T
  T_stands = stands L t j N u q P

  in_level : Member (at_level L P.scale.n) T
  unfolding T
  in_level = in_its_level L t j N u q P

  low : P.scale.n < 3 * L
  low = omega (arith, above, level_of_scale L (point_of t.centre) j N u P.scale)

  chosen : Member pairs q × (is_member N u q ≡ true)
  chosen = picked L t j N u q P

  inside : InBox N u
  inside = box_of_scale L (point_of t.centre) j N u P.scale

  level_is : P.scale.n + long_axes u ≡ 3 * P.scale.k + 3
  level_is = P.scale.unit.level

  pub of_cube : long_axes u ≡ 3 → Both j N 2 T u q
  of_cube o =
      let n : T.level % 3 ≡ 0 = omega (arith, T_level, level_is, o) in
      let c = cube_children (2 ^ j) N T u q inside chosen.0 chosen.1 T_corners o n in
      record {
        c0 = c.0;
        c1 = c.1;
        d0 = face_centre (2 ^ j) (child_point 0 u q) (child_pair 0 u q) (child_0 T) c.0.axes (omega (arith, n)) c.0.is;
        d1 = face_centre (2 ^ j) (child_point 1 u q) (child_pair 1 u q) (child_1 T) c.1.axes (omega (arith, n)) c.1.is;
      }

  pub of_face : long_axes u ≡ 2 → Both j N 1 T u q
  of_face o =
      let n : T.level % 3 ≡ 1 = omega (arith, T_level, level_is, o) in
      let c = face_children (2 ^ j) N T u q inside chosen.0 chosen.1 T_corners o n in
      record {
        c0 = c.0;
        c1 = c.1;
        d0 = edge_centre (2 ^ j) (child_point 0 u q) (child_pair 0 u q) (child_0 T) c.0.axes (omega (arith, n)) c.0.is;
        d1 = edge_centre (2 ^ j) (child_point 1 u q) (child_pair 1 u q) (child_1 T) c.1.axes (omega (arith, n)) c.1.is;
      }

  pub edge_power : long_axes u ≡ 1 → 1 ≤ j
  edge_power o = omega (arith, level_is, o, low, P.scale.unit.sum)

  pub of_edge : long_axes u ≡ 1 → Both (j - 1) (2 * N) 3 T u q
  of_edge o =
      let n : T.level % 3 ≡ 2 = omega (arith, T_level, level_is, o) in
      let one = edge_power o in
      let up : j ≡ suc (j - 1) = omega (arith, one) in
      let double : 2 ^ j ≡ 2 * 2 ^ (j - 1) = ap (λ i. 2 ^ i) up ∙ omega arith in
      let c = edge_children (2 ^ (j - 1)) N T u q inside chosen.0 chosen.1 (T_corners ∙ ap (λ h. Corners h u q) double) o n in
      record {
        c0 = c.0;
        c1 = c.1;
        d0 = cube_centre (2 ^ (j - 1)) (child_point 0 u q) (child_pair 0 u q) (child_0 T) c.0.axes (omega (arith, n)) c.0.is;
        d1 = cube_centre (2 ^ (j - 1)) (child_point 1 u q) (child_pair 1 u q) (child_1 T) c.1.axes (omega (arith, n)) c.1.is;
      }

  -- the name of a child
  pub child_named : (i M o which : ℕ) (r : Tet) → which < 2 → Both i M o T u q → 0 < o → i ≤ L → M ≡ 2 ^ suc (L - i) → point_of r.centre ≡ point_scale (2 ^ i) (child_point which u q) → r.slot ≡ slot_at M (child_point which u q) (child_pair which u q)
      → tetrahedron_of L r ≡ child_of which (tetrahedron_of L t)
  unfolding child_of
  child_named i M o zero r lt B pos le side centre slot =
      name_of_closed L (suc P.scale.n) i M o (child_0 T) (child_point 0 u q) (child_pair 0 u q) r most (omega (arith, low)) (child_0_in L P.scale.n T in_level) le side B.c0 pos B.d0 centre slot
      ∙ sym (ap (option_map child_0) T_stands)
  child_named i M o (suc zero) r lt B pos le side centre slot =
      name_of_closed L (suc P.scale.n) i M o (child_1 T) (child_point 1 u q) (child_pair 1 u q) r most (omega (arith, low)) (child_1_in L P.scale.n T in_level) le side B.c1 pos B.d1 centre slot
      ∙ sym (ap (option_map child_1) T_stands)
  child_named i M o (suc (suc w)) r lt B pos le side centre slot = absurd (omega (arith, lt))

  top : (i M : ℕ) → i ≤ L → M ≡ 2 ^ suc (L - i) → 2 ^ i * M < 2 ^ 32
  top i M le e =
      let up : i + suc (L - i) ≡ suc L = omega (arith, le) in
      let less : suc L ≤ 31 = omega (arith, most) in
      let p : 2 ^ suc L ≤ 2 ^ 31 = pow_mono less in
      let s : 2 ^ i * 2 ^ suc (L - i) ≡ 2 ^ suc L = sym (pow-add 2 i (suc (L - i))) ∙ ap (λ n. 2 ^ n) up in
      rw e (omega (arith, s, p))

  pub child_scales : (i M o which : ℕ) → which < 2 → Both i M o T u q → 0 < o → i ≤ L → M ≡ 2 ^ suc (L - i) → IsScalable i (child_point which u q)
  child_scales i M o zero lt B pos le side =
      let b = inside_of_closed L (suc P.scale.n) i M o (child_0 T) (child_point 0 u q) (child_pair 0 u q) most (omega (arith, low)) (child_0_in L P.scale.n T in_level) le side B.c0 pos B.d0 in
      (in_range i M _ (top i M le side) b.x, in_range i M _ (top i M le side) b.y, in_range i M _ (top i M le side) b.z)
  child_scales i M o (suc zero) lt B pos le side =
      let b = inside_of_closed L (suc P.scale.n) i M o (child_1 T) (child_point 1 u q) (child_pair 1 u q) most (omega (arith, low)) (child_1_in L P.scale.n T in_level) le side B.c1 pos B.d1 in
      (in_range i M _ (top i M le side) b.x, in_range i M _ (top i M le side) b.y, in_range i M _ (top i M le side) b.z)
  child_scales i M o (suc (suc w)) lt B pos le side = absurd (omega (arith, lt))

  child_tells : (i M o which : ℕ) → which < 2 → Both i M o T u q → 0 < o → i ≤ L → M ≡ 2 ^ suc (L - i) → TellsMember M (child_point which u q) (child_pair which u q)
  child_tells i M o zero lt B pos le side = record {
    box = inside_of_closed L (suc P.scale.n) i M o (child_0 T) (child_point 0 u q) (child_pair 0 u q) most (omega (arith, low)) (child_0_in L P.scale.n T in_level) le side B.c0 pos B.d0;
    even = ap (λ n. n % 2) side ∙ even_side (L - i);
    some = omega (arith, B.c0.axes, pos);
    listed = member-contains pairs (child_pair 0 u q) B.c0.has;
    valid = B.c0.valid;
  }
  child_tells i M o (suc zero) lt B pos le side = record {
    box = inside_of_closed L (suc P.scale.n) i M o (child_1 T) (child_point 1 u q) (child_pair 1 u q) most (omega (arith, low)) (child_1_in L P.scale.n T in_level) le side B.c1 pos B.d1;
    even = ap (λ n. n % 2) side ∙ even_side (L - i);
    some = omega (arith, B.c1.axes, pos);
    listed = member-contains pairs (child_pair 1 u q) B.c1.has;
    valid = B.c1.valid;
  }
  child_tells i M o (suc (suc w)) lt B pos le side = absurd (omega (arith, lt))

  pub side_fits : N ≤ 1073741824
  side_fits = side_small L (point_of t.centre) j N u P.scale most low

  pub within : IsWithin 1073741824 u
  within = let b = inside in let s = side_fits in (omega (arith, b.x, s), omega (arith, b.y, s), omega (arith, b.z, s))

  side_here : N ≡ 2 ^ suc (L - j)
  side_here = side_of_scale L (point_of t.centre) j N u P.scale

  below_here : j ≤ L
  below_here = omega (arith, P.scale.unit.sum)

  side_next : 1 ≤ j → 2 * N ≡ 2 ^ suc (L - (j - 1))
  side_next one =
      let up : suc (L - (j - 1)) ≡ suc (suc (L - j)) = omega (arith, one, below_here) in
      let d : 2 ^ suc (suc (L - j)) ≡ 2 * 2 ^ suc (L - j) = omega arith in
      ap (λ x. 2 * x) side_here ∙ sym d ∙ ap (λ i. 2 ^ i) (sym up)

  pub edge_scales : (which : ℕ) → which < 2 → long_axes u ≡ 1 → IsScalable (j - 1) (child_point which u q)
  edge_scales which lt o = child_scales (j - 1) (2 * N) 3 which lt (of_edge o) (omega arith) (omega (arith, below_here)) (side_next (edge_power o))

  pub edge_named : (which : ℕ) (r : Tet) → which < 2 → long_axes u ≡ 1 → point_of r.centre ≡ point_scale (2 ^ (j - 1)) (child_point which u q) → r.slot ≡ slot_at (2 * N) (child_point which u q) (child_pair which u q)
      → tetrahedron_of L r ≡ child_of which (tetrahedron_of L t)
  edge_named which r lt o centre slot = child_named (j - 1) (2 * N) 3 which r lt (of_edge o) (omega arith) (omega (arith, below_here)) (side_next (edge_power o)) centre slot

  pub more_scales : (which o : ℕ) → which < 2 → long_axes u ≡ o → 0 < o → o ≢ 1 → o ≤ 3 → IsScalable j (child_point which u q)
  more_scales which zero lt e pos n h = absurd (omega (arith, pos))
  more_scales which (suc zero) lt e pos n h = absurd (n refl)
  more_scales which (suc (suc zero)) lt e pos n h = child_scales j N 1 which lt (of_face e) (omega arith) below_here side_here
  more_scales which (suc (suc (suc zero))) lt e pos n h = child_scales j N 2 which lt (of_cube e) (omega arith) below_here side_here
  more_scales which (suc (suc (suc (suc o)))) lt e pos n h = absurd (omega (arith, h))

  pub more_named : (which o : ℕ) (r : Tet) → which < 2 → long_axes u ≡ o → 0 < o → o ≢ 1 → o ≤ 3 → point_of r.centre ≡ point_scale (2 ^ j) (child_point which u q) → r.slot ≡ slot_at N (child_point which u q) (child_pair which u q)
      → tetrahedron_of L r ≡ child_of which (tetrahedron_of L t)
  more_named which zero r lt e pos n h centre slot = absurd (omega (arith, pos))
  more_named which (suc zero) r lt e pos n h centre slot = absurd (n refl)
  more_named which (suc (suc zero)) r lt e pos n h centre slot = child_named j N 1 which r lt (of_face e) (omega arith) below_here side_here centre slot
  more_named which (suc (suc (suc zero))) r lt e pos n h centre slot = child_named j N 2 which r lt (of_cube e) (omega arith) below_here side_here centre slot
  more_named which (suc (suc (suc (suc o)))) r lt e pos n h centre slot = absurd (omega (arith, h))

  pub scales : (which : ℕ) → which < 2 → long_axes u ≢ 1 → IsScalable j (child_point which u q)
  scales which lt n = more_scales which (long_axes u) lt refl P.scale.unit.some n (axes_within u)

  pub named : (which : ℕ) (r : Tet) → which < 2 → long_axes u ≢ 1 → point_of r.centre ≡ point_scale (2 ^ j) (child_point which u q) → r.slot ≡ slot_at N (child_point which u q) (child_pair which u q)
      → tetrahedron_of L r ≡ child_of which (tetrahedron_of L t)
  named which r lt n = more_named which (long_axes u) r lt refl P.scale.unit.some n (axes_within u)

  pub edge_tells : (which : ℕ) → which < 2 → long_axes u ≡ 1 → TellsMember (2 * N) (child_point which u q) (child_pair which u q)
  edge_tells which lt o = child_tells (j - 1) (2 * N) 3 which lt (of_edge o) (omega arith) (omega (arith, below_here)) (side_next (edge_power o))

  pub tells : (which : ℕ) → which < 2 → long_axes u ≢ 1 → TellsMember N (child_point which u q) (child_pair which u q)
  tells which lt n = cases (long_axes u) refl where
    cases : (o : ℕ) → long_axes u ≡ o → TellsMember N (child_point which u q) (child_pair which u q)
    cases zero e = absurd (omega (arith, e, P.scale.unit.some))
    cases (suc zero) e = absurd (n e)
    cases (suc (suc zero)) e = child_tells j N 1 which lt (of_face e) (omega arith) below_here side_here
    cases (suc (suc (suc zero))) e = child_tells j N 2 which lt (of_cube e) (omega arith) below_here side_here
    cases (suc (suc (suc (suc o)))) e = absurd (omega (arith, e, axes_within u))
