-- What `parent` needs, from a name.
use Rattle.std.proofs.Common.{◌≡◌, ℕ, zero, suc, ◌≢◌, ◌+◌, ◌-◌, ◌*◌, ◌/◌, ◌%◌, ◌^◌, ◌≤◌, ◌<◌, true, refl, sym, ◌∙◌, ap, ap₂, subst, arith}
use Rattle.std.specs.Prelude.{Some}
use Rattle.tpz_base.specs.declared.shape.Point.{Point}
use Rattle.tpz_base.specs.Points.{point_scale}
use Rattle.tpz_base.specs.Tetrahedra.{Tetrahedron, diamond, child_0, child_1, at_level}
use Rattle.tpz_base.specs.Diamonds.{level_of}
use Rattle.tpz_base.proofs.CutLaw.{Member}
use Rattle.tpz_base.proofs.Distinct.{tetrahedron_cong}
use Rattle.tetra_name.specs.declared.shape.Tet.{Tet}
use Rattle.tetra_name.specs.Names.{child_of, point_of, tetrahedron_of, IsName}
use Rattle.tetra_name.specs.Steps.{is_member, long_axes, pairs, member_at, slot_at, child_pair, child_point, parent_which, parent_pair, parent_point, IsScalable}
use Rattle.tetra_name.specs.Places.{InBox, IsUnit, IsPlace, TellsMember}
use Rattle.tetra_name.proofs.Rounds.{even_side}
use Rattle.tetra_name.proofs.Closed.{Corners}
use Rattle.tetra_name.proofs.MembersLaw.{cube_centre, face_centre, edge_centre}
use Rattle.tetra_name.proofs.NamesLaw.{axes_within}
use Rattle.tetra_name.proofs.PlaceLaw.{stands, picked, closed_in, level_of_scale, box_of_scale, fits_of_scale}
use Rattle.tetra_name.proofs.Rooms.{in_range}
use Rattle.tetra_name.proofs.ChildLaw.{Child}
use Rattle.tetra_name.proofs.Children.{cube_children, face_children, edge_children}
use Rattle.tetra_name.proofs.ChildName.{name_of_closed}
use Rattle.tetra_name.proofs.ParentLaw.{ParentIs, of_cube, of_face, of_edge}
use Rattle.tetra_name.proofs.NameFacts.{member-contains, child_at, child_of-some, child_at-level, some_is, name_level}

-- r is the name of the parent of t, which is its child of this number
pub record IsParent (L which : ℕ) (t r : Tet) : Type 0 where
  pub name : IsName L r
  pub few : which < 2
  pub child : child_of which (tetrahedron_of L r) ≡ tetrahedron_of L t
  pub level : level_of L (point_of t.centre) ≡ suc (level_of L (point_of r.centre))

-- one of two children has these corners
either : (h : ℕ) (S : Tetrahedron) (which : ℕ) (v : Point) (p : ℕ × ℕ) (u : Point) (q : ℕ × ℕ) → which < 2
    → (child_0 S).corners ≡ Corners h (child_point 0 v p) (child_pair 0 v p) → (child_1 S).corners ≡ Corners h (child_point 1 v p) (child_pair 1 v p)
    → child_point which v p ≡ u → child_pair which v p ≡ q → (child_at which S).corners ≡ Corners h u q
unfolding child_at
either h S zero v p u q few c0 c1 e f = c0 ∙ ap₂ (Corners h) e f
either h S (suc zero) v p u q few c0 c1 e f = c1 ∙ ap₂ (Corners h) e f
either h S (suc (suc w)) v p u q few c0 c1 e f = absurd (omega (arith, few))

closed_corners : (m h : ℕ) (v : Point) (p : ℕ × ℕ) → (member_at m h v p).corners ≡ Corners h v p
unfolding member_at
closed_corners m h v p = refl

closed_level : (m h : ℕ) (v : Point) (p : ℕ × ℕ) → (member_at m h v p).level ≡ m
unfolding member_at
closed_level m h v p = refl

module _ (L : ℕ) (t : Tet) (j N : ℕ) (u : Point) (q : ℕ × ℕ) (most : L ≤ 30) (P : IsPlace L t j N u q) where
  chosen : Member pairs q × (is_member N u q ≡ true)
  chosen = picked L t j N u q P

  inside : InBox N u
  inside = box_of_scale L (point_of t.centre) j N u P.scale

  -- a parent in closed form is the parent
  module _ (which i M o m k : ℕ) (v : Point) (p : ℕ × ℕ) (A : ParentIs M o which u q v p) (U : IsUnit L k i m v) (side : M ≡ 2 ^ suc k) (next : P.scale.n ≡ suc m) (pos : 0 < o) where
    closed_member : Member (at_level L m) (member_at m (2 ^ i) v p)
    closed_member = closed_in L k i m v p U A.has (subst (λ K. is_member K v p ≡ true) side A.valid)

    is_parent : (r : Tet) → diamond (member_at m (2 ^ i) v p) ≡ point_scale (2 ^ i) v → (child_at which (member_at m (2 ^ i) v p)).corners ≡ Corners (2 ^ j) u q
        → point_of r.centre ≡ point_scale (2 ^ i) v → r.slot ≡ slot_at M v p → IsParent L which t r
    unfolding IsName
    is_parent r middle back centre slot =
        let k_is : k ≡ L - i = omega (arith, U.sum) in
        let closed : Child (2 ^ i) M o (member_at m (2 ^ i) v p) v p = record { has = A.has; axes = A.axes; valid = A.valid; is = closed_corners m (2 ^ i) v p } in
        let named : tetrahedron_of L r ≡ Some (member_at m (2 ^ i) v p) =
        name_of_closed L m i M o (member_at m (2 ^ i) v p) v p r most U.within closed_member (omega (arith, U.sum)) (side ∙ ap (λ x. 2 ^ suc x) k_is) closed pos middle centre slot in
        let same : child_at which (member_at m (2 ^ i) v p) ≡ member_at P.scale.n (2 ^ j) u q =
        tetrahedron_cong (child_at which (member_at m (2 ^ i) v p)) (member_at P.scale.n (2 ^ j) u q)
        (child_at-level which (member_at m (2 ^ i) v p) ∙ ap suc (closed_level m (2 ^ i) v p) ∙ sym next ∙ sym (closed_level P.scale.n (2 ^ j) u q)) (back ∙ sym (closed_corners P.scale.n (2 ^ j) u q)) in
        record {
          name = some_is (tetrahedron_of L r) (member_at m (2 ^ i) v p) named;
          few = A.few;
          child = ap (child_of which) named ∙ child_of-some which (member_at m (2 ^ i) v p) ∙ ap Some same ∙ sym (stands L t j N u q P);
          level = level_of_scale L (point_of t.centre) j N u P.scale ∙ next ∙ ap suc (sym (name_level L r (member_at m (2 ^ i) v p) named ∙ closed_level m (2 ^ i) v p));
        }

    scales_of : 2 ^ i * M < 2 ^ 32 → IsScalable i v
    scales_of fits = (in_range i M v.x fits A.inside.x, in_range i M v.y fits A.inside.y, in_range i M v.z fits A.inside.z)

  whole : 2 ^ j * N < 2 ^ 32
  whole = fits_of_scale L (point_of t.centre) j N u P.scale most

  -- the parent of a face's and of an edge's member lies in the same units
  unit_here : (o m : ℕ) (v : Point) → long_axes v ≡ o → InBox N v → P.scale.n ≡ suc m → o ≡ suc (long_axes u) → IsUnit L P.scale.k j m v
  unit_here o m v axes box next up = record {
    sum = P.scale.unit.sum;
    box = subst (λ K. InBox K v) P.scale.side box;
    some = omega (arith, axes, up);
    level = omega (arith, P.scale.unit.level, next, axes, up);
    within = omega (arith, P.scale.unit.within, next);
  }

  above_face : long_axes u ≡ 2 → ParentIs N 3 (parent_which u q) u q (parent_point u q) (parent_pair u q)
  above_face o = of_face N u q inside o chosen.0 chosen.1

  above_edge : long_axes u ≡ 1 → ParentIs N 2 (parent_which u q) u q (parent_point u q) (parent_pair u q)
  above_edge o = of_edge N u q inside o chosen.0 chosen.1

  half_side : long_axes u ≡ 3 → j < L → N ≡ 2 * (N / 2)
  half_side o low = let e : 2 ^ suc P.scale.k ≡ 2 * 2 ^ P.scale.k = omega arith in omega (arith, P.scale.side, e)

  above_cube : long_axes u ≡ 3 → j < L → ParentIs (N / 2) 1 (parent_which u q) u q (parent_point u q) (parent_pair u q)
  above_cube o low = of_cube (N / 2) N u q (half_side o low) inside o chosen.0 chosen.1

  below_top : long_axes u ≤ 2 → P.scale.n ≡ suc (P.scale.n - 1)
  below_top few = omega (arith, few, P.scale.unit.level)

  face_named : (r : Tet) → long_axes u ≡ 2 → point_of r.centre ≡ point_scale (2 ^ j) (parent_point u q) → r.slot ≡ slot_at N (parent_point u q) (parent_pair u q) → IsParent L (parent_which u q) t r
  face_named r o centre slot =
      let A = above_face o in
      let next = below_top (omega (arith, o)) in
      let U = unit_here 3 (P.scale.n - 1) (parent_point u q) A.axes A.inside next (omega (arith, o)) in
      let R = member_at (P.scale.n - 1) (2 ^ j) (parent_point u q) (parent_pair u q) in
      let at : R.corners ≡ Corners (2 ^ j) (parent_point u q) (parent_pair u q) = closed_corners (P.scale.n - 1) (2 ^ j) (parent_point u q) (parent_pair u q) in
      let level : R.level ≡ P.scale.n - 1 = closed_level (P.scale.n - 1) (2 ^ j) (parent_point u q) (parent_pair u q) in
      let kind : R.level % 3 ≡ 0 = omega (arith, level, U.level, A.axes) in
      let c = cube_children (2 ^ j) N R (parent_point u q) (parent_pair u q) A.inside A.has A.valid at A.axes kind in
      is_parent (parent_which u q) j N 3 (P.scale.n - 1) P.scale.k (parent_point u q) (parent_pair u q) A U P.scale.side next (omega arith) r
      (cube_centre (2 ^ j) (parent_point u q) (parent_pair u q) R A.axes kind at)
      (either (2 ^ j) R (parent_which u q) (parent_point u q) (parent_pair u q) u q A.few c.0.is c.1.is A.point A.pair) centre slot

  edge_named : (r : Tet) → long_axes u ≡ 1 → point_of r.centre ≡ point_scale (2 ^ j) (parent_point u q) → r.slot ≡ slot_at N (parent_point u q) (parent_pair u q) → IsParent L (parent_which u q) t r
  edge_named r o centre slot =
      let A = above_edge o in
      let next = below_top (omega (arith, o)) in
      let U = unit_here 2 (P.scale.n - 1) (parent_point u q) A.axes A.inside next (omega (arith, o)) in
      let R = member_at (P.scale.n - 1) (2 ^ j) (parent_point u q) (parent_pair u q) in
      let at : R.corners ≡ Corners (2 ^ j) (parent_point u q) (parent_pair u q) = closed_corners (P.scale.n - 1) (2 ^ j) (parent_point u q) (parent_pair u q) in
      let level : R.level ≡ P.scale.n - 1 = closed_level (P.scale.n - 1) (2 ^ j) (parent_point u q) (parent_pair u q) in
      let kind : R.level % 3 ≡ 1 = omega (arith, level, U.level, A.axes) in
      let c = face_children (2 ^ j) N R (parent_point u q) (parent_pair u q) A.inside A.has A.valid at A.axes kind in
      is_parent (parent_which u q) j N 2 (P.scale.n - 1) P.scale.k (parent_point u q) (parent_pair u q) A U P.scale.side next (omega arith) r
      (face_centre (2 ^ j) (parent_point u q) (parent_pair u q) R A.axes kind at)
      (either (2 ^ j) R (parent_which u q) (parent_point u q) (parent_pair u q) u q A.few c.0.is c.1.is A.point A.pair) centre slot

  -- a cube's parent is an edge of the round before
  unit_before : long_axes u ≡ 3 → j < L → InBox (N / 2) (parent_point u q) → long_axes (parent_point u q) ≡ 1 → IsUnit L (P.scale.k - 1) (j + 1) (P.scale.n - 1) (parent_point u q)
  unit_before o low box axes =
      let up : P.scale.k ≡ suc (P.scale.k - 1) = omega (arith, P.scale.unit.sum, low) in
      let double : 2 ^ suc P.scale.k ≡ 2 * 2 ^ P.scale.k = omega arith in
      let half : N / 2 ≡ 2 ^ suc (P.scale.k - 1) = omega (arith, P.scale.side, double, ap (λ x. 2 ^ x) up) in
      record {
        sum = omega (arith, P.scale.unit.sum, up);
        box = subst (λ K. InBox K (parent_point u q)) half box;
        some = omega (arith, axes);
        level = omega (arith, P.scale.unit.level, o, axes, up);
        within = omega (arith, P.scale.unit.within);
      }

  half_is : j < L → N / 2 ≡ 2 ^ suc (P.scale.k - 1)
  half_is low =
      let up : P.scale.k ≡ suc (P.scale.k - 1) = omega (arith, P.scale.unit.sum, low) in
      let double : 2 ^ suc P.scale.k ≡ 2 * 2 ^ P.scale.k = omega arith in
      omega (arith, P.scale.side, double, ap (λ x. 2 ^ x) up)

  cube_named : (r : Tet) → long_axes u ≡ 3 → j < L → point_of r.centre ≡ point_scale (2 ^ (j + 1)) (parent_point u q) → r.slot ≡ slot_at (N / 2) (parent_point u q) (parent_pair u q) → IsParent L (parent_which u q) t r
  cube_named r o low centre slot =
      let A = above_cube o low in
      let next : P.scale.n ≡ suc (P.scale.n - 1) = omega (arith, P.scale.unit.level, o, P.scale.unit.sum, low) in
      let U = unit_before o low A.inside A.axes in
      let side = half_is low in
      let R = member_at (P.scale.n - 1) (2 ^ (j + 1)) (parent_point u q) (parent_pair u q) in
      let at : R.corners ≡ Corners (2 ^ (j + 1)) (parent_point u q) (parent_pair u q) = closed_corners (P.scale.n - 1) (2 ^ (j + 1)) (parent_point u q) (parent_pair u q) in
      let level : R.level ≡ P.scale.n - 1 = closed_level (P.scale.n - 1) (2 ^ (j + 1)) (parent_point u q) (parent_pair u q) in
      let kind : R.level % 3 ≡ 2 = omega (arith, level, U.level, A.axes) in
      let up : j + 1 ≡ suc j = omega arith in
      let double : 2 ^ (j + 1) ≡ 2 * 2 ^ j = ap (λ x. 2 ^ x) up ∙ omega arith in
      let at' : R.corners ≡ Corners (2 * 2 ^ j) (parent_point u q) (parent_pair u q) = at ∙ ap (λ h. Corners h (parent_point u q) (parent_pair u q)) double in
      let c = edge_children (2 ^ j) (N / 2) R (parent_point u q) (parent_pair u q) A.inside A.has A.valid at' A.axes kind in
      is_parent (parent_which u q) (j + 1) (N / 2) 1 (P.scale.n - 1) (P.scale.k - 1) (parent_point u q) (parent_pair u q) A U side next (omega arith) r
      (edge_centre (2 ^ (j + 1)) (parent_point u q) (parent_pair u q) R A.axes kind at)
      (either (2 ^ j) R (parent_which u q) (parent_point u q) (parent_pair u q) u q A.few c.0.is c.1.is A.point A.pair) centre slot

  -- what the code asks
  pub flat_scales : long_axes u ≢ 3 → IsScalable j (parent_point u q)
  flat_scales n = cases (long_axes u) refl where
    cases : (o : ℕ) → long_axes u ≡ o → IsScalable j (parent_point u q)
    cases zero e = absurd (omega (arith, e, P.scale.unit.some))
    cases (suc zero) e = let b = (above_edge e).inside in (in_range j N _ whole b.x, in_range j N _ whole b.y, in_range j N _ whole b.z)
    cases (suc (suc zero)) e = let b = (above_face e).inside in (in_range j N _ whole b.x, in_range j N _ whole b.y, in_range j N _ whole b.z)
    cases (suc (suc (suc zero))) e = absurd (n e)
    cases (suc (suc (suc (suc o)))) e = absurd (omega (arith, e, axes_within u))

  pub flat_named : (r : Tet) → long_axes u ≢ 3 → point_of r.centre ≡ point_scale (2 ^ j) (parent_point u q) → r.slot ≡ slot_at N (parent_point u q) (parent_pair u q) → IsParent L (parent_which u q) t r
  flat_named r n centre slot = cases (long_axes u) refl where
    cases : (o : ℕ) → long_axes u ≡ o → IsParent L (parent_which u q) t r
    cases zero e = absurd (omega (arith, e, P.scale.unit.some))
    cases (suc zero) e = edge_named r e centre slot
    cases (suc (suc zero)) e = face_named r e centre slot
    cases (suc (suc (suc zero))) e = absurd (n e)
    cases (suc (suc (suc (suc o)))) e = absurd (omega (arith, e, axes_within u))

  pub cube_scales : long_axes u ≡ 3 → j ≢ L → IsScalable (j + 1) (parent_point u q)
  cube_scales o n =
      let low : j < L = omega (arith, n, P.scale.unit.sum) in
      let b = (above_cube o low).inside in
      let up : j + 1 ≡ suc j = omega arith in
      let double : 2 ^ (j + 1) ≡ 2 * 2 ^ j = ap (λ x. 2 ^ x) up ∙ omega arith in
      let half = half_side o low in
      let fits : 2 ^ (j + 1) * (N / 2) < 2 ^ 32 = rw double (omega (arith, whole, ap (λ x. 2 ^ j * x) half)) in
      (in_range (j + 1) (N / 2) _ fits b.x, in_range (j + 1) (N / 2) _ fits b.y, in_range (j + 1) (N / 2) _ fits b.z)

  pub cube_parent : (r : Tet) → long_axes u ≡ 3 → j ≢ L → point_of r.centre ≡ point_scale (2 ^ (j + 1)) (parent_point u q) → r.slot ≡ slot_at (N / 2) (parent_point u q) (parent_pair u q) → IsParent L (parent_which u q) t r
  cube_parent r o n centre slot = cube_named r o (omega (arith, n, P.scale.unit.sum)) centre slot

  pub is_root : long_axes u ≡ 3 → j ≡ L → level_of L (point_of t.centre) ≡ 0
  is_root o e = omega (arith, level_of_scale L (point_of t.centre) j N u P.scale, o, e, P.scale.unit.sum, P.scale.unit.level)

  tells : (M o : ℕ) → M % 2 ≡ 0 → ParentIs M o (parent_which u q) u q (parent_point u q) (parent_pair u q) → 0 < o → TellsMember M (parent_point u q) (parent_pair u q)
  tells M o even A pos = record { box = A.inside; even = even; some = omega (arith, A.axes, pos); listed = member-contains pairs (parent_pair u q) A.has; valid = A.valid }

  pub flat_tells : long_axes u ≢ 3 → TellsMember N (parent_point u q) (parent_pair u q)
  flat_tells n = cases (long_axes u) refl where
    even : N % 2 ≡ 0
    even = ap (λ m. m % 2) P.scale.side ∙ even_side P.scale.k

    cases : (o : ℕ) → long_axes u ≡ o → TellsMember N (parent_point u q) (parent_pair u q)
    cases zero e = absurd (omega (arith, e, P.scale.unit.some))
    cases (suc zero) e = tells N 2 even (above_edge e) (omega arith)
    cases (suc (suc zero)) e = tells N 3 even (above_face e) (omega arith)
    cases (suc (suc (suc zero))) e = absurd (n e)
    cases (suc (suc (suc (suc o)))) e = absurd (omega (arith, e, axes_within u))

  pub cube_tells : long_axes u ≡ 3 → j ≢ L → TellsMember (N / 2) (parent_point u q) (parent_pair u q)
  cube_tells o n =
      let low : j < L = omega (arith, n, P.scale.unit.sum) in
      tells (N / 2) 1 (ap (λ m. m % 2) (half_is low) ∙ even_side (P.scale.k - 1)) (above_cube o low) (omega arith)
