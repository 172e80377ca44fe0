-- The members of a diamond are the list of its pairs of directions.
use Rattle.std.proofs.Common.{◌≡◌, ℕ, zero, suc, ◌+◌, ◌*◌, ◌/◌, ◌%◌, ◌^◌, ◌≤◌, ◌<◌, Bool, true, false, List, [], ◌∷◌, map, refl, sym, ◌∙◌, ap, subst, inl, inr, arith, pow_pos}
use Rattle.std.specs.Prelude.{filter}
use Rattle.std.proofs.lemmas.Bool.{cases_order}
use Rattle.std.proofs.Math.Nat.{mul-div_cancel_left}
use Rattle.tpz_base.specs.declared.shape.Point.{Point}
use Rattle.tpz_base.specs.Points.{point_scale, midpoint}
use Rattle.tpz_base.specs.Tetrahedra.{Tetrahedron, diamond, at_level, up_to_level, members}
use Rattle.tpz_base.proofs.AxisPaths.{Order, along}
use Rattle.tpz_base.proofs.CutLaw.{Member, member-left, member-right}
use Rattle.tpz_base.proofs.Distinct.{at_its_level, tetrahedron_cong}
use Rattle.tpz_base.proofs.Levels.{odd, Multiple, IsCentreOf, one_level}
use Rattle.tpz_base.proofs.Members.{member-filter, member_named, named_member, level_within, centre_of_level}
use Rattle.tpz_base.proofs.PointLemmas.{point_cong}
use Rattle.tetra_name.specs.Places.{IsUnit}
use Rattle.tetra_name.specs.Steps.{start, finish, start_point, finish_point, is_member, long_axes, pairs, cube_corners, face_corners, edge_corners, member_at, members_closed}
use Rattle.tetra_name.proofs.Flags.{spot, cube_list, face_list, edge_list, CubeFlag, FaceFlag, EdgeFlag, big_sum, middle, twice, half_sum}
use Rattle.tetra_name.proofs.Rounds.{Made, cubes, faces, edges, made_cubes, made_faces, made_edges, even_side}
use Rattle.tetra_name.proofs.Sorting.{list_below_not, strict_same}
use Rattle.tetra_name.proofs.Closed.{way, start_up, start_down, finish_up, finish_down, start_flat, finish_flat, ways, Corners, cube_kind, face_kind, edge_kind, scale-along, Found, found_cube, found_face, found_edge, cube_found, face_found, edge_found}
use Rattle.tetra_name.proofs.MembersAre.{Before, before-trans, member-map, map-member, filter-member, closed_strict, members_strict}

-- the centre is midway
start_finish : (m : ℕ) → start m + finish m ≡ 2 * m
start_finish m = cases (m % 2) refl where
  ended : (b : Bool) → m % 4 ≡ way b → start m + finish m ≡ 2 * m
  ended true e = rw (start_up m e, finish_up m e) (omega (arith, e))
  ended false e = rw (start_down m e, finish_down m e) (omega (arith, e))

  cases : (r : ℕ) → m % 2 ≡ r → start m + finish m ≡ 2 * m
  cases zero e = rw (start_flat m e, finish_flat m e) (omega arith)
  cases (suc zero) e = let t = ways m e in ended t.0 t.1
  cases (suc (suc r)) e = absurd (omega (arith, e))

midway : (h : ℕ) (u : Point) → midpoint (point_scale h (start_point u)) (point_scale h (finish_point u)) ≡ point_scale h u
unfolding start_point finish_point
midway h u =
    point_cong _ _ _ _ _ _ (half_sum h (start u.x) (finish u.x) u.x (start_finish u.x)) (half_sum h (start u.y) (finish u.y) u.y (start_finish u.y)) (half_sum h (start u.z) (finish u.z) u.z (start_finish u.z))

diamond_at_0 : (T : Tetrahedron) (a b c d : Point) → T.level % 3 ≡ 0 → T.corners ≡ a ∷ b ∷ c ∷ d ∷ [] → diamond T ≡ midpoint a d
diamond_at_0 T a b c d n e = rw (n, e)

diamond_at_1 : (T : Tetrahedron) (a b c d : Point) → T.level % 3 ≡ 1 → T.corners ≡ a ∷ b ∷ c ∷ d ∷ [] → diamond T ≡ midpoint a c
diamond_at_1 T a b c d n e = rw (n, e)

diamond_at_2 : (T : Tetrahedron) (a b c d : Point) → T.level % 3 ≡ 2 → T.corners ≡ a ∷ b ∷ c ∷ d ∷ [] → diamond T ≡ midpoint a b
diamond_at_2 T a b c d n e = rw (n, e)

pub cube_centre : (h : ℕ) (u : Point) (q : ℕ × ℕ) (T : Tetrahedron) → long_axes u ≡ 3 → T.level % 3 ≡ 0 → T.corners ≡ Corners h u q → diamond T ≡ point_scale h u
unfolding cube_corners
cube_centre h u q T o n e = diamond_at_0 T _ _ _ _ n (e ∙ ap (map (point_scale h)) (cube_kind u q o)) ∙ midway h u

pub face_centre : (h : ℕ) (u : Point) (q : ℕ × ℕ) (T : Tetrahedron) → long_axes u ≡ 2 → T.level % 3 ≡ 1 → T.corners ≡ Corners h u q → diamond T ≡ point_scale h u
unfolding face_corners
face_centre h u q T o n e = diamond_at_1 T _ _ _ _ n (e ∙ ap (map (point_scale h)) (face_kind u q o)) ∙ midway h u

pub edge_centre : (h : ℕ) (u : Point) (q : ℕ × ℕ) (T : Tetrahedron) → long_axes u ≡ 1 → T.level % 3 ≡ 2 → T.corners ≡ Corners h u q → diamond T ≡ point_scale h u
unfolding edge_corners
edge_centre h u q T o n e = diamond_at_2 T _ _ _ _ n (e ∙ ap (map (point_scale h)) (edge_kind u q o)) ∙ midway h u

pub cancelled : (s x y : ℕ) → 0 < s → s * x ≡ s * y → x ≡ y
cancelled s x y pos e = sym (mul-div_cancel_left x pos) ∙ ap (λ n. n / s) e ∙ mul-div_cancel_left y pos

pub scale_cancel : (h : ℕ) → 0 < h → (u v : Point) → point_scale h u ≡ point_scale h v → u ≡ v
scale_cancel h pos u v e =
    point_cong u.x u.y u.z v.x v.y v.z (cancelled h u.x v.x pos (ap (λ (p : Point). p.x) e)) (cancelled h u.y v.y pos (ap (λ (p : Point). p.y) e)) (cancelled h u.z v.z pos (ap (λ (p : Point). p.z) e))

unit_of : (h : ℕ) → 0 < h → (u : Point) (w : Order) (p q r : ℕ) (P : Point) → P ≡ spot h w p q r → P ≡ point_scale h u → along w p q r ≡ u
unit_of h pos u w p q r P e f = scale_cancel h pos (along w p q r) u (scale-along h w p q r ∙ sym e ∙ f)

pub cube_at : (h N : ℕ) (T : Tetrahedron) → T.level % 3 ≡ 0 → (F : CubeFlag h N T.corners) → diamond T ≡ spot h F.w F.m0 F.m1 F.m2
unfolding cube_list
cube_at h N T n F = diamond_at_0 T _ _ _ _ n F.is ∙ middle h F.w _ _ _ _ _ _ F.m0 F.m1 F.m2 (big_sum _ _ _ _ F.s0) (big_sum _ _ _ _ F.s1) (big_sum _ _ _ _ F.s2)

pub face_at : (h N : ℕ) (T : Tetrahedron) → T.level % 3 ≡ 1 → (F : FaceFlag h N T.corners) → diamond T ≡ spot h F.w F.m0 F.m1 F.a2
unfolding face_list
face_at h N T n F = diamond_at_1 T _ _ _ _ n F.is ∙ middle h F.w _ _ _ _ _ _ F.m0 F.m1 F.a2 (big_sum _ _ _ _ F.s0) (big_sum _ _ _ _ F.s1) (twice F.a2)

pub edge_at : (h N : ℕ) (T : Tetrahedron) → T.level % 3 ≡ 2 → (F : EdgeFlag h N T.corners) → diamond T ≡ spot h F.w F.m0 F.a1 F.a2
unfolding edge_list
edge_at h N T n F = diamond_at_2 T _ _ _ _ n F.is ∙ middle h F.w _ _ _ _ _ _ F.m0 F.a1 F.a2 (big_sum _ _ _ _ F.s0) (twice F.a1) (twice F.a2)

-- a tetrahedron of a level up to n is among those up to n
in_levels : (L n m : ℕ) (T : Tetrahedron) → m ≤ n → Member (at_level L m) T → Member (up_to_level L n) T
in_levels L zero m T h k = let e : m ≡ 0 = omega (arith, h) in subst (λ x. Member (at_level L x) T) e k
in_levels L (suc n) m T h k =
    elim (cases_order m (suc n)) [
      | inl e ↦ member-right (up_to_level L n) (at_level L (suc n)) T (subst (λ x. Member (at_level L x) T) e k)
      | inr u ↦ elim u [
        | inl lt ↦ member-left (up_to_level L n) (at_level L (suc n)) T (in_levels L n m T (omega (arith, lt)) k)
        | inr gt ↦ absurd (omega (arith, gt, h))
      ]
    ]

assemble : (L n h N o : ℕ) (u : Point) → n ≤ 3 * L → 0 < h → long_axes u ≡ suc o → o < 3 → IsCentreOf L n (point_scale h u)
    → ((T : Tetrahedron) → Member (at_level L n) T → diamond T ≡ point_scale h u → Found N h u T.corners)
    → ((q : ℕ × ℕ) → Member pairs q → is_member N u q ≡ true → Made L n (Corners h u q))
    → ((T : Tetrahedron) (q : ℕ × ℕ) → T.level ≡ n → T.corners ≡ Corners h u q → diamond T ≡ point_scale h u)
    → members L (point_scale h u) ≡ members_closed n h N u
unfolding members_closed member_at
assemble L n h N o u within pos e lt centre found made at =
    strict_same Before (λ S k. list_below_not S.corners k) before-trans (members L (point_scale h u)) (members_closed n h N u) (members_strict L (point_scale h u)) (closed_strict n h N u o pos e lt)
    (λ z m. let r = member_named L (point_scale h u) z m in
    let lv = level_within L (3 * L) z r.0 in
    let same : lv.0 ≡ n = one_level L lv.0 n (point_scale h u) (subst (IsCentreOf L lv.0) r.1 (centre_of_level L lv.0 z (omega (arith, lv.1)) lv.2)) centre in
    let k : Member (at_level L n) z = subst (λ x. Member (at_level L x) z) same lv.2 in
    let f = found z k r.1 in
    let is : z ≡ member_at n h u f.q = tetrahedron_cong z (member_at n h u f.q) (at_its_level L n z k) f.is in
    subst (Member (members_closed n h N u)) (sym is) (map-member (member_at n h u) (filter (is_member N u) pairs) f.q (filter-member (is_member N u) pairs f.q f.has f.valid)))
    (λ z m. let r = member-map (member_at n h u) (filter (is_member N u) pairs) z m in
    let k = member-filter (is_member N u) pairs r.0 r.1 in
    let M = made r.0 k.0 k.1 in
    let level : M.T.level ≡ n = at_its_level L n M.T M.has in
    let is : M.T ≡ z = tetrahedron_cong M.T (member_at n h u r.0) level M.is ∙ r.2 in
    let there : Member (members L (diamond M.T)) M.T = named_member L M.T (in_levels L (3 * L) n M.T within M.has) in
    subst (Member (members L (point_scale h u))) is (subst (λ d. Member (members L d) M.T) (at M.T r.0 level M.is) there))

-- the shape of a centre, for the level
multiple : (s m : ℕ) → (b : Bool) × Multiple s (s * m) b × (odd b ≡ m % 2)
unfolding odd
multiple s m = cases (m % 2) refl where
  cases : (r : ℕ) → m % 2 ≡ r → (b : Bool) × Multiple s (s * m) b × (odd b ≡ m % 2)
  cases zero e = (false, record { half = m / 2; is = (let f : m ≡ 2 * (m / 2) + 0 = omega (arith, e) in ap (λ n. s * n) f) }, sym e)
  cases (suc zero) e = (true, record { half = m / 2; is = (let f : m ≡ 2 * (m / 2) + 1 = omega (arith, e) in ap (λ n. s * n) f) }, sym e)
  cases (suc (suc r)) e = absurd (omega (arith, e))

pub unit_centre : (L k j n : ℕ) (u : Point) → IsUnit L k j n u → IsCentreOf L n (point_scale (2 ^ j) u)
unfolding long_axes
unit_centre L k j n u h =
    let x = multiple (2 ^ j) u.x in
    let y = multiple (2 ^ j) u.y in
    let z = multiple (2 ^ j) u.z in
    record {
      power = j;
      odds = long_axes u;
      some = h.some;
      level = omega (arith, h.level, h.sum);
      shape = record { bx = x.0; by = y.0; bz = z.0; x = x.1; y = y.1; z = z.1; odds = omega (arith, x.2, y.2, z.2) };
    }

axes_within : (u : Point) → long_axes u ≤ 3
unfolding long_axes
axes_within u = omega arith

pub members_are : (L k j n : ℕ) (u : Point) → IsUnit L k j n u → members L (point_scale (2 ^ j) u) ≡ members_closed n (2 ^ j) (2 ^ suc k) u
members_are L k j n u h = cases (long_axes u) refl where
  C : IsCentreOf L n (point_scale (2 ^ j) u)
  C = unit_centre L k j n u h

  found_as : (w : Order) (p q r : ℕ) (ps : List Point) → along w p q r ≡ u → Found (2 ^ suc k) (2 ^ j) (along w p q r) ps → Found (2 ^ suc k) (2 ^ j) u ps
  found_as w p q r ps e f = subst (λ v. Found (2 ^ suc k) (2 ^ j) v ps) e f

  cases : (o : ℕ) → long_axes u ≡ o → members L (point_scale (2 ^ j) u) ≡ members_closed n (2 ^ j) (2 ^ suc k) u
  cases zero e = absurd (omega (arith, e, h.some))
  cases (suc zero) e =
      let is : n ≡ suc (suc (3 * k)) = omega (arith, e, h.level) in
      assemble L n (2 ^ j) (2 ^ suc k) 0 u h.within (pow_pos j) e (omega arith) C
      (λ T m d. let m' : Member (at_level L (suc (suc (3 * k)))) T = subst (λ x. Member (at_level L x) T) is m in
      let F = edges L k (2 ^ j) (2 ^ suc k) (faces L k (2 ^ j) (2 ^ suc k) (cubes L k j h.sum)) T m' in
      found_as F.w F.m0 F.a1 F.a2 T.corners (unit_of (2 ^ j) (pow_pos j) u F.w F.m0 F.a1 F.a2 (diamond T) (edge_at (2 ^ j) (2 ^ suc k) T (omega (arith, at_its_level L (suc (suc (3 * k))) T m')) F) d)
      (found_edge (2 ^ j) (2 ^ suc k) T.corners F))
      (λ q m v. subst (λ x. Made L x (Corners (2 ^ j) u q)) (sym is)
      (made_edges L k (2 ^ j) (2 ^ suc k) (even_side k) (made_faces L k (2 ^ j) (2 ^ suc k) (even_side k) (made_cubes L k j h.sum)) (Corners (2 ^ j) u q) (edge_found (2 ^ j) (2 ^ suc k) u q (even_side k) h.box e m v)))
      (λ T q l c. edge_centre (2 ^ j) u q T e (omega (arith, l, is)) c)
  cases (suc (suc zero)) e =
      let is : n ≡ suc (3 * k) = omega (arith, e, h.level) in
      assemble L n (2 ^ j) (2 ^ suc k) 1 u h.within (pow_pos j) e (omega arith) C
      (λ T m d. let m' : Member (at_level L (suc (3 * k))) T = subst (λ x. Member (at_level L x) T) is m in
      let F = faces L k (2 ^ j) (2 ^ suc k) (cubes L k j h.sum) T m' in
      found_as F.w F.m0 F.m1 F.a2 T.corners (unit_of (2 ^ j) (pow_pos j) u F.w F.m0 F.m1 F.a2 (diamond T) (face_at (2 ^ j) (2 ^ suc k) T (omega (arith, at_its_level L (suc (3 * k)) T m')) F) d)
      (found_face (2 ^ j) (2 ^ suc k) T.corners F))
      (λ q m v. subst (λ x. Made L x (Corners (2 ^ j) u q)) (sym is)
      (made_faces L k (2 ^ j) (2 ^ suc k) (even_side k) (made_cubes L k j h.sum) (Corners (2 ^ j) u q) (face_found (2 ^ j) (2 ^ suc k) u q (even_side k) h.box e m v)))
      (λ T q l c. face_centre (2 ^ j) u q T e (omega (arith, l, is)) c)
  cases (suc (suc (suc zero))) e =
      let is : n ≡ 3 * k = omega (arith, e, h.level) in
      assemble L n (2 ^ j) (2 ^ suc k) 2 u h.within (pow_pos j) e (omega arith) C
      (λ T m d. let m' : Member (at_level L (3 * k)) T = subst (λ x. Member (at_level L x) T) is m in
      let F = cubes L k j h.sum T m' in
      found_as F.w F.m0 F.m1 F.m2 T.corners (unit_of (2 ^ j) (pow_pos j) u F.w F.m0 F.m1 F.m2 (diamond T) (cube_at (2 ^ j) (2 ^ suc k) T (omega (arith, at_its_level L (3 * k) T m')) F) d)
      (found_cube (2 ^ j) (2 ^ suc k) T.corners F))
      (λ q m v. subst (λ x. Made L x (Corners (2 ^ j) u q)) (sym is)
      (made_cubes L k j h.sum (Corners (2 ^ j) u q) (cube_found (2 ^ j) (2 ^ suc k) u q (even_side k) h.box e m v)))
      (λ T q l c. cube_centre (2 ^ j) u q T e (omega (arith, l, is)) c)
  cases (suc (suc (suc (suc o)))) e = absurd (omega (arith, e, axes_within u))
