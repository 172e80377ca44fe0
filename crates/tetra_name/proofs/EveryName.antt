-- Each descendant has one name, and different names have different corners.
use Rattle.std.proofs.Common.{◌≡◌, ℕ, suc, ◌*◌, ◌^◌, ◌≤◌, ◌<◌, [], length, refl, sym, ◌∙◌, ap, ap₂, subst, arith}
use Rattle.std.specs.Prelude.{filter, Some, IfSome}
use Rattle.std.specs.Option.{option_map_or}
use Rattle.std.proofs.lemmas.Option.{slice_get_within}
use Rattle.std.proofs.lemmas.List.{length-map}
use Rattle.std.proofs.lemmas.List.Sums.{count_by-le-length, length-filter}
use Rattle.tpz_base.specs.declared.shape.Point.{Point}
use Rattle.tpz_base.specs.Tetrahedra.{Tetrahedron, diamond, descendants, members, BisectsLongest}
use Rattle.tpz_base.proofs.CutLaw.{Member}
use Rattle.tpz_base.proofs.Distinct.{tetrahedron_cong}
use Rattle.tpz_base.proofs.Members.{member_named, named_member}
use Rattle.tpz_base.proofs.Diamonds.{level_at}
use Rattle.tetra_name.specs.declared.shape.Tet.{Tet}
use Rattle.tetra_name.specs.Names.{corners_of, half_of, point_of, tetrahedron_of, HasOwnCorners, IsInRange, IsName, NamesEach}
use Rattle.tetra_name.specs.Steps.{is_member, member_at, pairs}
use Rattle.tetra_name.specs.Places.{IsScale}
use Rattle.tetra_name.proofs.OneName.{get_member, has_name, one_name}
use Rattle.tetra_name.proofs.Units.{unit_of_member, UnitOf}
use Rattle.tetra_name.proofs.NameFacts.{some_of}
use Rattle.tetra_name.proofs.Lengths.{Shape, shape_of, level_by_corners}
use Rattle.tetra_name.proofs.PlaceLaw.{members_in, fits_of_scale}
use Rattle.tetra_name.proofs.NameFacts.{contains-member, member-contains}
use Rattle.tetra_name.proofs.Rooms.{in_range}

tet_cong : (s t : Tet) → point_of s.centre ≡ point_of t.centre → s.slot ≡ t.slot → s ≡ t
tet_cong s t e f = ap₂ (λ (p : Point) (i : ℕ). let r : Tet = record { centre = half_of p; slot = i } in r) e f

same_name : (L : ℕ) (s t : Tet) (T : Tetrahedron) → tetrahedron_of L s ≡ Some T → tetrahedron_of L t ≡ Some T → s ≡ t
unfolding tetrahedron_of
same_name L s t T e f = let r = one_name L (point_of s.centre) (point_of t.centre) s.slot t.slot T e f in tet_cong s t r.0 r.1

a_descendant : (L : ℕ) (t : Tet) (T : Tetrahedron) → tetrahedron_of L t ≡ Some T → Member (descendants L) T
unfolding tetrahedron_of
a_descendant L t T e = (member_named L (point_of t.centre) T (get_member (members L (point_of t.centre)) t.slot T e)).0

scale_of_unit : (L : ℕ) (c : Point) (U : UnitOf L c) → IsScale L c U.j (2 ^ suc U.k) U.u
scale_of_unit L c U = record { k = U.k; n = U.n; unit = U.unit; side = refl; is = U.is }

few_members : (N : ℕ) (u : Point) → length (filter (is_member N u) pairs) ≤ 24
unfolding pairs
few_members N u = omega (arith, length-filter (is_member N u) pairs, count_by-le-length (is_member N u) pairs)

named_in_range : (L : ℕ) → L ≤ 30 → (T : Tetrahedron) → Member (descendants L) T → (t : Tet) × IsInRange t × (tetrahedron_of L t ≡ Some T)
unfolding tetrahedron_of scale_of_unit
named_in_range L most T m =
    let r = has_name L T m in
    let U = unit_of_member L (diamond T) T (named_member L T m) in
    let S = scale_of_unit L (diamond T) U in
    let fits = fits_of_scale L (diamond T) U.j (2 ^ suc U.k) U.u S most in
    let x : (diamond T).x < 2 ^ 32 = let e : (diamond T).x ≡ 2 ^ U.j * U.u.x = ap (λ (p : Point). p.x) U.is in omega (arith, e, in_range U.j (2 ^ suc U.k) U.u.x fits U.unit.box.x) in
    let y : (diamond T).y < 2 ^ 32 = let e : (diamond T).y ≡ 2 ^ U.j * U.u.y = ap (λ (p : Point). p.y) U.is in omega (arith, e, in_range U.j (2 ^ suc U.k) U.u.y fits U.unit.box.y) in
    let z : (diamond T).z < 2 ^ 32 = let e : (diamond T).z ≡ 2 ^ U.j * U.u.z = ap (λ (p : Point). p.z) U.is in omega (arith, e, in_range U.j (2 ^ suc U.k) U.u.z fits U.unit.box.z) in
    let within = slice_get_within (members L (diamond T)) r.0 T r.1 in
    let count : length (members L (diamond T)) ≡ length (filter (is_member (2 ^ suc U.k) U.u) pairs) =
    ap length (members_in L (diamond T) U.j (2 ^ suc U.k) U.u S) ∙ length-map (filter (is_member (2 ^ suc U.k) U.u) pairs) (member_at U.n (2 ^ U.j) U.u) in
    let slot : r.0 < 2 ^ 8 = omega (arith, within, count, few_members (2 ^ suc U.k) U.u) in
    (record { centre = half_of (diamond T); slot = r.0 }, (x, y, z, slot), r.1)

pub names_each : (L : ℕ) → L ≤ 30 → NamesEach L
unfolding IsName
names_each L most = record {
  stands = λ t T e. member-contains (descendants L) T (a_descendant L t T e);
  named = λ T h. named_in_range L most T (contains-member (descendants L) T h);
  once = λ s t h e. (let r = some_of (tetrahedron_of L s) h in same_name L s t r.0 r.1 (sym e ∙ r.1));
}

shape_of_name : (L : ℕ) (t : Tet) (T : Tetrahedron) → tetrahedron_of L t ≡ Some T → Shape L T
shape_of_name L t T e = let a = level_at L T (a_descendant L t T e) in shape_of L T.level T a.0 a.1

corners_are : (L : ℕ) (t : Tet) (T : Tetrahedron) → tetrahedron_of L t ≡ Some T → corners_of L t ≡ T.corners
unfolding corners_of
corners_are L t T e = ap (λ o. option_map_or (λ (S : Tetrahedron). S.corners) o []) e

pub has_own_corners : (L : ℕ) (t : Tet) → IsName L t → HasOwnCorners L t
unfolding IsName HasOwnCorners
has_own_corners L t h s k e =
    let T = some_of (tetrahedron_of L t) h in
    let S = some_of (tetrahedron_of L s) k in
    let corners : S.0.corners ≡ T.0.corners = sym (corners_are L s S.0 S.1) ∙ e ∙ corners_are L t T.0 T.1 in
    let level = level_by_corners L S.0 T.0 (shape_of_name L s S.0 S.1) (shape_of_name L t T.0 T.1) corners in
    let same = tetrahedron_cong S.0 T.0 level corners in
    same_name L s t T.0 (S.1 ∙ ap Some same) T.1

pub bisects_longest : (L : ℕ) (t : Tet) → IsName L t → IfSome (tetrahedron_of L t) BisectsLongest
unfolding IsName
bisects_longest L t h =
    let T = some_of (tetrahedron_of L t) h in
    subst (λ o. IfSome o BisectsLongest) (sym T.1) (shape_of_name L t T.0 T.1).longest
