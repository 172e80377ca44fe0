-- What the centre and the pair of directions of a name say of the tetrahedron.
use Rattle.std.proofs.Common.{◌≡◌, ℕ, zero, suc, ◌+◌, ◌-◌, ◌*◌, ◌%◌, ◌^◌, ◌≤◌, ◌<◌, [], map, length, refl, sym, ◌∙◌, ap, subst, arith, inl, inr, true, true≢false, pow-add}
use Rattle.std.specs.Prelude.{filter, slice_get, Option, Some, None, IsSome}
use Rattle.std.specs.Option.{option_map, option_map_or}
use Rattle.std.specs.List.{AllByRecursion}
use Rattle.std.proofs.lemmas.Option.{slice_get-map, slice_get_within}
use Rattle.std.proofs.lemmas.List.{length-map}
use Rattle.std.proofs.Math.Pow.{pow_mono}
use Rattle.std.proofs.lemmas.Bool.{cases_order}
use Rattle.tpz_base.specs.declared.shape.Point.{Point}
use Rattle.tpz_base.specs.Points.{point_scale}
use Rattle.tpz_base.specs.Tetrahedra.{Tetrahedron, members, at_level}
use Rattle.tpz_base.specs.Diamonds.{level_of}
use Rattle.tpz_base.proofs.CutLaw.{Member}
use Rattle.tpz_base.proofs.Distinct.{at_its_level}
use Rattle.tpz_base.proofs.Members.{member-filter, member_named, level_within}
use Rattle.tetra_name.specs.declared.shape.Tet.{Tet}
use Rattle.tetra_name.specs.Names.{IsCentre, IsName, IsWhole, IsWithin, point_of, count_of, tetrahedron_of, corners_of, over, power_of}
use Rattle.tetra_name.specs.Steps.{is_member, long_axes, pairs, corners_at, member_at, members_closed, IsScalable}
use Rattle.tetra_name.specs.Places.{InBox, IsUnit, IsScale, IsPlace}
use Rattle.tetra_name.proofs.Rounds.{even_side}
use Rattle.tetra_name.proofs.MembersLaw.{members_are}
use Rattle.tetra_name.proofs.MembersAre.{filter-member, map-member}
use Rattle.tetra_name.proofs.Units.{UnitOf}
use Rattle.tetra_name.proofs.NamesLaw.{units_of, axes_within, centre_of_unit, level_is}
use Rattle.tetra_name.proofs.OneName.{get_member}
use Rattle.tetra_name.proofs.Directions.{below_six}
use Rattle.tetra_name.proofs.Rooms.{corners_inside, scalable}

some_of : {X : Type 0} (o : Option X) → IsSome o → (x : X) × (o ≡ Some x)
some_of None h = absurd (true≢false (sym h))
some_of (Some x) h = (x, refl)

pub centre_of_name : (L : ℕ) (t : Tet) → IsName L t → IsCentre L (point_of t.centre)
unfolding IsName IsCentre count_of tetrahedron_of
centre_of_name L t h =
    let s = some_of (slice_get (members L (point_of t.centre)) t.slot) h in
    let w = slice_get_within (members L (point_of t.centre)) t.slot s.0 s.1 in
    omega (arith, w)

-- a centre in the code's units
pub scale_is : (L : ℕ) (c : Point) (j N : ℕ) (u : Point) → L ≤ 30 → IsCentre L c → j ≡ power_of c → u ≡ over j c → N ≡ 2 * 2 ^ (L - j) → IsScale L c j N u
scale_is L c j N u most h e f g =
    let v = units_of L c most h in
    let k : v.U.k ≡ L - j = omega (arith, v.j_is, e, v.U.unit.sum) in
    let d : 2 ^ suc (L - j) ≡ 2 * 2 ^ (L - j) = omega arith in
    let side : N ≡ 2 ^ suc v.U.k = g ∙ sym d ∙ ap (λ m. 2 ^ suc m) (sym k) in
    let j_is : v.U.j ≡ j = v.j_is ∙ sym e in
    let u_is : v.U.u ≡ u = v.u_is ∙ ap (λ p. over p c) (sym e) ∙ sym f in
    subst (λ i. IsScale L c i N u) j_is (subst (λ w. IsScale L c v.U.j N w) u_is (record { k = v.U.k; n = v.U.n; unit = v.U.unit; side = side; is = v.U.is }))

module _ (L : ℕ) (c : Point) (j N : ℕ) (u : Point) (S : IsScale L c j N u) where
  pub unit_of_scale : UnitOf L c
  unit_of_scale = record { k = S.k; j = j; n = S.n; u = u; unit = S.unit; is = S.is }

  pub centre_of_scale : IsCentre L c
  centre_of_scale = centre_of_unit L c unit_of_scale

  pub level_of_scale : level_of L c ≡ S.n
  unfolding unit_of_scale
  level_of_scale = level_is L c centre_of_scale unit_of_scale

  pub power_below : j ≤ L
  power_below = omega (arith, S.unit.sum)

  pub side_below : L ≤ 30 → N ≤ 2147483648
  side_below most = let le : suc S.k ≤ 31 = omega (arith, most, S.unit.sum) in let p : 2 ^ suc S.k ≤ 2 ^ 31 = pow_mono le in omega (arith, p, S.side)

  -- above the last level the side has at most 2 ^ 30 units
  pub side_small : L ≤ 30 → S.n < 3 * L → N ≤ 1073741824
  side_small most low =
      let le : suc S.k ≤ 30 = omega (arith, axes_within u, S.unit.level, low, most) in
      let p : 2 ^ suc S.k ≤ 2 ^ 30 = pow_mono le in
      omega (arith, p, S.side)

  pub box_of_scale : InBox N u
  box_of_scale = subst (λ M. InBox M u) (sym S.side) S.unit.box

  pub within_of_scale : IsWithin N u
  within_of_scale = (box_of_scale.x, box_of_scale.y, box_of_scale.z)

  pub even_of_scale : N % 2 ≡ 0
  even_of_scale = subst (λ M. M % 2 ≡ 0) (sym S.side) (even_side S.k)

  -- the whole cube in half-units
  pub fits_of_scale : L ≤ 30 → 2 ^ j * N < 2 ^ 32
  fits_of_scale most =
      let up : j + suc S.k ≡ suc L = omega (arith, S.unit.sum) in
      let p : 2 ^ suc L ≤ 2 ^ 31 = (let le : suc L ≤ 31 = omega (arith, most) in pow_mono le) in
      let s : 2 ^ j * 2 ^ suc S.k ≡ 2 ^ suc L = sym (pow-add 2 j (suc S.k)) ∙ ap (λ n. 2 ^ n) up in
      rw S.side (omega (arith, s, p))

  pub side_of_scale : N ≡ 2 ^ suc (L - j)
  side_of_scale = let k : S.k ≡ L - j = omega (arith, S.unit.sum) in S.side ∙ ap (λ i. 2 ^ suc i) k

  pub members_in : members L c ≡ map (member_at S.n (2 ^ j) u) (filter (is_member N u) pairs)
  unfolding members_closed
  members_in = ap (members L) S.is ∙ members_are L S.k j S.n u S.unit ∙ ap (λ M. map (member_at S.n (2 ^ j) u) (filter (is_member M u) pairs)) (sym S.side)

  pub count_in : count_of L c ≡ length (filter (is_member N u) pairs)
  unfolding count_of
  count_in = ap length members_in ∙ length-map (filter (is_member N u) pairs) (member_at S.n (2 ^ j) u)

-- a name has a pair of directions
pub has_pair : (L : ℕ) (t : Tet) (j N : ℕ) (u : Point) → IsScale L (point_of t.centre) j N u → IsName L t → IsSome (slice_get (filter (is_member N u) pairs) t.slot)
unfolding IsName tetrahedron_of
has_pair L t j N u S h =
    let s = some_of (slice_get (members L (point_of t.centre)) t.slot) h in
    let k = ap (λ xs. slice_get xs t.slot) (members_in L (point_of t.centre) j N u S) ∙ slice_get-map (member_at S.n (2 ^ j) u) (filter (is_member N u) pairs) t.slot in
    picked (slice_get (filter (is_member N u) pairs) t.slot) s.0 (sym k ∙ s.1)
  where
    picked : (o : Option (ℕ × ℕ)) (T : Tetrahedron) → option_map (member_at S.n (2 ^ j) u) o ≡ Some T → IsSome o
    picked None T e = absurd cc
    picked (Some q) T e = refl

-- a member in closed form is a tetrahedron of its level
pub closed_in : (L k j n : ℕ) (u : Point) (q : ℕ × ℕ) → IsUnit L k j n u → Member pairs q → is_member (2 ^ suc k) u q ≡ true → Member (at_level L n) (member_at n (2 ^ j) u q)
unfolding members_closed member_at
closed_in L k j n u q h m valid =
    let S = member_at n (2 ^ j) u q in
    let listed : Member (map (member_at n (2 ^ j) u) (filter (is_member (2 ^ suc k) u) pairs)) S =
    map-member (member_at n (2 ^ j) u) (filter (is_member (2 ^ suc k) u) pairs) q (filter-member (is_member (2 ^ suc k) u) pairs q m valid) in
    let r = member_named L (point_scale (2 ^ j) u) S (subst (λ xs. Member xs S) (sym (members_are L k j n u h)) listed) in
    let v = level_within L (3 * L) S r.0 in
    let level : n ≡ v.0 = at_its_level L v.0 S v.2 in
    subst (λ i. Member (at_level L i) S) (sym level) v.2

module _ (L : ℕ) (t : Tet) (j N : ℕ) (u : Point) (q : ℕ × ℕ) (P : IsPlace L t j N u q) where
  pub picked : Member pairs q × (is_member N u q ≡ true)
  picked = member-filter (is_member N u) pairs q (get_member (filter (is_member N u) pairs) t.slot q P.slot)

  pub stands : tetrahedron_of L t ≡ Some (member_at P.scale.n (2 ^ j) u q)
  unfolding tetrahedron_of
  stands =
      ap (λ xs. slice_get xs t.slot) (members_in L (point_of t.centre) j N u P.scale) ∙ slice_get-map (member_at P.scale.n (2 ^ j) u) (filter (is_member N u) pairs) t.slot
      ∙ ap (option_map (member_at P.scale.n (2 ^ j) u)) P.slot

  pub corners_in : corners_of L t ≡ map (point_scale (2 ^ j)) (corners_at u q)
  unfolding corners_of member_at
  corners_in = ap (λ x. option_map_or (λ (T : Tetrahedron). T.corners) x []) stands

  pub in_its_level : Member (at_level L P.scale.n) (member_at P.scale.n (2 ^ j) u q)
  in_its_level = closed_in L P.scale.k j P.scale.n u q P.scale.unit picked.0 (subst (λ M. is_member M u q ≡ true) P.scale.side picked.1)

  -- the corners fit the code's numbers
  pub corners_fit : L ≤ 30 → AllByRecursion (IsScalable j) (corners_at u q)
  corners_fit most =
      let three = axes_within u in
      let o : long_axes u ≡ suc (long_axes u - 1) = omega (arith, P.scale.unit.some) in
      let few : long_axes u - 1 < 3 = omega (arith, three) in
      scalable j N (corners_at u q) (fits_of_scale L (point_of t.centre) j N u P.scale most)
      (corners_inside N u q (long_axes u - 1) (even_of_scale L (point_of t.centre) j N u P.scale) (box_of_scale L (point_of t.centre) j N u P.scale) o few picked.0 picked.1)

-- the directions of a member's pair are below six
pub directions_known : (N : ℕ) (u : Point) (slot : ℕ) (q : ℕ × ℕ) → slice_get (filter (is_member N u) pairs) slot ≡ Some q → (q.0 < 6) × (q.1 < 6)
directions_known N u slot q e = below_six q (member-filter (is_member N u) pairs q (get_member (filter (is_member N u) pairs) slot q e)).0

-- the level by the power of two and the number of long axes; the last level is that of the centres that aren't whole
pub record LevelFacts (L : ℕ) (c : Point) (j : ℕ) (u : Point) : Type 0 where
  pub level : level_of L c ≡ 3 * (L - j) + (3 - long_axes u)
  pub most : level_of L c ≤ 3 * L
  pub whole : level_of L c < 3 * L → IsWhole c
  pub above : IsWhole c → level_of L c < 3 * L

even_times : (j n : ℕ) → 1 ≤ j → 2 ^ j * n % 2 ≡ 0
even_times (suc j) n h =
    let double : 2 ^ suc j ≡ 2 * 2 ^ j = omega arith in
    let e : 2 ^ suc j * n ≡ 2 * (2 ^ j * n) = ap (λ x. x * n) double ∙ omega arith in
    omega (arith, e)
even_times zero n h = absurd (omega (arith, h))

one_times : (j n : ℕ) → j ≡ 0 → 2 ^ j * n ≡ n
one_times j n e = rw e (omega arith)

pub level_facts : (L : ℕ) (c : Point) (j N : ℕ) (u : Point) → IsScale L c j N u → LevelFacts L c j u
unfolding long_axes
level_facts L c j N u S =
    let n = level_of_scale L c j N u S in
    let axes = axes_within u in
    record {
      level = omega (arith, n, S.unit.sum, S.unit.level, axes);
      most = omega (arith, n, S.unit.within);
      whole = λ low. (let up : 1 ≤ j = omega (arith, n, low, S.unit.sum, S.unit.level, axes) in
          let x : c.x % 2 ≡ 0 = ap (λ (p : Point). p.x % 2) S.is ∙ even_times j u.x up in
          let y : c.y % 2 ≡ 0 = ap (λ (p : Point). p.y % 2) S.is ∙ even_times j u.y up in
          let z : c.z % 2 ≡ 0 = ap (λ (p : Point). p.z % 2) S.is ∙ even_times j u.z up in
          (x, y, z));
      above = λ w. elim (cases_order j 0) [
        | inl none ↦
            (let x : u.x % 2 ≡ 0 = ap (λ m. m % 2) (sym (one_times j u.x none)) ∙ ap (λ (p : Point). p.x % 2) (sym S.is) ∙ w.0 in
            let y : u.y % 2 ≡ 0 = ap (λ m. m % 2) (sym (one_times j u.y none)) ∙ ap (λ (p : Point). p.y % 2) (sym S.is) ∙ w.1 in
            let z : u.z % 2 ≡ 0 = ap (λ m. m % 2) (sym (one_times j u.z none)) ∙ ap (λ (p : Point). p.z % 2) (sym S.is) ∙ w.2 in
            absurd (omega (arith, x, y, z, S.unit.some)))
        | inr more ↦ elim more [ inl lt ↦ absurd (omega (arith, lt)) | inr lt ↦ omega (arith, n, lt, S.unit.sum, S.unit.level, S.unit.some) ]
      ];
    }
