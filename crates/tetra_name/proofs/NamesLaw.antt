-- What the test of a centre, its level and its members come to.
use Rattle.std.proofs.Common.{◌≡◌, ℕ, zero, suc, ◌+◌, ◌-◌, ◌*◌, ◌/◌, ◌%◌, ◌^◌, ◌≤◌, ◌<◌, ◌⊎◌, min, Bool, true, false, List, [], ◌∷◌, length, map, refl, sym, ◌∙◌, ap, subst, inl, inr, arith, pow_pos, pow-add, mul-le-mul_left}
use Rattle.std.specs.Prelude.{filter}
use Rattle.std.proofs.lemmas.Bool.{cases_order, lt-ltb}
use Rattle.std.proofs.Math.Nat.{mul-div_cancel_left, le_of_mul-le-mul_left}
use Rattle.std.proofs.Math.Pow.{pow_mono}
use Rattle.std.specs.Int.Count.{count_trailing_zeros, trailing_of_zero}
use Rattle.tpz_base.specs.declared.shape.Point.{Point}
use Rattle.tpz_base.specs.Points.{point_scale}
use Rattle.tpz_base.specs.Tetrahedra.{Tetrahedron, members}
use Rattle.tpz_base.proofs.AxisPaths.{Order, xyz, xzy, yxz, yzx, zxy, along}
use Rattle.tpz_base.proofs.CutLaw.{Member}
use Rattle.tpz_base.proofs.PointLemmas.{point_cong}
use Rattle.tpz_base.proofs.Members.{member_named}
use Rattle.tpz_base.proofs.Diamonds.{level_of-at}
use Rattle.tetra_name.specs.Places.{IsUnit}
use Rattle.tetra_name.specs.Names.{IsCentre, IsWithin, count_of, over, power_of}
use Rattle.tpz_base.specs.Diamonds.{level_of}
use Rattle.tetra_name.specs.Steps.{allows, is_member, long_axes, pairs, member_at, members_closed}
use Rattle.tetra_name.proofs.Directions.{first, second, third, coordinate-first, coordinate-second, coordinate-third, forwards-first, forwards-second, forwards-third, long_axes-along, pair-first_second, pair-first_third, pair-second_third}
use Rattle.tetra_name.proofs.Closed.{ways, allows_long, member_from}
use Rattle.tetra_name.proofs.MembersAre.{filter-member, map-member}
use Rattle.tetra_name.proofs.MembersLaw.{members_are}
use Rattle.tetra_name.proofs.Units.{UnitOf, unit_of_member, IsSplit, split, parity, zeros_of, zeros_above}

-- the power of a point in units
least : (a b c j : ℕ) → j ≤ a → j ≤ b → j ≤ c → (a ≡ j) ⊎ ((b ≡ j) ⊎ (c ≡ j)) → min (min a b) c ≡ j
least a b c j p q r e = elim e [ inl k ↦ omega (arith, k) | inr u ↦ elim u [ inl k ↦ omega (arith, k) | inr k ↦ omega (arith, k) ] ]

pub power_scaled : (j : ℕ) (u : Point) → j < 32 → 0 < long_axes u → power_of (point_scale (2 ^ j) u) ≡ j
unfolding power_of long_axes
power_scaled j u lt some =
    least (count_trailing_zeros 32 (2 ^ j * u.x)) (count_trailing_zeros 32 (2 ^ j * u.y)) (count_trailing_zeros 32 (2 ^ j * u.z)) j
    (zeros_above 32 j u.x (omega (arith, lt))) (zeros_above 32 j u.y (omega (arith, lt))) (zeros_above 32 j u.z (omega (arith, lt)))
    (elim (parity u.x) [
      | inr e ↦ inl (zeros_of 32 j u.x lt e)
      | inl ex ↦ elim (parity u.y) [
        | inr e ↦ inr (inl (zeros_of 32 j u.y lt e))
        | inl ey ↦ elim (parity u.z) [ inr e ↦ inr (inr (zeros_of 32 j u.z lt e)) | inl ez ↦ absurd (omega (arith, some, ex, ey, ez)) ]
      ]
    ])

pub power_is : (L : ℕ) (c : Point) → L ≤ 30 → (U : UnitOf L c) → power_of c ≡ U.j
power_is L c most U = ap power_of U.is ∙ power_scaled U.j U.u (omega (arith, most, U.unit.sum)) U.unit.some

pub members_of : (L : ℕ) (c : Point) (U : UnitOf L c) → members L c ≡ members_closed U.n (2 ^ U.j) (2 ^ suc U.k) U.u
members_of L c U = ap (members L) U.is ∙ members_are L U.k U.j U.n U.u U.unit

pub first_member : (xs : List Tetrahedron) → 0 < length xs → (T : Tetrahedron) × Member xs T
first_member [] h = absurd (omega (arith, h))
first_member (x ∷ xs) h = (x, inl refl)

pub some_member : (xs : List Tetrahedron) (T : Tetrahedron) → Member xs T → 0 < length xs
some_member [] T m = absurd m
some_member (x ∷ xs) T m = omega arith

-- a centre is one in units
pub unit_of_centre : (L : ℕ) (c : Point) → IsCentre L c → UnitOf L c
unfolding IsCentre count_of
unit_of_centre L c h = let r = first_member (members L c) h in unit_of_member L c r.0 r.1

-- each point in units has a member
record Some (N : ℕ) (u : Point) : Type 0 where
  q : ℕ × ℕ
  has : Member pairs q
  valid : is_member N u q ≡ true

pub side_of : (N n : ℕ) → 0 < N → n % 2 ≡ 0 → (b : Bool) × (allows N b n ≡ true)
unfolding allows
side_of N zero pos e = (true, lt-ltb 0 N pos)
side_of N (suc n) pos e = (false, rw e (lt-ltb 0 (suc n) (omega arith)))

some_cube : (N : ℕ) (w : Order) (p q r : ℕ) → long_axes (along w p q r) ≡ 3 → Some N (along w p q r)
some_cube N w p q r o =
    let s : p % 2 + (q % 2 + r % 2) ≡ 3 = sym (long_axes-along w p q r) ∙ o in
    let b = ways p (omega (arith, s)) in
    let c = ways q (omega (arith, s)) in
    record {
      q = (first w b.0, second w c.0);
      has = pair-first_second w b.0 c.0;
      valid = member_from N (along w p q r) (first w b.0) (second w c.0) b.0 c.0 p q (forwards-first w b.0) (coordinate-first w b.0 p q r) (forwards-second w c.0) (coordinate-second w c.0 p q r)
          (allows_long N b.0 p b.1) (allows_long N c.0 q c.1) (omega (arith, s, o)) (omega (arith, s, o));
    }

some_face : (N : ℕ) (w : Order) (p q r : ℕ) → 0 < N → long_axes (along w p q r) ≡ 2 → r % 2 ≡ 0 → Some N (along w p q r)
some_face N w p q r pos o e =
    let s : p % 2 + (q % 2 + r % 2) ≡ 2 = sym (long_axes-along w p q r) ∙ o in
    let b = ways p (omega (arith, s, e)) in
    let c = side_of N r pos e in
    record {
      q = (first w b.0, third w c.0);
      has = pair-first_third w b.0 c.0;
      valid = member_from N (along w p q r) (first w b.0) (third w c.0) b.0 c.0 p r (forwards-first w b.0) (coordinate-first w b.0 p q r) (forwards-third w c.0) (coordinate-third w c.0 p q r)
          (allows_long N b.0 p b.1) c.1 (omega (arith, s, o, e)) (omega (arith, o, e));
    }

some_edge : (N : ℕ) (w : Order) (p q r : ℕ) → 0 < N → long_axes (along w p q r) ≡ 1 → q % 2 ≡ 0 → r % 2 ≡ 0 → Some N (along w p q r)
some_edge N w p q r pos o e f =
    let b = side_of N q pos e in
    let c = side_of N r pos f in
    record {
      q = (second w b.0, third w c.0);
      has = pair-second_third w b.0 c.0;
      valid = member_from N (along w p q r) (second w b.0) (third w c.0) b.0 c.0 q r (forwards-second w b.0) (coordinate-second w b.0 p q r) (forwards-third w c.0) (coordinate-third w c.0 p q r)
          b.1 c.1 (omega (arith, o, e)) (omega (arith, o, f));
    }

odds_of : (u : Point) → long_axes u ≡ u.x % 2 + (u.y % 2 + u.z % 2)
unfolding long_axes
odds_of u = refl

some_pair : (N : ℕ) (u : Point) → 0 < N → 0 < long_axes u → Some N u
some_pair N u pos some =
    elim (parity u.x) [
      | inr x ↦ elim (parity u.y) [
        | inr y ↦ elim (parity u.z) [
          | inr z ↦ some_cube N xyz u.x u.y u.z (omega (arith, odds_of u, x, y, z))
          | inl z ↦ some_face N xyz u.x u.y u.z pos (omega (arith, odds_of u, x, y, z)) z
        ]
        | inl y ↦ elim (parity u.z) [
          | inr z ↦ some_face N xzy u.x u.z u.y pos (omega (arith, odds_of u, x, y, z)) y
          | inl z ↦ some_edge N xyz u.x u.y u.z pos (omega (arith, odds_of u, x, y, z)) y z
        ]
      ]
      | inl x ↦ elim (parity u.y) [
        | inr y ↦ elim (parity u.z) [
          | inr z ↦ some_face N yzx u.y u.z u.x pos (omega (arith, odds_of u, x, y, z)) x
          | inl z ↦ some_edge N yxz u.y u.x u.z pos (omega (arith, odds_of u, x, y, z)) x z
        ]
        | inl y ↦ elim (parity u.z) [
          | inr z ↦ some_edge N zxy u.z u.x u.y pos (omega (arith, odds_of u, x, y, z)) x y
          | inl z ↦ absurd (omega (arith, odds_of u, x, y, z, some))
        ]
      ]
    ]

pub centre_of_unit : (L : ℕ) (c : Point) → UnitOf L c → IsCentre L c
unfolding IsCentre count_of members_closed
centre_of_unit L c U =
    let s = some_pair (2 ^ suc U.k) U.u (pow_pos (suc U.k)) U.unit.some in
    rw (members_of L c U)
    (some_member _ _ (map-member (member_at U.n (2 ^ U.j) U.u) (filter (is_member (2 ^ suc U.k) U.u) pairs) s.q (filter-member (is_member (2 ^ suc U.k) U.u) pairs s.q s.has s.valid)))

-- the members have the level of the units
member_level : (n h : ℕ) (u : Point) (qs : List (ℕ × ℕ)) (T : Tetrahedron) → Member (map (member_at n h u) qs) T → T.level ≡ n
unfolding member_at
member_level n h u [] T m = absurd m
member_level n h u (q ∷ qs) T m = elim m [ inl e ↦ ap (λ (S : Tetrahedron). S.level) (sym e) | inr k ↦ member_level n h u qs T k ]

pub level_is : (L : ℕ) (c : Point) → IsCentre L c → (U : UnitOf L c) → level_of L c ≡ U.n
unfolding IsCentre count_of members_closed
level_is L c h U =
    let r = first_member (members L c) h in
    let m = member_named L c r.0 r.1 in
    let k : Member (map (member_at U.n (2 ^ U.j) U.u) (filter (is_member (2 ^ suc U.k) U.u) pairs)) r.0 = subst (λ xs. Member xs r.0) (members_of L c U) r.1 in
    level_of-at L r.0 c m.0 m.1 ∙ member_level U.n (2 ^ U.j) U.u (filter (is_member (2 ^ suc U.k) U.u) pairs) r.0 k

-- from the test of a centre to its units
axis_split : (p t n : ℕ) → p ≤ t → IsSplit n t → n ≡ 2 ^ p * (n / 2 ^ p)
axis_split p t n h s =
    let apart : t ≡ p + (t - p) = omega (arith, h) in
    let powers : 2 ^ t ≡ 2 ^ p * 2 ^ (t - p) = ap (λ x. 2 ^ x) apart ∙ pow-add 2 p (t - p) in
    let is : n ≡ 2 ^ p * (2 ^ (t - p) * s.rest) = s.is ∙ ap (λ x. x * s.rest) powers ∙ omega arith in
    let over : n / 2 ^ p ≡ 2 ^ (t - p) * s.rest = ap (λ x. x / 2 ^ p) is ∙ mul-div_cancel_left (2 ^ (t - p) * s.rest) (pow_pos p) in
    is ∙ ap (λ x. 2 ^ p * x) (sym over)

axis_odd : (t n : ℕ) → 0 < n → IsSplit n t → n / 2 ^ t % 2 ≡ 1
axis_odd t n pos s =
    let over : n / 2 ^ t ≡ s.rest = ap (λ x. x / 2 ^ t) s.is ∙ mul-div_cancel_left s.rest (pow_pos t) in
    rw over (s.odd pos)

not_zero : (t n : ℕ) → count_trailing_zeros 32 n ≡ t → t < 32 → 0 < n
not_zero t zero e lt = absurd (omega (arith, trailing_of_zero 32, e, lt))
not_zero t (suc n) e lt = omega arith

least_of : (a b c : ℕ) → (min (min a b) c ≤ a) × (min (min a b) c ≤ b) × (min (min a b) c ≤ c)
least_of a b c = (omega arith, omega arith, omega arith)

least_is : (a b c : ℕ) → (a ≡ min (min a b) c) ⊎ ((b ≡ min (min a b) c) ⊎ (c ≡ min (min a b) c))
least_is a b c =
    elim (cases_order a b) [
      | inl e ↦ elim (cases_order a c) [ inl f ↦ inl (omega (arith, e, f)) | inr f ↦ elim f [ inl l ↦ inl (omega (arith, e, l)) | inr l ↦ inr (inr (omega (arith, e, l))) ] ]
      | inr u ↦ elim u [
        | inl e ↦ elim (cases_order a c) [ inl f ↦ inl (omega (arith, e, f)) | inr f ↦ elim f [ inl l ↦ inl (omega (arith, e, l)) | inr l ↦ inr (inr (omega (arith, e, l))) ] ]
        | inr e ↦ elim (cases_order b c) [ inl f ↦ inr (inl (omega (arith, e, f))) | inr f ↦ elim f [ inl l ↦ inr (inl (omega (arith, e, l))) | inr l ↦ inr (inr (omega (arith, e, l))) ] ]
      ]
    ]

pub record IsDivided (j : ℕ) (c : Point) : Type 0 where
  pub is : c ≡ point_scale (2 ^ j) (over j c)
  pub some : 0 < long_axes (over j c)

divided_by : (a b d j : ℕ) (c : Point) → j ≤ a → j ≤ b → j ≤ d → j < 32 → (a ≡ j) ⊎ ((b ≡ j) ⊎ (d ≡ j))
    → count_trailing_zeros 32 c.x ≡ a → count_trailing_zeros 32 c.y ≡ b → count_trailing_zeros 32 c.z ≡ d
    → IsSplit c.x a → IsSplit c.y b → IsSplit c.z d → IsDivided j c
unfolding over long_axes
divided_by a b d j c p q r lt which ea eb ed sa sb sd = record {
  is = point_cong _ _ _ _ _ _ (axis_split j a c.x p sa) (axis_split j b c.y q sb) (axis_split j d c.z r sd);
  some = elim which [
    | inl e ↦ (let o = axis_odd a c.x (not_zero a c.x ea (omega (arith, e, lt))) sa in
        let o' : c.x / 2 ^ j % 2 ≡ 1 = subst (λ t. c.x / 2 ^ t % 2 ≡ 1) e o in
        omega (arith, o'))
    | inr k ↦ elim k [
      | inl e ↦ (let o = axis_odd b c.y (not_zero b c.y eb (omega (arith, e, lt))) sb in
          let o' : c.y / 2 ^ j % 2 ≡ 1 = subst (λ t. c.y / 2 ^ t % 2 ≡ 1) e o in
          omega (arith, o'))
      | inr e ↦ (let o = axis_odd d c.z (not_zero d c.z ed (omega (arith, e, lt))) sd in
          let o' : c.z / 2 ^ j % 2 ≡ 1 = subst (λ t. c.z / 2 ^ t % 2 ≡ 1) e o in
          omega (arith, o'))
    ]
  ];
}

pub divided : (c : Point) → c.x < 2 ^ 32 → c.y < 2 ^ 32 → c.z < 2 ^ 32 → power_of c < 32 → IsDivided (power_of c) c
unfolding power_of
divided c x y z lt =
    let a = count_trailing_zeros 32 c.x in
    let b = count_trailing_zeros 32 c.y in
    let d = count_trailing_zeros 32 c.z in
    let l = least_of (count_trailing_zeros 32 c.x) (count_trailing_zeros 32 c.y) (count_trailing_zeros 32 c.z) in
    divided_by (count_trailing_zeros 32 c.x) (count_trailing_zeros 32 c.y) (count_trailing_zeros 32 c.z) (power_of c) c l.0 l.1 l.2 lt
    (least_is (count_trailing_zeros 32 c.x) (count_trailing_zeros 32 c.y) (count_trailing_zeros 32 c.z)) refl refl refl (split 32 c.x x) (split 32 c.y y) (split 32 c.z z)

pub axes_within : (u : Point) → long_axes u ≤ 3
unfolding long_axes
axes_within u = omega arith

whole_side : (j k L : ℕ) → k + j ≡ L → 2 * 2 ^ L ≡ 2 ^ j * 2 ^ suc k
whole_side j k L e =
    let up : suc L ≡ j + suc k = omega (arith, e) in
    let a : 2 * 2 ^ L ≡ 2 ^ suc L = omega arith in
    a ∙ ap (λ x. 2 ^ x) up ∙ pow-add 2 j (suc k)

inside : (j k L m : ℕ) → k + j ≡ L → 2 ^ j * m ≤ 2 * 2 ^ L → m ≤ 2 ^ suc k
inside j k L m e h = le_of_mul-le-mul_left (subst (λ x. 2 ^ j * m ≤ x) (whole_side j k L e) h) (pow_pos j)

outside : (j k L m : ℕ) → k + j ≡ L → m ≤ 2 ^ suc k → 2 ^ j * m ≤ 2 * 2 ^ L
outside j k L m e h = subst (λ x. 2 ^ j * m ≤ x) (sym (whole_side j k L e)) (mul-le-mul_left (2 ^ j) h)

all_odd : (c : Point) (j : ℕ) → j ≡ 0 → c.x % 2 + c.y % 2 + c.z % 2 ≡ 3 → long_axes (over j c) ≡ 3
unfolding long_axes over
all_odd c j e h =
    let x : c.x / 2 ^ 0 ≡ c.x = omega arith in
    let y : c.y / 2 ^ 0 ≡ c.y = omega arith in
    let z : c.z / 2 ^ 0 ≡ c.z = omega arith in
    rw (e, x, y, z) (omega (arith, h))

odd_all : (u : Point) → long_axes u ≡ 3 → u.x % 2 + u.y % 2 + u.z % 2 ≡ 3
unfolding long_axes
odd_all u e = omega (arith, e)

pub record IsTested (L : ℕ) (c : Point) : Type 0 where
  pub x : c.x ≤ 2 * 2 ^ L
  pub y : c.y ≤ 2 * 2 ^ L
  pub z : c.z ≤ 2 * 2 ^ L
  pub power : power_of c ≤ L
  pub odd : power_of c ≡ 0 → c.x % 2 + c.y % 2 + c.z % 2 ≡ 3

pub unit_of_test : (L : ℕ) (c : Point) → L ≤ 30 → c.x < 2 ^ 32 → c.y < 2 ^ 32 → c.z < 2 ^ 32 → IsTested L c → UnitOf L c
unfolding over
unit_of_test L c most x y z t =
    let d = divided c x y z (omega (arith, t.power, most)) in
    let sum : L - power_of c + power_of c ≡ L = omega (arith, t.power) in
    let o = axes_within (over (power_of c) c) in
    let inner : (p : ℕ) → power_of c ≡ p → 3 * (L - power_of c) + 3 - long_axes (over (power_of c) c) ≤ 3 * L = λ p e. elim (cases_order (power_of c) 0) [
      | inl none ↦ (let three = all_odd c (power_of c) none (t.odd none) in omega (arith, three, none))
      | inr u ↦ elim u [ inl l ↦ absurd (omega (arith, l)) | inr l ↦ omega (arith, l, d.some, t.power) ]
    ] in
    record {
      k = L - power_of c;
      j = power_of c;
      n = 3 * (L - power_of c) + 3 - long_axes (over (power_of c) c);
      u = over (power_of c) c;
      unit = record {
        sum = sum;
        box = record {
          x = inside (power_of c) (L - power_of c) L (c.x / 2 ^ power_of c) sum (subst (λ n. n ≤ 2 * 2 ^ L) (ap (λ (p : Point). p.x) d.is) t.x);
          y = inside (power_of c) (L - power_of c) L (c.y / 2 ^ power_of c) sum (subst (λ n. n ≤ 2 * 2 ^ L) (ap (λ (p : Point). p.y) d.is) t.y);
          z = inside (power_of c) (L - power_of c) L (c.z / 2 ^ power_of c) sum (subst (λ n. n ≤ 2 * 2 ^ L) (ap (λ (p : Point). p.z) d.is) t.z);
        };
        some = d.some;
        level = omega (arith, o);
        within = inner (power_of c) refl;
      };
      is = d.is;
    }

one_times : (j m : ℕ) → j ≡ 0 → 2 ^ j * m ≡ m
one_times j m e = rw e (omega arith)

test_of_scaled : (L : ℕ) → L ≤ 30 → (k j n : ℕ) (u : Point) → IsUnit L k j n u → IsTested L (point_scale (2 ^ j) u)
test_of_scaled L most k j n u h =
    let p : power_of (point_scale (2 ^ j) u) ≡ j = power_scaled j u (omega (arith, most, h.sum)) h.some in
    record {
      x = outside j k L u.x h.sum h.box.x;
      y = outside j k L u.y h.sum h.box.y;
      z = outside j k L u.z h.sum h.box.z;
      power = omega (arith, p, h.sum);
      odd = λ e. (let zero : j ≡ 0 = omega (arith, e, p) in
          let three : long_axes u ≡ 3 = omega (arith, zero, h.sum, h.level, h.within, axes_within u) in
          rw (one_times j u.x zero, one_times j u.y zero, one_times j u.z zero) (odd_all u three));
    }

pub test_of_unit : (L : ℕ) (c : Point) → L ≤ 30 → UnitOf L c → IsTested L c
test_of_unit L c most U = subst (IsTested L) (sym U.is) (test_of_scaled L most U.k U.j U.n U.u U.unit)

pub centre_of_test : (L : ℕ) (c : Point) → L ≤ 30 → c.x < 2 ^ 32 → c.y < 2 ^ 32 → c.z < 2 ^ 32 → IsTested L c → IsCentre L c
centre_of_test L c most x y z t = centre_of_unit L c (unit_of_test L c most x y z t)

pub test_of_centre : (L : ℕ) (c : Point) → L ≤ 30 → IsCentre L c → IsTested L c
test_of_centre L c most h = test_of_unit L c most (unit_of_centre L c h)

pub side_fits : (L : ℕ) → L ≤ 30 → 2 * 2 ^ L < 4294967296
side_fits L h = let p : 2 ^ L ≤ 2 ^ 30 = pow_mono h in omega (arith, p)

pub side_is : (L : ℕ) → L ≤ 30 → 2 * 2 ^ L % 4294967296 ≡ 2 * 2 ^ L
side_is L h = let p = side_fits L h in omega (arith, p)

-- the steps of the test as the code has them
pub within_of : (L : ℕ) (c : Point) → L ≤ 30 → IsCentre L c → IsWithin (2 * 2 ^ L % 4294967296) c
within_of L c most h =
    let t = test_of_centre L c most h in
    rw (side_is L most) (t.x, t.y, t.z)

pub centre_of_parts : (L : ℕ) (c : Point) (j : ℕ) → L ≤ 30 → IsWithin (2 * 2 ^ L % 4294967296) c → j ≡ power_of c → j ≤ L → (j ≡ 0 → c.x % 2 + c.y % 2 + c.z % 2 ≡ 3) → IsCentre L c
centre_of_parts L c j most w e p o =
    let fits = side_fits L most in
    let v : IsWithin (2 * 2 ^ L) c = rw (side_is L most) at w in
    centre_of_test L c most (omega (arith, v.0, fits)) (omega (arith, v.1, fits)) (omega (arith, v.2, fits)) (record { x = v.0; y = v.1; z = v.2; power = omega (arith, e, p); odd = λ z. o (omega (arith, e, z)) })

-- a centre's units, as the code has them
pub record Units (L : ℕ) (c : Point) : Type 0 where
  pub U : UnitOf L c
  pub j_is : U.j ≡ power_of c
  pub u_is : U.u ≡ over (power_of c) c

over_scaled : (j : ℕ) (u : Point) → over j (point_scale (2 ^ j) u) ≡ u
unfolding over
over_scaled j u = point_cong _ _ _ _ _ _ (mul-div_cancel_left u.x (pow_pos j)) (mul-div_cancel_left u.y (pow_pos j)) (mul-div_cancel_left u.z (pow_pos j))

pub units_of : (L : ℕ) (c : Point) → L ≤ 30 → IsCentre L c → Units L c
units_of L c most h =
    let U = unit_of_centre L c h in
    let e = power_is L c most U in
    record { U = U; j_is = sym e; u_is = sym (ap (λ p. over p c) e ∙ ap (over U.j) U.is ∙ over_scaled U.j U.u) }

-- the level by the power of two and the number of long axes
pub level_by_units : (L : ℕ) (c : Point) (j : ℕ) (u : Point) → L ≤ 30 → IsCentre L c → j ≡ power_of c → u ≡ over j c
    → 3 * (L - j) + (3 - (u.x % 2 + u.y % 2 + u.z % 2)) ≡ level_of L c
unfolding long_axes
level_by_units L c j u most h e f =
    let v = units_of L c most h in
    let s : u ≡ v.U.u = f ∙ ap (λ p. over p c) e ∙ sym v.u_is in
    let jj : v.U.j ≡ j = v.j_is ∙ sym e in
    let o : long_axes u ≡ long_axes v.U.u = ap long_axes s in
    let n = level_is L c h v.U in
    let inner = axes_within u in
    omega (arith, jj, v.U.unit.sum, v.U.unit.level, n, o, inner)

pub side_shift : (L j : ℕ) → L ≤ 30 → 2 * 2 ^ (L - j) % 4294967296 ≡ 2 * 2 ^ (L - j)
side_shift L j h =
    let le : L - j ≤ 30 = omega (arith, h) in
    let p : 2 ^ (L - j) ≤ 2 ^ 30 = pow_mono le in
    omega (arith, p)
