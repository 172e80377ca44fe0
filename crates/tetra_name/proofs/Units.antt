-- Each centre is a point in units, with the unit that divides all its coordinates.
use Rattle.std.proofs.Common.{◌≡◌, ℕ, zero, suc, ◌+◌, ◌-◌, ◌*◌, ◌/◌, ◌%◌, ◌^◌, ◌≤◌, ◌<◌, ◌⊎◌, refl, sym, ◌∙◌, ap, subst, inl, inr, arith}
use Rattle.std.specs.Int.Count.{count_trailing_zeros}
use Rattle.tpz_base.specs.declared.shape.Point.{Point}
use Rattle.tpz_base.specs.Points.{point_scale}
use Rattle.tpz_base.specs.Tetrahedra.{Tetrahedron, diamond, at_level, members}
use Rattle.tpz_base.proofs.AxisPaths.{Order, xyz, xzy, yxz, yzx, zxy, zyx, along}
use Rattle.tpz_base.proofs.CutLaw.{Member}
use Rattle.tpz_base.proofs.Distinct.{at_its_level}
use Rattle.tpz_base.proofs.Members.{member_named, level_within}
use Rattle.tetra_name.specs.Places.{InBox, IsUnit}
use Rattle.tetra_name.specs.Steps.{long_axes}
use Rattle.tetra_name.proofs.Flags.{Big}
use Rattle.tetra_name.proofs.Rounds.{cubes, faces, edges}
use Rattle.tetra_name.proofs.Directions.{long_axes-along}
use Rattle.tetra_name.proofs.Closed.{scale-along, long_of}
use Rattle.tetra_name.proofs.MembersLaw.{cube_at, face_at, edge_at}

-- c in units
pub record UnitOf (L : ℕ) (c : Point) : Type 0 where
  pub k : ℕ
  pub j : ℕ
  pub n : ℕ
  pub u : Point
  pub unit : IsUnit L k j n u
  pub is : c ≡ point_scale (2 ^ j) u

pub big_middle : (N a b m : ℕ) → Big N a b m → m ≤ N
big_middle N a b m s = elim s.near [ inl k ↦ omega (arith, k.0, k.1, s.b_in) | inr k ↦ omega (arith, k.0, k.1, s.a_in) ]

pub along-box : (N : ℕ) (w : Order) (p q r : ℕ) → p ≤ N → q ≤ N → r ≤ N → InBox N (along w p q r)
along-box N xyz p q r a b c = record { x = a; y = b; z = c }
along-box N xzy p q r a b c = record { x = a; y = c; z = b }
along-box N yxz p q r a b c = record { x = b; y = a; z = c }
along-box N yzx p q r a b c = record { x = c; y = a; z = b }
along-box N zxy p q r a b c = record { x = b; y = c; z = a }
along-box N zyx p q r a b c = record { x = c; y = b; z = a }

-- the centre of a tetrahedron is one in units
pub unit_of_level : (L n : ℕ) (T : Tetrahedron) → n ≤ 3 * L → Member (at_level L n) T → UnitOf L (diamond T)
unit_of_level L n T within m = cases (n % 3) refl where
  k : ℕ
  k = n / 3

  j : ℕ
  j = L - n / 3

  N : ℕ
  N = 2 ^ suc (n / 3)

  cases : (r : ℕ) → n % 3 ≡ r → UnitOf L (diamond T)
  cases zero e =
      let is : n ≡ 3 * (n / 3) = omega (arith, e) in
      let sum : n / 3 + (L - n / 3) ≡ L = omega (arith, e, within) in
      let m' : Member (at_level L (3 * (n / 3))) T = subst (λ x. Member (at_level L x) T) is m in
      let F = cubes L (n / 3) (L - n / 3) sum T m' in
      let l0 = long_of _ F.a0 F.b0 F.m0 F.s0 in
      let l1 = long_of _ F.a1 F.b1 F.m1 F.s1 in
      let l2 = long_of _ F.a2 F.b2 F.m2 F.s2 in
      let o : long_axes (along F.w F.m0 F.m1 F.m2) ≡ 3 = long_axes-along F.w F.m0 F.m1 F.m2 ∙ omega (arith, l0.odd, l1.odd, l2.odd) in
      record {
        k = n / 3;
        j = L - n / 3;
        n = n;
        u = along F.w F.m0 F.m1 F.m2;
        unit = record {
          sum = sum;
          box = along-box _ F.w F.m0 F.m1 F.m2 (big_middle _ _ _ _ F.s0) (big_middle _ _ _ _ F.s1) (big_middle _ _ _ _ F.s2);
          some = omega (arith, o);
          level = omega (arith, o, is);
          within = within;
        };
        is = cube_at _ _ T (omega (arith, at_its_level L (3 * (n / 3)) T m')) F ∙ sym (scale-along _ F.w F.m0 F.m1 F.m2);
      }
  cases (suc zero) e =
      let is : n ≡ suc (3 * (n / 3)) = omega (arith, e) in
      let sum : n / 3 + (L - n / 3) ≡ L = omega (arith, e, within) in
      let m' : Member (at_level L (suc (3 * (n / 3)))) T = subst (λ x. Member (at_level L x) T) is m in
      let F = faces L (n / 3) _ _ (cubes L (n / 3) (L - n / 3) sum) T m' in
      let l0 = long_of _ F.a0 F.b0 F.m0 F.s0 in
      let l1 = long_of _ F.a1 F.b1 F.m1 F.s1 in
      let o : long_axes (along F.w F.m0 F.m1 F.a2) ≡ 2 = long_axes-along F.w F.m0 F.m1 F.a2 ∙ omega (arith, l0.odd, l1.odd, F.s2.even) in
      record {
        k = n / 3;
        j = L - n / 3;
        n = n;
        u = along F.w F.m0 F.m1 F.a2;
        unit = record {
          sum = sum;
          box = along-box _ F.w F.m0 F.m1 F.a2 (big_middle _ _ _ _ F.s0) (big_middle _ _ _ _ F.s1) F.s2.a_in;
          some = omega (arith, o);
          level = omega (arith, o, is);
          within = within;
        };
        is = face_at _ _ T (omega (arith, at_its_level L (suc (3 * (n / 3))) T m')) F ∙ sym (scale-along _ F.w F.m0 F.m1 F.a2);
      }
  cases (suc (suc zero)) e =
      let is : n ≡ suc (suc (3 * (n / 3))) = omega (arith, e) in
      let sum : n / 3 + (L - n / 3) ≡ L = omega (arith, e, within) in
      let m' : Member (at_level L (suc (suc (3 * (n / 3))))) T = subst (λ x. Member (at_level L x) T) is m in
      let F = edges L (n / 3) _ _ (faces L (n / 3) _ _ (cubes L (n / 3) (L - n / 3) sum)) T m' in
      let l0 = long_of _ F.a0 F.b0 F.m0 F.s0 in
      let o : long_axes (along F.w F.m0 F.a1 F.a2) ≡ 1 = long_axes-along F.w F.m0 F.a1 F.a2 ∙ omega (arith, l0.odd, F.s1.even, F.s2.even) in
      record {
        k = n / 3;
        j = L - n / 3;
        n = n;
        u = along F.w F.m0 F.a1 F.a2;
        unit = record {
          sum = sum;
          box = along-box _ F.w F.m0 F.a1 F.a2 (big_middle _ _ _ _ F.s0) F.s1.a_in F.s2.a_in;
          some = omega (arith, o);
          level = omega (arith, o, is);
          within = within;
        };
        is = edge_at _ _ T (omega (arith, at_its_level L (suc (suc (3 * (n / 3)))) T m')) F ∙ sym (scale-along _ F.w F.m0 F.a1 F.a2);
      }
  cases (suc (suc (suc r))) e = absurd (omega (arith, e))

pub unit_of_member : (L : ℕ) (c : Point) (T : Tetrahedron) → Member (members L c) T → UnitOf L c
unit_of_member L c T m =
    let r = member_named L c T m in
    let v = level_within L (3 * L) T r.0 in
    subst (UnitOf L) r.1 (unit_of_level L v.0 T v.1 v.2)

-- what trailing zeros say: the number is a power of two times an odd number
pub record IsSplit (n t : ℕ) : Type 0 where
  pub rest : ℕ
  pub is : n ≡ 2 ^ t * rest
  pub odd : 0 < n → rest % 2 ≡ 1

even_split : (n t : ℕ) → n % 2 ≡ 0 → IsSplit (n / 2) t → IsSplit n (suc t)
even_split n t e s =
    let double : 2 ^ suc t ≡ 2 * 2 ^ t = omega arith in
    let times : 2 ^ suc t * s.rest ≡ 2 * 2 ^ t * s.rest = ap (λ x. x * s.rest) double in
    let half : n ≡ 2 * (n / 2) = omega (arith, e) in
    record { rest = s.rest; is = omega (arith, s.is, times, half); odd = λ pos. s.odd (omega (arith, pos, e)) }

odd_split : (n : ℕ) → n % 2 ≡ 1 → IsSplit n 0
odd_split n e = record { rest = n; is = omega arith; odd = λ pos. e }

pub parity : (n : ℕ) → (n % 2 ≡ 0) ⊎ (n % 2 ≡ 1)
parity n = cases (n % 2) refl where
  cases : (r : ℕ) → n % 2 ≡ r → (n % 2 ≡ 0) ⊎ (n % 2 ≡ 1)
  cases zero e = inl e
  cases (suc zero) e = inr e
  cases (suc (suc r)) e = absurd (omega (arith, e))

pub split : (k n : ℕ) → n < 2 ^ k → IsSplit n (count_trailing_zeros k n)
unfolding count_trailing_zeros
split zero n h = record { rest = n; is = omega arith; odd = λ pos. absurd (omega (arith, pos, h)) }
split (suc k) n h =
    let half : n / 2 < 2 ^ k = (let e : 2 ^ suc k ≡ 2 * 2 ^ k = omega arith in omega (arith, h, e)) in
    let s = split k (n / 2) half in
    elim (parity n) [ inl e ↦ rw e (even_split n (count_trailing_zeros k (n / 2)) e s) | inr e ↦ rw e (odd_split n e) ]

doubled : (j m : ℕ) → 2 ^ suc j * m ≡ 2 * (2 ^ j * m)
doubled j m =
    let double : 2 ^ suc j ≡ 2 * 2 ^ j = omega arith in
    ap (λ x. x * m) double ∙ omega arith

-- a power of two times an odd number has so many trailing zeros
pub zeros_of : (k j m : ℕ) → j < k → m % 2 ≡ 1 → count_trailing_zeros k (2 ^ j * m) ≡ j
unfolding count_trailing_zeros
zeros_of zero j m h o = absurd (omega (arith, h))
zeros_of (suc k) zero m h o =
    let e : 2 ^ 0 * m ≡ m = omega arith in
    rw (e, o) refl
zeros_of (suc k) (suc j) m h o =
    let even : 2 ^ suc j * m % 2 ≡ 0 = omega (arith, doubled j m) in
    let half : 2 ^ suc j * m / 2 ≡ 2 ^ j * m = omega (arith, doubled j m) in
    rw (even, half) (ap suc (zeros_of k j m (omega (arith, h)) o))

-- and a multiple of it at least so many
pub zeros_above : (k j m : ℕ) → j ≤ k → j ≤ count_trailing_zeros k (2 ^ j * m)
unfolding count_trailing_zeros
zeros_above k zero m h = omega arith
zeros_above zero (suc j) m h = absurd (omega (arith, h))
zeros_above (suc k) (suc j) m h =
    let even : 2 ^ suc j * m % 2 ≡ 0 = omega (arith, doubled j m) in
    let half : 2 ^ suc j * m / 2 ≡ 2 ^ j * m = omega (arith, doubled j m) in
    let before = zeros_above k j m (omega (arith, h)) in
    rw (even, half) (omega (arith, before))
