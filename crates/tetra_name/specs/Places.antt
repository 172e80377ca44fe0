-- Centres and tetrahedra in units. A unit is the greatest power of two in which all three coordinates of a centre are whole.
use Rattle.std.specs.Prelude.{◌≡◌, ◌≤◌, ◌<◌, ◌+◌, ◌*◌, ◌^◌, ◌%◌, ℕ, suc, Some, Contains, filter, true}
use Rattle.std.specs.List.{slice_get}
use Rattle.tpz_base.specs.declared.shape.Point.{Point}
use Rattle.tpz_base.specs.Points.{point_scale}
use Rattle.tetra_name.specs.declared.shape.Tet.{Tet}
use Rattle.tetra_name.specs.Names.{point_of}
use Rattle.tetra_name.specs.Steps.{is_member, long_axes, pairs}

-- the point lies in the cube of side N
pub record InBox (N : ℕ) (u : Point) : Type 0 where
  pub x : u.x ≤ N
  pub y : u.y ≤ N
  pub z : u.z ≤ N

-- u is the centre of a diamond of level n, where a unit has the length 2 ^ j and the cube the side 2 ^ suc k units
pub record IsUnit (L k j n : ℕ) (u : Point) : Type 0 where
  pub sum : k + j ≡ L
  pub box : InBox (2 ^ suc k) u
  pub some : 0 < long_axes u
  pub level : n + long_axes u ≡ 3 * k + 3
  pub within : n ≤ 3 * L

-- c is u in units of 2 ^ j, and the cube has the side N units
pub record IsScale (L : ℕ) (c : Point) (j N : ℕ) (u : Point) : Type 0 where
  pub k : ℕ
  pub n : ℕ
  pub unit : IsUnit L k j n u
  pub side : N ≡ 2 ^ suc k
  pub is : c ≡ point_scale (2 ^ j) u

-- the name stands for the member that the pair q tells
pub record IsPlace (L : ℕ) (t : Tet) (j N : ℕ) (u : Point) (q : ℕ × ℕ) : Type 0 where
  pub scale : IsScale L (point_of t.centre) j N u
  pub slot : slice_get (filter (is_member N u) pairs) t.slot ≡ Some q

-- the pair of directions tells a member of the diamond
pub record TellsMember (N : ℕ) (u : Point) (q : ℕ × ℕ) : Type 0 where
  pub box : InBox N u
  pub even : N % 2 ≡ 0
  pub some : 0 < long_axes u
  pub listed : Contains pairs q
  pub valid : is_member N u q ≡ true
