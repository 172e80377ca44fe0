-- The members of a diamond, as callers see them, and what is kept of them.
use Rattle.std.specs.Prelude.{ℕ, ◌≡◌, ◌<◌, ◌≤◌, List, length, IfSome}
use Rattle.std.specs.List.{slice_index_or}
use Rattle.tpz_base.specs.declared.shape.Point.{Point}
use Rattle.tpz_base.specs.Points.{point_add, point_scale}
use Rattle.tpz_base.specs.Tetrahedra.{Tetrahedron, corner}
use Rattle.tetra_name.specs.declared.shape.Half.{Half}
use Rattle.tetra_name.specs.Names.{count_of, point_of, tetrahedron_of, IsBound, IsCentre}
use Rattle.assign.specs.declared.sum.Sum.{Sum}
use Rattle.assign.specs.Sums.{point_at}

-- the diamond with this centre, in a cube of 2 ^ l whole units
pub record DiamondAt : Type 0 where
  pub centre : Half
  pub l : ℕ

-- three times the sum of the corners: twelve times the centre
unfoldable pub member_sum : Tetrahedron → Point
member_sum T = point_scale 3 (point_add (point_add (corner T 0) (corner T 1)) (point_add (corner T 2) (corner T 3)))

-- the first n sums are those of the first n members
pub record HasSums (L : ℕ) (c : Half) (n : ℕ) (sums : List Sum) : Type 0 where
  pub each : (i : ℕ) → i < n → IfSome (tetrahedron_of L (record { centre = c; slot = i })) (λ T. point_at (slice_index_or sums i (record { x = 0; y = 0; z = 0 })) ≡ member_sum T)

-- n is the number of members, and each has its sum
pub record HoldsMembers (L : ℕ) (c : Half) (n : ℕ) (sums : List Sum) : Type 0 where
  pub bound : IsBound L
  pub centred : IsCentre L (point_of c)
  pub counted : n ≡ count_of L (point_of c)
  pub few : n ≤ 24
  pub all : length sums ≡ 24
  pub held : HasSums L c n sums
