-- Sums of three points.
use Rattle.std.specs.Prelude.{◌<◌, ◌*◌, ◌^◌}
use Rattle.tpz_base.specs.declared.shape.Point.{Point}
use Rattle.tpz_base.specs.Points.{point}
use Rattle.assign.specs.declared.sum.Sum.{Sum}

abbrev pub point_at : Sum → Point
point_at s = point s.x s.y s.z

-- small enough for a sum of three points of the code
pub record IsSum (p : Point) : Type 0 where
  pub x : p.x < 3 * 2 ^ 32
  pub y : p.y < 3 * 2 ^ 32
  pub z : p.z < 3 * 2 ^ 32
