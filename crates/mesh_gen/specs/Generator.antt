-- Generated meshes: the surface of a cube in squares, two triangles each, whose points are moved a little, each by another offset.
use Rattle.std.specs.Prelude.{ℕ, zero, suc, ◌+◌, ◌*◌, ◌%◌, ◌≤◌, [], ◌∷◌, flat_map}
use Rattle.std.specs.List.{range_with_len}
use Rattle.tpz_base.specs.declared.shape.Point.{Point}
use Rattle.tpz_base.specs.declared.shape.Tri.{Tri}
use Rattle.tpz_base.specs.Points.{point}
use Rattle.tpz_base.specs.Meshes.{Mesh, triangle}

-- a number that differs from grid point to grid point
abbrev pub mixed : Point → ℕ
mixed g = 31 * g.x * g.y + 17 * g.y * g.z + 13 * g.z * g.x + 7 * g.x + 5 * g.y + 3 * g.z

-- the point of the mesh at a grid point
abbrev pub placed : Point → Point
placed g = point (64 * g.x + mixed g % 33) (64 * g.y + (mixed g + 11) % 33) (64 * g.z + (mixed g + 22) % 33)

-- the grid point with these coordinates on an axis, 0 to 2, and on the two that follow it in turn
abbrev pub on_axes : ℕ → ℕ → ℕ → ℕ → Point
on_axes zero c u v = point c u v
on_axes (suc zero) c u v = point v c u
on_axes (suc (suc axis)) c u v = point u v c

-- the corner of the mesh at these coordinates on a side, 0 or 1
abbrev pub corner_of : ℕ → ℕ → ℕ → ℕ → ℕ → Point
corner_of n axis side u v = placed (on_axes axis (side * n) u v)

-- the two halves of a square with the corners a, b, c, d: on side 0 they turn the other way
abbrev pub halves : ℕ → Point → Point → Point → Point → Mesh
halves zero a b c d = triangle a c b ∷ triangle a d c ∷ []
halves (suc side) a b c d = triangle a b c ∷ triangle a c d ∷ []

abbrev pub square : ℕ → ℕ → ℕ → ℕ → ℕ → Mesh
square n axis side p q = halves side (corner_of n axis side p q) (corner_of n axis side (p + 1) q) (corner_of n axis side (p + 1) (q + 1)) (corner_of n axis side p (q + 1))

-- n squares in a row, n rows on a side
abbrev pub side_of : ℕ → ℕ → ℕ → Mesh
side_of n axis side = flat_map (λ p. flat_map (square n axis side p) (range_with_len 0 n)) (range_with_len 0 n)

-- the mesh of this size: two sides on each axis
unfoldable pub generated : ℕ → Mesh
generated n = flat_map (λ axis. flat_map (side_of n axis) (range_with_len 0 2)) (range_with_len 0 3)

-- the sizes that there are
pub record IsSize (n : ℕ) : Type 0 where
  pub least : 1 ≤ n
  pub most : n ≤ 500

-- no coordinate is above m
pub record IsUpTo (m : ℕ) (p : Point) : Type 0 where
  pub x : p.x ≤ m
  pub y : p.y ≤ m
  pub z : p.z ≤ m

pub record IsTriUpTo (m : ℕ) (t : Tri) : Type 0 where
  pub a : IsUpTo m t.a
  pub b : IsUpTo m t.b
  pub c : IsUpTo m t.c
