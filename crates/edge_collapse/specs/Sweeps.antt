-- The triangles at a vertex, as the sweeps of all its pairs need them.
use Rattle.std.specs.Prelude.{◌≡◌, ℕ, ◌^◌, false, unsigned_abs}
use Rattle.tpz_base.specs.declared.exact.Span.{Span}
use Rattle.tpz_base.specs.declared.shape.Point.{Point}
use Rattle.tpz_base.specs.declared.shape.Tri.{Tri}
use Rattle.tpz_base.specs.Points.{point_eq, Vector, vector, cross, dot}
use Rattle.tpz_base.specs.Collapses.{opposite_edge}
use Rattle.tpz_base.specs.Reach.{IsNear, IsShort, vector_at}
use Rattle.edge_collapse.specs.declared.star.StarFace.{StarFace}

-- a vector as a span of the code
abbrev pub span_of : Vector → Span
span_of v = record { dx = v.dx; dy = v.dy; dz = v.dz }

-- a triangle at p: the corner behind p, and the cross product of the edges from p to the two others
abbrev pub star_face : Point → Tri → StarFace
star_face p t =
    record { next = (opposite_edge p t).0; normal = span_of (cross (vector p (opposite_edge p t).0) (vector p (opposite_edge p t).1)) }

-- what the triangle adds to the sweep of a move by d
abbrev pub face_sweep : Vector → StarFace → ℕ
face_sweep d f = unsigned_abs (dot d (vector_at f.normal))

-- small enough for exact arithmetic, and at another point than p
pub record IsStarFace (p : Point) (f : StarFace) : Type 0 where
  pub next : IsNear f.next
  pub normal : IsShort (2 ^ 61) (vector_at f.normal)
  pub differ : point_eq p f.next ≡ false
