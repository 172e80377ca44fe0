-- The path of a triangle's barycentre through the hierarchy.
use Rattle.std.specs.Prelude.{ℕ, zero, suc, ◌+◌, ◌-◌, ◌*◌, Bool, List, [], ◌∷◌, ◌++◌, map, take, drop, if◌then◌else◌, ℤ, pos, ◌*ℤ◌, int_lt}
use Rattle.std.specs.List.{slice_index_or}
use Rattle.tpz_base.specs.declared.shape.Point.{Point}
use Rattle.tpz_base.specs.declared.shape.Tri.{Tri}
use Rattle.tpz_base.specs.Points.{point_scale, det}
use Rattle.tpz_base.specs.Roots.{corner_sum, root_of}
use Rattle.tpz_base.specs.Tetrahedra.{Tetrahedron, corner, tag, diamond, child_0, child_1}

-- the two corners that don't lie on the bisected edge
abbrev pub apart : Tetrahedron → List Point
apart T = take (tag T - 1) (drop 1 T.corners) ++ drop (tag T + 1) T.corners

-- how far the point p lies, to one side or the other, from the plane that bisects T: through the midpoint of the bisected edge and the two
-- corners that don't lie on it
unfoldable pub height : Tetrahedron → Point → ℤ
height T p = det (diamond T) (slice_index_or (apart T) 0 p) (slice_index_or (apart T) 1 p) p

-- T with its coordinates three times as large
unfoldable pub tripled : Tetrahedron → Tetrahedron
tripled T = record T { corners = map (point_scale 3) T.corners }

-- whether the barycentre of t lies strictly on the side of the plane where the end of the bisected edge is. All is compared three times as
-- large, and the corner sum is doubled, since corners are in half-units
unfoldable pub is_beyond : Tri → Tetrahedron → Bool
is_beyond t T =
    int_lt (pos 0) (height (tripled T) (point_scale 2 (corner_sum t)) *ℤ height (tripled T) (corner (tripled T) (tag T)))

-- the number of the child that t goes to: child 0 where its barycentre lies on the plane
unfoldable pub side_of : Tri → Tetrahedron → ℕ
side_of t T = if is_beyond t T then 1 else 0

-- that child
unfoldable pub entered : Tri → Tetrahedron → Tetrahedron
entered t T = if is_beyond t T then child_1 T else child_0 T

-- T and the n tetrahedra that t goes to below it
unfoldable pub path_below : ℕ → Tri → Tetrahedron → List Tetrahedron
path_below zero t T = T ∷ []
path_below (suc n) t T = T ∷ path_below n t (entered t T)

-- from the root to the last level
unfoldable pub path : ℕ → Tri → List Tetrahedron
path L t = path_below (3 * L) t (root_of L t)
