-- The members of a diamond in closed form: which steps they take. Points are counted in units here: a diamond's centre has an odd coordinate on its long axes and an even one on its flat axes.
use Rattle.std.specs.Prelude.{ℕ, zero, suc, ◌<◌, ◌^◌, ◌+◌, ◌-◌, ◌*◌, ◌/◌, ◌%◌, min, Bool, ◌&&◌, nat_lt, ◌==◌, cond, List, [], ◌∷◌, map, filter, length}
use Rattle.tpz_base.specs.declared.shape.Point.{Point}
use Rattle.tpz_base.specs.Points.{point, point_scale}
use Rattle.tpz_base.specs.Tetrahedra.{Tetrahedron}

-- the six directions are counted from 0: x, y, z forwards, then z, y, x backwards
unfoldable pub moved : ℕ → ℕ → Point → Point
moved s zero p = point (p.x + s) p.y p.z
moved s (suc zero) p = point p.x (p.y + s) p.z
moved s (suc (suc zero)) p = point p.x p.y (p.z + s)
moved s (suc (suc (suc zero))) p = point p.x p.y (p.z - s)
moved s (suc (suc (suc (suc zero)))) p = point p.x (p.y - s) p.z
moved s (suc (suc (suc (suc (suc d))))) p = point (p.x - s) p.y p.z

-- the coordinate that a step in this direction changes
unfoldable pub coordinate : ℕ → Point → ℕ
coordinate zero p = p.x
coordinate (suc zero) p = p.y
coordinate (suc (suc zero)) p = p.z
coordinate (suc (suc (suc zero))) p = p.z
coordinate (suc (suc (suc (suc zero)))) p = p.y
coordinate (suc (suc (suc (suc (suc d))))) p = p.x

unfoldable pub is_forwards : ℕ → Bool
is_forwards d = nat_lt d 3

-- an edge through an odd coordinate goes from the multiple of four beside it to the other even number beside it
unfoldable pub start : ℕ → ℕ
start n = cond (n % 2 == 1) (cond (n % 4 == 1) (n - 1) (n + 1)) n

unfoldable pub finish : ℕ → ℕ
finish n = cond (n % 2 == 1) (cond (n % 4 == 1) (n + 1) (n - 1)) n

unfoldable pub start_point : Point → Point
start_point u = point (start u.x) (start u.y) (start u.z)

unfoldable pub finish_point : Point → Point
finish_point u = point (finish u.x) (finish u.y) (finish u.z)

-- whether a step from here goes along the bisected edge, or stays in the cube of side N
unfoldable pub allows : ℕ → Bool → ℕ → Bool
allows N forwards n =
    cond (n % 2 == 1) (cond forwards (n % 4 == 1) (n % 4 == 3)) (cond forwards (nat_lt n N) (nat_lt 0 n))

unfoldable pub is_allowed : ℕ → Point → ℕ → Bool
is_allowed N u d = allows N (is_forwards d) (coordinate d u)

unfoldable pub long_axes : Point → ℕ
long_axes u = u.x % 2 + (u.y % 2 + u.z % 2)

-- whether the two directions tell a member from the others of its diamond: along the first two steps, along the first step and to a side, or to a face and a cube
unfoldable pub is_member : ℕ → Point → ℕ × ℕ → Bool
is_member N u q =
    (is_allowed N u q.0 && is_allowed N u q.1)
    && (coordinate q.0 u % 2 == long_axes u / 2 && coordinate q.1 u % 2 == long_axes u / 3)

-- the pairs of directions on different axes, in order
unfoldable pub pairs : List (ℕ × ℕ)
pairs = (0, 1) ∷ (0, 2) ∷ (0, 3) ∷ (0, 4) ∷ (1, 0) ∷ (1, 2) ∷ (1, 3) ∷ (1, 5) ∷ (2, 0) ∷ (2, 1) ∷ (2, 4) ∷ (2, 5) ∷ (3, 0) ∷ (3, 1) ∷ (3, 4) ∷ (3, 5) ∷ (4, 0) ∷ (4, 2) ∷ (4, 3) ∷ (4, 5) ∷ (5, 1) ∷ (5, 2) ∷ (5, 3) ∷ (5, 4) ∷ []

abbrev pub pair_lt : ℕ × ℕ → ℕ × ℕ → Bool
pair_lt q r = nat_lt (6 * q.0 + q.1) (6 * r.0 + r.1)

-- how many members are before the one that these directions tell
unfoldable pub slot_at : ℕ → Point → ℕ × ℕ → ℕ
slot_at N u q = length (filter (λ r. pair_lt r q && is_member N u r) pairs)

unfoldable pub cube_corners : Point → ℕ × ℕ → List Point
cube_corners u q = start_point u ∷ moved 2 q.0 (start_point u) ∷ moved 2 q.1 (moved 2 q.0 (start_point u)) ∷ finish_point u ∷ []

unfoldable pub face_corners : Point → ℕ × ℕ → List Point
face_corners u q = start_point u ∷ moved 2 q.0 (start_point u) ∷ finish_point u ∷ moved 1 q.1 u ∷ []

unfoldable pub edge_corners : Point → ℕ × ℕ → List Point
edge_corners u q = start_point u ∷ finish_point u ∷ moved 1 q.0 u ∷ moved 1 q.1 (moved 1 q.0 u) ∷ []

unfoldable pub corners_at : Point → ℕ × ℕ → List Point
corners_at u q = corners_with (long_axes u) where
  corners_with : ℕ → List Point
  corners_with (suc (suc (suc o))) = cube_corners u q
  corners_with (suc (suc zero)) = face_corners u q
  corners_with _ = edge_corners u q

-- the member of level n that these directions tell, where a unit has the length h
unfoldable pub member_at : ℕ → ℕ → Point → ℕ × ℕ → Tetrahedron
member_at n h u q = record { level = n; corners = map (point_scale h) (corners_at u q) }

unfoldable pub members_closed : ℕ → ℕ → ℕ → Point → List Tetrahedron
members_closed n h N u = map (member_at n h u) (filter (is_member N u) pairs)

-- the point stays in range when a unit has the length 2 ^ j
abbrev pub IsScalable : ℕ → Point → Type 0
IsScalable j p = (p.x * 2 ^ j < 2 ^ 32) × (p.y * 2 ^ j < 2 ^ 32) × (p.z * 2 ^ j < 2 ^ 32)

unfoldable pub opposite : ℕ → ℕ
opposite d = 5 - d

-- the direction of the bisected edge on the axis that neither of the two directions is on
unfoldable pub rest_of : Point → ℕ × ℕ → ℕ
rest_of u q =
    let axis = 3 - min q.0 (5 - q.0) - min q.1 (5 - q.1) in
    cond (coordinate axis u % 4 == 1) axis (5 - axis)

-- the pair of directions of a child, by the kind of its parent
unfoldable pub child_pair : ℕ → Point → ℕ × ℕ → ℕ × ℕ
child_pair which u q = of_kind which (long_axes u) where
  of_kind : ℕ → ℕ → ℕ × ℕ
  of_kind zero (suc (suc (suc o))) = (q.0, rest_of u q)
  of_kind zero (suc (suc zero)) = (rest_of u q, q.1)
  of_kind zero _ = (rest_of u q, q.0)
  of_kind (suc w) (suc (suc (suc o))) = (q.1, opposite q.0)
  of_kind (suc w) (suc (suc zero)) = (opposite q.0, q.1)
  of_kind (suc w) _ = (opposite (rest_of u q), q.0)

-- its centre, in units of half the length after an edge
unfoldable pub child_point : ℕ → Point → ℕ × ℕ → Point
child_point which u q = of_kind which (long_axes u) where
  of_kind : ℕ → ℕ → Point
  of_kind zero (suc (suc o)) = moved 1 (opposite (rest_of u q)) u
  of_kind zero _ = moved 1 (opposite (rest_of u q)) (moved 1 q.0 (moved 1 q.1 (point_scale 2 u)))
  of_kind (suc w) (suc (suc o)) = moved 1 q.0 u
  of_kind (suc w) _ = moved 1 (rest_of u q) (moved 1 q.0 (moved 1 q.1 (point_scale 2 u)))

-- which child of its parent a member is: child 0 exactly where the edge that its parent bisects starts at one of the member's corners
unfoldable pub parent_which : Point → ℕ × ℕ → ℕ
parent_which u q = of_kind (long_axes u) where
  of_kind : ℕ → ℕ
  of_kind (suc (suc (suc o))) = cond (coordinate q.0 (start_point u) % 8 == 0) 0 1
  of_kind (suc (suc zero)) = cond (coordinate q.1 u % 4 == 0) 0 1
  of_kind _ = cond (coordinate q.0 u % 4 == 0) 0 1

-- the pair of directions of the parent
unfoldable pub parent_pair : Point → ℕ × ℕ → ℕ × ℕ
parent_pair u q = of_kind (long_axes u) (parent_which u q) where
  of_kind : ℕ → ℕ → ℕ × ℕ
  of_kind (suc (suc (suc o))) which = (q.1, rest_of u q)
  of_kind (suc (suc zero)) zero = (q.0, rest_of u q)
  of_kind (suc (suc zero)) (suc which) = (opposite q.1, q.0)
  of_kind _ zero = (rest_of u q, q.1)
  of_kind _ (suc which) = (opposite q.0, q.1)

unfoldable pub half_point : Point → Point
half_point p = point (p.x / 2) (p.y / 2) (p.z / 2)

-- its centre, in units of twice the length before an edge
unfoldable pub parent_point : Point → ℕ × ℕ → Point
parent_point u q = of_kind (long_axes u) where
  of_kind : ℕ → Point
  of_kind (suc (suc (suc o))) = half_point (moved 2 q.0 (start_point u))
  of_kind (suc (suc zero)) = moved 1 q.1 u
  of_kind _ = moved 1 q.0 u

-- the directions, in ascending order of the points that a step leads to
unfoldable pub step_directions : List ℕ
step_directions = 5 ∷ 4 ∷ 3 ∷ 2 ∷ 1 ∷ 0 ∷ []

-- whether a step from the centre of a cube or a face leads to a kid: along a long axis, either way
unfoldable pub is_kid_step : Point → ℕ → Bool
is_kid_step u d = coordinate d u % 2 == 1

-- whether a step leads to a parent: for a cube from the start of its edge along a long axis, for a face or an edge from its centre along a flat axis, in the whole cube
unfoldable pub is_parent_step : ℕ → Point → ℕ → Bool
is_parent_step N u d = is_allowed N u d && coordinate d u % 2 == long_axes u / 3

-- the eight centres of cubes beside an edge's centre lie by -1 or 1 on each axis in half the unit; here by 0 or 2 on each axis
unfoldable pub half_offsets : List Point
half_offsets = point 0 0 0 ∷ point 0 0 2 ∷ point 0 2 0 ∷ point 0 2 2 ∷ point 2 0 0 ∷ point 2 0 2 ∷ point 2 2 0 ∷ point 2 2 2 ∷ []

-- the number less 1 is from 0 to twice N
abbrev pub is_half : ℕ → ℕ → Bool
is_half N n = nat_lt 0 n && nat_lt n (2 * N + 2)

-- whether the centre of the cube at this offset lies in the whole cube
unfoldable pub is_half_step : ℕ → Point → Point → Bool
is_half_step N u o = is_half N (2 * u.x + o.x) && (is_half N (2 * u.y + o.y) && is_half N (2 * u.z + o.z))

unfoldable pub half_step : Point → Point → Point
half_step u o = point (2 * u.x + o.x - 1) (2 * u.y + o.y - 1) (2 * u.z + o.z - 1)
