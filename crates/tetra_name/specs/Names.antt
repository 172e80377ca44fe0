-- What names of tetrahedra and centres stand for.
use Rattle.std.specs.Prelude.{ℕ, zero, suc, ◌/◌, ◌%◌, ◌^◌, ◌≡◌, ◌<◌, ◌≤◌, min, Option, Some, List, [], length, Contains, IsSome}
use Rattle.std.specs.Int.{w32, trailing_zeros}
use Rattle.std.specs.Option.{option_map, option_map_or}
use Rattle.std.specs.List.{slice_get}
use Rattle.tpz_base.specs.declared.shape.Point.{Point}
use Rattle.tpz_base.specs.Points.{point}
use Rattle.tpz_base.specs.Tetrahedra.{Tetrahedron, child_0, child_1, descendants, members, roots}
use Rattle.tetra_name.specs.declared.shape.Half.{Half}
use Rattle.tetra_name.specs.declared.shape.Tet.{Tet}

-- the same three numbers, as a point whose unit is half a unit
abbrev pub point_of : Half → Point
point_of c = point c.x c.y c.z

abbrev pub half_of : Point → Half
half_of p = record { x = p.x; y = p.y; z = p.z }

-- the member of the centre at the slot
unfoldable pub tetrahedron_of : ℕ → Tet → Option Tetrahedron
tetrahedron_of L t = slice_get (members L (point_of t.centre)) t.slot

unfoldable pub IsName : ℕ → Tet → Type 0
IsName L t = IsSome (tetrahedron_of L t)

-- the corners of the tetrahedron that a name stands for
unfoldable pub corners_of : ℕ → Tet → List Point
corners_of L t = option_map_or (λ (T : Tetrahedron). T.corners) (tetrahedron_of L t) []

unfoldable pub count_of : ℕ → Point → ℕ
count_of L c = length (members L c)

-- some tetrahedron has this centre
unfoldable pub IsCentre : ℕ → Point → Type 0
IsCentre L c = 0 < count_of L c

-- the root at a slot
unfoldable pub root_at : ℕ → ℕ → Option Tetrahedron
root_at L i = slice_get (roots L) i

-- the bound of L
pub record IsBound (L : ℕ) : Type 0 where
  pub least : 1 ≤ L
  pub most : L ≤ 30

abbrev pub IsWithin : ℕ → Point → Type 0
IsWithin side c = (c.x ≤ side) × (c.y ≤ side) × (c.z ≤ side)

abbrev pub IsWhole : Point → Type 0
IsWhole c = (c.x % 2 ≡ 0) × (c.y % 2 ≡ 0) × (c.z % 2 ≡ 0)

-- how often two divides the three coordinates
unfoldable pub power_of : Point → ℕ
power_of c = min (min (trailing_zeros w32 c.x) (trailing_zeros w32 c.y)) (trailing_zeros w32 c.z)

-- the point in units of 2 ^ j
unfoldable pub over : ℕ → Point → Point
over j c = point (c.x / 2 ^ j) (c.y / 2 ^ j) (c.z / 2 ^ j)

-- the child of this number
unfoldable pub child_of : ℕ → Option Tetrahedron → Option Tetrahedron
child_of zero o = option_map child_0 o
child_of (suc w) o = option_map child_1 o

-- no other name has the same corners
unfoldable pub HasOwnCorners : ℕ → Tet → Type 0
HasOwnCorners L t = (s : Tet) → IsName L s → corners_of L s ≡ corners_of L t → s ≡ t

-- the numbers of a name fit its fields
abbrev pub IsInRange : Tet → Type 0
IsInRange t = (t.centre.x < 2 ^ 32) × (t.centre.y < 2 ^ 32) × (t.centre.z < 2 ^ 32) × (t.slot < 2 ^ 8)

-- each name stands for a descendant of the roots, and each descendant has one name
pub record NamesEach (L : ℕ) : Type 0 where
  pub stands : (t : Tet) (T : Tetrahedron) → tetrahedron_of L t ≡ Some T → Contains (descendants L) T
  pub named : (T : Tetrahedron) → Contains (descendants L) T → (t : Tet) × IsInRange t × (tetrahedron_of L t ≡ Some T)
  pub once : (s t : Tet) → IsName L s → tetrahedron_of L s ≡ tetrahedron_of L t → s ≡ t
