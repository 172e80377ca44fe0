-- The side of the bisecting plane by coordinates. The plane stands upright on the steps of the bisected edge, but for the middle step of three.
use Rattle.std.specs.Prelude.{ℕ, zero, suc, ◌+◌, ◌*◌, ◌/◌, ◌%◌, ◌==◌, List, [], ◌∷◌, ℤ, pos, ◌+ℤ◌, ◌-ℤ◌, if◌then◌else◌, Option, Some, None}
use Rattle.std.specs.List.{slice_index_or}
use Rattle.tpz_base.specs.declared.shape.Point.{Point}

-- six times how far, on one axis and in half-units, the barycentre is ahead of the midpoint in the direction of the edge. The corners' sum is s
-- in whole units, the midpoint c in half-units and u in units. 0 on an axis that the edge doesn't run along
unfoldable pub lean : ℕ → ℕ → ℕ → ℤ
lean s c u =
    if u % 2 == 0 then pos 0
    else (if u % 4 == 1 then pos (2 * s) -ℤ pos (3 * c) else pos (3 * c) -ℤ pos (2 * s))

-- the axis of the middle one of three steps: four directions of the diagonal along x and y, with six slots each
unfoldable pub middle_axes : List ℕ
middle_axes = 1 ∷ 2 ∷ 0 ∷ 2 ∷ 0 ∷ 1 ∷ 2 ∷ 0 ∷ 1 ∷ 0 ∷ 1 ∷ 2 ∷ 2 ∷ 1 ∷ 0 ∷ 1 ∷ 0 ∷ 2 ∷ 1 ∷ 0 ∷ 2 ∷ 0 ∷ 2 ∷ 1 ∷ []

-- the axis of the middle step at a slot of a cube with the centre u in units. The diagonal runs forwards where a coordinate's rest by four is 1.
-- Members of a cube are in the order of their steps: forwards along x, y and z before backwards along z, y and x. So it doesn't matter which
-- way the diagonal runs along z
unfoldable pub middle_axis : Point → ℕ → ℕ
middle_axis u slot = slice_index_or middle_axes (6 * (u.x % 4 / 2 + 2 * (u.y % 4 / 2)) + slot) 0

-- the axis of the middle step of the tetrahedron at a slot, whose level has this rest by three. None where there are fewer than three steps
unfoldable pub middle_step : ℕ → Point → ℕ → Option ℕ
middle_step zero u slot = Some (middle_axis u slot)
middle_step (suc rest) u slot = None

-- the sum on the two other axes
unfoldable pub outer : ℕ → ℤ → ℤ → ℤ → ℤ
outer zero x y z = y +ℤ z
outer (suc zero) x y z = x +ℤ z
outer (suc (suc axis)) x y z = x +ℤ y
