-- The least and the greatest coordinates of rows.
use Rattle.std.specs.Prelude.{◌≡◌, ◌≢◌, ℕ, ◌^◌, List, [], map, find, nat_le, unwrap_or, Option, Some, None}
use Rattle.std.specs.List.{range_with_len}
use Rattle.std.specs.Int.{int_min, int_max}
use Rattle.tpz_base.specs.Cubes.{Row, low_of, most}
use Rattle.ply_body.specs.declared.fault.BodyFault.{BodyFault}
use Rattle.ply_body.specs.declared.fault.BodyFault.TheVariants.{Extent}
use Rattle.ply_body.specs.declared.hull.Hull.{Hull}
use Rattle.ply_body.specs.Spots.{row_of}

-- the lesser and the greater of two coordinates, on each axis
abbrev pub lower : Row → Row → Row
lower r s = record { x = int_min r.x s.x; y = int_min r.y s.y; z = int_min r.z s.z }

abbrev pub higher : Row → Row → Row
higher r s = record { x = int_max r.x s.x; y = int_max r.y s.y; z = int_max r.z s.z }

-- the greatest coordinates of all rows, 0 of none
abbrev pub high_of : List Row → Row
high_of rows = record { x = most (map (λ r. r.x) rows); y = most (map (λ r. r.y) rows); z = most (map (λ r. r.z) rows) }

-- It has the least and the greatest coordinates of these rows, of which there are some.
pub record HasHull (hull : Hull) (rows : List Row) : Type 0 where
  pub some : rows ≢ []
  pub low : low_of rows ≡ row_of hull.low
  pub high : high_of rows ≡ row_of hull.high

-- the same, or there are no rows
abbrev pub IsHullOf : Option Hull → List Row → Type 0
IsHullOf None rows = rows ≡ []
IsHullOf (Some hull) rows = HasHull hull rows

-- the first of n levels, from l on, whose power of two covers the width, and else 30
unfoldable pub level_from : ℕ → ℕ → ℕ → ℕ
level_from l n width = unwrap_or (find (λ k. nat_le width (2 ^ k)) (range_with_len l n)) 30

abbrev pub IsExtent : BodyFault → Type 0
IsExtent (Extent axis least greatest) = Unit {0}
IsExtent _ = ⊥
