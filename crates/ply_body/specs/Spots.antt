-- The points that a reader keeps in a blob, and the frame that tells of them.
use Rattle.std.specs.Prelude.{◌≡◌, ℕ, ◌*◌, ◌^◌, ◌≤◌, List, [], ◌∷◌, ◌++◌, length, take, map, flat_map, All, ℤ, ◌≤ℤ◌, unsigned_abs, Option}
use Rattle.std.specs.Option.{ForSome}
use Rattle.std.specs.Int.{w32, cast_unsigned}
use Rattle.byteorder.specs.Endian.{little_bytes}
use Rattle.tpz_base.specs.declared.shape.Point.{Point}
use Rattle.tpz_base.specs.Cubes.{Row, less, low_of, level_bound, widest, IsInCube}
use Rattle.tpz_base.specs.Texts.{Bytes}
use Rattle.ply_body.specs.declared.frame.Frame.{Frame}
use Rattle.ply_body.specs.declared.spots.Spot.{Spot}

-- a coordinate in four bytes, the lowest first, in two's complement
abbrev pub coordinate_bytes : ℤ → Bytes
coordinate_bytes z = little_bytes 4 (cast_unsigned w32 z)

abbrev pub row_bytes : Row → Bytes
row_bytes r = coordinate_bytes r.x ++ coordinate_bytes r.y ++ coordinate_bytes r.z

abbrev pub rows_bytes : List Row → Bytes
rows_bytes rows = flat_map row_bytes rows

abbrev pub coordinates : Row → List ℤ
coordinates r = r.x ∷ r.y ∷ r.z ∷ []

-- the row of three coordinates
abbrev pub row_of : Spot → Row
row_of s = record { x = s.x; y = s.y; z = s.z }

-- each coordinate is at most the greatest that is read, in absolute value
pub record IsSmallRow (r : Row) : Type 0 where
  pub x : unsigned_abs r.x ≤ 2147483647
  pub y : unsigned_abs r.y ≤ 2147483647
  pub z : unsigned_abs r.z ≤ 2147483647

-- The frame is that of these rows.
pub record IsFrameOf (frame : Frame) (rows : List Row) : Type 0 where
  pub small : All IsSmallRow rows
  pub l : frame.l ≡ level_bound rows
  pub low : frame.low ≡ coordinates (low_of rows)
  pub vertices : frame.vertices ≡ length rows
  pub end : frame.end ≡ 12 * length rows
  pub narrow : widest rows ≤ 2 ^ 30

-- The bytes begin with those of the rows.
abbrev pub HoldsRows : List Row → Bytes → Type 0
HoldsRows rows bytes = take (length (rows_bytes rows)) bytes ≡ rows_bytes rows

-- The rows are the first in what is told, and then those on their way: what is told, cut where these go, and then they.
abbrev pub Keeps : List Row → Bytes → Option Bytes → Type 0
Keeps rows way told = (written : List Row) × (later : List Row) × (rows ≡ written ++ later) × (way ≡ rows_bytes later) × ForSome told (HoldsRows written)

-- the row has no coordinate below those of low
pub record IsOver (low row : Row) : Type 0 where
  pub x : low.x ≤ℤ row.x
  pub y : low.y ≤ℤ row.y
  pub z : low.z ≤ℤ row.z

-- the row is in the cube of level l from low on
pub record IsNear (l : ℕ) (low row : Row) : Type 0 where
  pub over : IsOver low row
  pub near : IsInCube l (less low row)

-- As many rows as a frame has vertices, each a point of its cube, whose least coordinates are those of low.
pub record AreSpots (frame : Frame) (low : Row) (rows : List Row) : Type 0 where
  pub least : frame.low ≡ coordinates low
  pub vertices : frame.vertices ≡ length rows
  pub small : All IsSmallRow rows
  pub near : All (IsNear frame.l low) rows

-- the points of rows, relative to the coordinates of low
abbrev pub spots_of : Row → List Row → List Point
spots_of low rows = map (less low) rows

-- The bytes begin with those of points of a frame's cube, as many as it has vertices.
abbrev pub HoldsPoints : Frame → Bytes → Type 0
HoldsPoints frame bytes = (low : Row) × (rows : List Row) × AreSpots frame low rows × HoldsRows rows bytes

-- the point of a row, relative to the coordinates of low
pub record IsPointOf (l : ℕ) (low : List ℤ) (row : Row) (p : Point) : Type 0 where
  pub point : (corner : Row) → low ≡ coordinates corner → p ≡ less corner row
  pub cube : IsInCube l p

-- the bounds of a frame, whatever was read
pub record IsSmallFrame (frame : Frame) : Type 0 where
  pub level : (1 ≤ frame.l) × (frame.l ≤ 30)
  pub low : All (λ z. unsigned_abs z ≤ 2147483647) frame.low
  pub end : frame.end ≤ 2 ^ 62
