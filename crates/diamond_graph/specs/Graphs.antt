-- What a graph holds.
use Rattle.std.specs.Prelude.{◌/◌, ◌<◌, ◌≤◌, ◌+◌, ◌-◌, ◌*◌, ◌^◌, ℕ, min, List, length, map, All}
use Rattle.tpz_base.specs.declared.shape.Point.{Point}
use Rattle.tpz_base.specs.declared.shape.Cell.{Cell}
use Rattle.tpz_base.specs.Points.{point}
use Rattle.tpz_base.specs.Diamonds.{level_of}
use Rattle.tetra_name.specs.Names.{point_of, half_of, IsBound, IsWithin}
use Rattle.diamond_graph.specs.declared.record.Record.{Record}
use Rattle.diamond_graph.specs.Closed.{CanSplit, IsClosedSet}

-- a level bound, records, and how often a record was looked at
pub record GraphState : Type 0 where
  pub l : ℕ
  pub records : List Record
  pub tests : ℕ

abbrev pub centre_of : Record → Point
centre_of r = point_of r.centre

-- the diamonds of the records
abbrev pub centres : GraphState → List Point
centres g = map centre_of g.records

-- the same point in units that are twice as long
abbrev pub halved : Point → Point
halved d = point (d.x / 2) (d.y / 2) (d.z / 2)

-- a record without error, whose box is its centre in whole units
abbrev pub fresh_record : Point → Record
fresh_record d = record { centre = half_of d; own = 0; err = 0; cell = record { lo = halved d; hi = halved d } }

-- a box of the cube of this side, in whole units
pub record IsBox (side : ℕ) (cell : Cell) : Type 0 where
  pub x : cell.lo.x ≤ cell.hi.x
  pub y : cell.lo.y ≤ cell.hi.y
  pub z : cell.lo.z ≤ cell.hi.z
  pub within : IsWithin side cell.hi

-- no move is longer than the widest cube, and each level below the record's adds at most one move
pub record IsRecord (L : ℕ) (r : Record) : Type 0 where
  pub own : r.own ≤ 2 ^ 30
  pub err : r.err ≤ (3 * L - level_of L (centre_of r)) * 2 ^ 30
  pub cell : IsBox (2 ^ L) r.cell

-- what a store may say of a record before its neighbours are looked at: its diamond can be split, and no field is beyond what any level allows
pub record IsStored (L : ℕ) (r : Record) : Type 0 where
  pub can_split : CanSplit L (centre_of r)
  pub own : r.own ≤ 2 ^ 30
  pub err : r.err ≤ 90 * 2 ^ 30
  pub cell : IsBox (2 ^ L) r.cell

-- one more, but for the greatest number of 64 bits, which stays
abbrev pub counted_on : ℕ → ℕ
counted_on n = min (n + 1) (2 ^ 64 - 1)

-- the record with another error and box
abbrev pub with_errors : Record → ℕ → ℕ → Cell → Record
with_errors r own err cell = record { centre = r.centre; own = own; err = err; cell = cell }

-- the facts that every graph keeps
pub record IsGraph (g : GraphState) : Type 0 where
  pub bound : IsBound g.l
  pub closed : IsClosedSet g.l (centres g)
  pub right : All (IsRecord g.l) g.records
  pub few : length g.records < 2 ^ 32
