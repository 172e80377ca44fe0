-- Lists of records that are in order, hold their parents, and have their kids' errors and boxes within their own; and the first record of a list at which that fails.
use Rattle.std.specs.Prelude.{ℕ, suc, ◌+◌, max, Bool, not, ◌&&◌, List, map, fold, filter, flat_map, zip, drop, position, nat_le, ◌==◌, IsTrue, Option, option_map}
use Rattle.std.specs.Option.{option_or}
use Rattle.std.specs.List.{list_all}
use Rattle.tpz_base.specs.declared.shape.Point.{Point}
use Rattle.tpz_base.specs.declared.shape.Cell.{Cell}
use Rattle.tpz_base.specs.Points.{point_eq}
use Rattle.tpz_base.specs.Tetrahedra.{kids}
use Rattle.tpz_base.specs.Diamonds.{record_lt}
use Rattle.diamond_graph.specs.declared.record.Record.{Record}
use Rattle.diamond_graph.specs.declared.fault.GraphFault.{GraphFault}
use Rattle.diamond_graph.specs.declared.fault.GraphFault.TheVariants.{Order, NotClosed, NotSaturated}
use Rattle.diamond_graph.specs.Closed.{has_parents, IsConforming}
use Rattle.diamond_graph.specs.Graphs.{centre_of, halved}

-- the box holds the point
abbrev pub holds : Cell → Point → Bool
holds b p =
    (nat_le b.lo.x p.x && (nat_le b.lo.y p.y && nat_le b.lo.z p.z)) && (nat_le p.x b.hi.x && (nat_le p.y b.hi.y && nat_le p.z b.hi.z))

-- the box holds the record's
abbrev pub holds_cell : Cell → Record → Bool
holds_cell b r = holds b r.cell.lo && holds b r.cell.hi

-- the records with this centre
abbrev pub records_at : List Record → Point → List Record
records_at rs d = filter (λ r. point_eq (centre_of r) d) rs

-- the records of the kids of a diamond
abbrev pub kid_records : ℕ → List Record → Point → List Record
kid_records L rs d = flat_map (records_at rs) (kids L d)

-- the greatest error, 0 where there is no record
abbrev pub greatest_err : List Record → ℕ
greatest_err rs = fold max 0 (map (λ (r : Record). r.err) rs)

-- err is own and the greatest of the kids', and the box holds the centre and the kids' boxes
unfoldable pub is_saturated : ℕ → List Record → Record → Bool
is_saturated L rs r =
    let ks = kid_records L rs (centre_of r) in
    r.err == r.own + greatest_err ks && (holds r.cell (halved (centre_of r)) && list_all (holds_cell r.cell) ks)

-- each element with the next
abbrev pub neighbours : {X : Type 0} → List X → List (X × X)
neighbours xs = zip xs (drop 1 xs)

abbrev pub are_in_order : ℕ → Point × Point → Bool
are_in_order L e = record_lt L e.0 e.1

-- each record is after the one before it
abbrev pub AreInOrder : ℕ → List Record → Type 0
AreInOrder L rs = IsTrue (list_all (are_in_order L) (neighbours (map centre_of rs)))

-- the parents of each record are records
abbrev pub AreClosed : ℕ → List Record → Type 0
AreClosed L rs = IsConforming L (map centre_of rs)

abbrev pub AreSaturated : ℕ → List Record → Type 0
AreSaturated L rs = IsTrue (list_all (is_saturated L rs) rs)

-- the place of the first record that isn't after the one before it
unfoldable pub first_out_of_order : ℕ → List Record → Option ℕ
first_out_of_order L rs = option_map suc (position (λ e. not (are_in_order L e)) (neighbours (map centre_of rs)))

-- the place of the first record with a parent that isn't a record
unfoldable pub first_not_closed : ℕ → List Record → Option ℕ
first_not_closed L rs = position (λ d. not (has_parents L (map centre_of rs) d)) (map centre_of rs)

-- the place of the first record that isn't saturated
unfoldable pub first_not_saturated : ℕ → List Record → Option ℕ
first_not_saturated L rs = position (λ r. not (is_saturated L rs r)) rs

-- the first fault, each kind over all records before the next
abbrev pub first_fault : ℕ → List Record → Option GraphFault
first_fault L rs =
    option_or (option_map Order (first_out_of_order L rs))
    (option_or (option_map NotClosed (first_not_closed L rs)) (option_map NotSaturated (first_not_saturated L rs)))
