-- The error and the box of a record, from its own moves and hull and its kids' records.
use Rattle.std.specs.Prelude.{ℕ, ◌+◌, max, List, map, fold}
use Rattle.tpz_base.specs.declared.shape.Cell.{Cell}
use Rattle.tpz_base.specs.declared.shape.Move.{Move}
use Rattle.tpz_base.specs.Points.{max_dist}
use Rattle.tpz_base.specs.Boxes.{hull}
use Rattle.diamond_graph.specs.declared.record.Record.{Record}
use Rattle.diamond_graph.specs.Graphs.{GraphState, counted_on, with_errors}
use Rattle.diamond_graph.specs.Saturated.{greatest_err}

-- how far a move goes, in the max-norm
abbrev pub length_of : Move → ℕ
length_of m = max_dist m.from m.to

-- the greatest length of a move, 0 of none
abbrev pub greatest_length : List Move → ℕ
greatest_length ms = fold max 0 (map length_of ms)

-- the hull of a box and a record's
abbrev pub hull_with : Cell → Record → Cell
hull_with c r = hull c r.cell

-- the hull of a box and the boxes of records
abbrev pub hull_of_all : Cell → List Record → Cell
hull_of_all c rs = fold hull_with c rs

-- the record with this own error, and with the error and the box that it has above its kids' records
abbrev pub raised : Record → ℕ → Cell → List Record → Record
raised r own c ks = with_errors r own (own + greatest_err ks) (hull_of_all c ks)

-- a count of tests after a record was looked at
abbrev pub counted_with : ℕ → Record → ℕ
counted_with n r = counted_on n

-- the graph after these records of it were looked at
abbrev pub looked_at : GraphState → List Record → GraphState
looked_at g rs = record { l = g.l; records = g.records; tests = fold counted_with g.tests rs }
