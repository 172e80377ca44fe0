-- Which records a view wants, and the cut that these are.
use Rattle.std.specs.Prelude.{ℕ, zero, suc, ◌*◌, Bool, List, map, filter, nat_le}
use Rattle.std.specs.List.{enumerate_from}
use Rattle.tpz_base.specs.declared.shape.Point.{Point}
use Rattle.tpz_base.specs.Boxes.{cell_dist}
use Rattle.diamond_graph.specs.declared.record.Record.{Record}
use Rattle.diamond_graph.specs.Graphs.{GraphState, centre_of, counted_on}
use Rattle.view_cut.specs.declared.wanting.View.{View}

-- the record's error, times 65,536, is at least the tolerance times the distance of the eye from the record's box
abbrev pub is_wanted : View → Record → Bool
is_wanted v r = nat_le (v.tol * cell_dist v.eye r.cell) (r.err * 65536)

-- the diamonds of the wanted records, in the records' order
unfoldable pub wanted_centres : View → List Record → List Point
wanted_centres v rs = map centre_of (filter (is_wanted v) rs)

-- the places of the wanted records, counted from 0
unfoldable pub wanted_places : View → List Record → List ℕ
wanted_places v rs = map (λ e. e.0) (filter (λ e. is_wanted v e.1) (enumerate_from 0 rs))

-- a count of tests after n more, each counted on
abbrev pub counted_by : ℕ → ℕ → ℕ
counted_by zero tests = tests
counted_by (suc n) tests = counted_on (counted_by n tests)

-- the graph after n tests
abbrev pub after_tests : ℕ → GraphState → GraphState
after_tests n g = record { l = g.l; records = g.records; tests = counted_by n g.tests }
