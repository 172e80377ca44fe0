use Rattle.std.proofs.Common.{◌≡◌, map, take}
use Rattle.std.specs.Prelude.{flat_map}
use Rattle.tetra_name.specs.Names.{point_of}
use Rattle.diamond_graph.specs.Saturated.{records_at, greatest_err}
use Rattle.saturate.specs.Raised.{hull_of_all, looked_at}
use Rattle.saturate.proofs.kids.seen_kids.Given as goal

abbrev pub invariant-kids : goal.invariant-kids
invariant-kids l =
    let seen = flat_map (records_at l.fn.graph.records) (take l.i (map point_of l.kids)) in
    record {
      err : l.seen.err ≡ greatest_err seen;
      cell : l.seen.cell ≡ hull_of_all l.fn.cell seen;
      graph : l.graph ≡ looked_at l.fn.graph seen;
    }
