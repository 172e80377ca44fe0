use Rattle.std.proofs.Common.{◌≡◌, ◌&&◌, map, take}
use Rattle.std.specs.Prelude.{flat_map}
use Rattle.std.specs.List.{list_all}
use Rattle.tetra_name.specs.Names.{point_of}
use Rattle.diamond_graph.specs.Graphs.{centre_of, halved}
use Rattle.diamond_graph.specs.Saturated.{holds, holds_cell, records_at, greatest_err}
use Rattle.diamond_graph.proofs.fault.is_saturated.Given as goal

abbrev pub invariant-kids : goal.invariant-kids
invariant-kids l =
    let seen = flat_map (records_at l.records) (take l.i (map point_of l.kids)) in
    record {
      err : l.seen.err ≡ greatest_err seen;
      held : l.seen.held ≡ holds l.r.cell (halved (centre_of l.r)) && list_all (holds_cell l.r.cell) seen;
    }
