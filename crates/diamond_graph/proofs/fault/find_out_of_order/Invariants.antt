use Rattle.std.proofs.Common.{◌≤◌}
use Rattle.diamond_graph.proofs.FaultLaw.{InOrderTo}
use Rattle.diamond_graph.proofs.fault.find_out_of_order.Given as goal

abbrev pub invariant-records : goal.invariant-records
invariant-records l = record {
  least : 1 ≤ l.i;
  before : InOrderTo l.l l.records l.i;
}
