use Rattle.diamond_graph.proofs.FaultLaw.{ClosedTo}
use Rattle.diamond_graph.proofs.fault.find_not_closed.Given as goal

abbrev pub invariant-records : goal.invariant-records
invariant-records l = ClosedTo l.l l.records l.i
