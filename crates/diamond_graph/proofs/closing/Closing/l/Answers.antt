use Rattle.diamond_graph.proofs.ClosingLaw.{closed_set}
use Rattle.diamond_graph.proofs.closing.Closing.l.Goals as goal

pub returns-clause-set : goal.returns-clause-set
returns-clause-set c = rw (← c.self.view_is) (closed_set c.self.inside.l c.self.inside.centres.keys c.self.invariant)
