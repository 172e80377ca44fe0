use Rattle.diamond_graph.proofs.ClosingLaw.{kept_none}
use Rattle.diamond_graph.proofs.closing.Closing.new.Goals as goal

pub invariant_of-result : goal.invariant_of-result
invariant_of-result c = kept_none c.args.l c.new.result.keys c.requires c.new.ensures.empty
