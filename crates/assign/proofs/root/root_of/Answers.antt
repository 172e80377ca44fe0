use Rattle.assign.proofs.RootLaw.{root_is}
use Rattle.assign.proofs.root.root_of.Goals as goal

pub returns-clause-root : goal.returns-clause-root
returns-clause-root c = λ L. root_is L c.args.t.now _ cc
