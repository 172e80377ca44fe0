-- A key that comes before the best one covers what that one covers, and itself.
use Rattle.std.proofs.Common.{sym, ◌∙◌}
use Rattle.edge_collapse.proofs.KeyOrder.{cover_first}
use Rattle.edge_collapse.proofs.best.better.Goals as goal

pub returns-then-counts-clause-kept : goal.returns-then-counts-clause-kept
returns-then-counts-clause-kept c = λ d covered. cover_first c.args.k c.args.best d (sym c.comes_first.ensures ∙ c.if-comes_first.true) covered
