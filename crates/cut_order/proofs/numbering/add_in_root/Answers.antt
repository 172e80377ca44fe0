use Rattle.std.proofs.Common.{◌∙◌}
use Rattle.cut_order.proofs.RootLoops.{none_added}
use Rattle.cut_order.proofs.numbering.add_in_root.Goals as goal

pub returns-then-root_of-place-clause-mesh : goal.returns-then-root_of-place-clause-mesh
returns-then-root_of-place-clause-mesh c = none_added _ c.args.t.now c.args.place (λ e. c.if-root_of-place.true (c.root_of.ensures.slot ∙ e))
