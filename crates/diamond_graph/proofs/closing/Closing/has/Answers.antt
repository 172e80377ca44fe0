use Rattle.std.proofs.Common.{◌∙◌, sym, ap}
use Rattle.tpz_base.specs.Cuts.{has_diamond}
use Rattle.diamond_graph.proofs.SetLaw.{contains-has, has-in_order}
use Rattle.diamond_graph.proofs.closing.Closing.has.Goals as goal

pub returns : goal.returns
returns c =
    rw (← c.self.view_is)
    (c.contains.ensures ∙ contains-has c.self.inside.centres.keys c.key.result ∙ ap (has_diamond c.self.inside.centres.keys) c.key.ensures
    ∙ sym (has-in_order c.self.inside.l c.self.inside.centres.keys _))
