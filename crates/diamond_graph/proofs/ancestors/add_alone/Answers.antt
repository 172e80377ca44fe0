-- A centre that isn't there goes to the end.
use Rattle.std.proofs.Common.{◌≡◌, ◌∙◌, false, arith}
use Rattle.std.proofs.lemmas.Grind.{common_steps}
use Rattle.std.specs.List.{list_any}
use Rattle.tpz_base.specs.Points.{point_eq}
use Rattle.diamond_graph.proofs.SetLaw.{contains-has}
use Rattle.diamond_graph.proofs.ancestors.add_alone.Goals as goal

pub returns-clause-ok : goal.returns-clause-ok
returns-clause-ok c =
    let absent : list_any (point_eq c.args.p) c.args.centres.now.keys ≡ false = contains-has c.args.centres.now.keys c.args.p ∙ c.requires in
    let h = c.insert.ensures.keys in grind (arith, common_steps)
