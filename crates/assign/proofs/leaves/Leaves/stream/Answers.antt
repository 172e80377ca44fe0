use Rattle.std.proofs.Common.{◌∙◌, ap}
use Rattle.std.specs.FinMap.{get}
use Rattle.assign.proofs.TableLaw.{get_by_key}
use Rattle.assign.proofs.leaves.Leaves.stream.Goals as goal

pub returns : goal.returns
returns c =
    c.copied.ensures ∙ c.get.ensures.value ∙ get_by_key c.self.inside.table.entries c.key_of.result c.args.name c.key_of.ensures
    ∙ ap (λ m. get m c.args.name) c.self.view_is
