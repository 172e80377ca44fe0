use Rattle.std.proofs.Common.{◌∙◌, ap}
use Rattle.std.specs.FinMap.{get, remove}
use Rattle.assign.proofs.TableLaw.{get_by_key, take_table}
use Rattle.assign.proofs.leaves.Leaves.take.Goals as goal

pub returns-clause-stream : goal.returns-clause-stream
returns-clause-stream c =
    c.remove.ensures.value ∙ get_by_key c.self.inside.table.entries c.key_of.result c.args.name c.key_of.ensures ∙ ap (λ m. get m c.args.name) c.self.view_is

pub returns-clause-rest : goal.returns-clause-rest
returns-clause-rest c =
    take_table c.self.inside.table.entries c.remove.new.self.entries c.key_of.result c.args.name c.key_of.ensures c.remove.ensures.updates.0
    ∙ ap (λ m. remove m c.args.name) c.self.view_is
