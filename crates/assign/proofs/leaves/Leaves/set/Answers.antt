use Rattle.std.proofs.Common.{◌≡◌, ◌∙◌, ap, sym, subst}
use Rattle.std.specs.Prelude.{OnOk}
use Rattle.std.specs.FinMap.{insert}
use Rattle.assign.specs.Names.{table_of}
use Rattle.assign.proofs.TableLaw.{set_table}
use Rattle.assign.proofs.leaves.Leaves.set.Goals as goal
use Rattle.assign.proofs.leaves.Leaves.set.Goals.{in-Ok, in-Err}

pub returns-clause-ok : goal.returns-clause-ok
returns-clause-ok c =
    elim c.match-insert.branch [
      | in-Ok w ↦
          subst (λ r. OnOk r (table_of c.insert.new.self.entries ≡ insert c.args.self.now c.args.name c.args.id)) (sym w.result-is)
          (set_table c.self.inside.table.entries c.insert.new.self.entries c.key_of.result c.args.name c.args.id c.key_of.ensures w.in-Ok.ensures.updates.0
          ∙ ap (λ m. insert m c.args.name c.args.id) c.self.view_is)
      | in-Err w ↦ subst (λ r. OnOk r (table_of c.insert.new.self.entries ≡ insert c.args.self.now c.args.name c.args.id)) (sym w.result-is) tt
    ]
