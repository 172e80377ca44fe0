use Rattle.std.proofs.Common.{◌≡◌, sym, ◌∙◌, rules}
use Rattle.std.specs.Prelude.{None, take}
use Rattle.ply_head.specs.Headers.{faults, form}
use Rattle.ply_head.specs.Forms.{seen_form}
use Rattle.ply_head.specs.Steps.{first_of}
use Rattle.ply_head.proofs.HeadLemmas.{few_step}
use Rattle.ply_head.proofs.seen.Seen.take.Goals as goal

pub add-requires-clause-few : goal.add-requires-clause-few
add-requires-clause-few c =
    let same : seen_form c.form_on-form.result ≡ form c.args.line.now = search rules in
    let none : first_of (take 9 (faults c.args.self.now c.args.line.now)) ≡ None = sym c.fault_before_last.ensures ∙ c.in_default.is in
    rw same (few_step c.args.self.now c.args.line.now none)
