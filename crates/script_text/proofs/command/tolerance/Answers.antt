use Rattle.std.proofs.Common.{◌≡◌, sym, ◌∙◌, ap}
use Rattle.std.specs.Prelude.{decimal}
use Rattle.std.proofs.lemmas.Slice.Eq.{bytes_eq-Decides}
use Rattle.script_text.proofs.CommandLemmas.{parsed_tolerance}
use Rattle.script_text.proofs.command.tolerance.Goals as goal

pub returns-in_err-n : goal.returns-in_err-n
returns-in_err-n c = rw c.from_residual.ensures (λ n small is.
    let parsed = parsed_tolerance c.args.word.now c.parse.result c.parse.ensures.value.0 n small is in
    let none = c.in_err-n.was in
    let value = c.ok.ensures.value in
    cc)

pub returns-else-eq : goal.returns-else-eq
returns-else-eq c = λ n small is.
    let parsed = parsed_tolerance c.args.word.now c.parse.result c.parse.ensures.value.0 n small is in
    let some = c.in_ok-n.was in
    let value = c.ok.ensures.value in
    let same : n ≡ c.in_ok-n.n = cc in
    let equal = (bytes_eq-Decides c.format.result.now c.args.word.now).1 (c.format.ensures.text ∙ ap decimal (sym same) ∙ sym is) in
    let tested = c.eq.ensures in
    let failed = c.if-eq.false in
    cc
