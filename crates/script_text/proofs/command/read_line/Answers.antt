use Rattle.std.proofs.Common.{sym, ◌∙◌, subst}
use Rattle.std.specs.Prelude.{codes}
use Rattle.std.proofs.lemmas.Slice.Eq.{bytes_eq-Decides}
use Rattle.tpz_base.specs.Texts.{Bytes}
use Rattle.script_text.specs.Commands.{IsSpelled}
use Rattle.script_text.specs.declared.line.Line.TheVariants.{Write}
use Rattle.script_text.proofs.Spellings.{refuses, same_answer, spelled_only}
use Rattle.script_text.proofs.CommandLemmas.{not_utf8, same_utf8, spelled_utf8, spelled_write, spells_none, stripped}
use Rattle.script_text.proofs.command.read_line.Goals as goal

pub returns-in_err-text-clause-spelled : goal.returns-in_err-text-clause-spelled
returns-in_err-text-clause-spelled c = rw c.from_residual.ensures (refuses c.args.bytes.now (λ line h.
    not_utf8 c.args.bytes.now c.from_utf8.result _ _ (sym c.ok.ensures.value ∙ c.in_err-text.was) c.from_utf8.ensures.cases
    (spelled_utf8 line c.args.bytes.now h)))

pub returns-in_err-text-clause-value : goal.returns-in_err-text-clause-value
returns-in_err-text-clause-value c = same_answer _ _ (returns-in_err-text-clause-spelled c)

pub returns-then-eq-clause-spelled : goal.returns-then-eq-clause-spelled
returns-then-eq-clause-spelled c =
    let same = same_utf8 c.args.bytes.now c.from_utf8.result c.in_ok-text.text _ _ (sym c.ok.ensures.value ∙ c.in_ok-text.was) c.from_utf8.ensures.cases in
    let is = (bytes_eq-Decides c.in_ok-text.text.now (codes "write")).0 (sym c.eq.ensures ∙ c.if-eq.true) in
    spelled_only Write c.args.bytes.now (spelled_write c.args.bytes.now (sym same ∙ is))

pub returns-then-eq-clause-value : goal.returns-then-eq-clause-value
returns-then-eq-clause-value c = same_answer _ _ (returns-then-eq-clause-spelled c)

pub returns-in_err-strip_prefix-clause-spelled : goal.returns-in_err-strip_prefix-clause-spelled
returns-in_err-strip_prefix-clause-spelled c = rw c.from_residual-in_err-strip_prefix.ensures (refuses c.args.bytes.now (λ line h.
    let same = same_utf8 c.args.bytes.now c.from_utf8.result c.in_ok-text.text _ _ (sym c.ok.ensures.value ∙ c.in_ok-text.was) c.from_utf8.ensures.cases in
    spells_none c.in_ok-text.text.now
    (λ is. let yes = (bytes_eq-Decides c.in_ok-text.text.now (codes "write")).1 is in let tested = c.eq.ensures in let no = c.if-eq.false in cc)
    c.in_err-strip_prefix.ensures.cases line (subst (λ (t : Bytes). IsSpelled line t) (sym same) h)))

pub returns-in_err-strip_prefix-clause-value : goal.returns-in_err-strip_prefix-clause-value
returns-in_err-strip_prefix-clause-value c = same_answer _ _ (returns-in_err-strip_prefix-clause-spelled c)

pub returns-clause-spelled : goal.returns-clause-spelled
returns-clause-spelled c = λ line.
    let same = same_utf8 c.args.bytes.now c.from_utf8.result c.in_ok-text.text _ _ (sym c.ok.ensures.value ∙ c.in_ok-text.was) c.from_utf8.ensures.cases in
    let is = stripped c.in_ok-text.text.now c.in_ok-strip_prefix.field-0.now c.in_ok-strip_prefix.ensures.cases in
    let read = c.read_view.ensures line in
    (λ e. subst (λ (t : Bytes). IsSpelled line t) (sym is ∙ same) (read.0 e), λ h. read.1 (subst (λ (t : Bytes). IsSpelled line t) (sym same ∙ is) h))

pub returns-clause-value : goal.returns-clause-value
returns-clause-value c = same_answer _ _ (returns-clause-spelled c)
