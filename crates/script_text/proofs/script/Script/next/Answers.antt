use Rattle.std.proofs.Common.{◌≡◌, ◌<◌, ◌-◌, ◌∙◌, ℕ, ap, sym, subst, Ok, Err, Some, None}
use Rattle.script_text.specs.Commands.{read_line}
use Rattle.script_text.specs.Scripts.{Place, passed_over}
use Rattle.script_text.proofs.ScriptLemmas.{all_passed, command_found, command_refused}
use Rattle.script_text.proofs.script.Script.next.Goals as goal
use Rattle.script_text.proofs.script.Script.next.Goals.{in-Some-read_line, in-None}

pub returns-in_err-text-clause-bad : goal.returns-in_err-text-clause-bad
returns-in_err-text-clause-bad g c = λ n is s told.
    let same = rw is at c.from_residual.ensures in
    all_passed read_line c.args.self.now (g.C.Source.left c.args.src.now) (n - c.args.self.now.number - 1) (Some n)
    (c.in_err-text.ensures.bad n (ap Err (sym same.1))) s told

pub returns-in_default-clause-end : goal.returns-in_default-clause-end
returns-in_default-clause-end g c = λ is s told.
    all_passed read_line c.args.self.now (g.C.Source.left c.args.src.now) (c.next_text.new.self.number - c.args.self.now.number) None
    (c.in_ok-text.ensures.end (ap Ok c.in_default.is)) s told

pub returns-clause-command : goal.returns-clause-command
returns-clause-command g c = λ line is. elim c.match-read_line.branch [
  | in-Some-read_line w ↦
      let same : Some w.in-Some-read_line.line ≡ Some line = let there = w.result-is in cc in
      let found = w.in-Some-read_line.is in
      let read : read_line c.in-Some.text ≡ Some line =
      ap read_line (sym c.as_slice.ensures) ∙ sym c.read_line.ensures.value ∙ found ∙ same in
      let rose : c.args.self.now.number < c.next_text.new.self.number = rw c.in-Some.is at c.in_ok-text.ensures.number in
      command_found read_line c.args.self.now c.next_text.new.self (g.C.Source.left c.args.src.now) (g.C.Source.left c.next_text.new.src) c.in-Some.text line rose read
      (c.in_ok-text.ensures.text c.in-Some.text (ap Ok c.in-Some.is))
  | in-None w ↦ let there = w.result-is in cc
]

pub returns-clause-bad : goal.returns-clause-bad
returns-clause-bad g c = λ n is s told. elim c.match-read_line.branch [
  | in-Some-read_line w ↦ let there = w.result-is in cc
  | in-None w ↦
      let seen : c.self.inside.number ≡ n = let there = w.result-is in cc in
      let number : c.next_text.new.self.number ≡ n = sym (ap (λ (p : Place). p.number) c.self.view_is) ∙ seen in
      let found = w.in-None.is in
      let read : read_line c.in-Some.text ≡ None =
      ap read_line (sym c.as_slice.ensures) ∙ sym c.read_line.ensures.value ∙ found in
      let rose : c.args.self.now.number < c.next_text.new.self.number = rw c.in-Some.is at c.in_ok-text.ensures.number in
      subst (λ (m : ℕ). s ≡ record { lines = passed_over (m - c.args.self.now.number - 1); bad = Some m }) number
      (command_refused read_line c.args.self.now c.next_text.new.self (g.C.Source.left c.args.src.now) (g.C.Source.left c.next_text.new.src) c.in-Some.text rose read
      (c.in_ok-text.ensures.text c.in-Some.text (ap Ok c.in-Some.is)) s told)
]
