use Rattle.std.proofs.Common.{◌≡◌, ◌∙◌, ℕ, ◌+◌, ◌-◌, ap, sym, arith, Ok, Err, Some, None}
use Rattle.std.specs.Option.{option_map}
use Rattle.tpz_base.specs.Texts.{Bytes}
use Rattle.script_text.specs.Scripts.{passed_over, script_left, with_lines}
use Rattle.script_text.proofs.ScriptLemmas.{Taken, all_left, left_bad, left_end, line_found, none_passed, passed_more}
use Rattle.script_text.proofs.script.Script.next_text.Goals as goal

pub lines-init : goal.lines-init
lines-init g c = record {
  passed = none_passed c.args.self.now.number (script_left (λ (t : Bytes). Some t) c.args.self.now (g.C.Source.left c.args.src.now));
  stays = omega arith;
  later = omega arith;
}

pub returns-in_err-text-clause-bad : goal.returns-in_err-text-clause-bad
returns-in_err-text-clause-bad g c = λ n is s told.
    let same = rw is at c.from_residual.ensures in
    let fault = ap Err (sym same.1) in
    let next = c.in_err-text.ensures.place n fault in
    let stays = c.lines.invariant.stays in
    let count : c.lines.self.number - c.args.self.now.number ≡ n - c.args.self.now.number - 1 = omega arith in
    all_left (passed_over (n - c.args.self.now.number - 1)) (Some n) _ _
    (c.lines.invariant.passed
    ∙ ap (λ (k : ℕ). option_map (with_lines (passed_over k)) (script_left (λ (t : Bytes). Some t) c.lines.self (g.C.Source.left c.lines.src))) count)
    (left_bad (λ (t : Bytes). Some t) c.lines.self (g.C.Source.left c.lines.src) n next (c.in_err-text.ensures.bad n fault)) s told

pub returns-in_err-text-clause-place : goal.returns-in_err-text-clause-place
returns-in_err-text-clause-place g c = λ n is.
    let same = rw is at c.from_residual.ensures in
    let next = c.in_err-text.ensures.place n (ap Err (sym same.1)) in
    let stays = c.lines.invariant.stays in
    omega arith

pub returns-in_default-clause-end : goal.returns-in_default-clause-end
returns-in_default-clause-end g c = λ is s told.
    let end = c.in_ok-text.ensures.end (ap Ok c.in_default.is) in
    let stays : c.next_line.new.self.number ≡ c.lines.self.number = c.in_ok-text.ensures.stays (ap Ok c.in_default.is) in
    let count : c.lines.self.number - c.args.self.now.number ≡ c.next_line.new.self.number - c.args.self.now.number = omega arith in
    all_left (passed_over (c.next_line.new.self.number - c.args.self.now.number)) None _ _
    (c.lines.invariant.passed
    ∙ ap (λ (k : ℕ). option_map (with_lines (passed_over k)) (script_left (λ (t : Bytes). Some t) c.lines.self (g.C.Source.left c.lines.src))) count)
    (left_end (λ (t : Bytes). Some t) c.lines.self (g.C.Source.left c.lines.src) end) s told

pub returns-then-not-is_passed_over-clause-text : goal.returns-then-not-is_passed_over-clause-text
returns-then-not-is_passed_over-clause-text g c = λ text is.
    let same : Some c.in-Some.text ≡ Some text = cc in
    let taken : Taken c.lines.self c.next_line.new.self (g.C.Source.left c.lines.src) (g.C.Source.left c.next_line.new.src) c.in-Some.text = record {
      texts = c.in_ok-text.ensures.text c.in-Some.text (ap Ok c.in-Some.is);
      next = rw c.in-Some.is at c.in_ok-text.ensures.number;
      within = rw c.in-Some.is at c.in_ok-text.ensures.within;
    } in
    line_found (λ (t : Bytes). Some t) c.args.self.now c.lines.self c.next_line.new.self (g.C.Source.left c.args.src.now) (g.C.Source.left c.lines.src)
    (g.C.Source.left c.next_line.new.src) c.in-Some.text taken c.lines.invariant.passed c.lines.invariant.stays
    (sym c.is_passed_over.ensures ∙ c.if-not-is_passed_over.true) text same

pub lines-preserved : goal.lines-preserved
lines-preserved g c =
    let next : c.next_line.new.self.number ≡ c.lines.self.number + 1 = rw c.in-Some.is at c.in_ok-text.ensures.number in
    let taken : Taken c.lines.self c.next_line.new.self (g.C.Source.left c.lines.src) (g.C.Source.left c.next_line.new.src) c.in-Some.text = record {
      texts = c.in_ok-text.ensures.text c.in-Some.text (ap Ok c.in-Some.is);
      next = next;
      within = rw c.in-Some.is at c.in_ok-text.ensures.within;
    } in
    record {
      passed = passed_more (λ (t : Bytes). Some t) c.args.self.now c.lines.self c.next_line.new.self (g.C.Source.left c.args.src.now) (g.C.Source.left c.lines.src)
          (g.C.Source.left c.next_line.new.src) c.in-Some.text taken c.lines.invariant.passed c.lines.invariant.stays
          (sym c.is_passed_over.ensures ∙ c.if-not-is_passed_over.false);
      stays = omega (arith, c.lines.invariant.stays);
      later = omega (arith, c.lines.invariant.later, c.in_ok-text.ensures.later);
    }
