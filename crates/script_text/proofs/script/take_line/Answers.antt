use Rattle.std.proofs.Common.{◌≡◌, ◌∙◌, sym, arith, length}
use Rattle.std.proofs.lemmas.Bool.Decides.{nat_tests}
use Rattle.script_text.proofs.LineLemmas.{told_end, told_ended, told_last, told_long}
use Rattle.script_text.proofs.script.take_line.Goals as goal

pub returns-in_default-clause-last : goal.returns-in_default-clause-last
returns-in_default-clause-last g c = λ _ some.
    told_last _ _ _ c.bytes.text c.bytes.invariant.taken (rw c.in_default.is at c.in_ok-byte.ensures.taken)
    (c.in_ok-byte.ensures.end c.in_default.is) c.bytes.invariant.none some

pub returns-in_default-clause-end : goal.returns-in_default-clause-end
returns-in_default-clause-end g c = λ _ none.
    told_end _ _ c.bytes.text c.bytes.invariant.taken (c.in_ok-byte.ensures.end c.in_default.is) c.bytes.invariant.none none

pub returns-then-byte-eq10-clause-ended : goal.returns-then-byte-eq10-clause-ended
returns-then-byte-eq10-clause-ended g c = λ _.
    told_ended _ _ _ c.bytes.text c.in-Some.byte c.bytes.invariant.taken (rw c.in-Some.is at c.in_ok-byte.ensures.taken)
    c.if-byte-eq10.true c.bytes.invariant.none

pub returns-then-is_full-clause-long : goal.returns-then-is_full-clause-long
returns-then-is_full-clause-long g c = λ _.
    let full : length c.bytes.text ≡ 257 = let tested = sym c.is_full.ensures ∙ c.if-is_full.true in grind (arith, nat_tests, tested) in
    told_long _ _ _ c.bytes.text c.in-Some.byte c.bytes.invariant.taken (rw c.in-Some.is at c.in_ok-byte.ensures.taken)
    c.if-byte-eq10.false full c.bytes.invariant.none
