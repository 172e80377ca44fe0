-- Read after read, until one is answered.
use Rattle.std.proofs.Common.{ap, ◌∙◌, Err}
use Rattle.patch_file.specs.declared.fault.BlockFault.TheVariants.{Bad}
use Rattle.cut_blocks.proofs.OpenLaw.{same_bad, same_status}
use Rattle.cut_blocks.proofs.ShownLaw.{read_answered, read_refused, read_counted, count_next}
use Rattle.cut_blocks.proofs.blocks.read_with_tries.Goals as goal

pub returns-in-Ok-clause-asked : goal.returns-in-Ok-clause-asked
returns-in-Ok-clause-asked g c = read_answered _ _ _ _ _ _ _ _ _ _ _ c.tries-test.true c.tries.invariant.asked c.in-Ok.ensures.asked

pub returns-in-Ok-clause-counted : goal.returns-in-Ok-clause-counted
returns-in-Ok-clause-counted g c =
    read_counted c.args.tries c.tries.counter _ _ _ _ _ _ _ _ _ c.args.reads.now c.saturating_add.result
    (count_next c.tries.counter c.args.reads.now c.tries.reads c.saturating_add.result c.tries.invariant.counted c.saturating_add.ensures) c.tries.invariant.asked c.in-Ok.ensures.asked

pub returns-in-Err-Bad-clause-asked : goal.returns-in-Err-Bad-clause-asked
returns-in-Err-Bad-clause-asked g c = read_refused _ _ _ _ _ _ _ _ _ _ _ _ c.tries-test.true c.tries.invariant.asked c.in-Err-Bad.ensures.asked

pub returns-in-Err-Memory-clause-asked : goal.returns-in-Err-Memory-clause-asked
returns-in-Err-Memory-clause-asked g c = read_refused _ _ _ _ _ _ _ _ _ _ _ _ c.tries-test.true c.tries.invariant.asked c.in-Err-Memory.ensures.asked

pub returns-in-Ok-clause-table : goal.returns-in-Ok-clause-table
returns-in-Ok-clause-table g c = λ bs told. c.in-Ok.ensures.table bs (c.tries.invariant.held ∙ told)

pub returns-in-Err-Bad-clause-bad : goal.returns-in-Err-Bad-clause-bad
returns-in-Err-Bad-clause-bad g c = λ bad e.
    let same = same_bad c.in-Err-Bad.bad bad (same_status _ _ e) in
    let r = c.in-Err-Bad.ensures.wrong bad (ap Err (c.in-Err-Bad.field-0-is ∙ ap (λ b. Bad b) same)) in
    (r.0, r.1, λ bs told. r.2 bs (c.tries.invariant.held ∙ told))
