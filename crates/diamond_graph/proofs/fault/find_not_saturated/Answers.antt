use Rattle.std.proofs.Common.{◌≡◌, true, false, arith, sym, ◌∙◌}
use Rattle.diamond_graph.specs.Saturated.{is_saturated}
use Rattle.diamond_graph.proofs.FaultLaw.{passes_more, saturated_fails, saturated_holds}
use Rattle.diamond_graph.proofs.fault.find_not_saturated.Goals as goal

pub returns-then-not-is_saturated : goal.returns-then-not-is_saturated
returns-then-not-is_saturated c =
    let f : c.is_saturated.result ≡ false = cc in
    saturated_fails c.args.l c.args.records.now c.records.i _ (omega (arith, c.records-test.true)) c.records.invariant (sym f ∙ c.is_saturated.ensures)

pub records-preserved : goal.records-preserved
records-preserved c =
    let t : c.is_saturated.result ≡ true = cc in
    passes_more (is_saturated c.args.l c.args.records.now) c.args.records.now c.records.i _ (omega (arith, c.records-test.true)) c.records.invariant (sym c.is_saturated.ensures ∙ t)

pub returns : goal.returns
returns c = saturated_holds c.args.l c.args.records.now c.records.i (omega (arith, c.records-test.false)) c.records.invariant
