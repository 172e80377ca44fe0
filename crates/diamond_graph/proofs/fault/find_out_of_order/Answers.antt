use Rattle.std.proofs.Common.{◌≡◌, true, false, arith, sym, ◌∙◌}
use Rattle.diamond_graph.proofs.FaultLaw.{order_more, order_fails, order_holds}
use Rattle.diamond_graph.proofs.fault.find_out_of_order.Goals as goal

pub returns-then-not-is_before : goal.returns-then-not-is_before
returns-then-not-is_before c =
    let f : c.is_before.result ≡ false = cc in
    order_fails c.args.l c.args.records.now c.records.i _ c.records.invariant.least (omega (arith, c.records-test.true)) c.records.invariant.before (sym f ∙ c.is_before.ensures)

pub records-preserved : goal.records-preserved
records-preserved c =
    let t : c.is_before.result ≡ true = cc in
    record {
      least = omega arith;
      before = order_more c.args.l c.args.records.now c.records.i _ c.records.invariant.least (omega (arith, c.records-test.true)) c.records.invariant.before (sym t ∙ c.is_before.ensures);
    }

pub returns : goal.returns
returns c = order_holds c.args.l c.args.records.now c.records.i (omega (arith, c.records-test.false)) c.records.invariant.before
