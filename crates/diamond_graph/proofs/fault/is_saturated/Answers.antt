use Rattle.std.proofs.Common.{◌≡◌, ◌<◌, ◌&&◌, true, false, length, arith, sym, ap, ◌∙◌}
use Rattle.std.specs.Option.{option_to_list}
use Rattle.diamond_graph.specs.Graphs.{centre_of, halved}
use Rattle.diamond_graph.specs.Saturated.{holds, holds_cell}
use Rattle.diamond_graph.proofs.FaultLaw.{err_more, held_more, saturated_is}
use Rattle.diamond_graph.proofs.fault.is_saturated.Goals as goal

pub kids-preserved : goal.kids-preserved
kids-preserved c =
    let low : c.kids.i < length c.kids_of-kids.result = omega (arith, c.kids-test.true, c.len-i-end.ensures.len) in
    let kid = option_to_list c.record_of.result in
    record {
      err = err_more c.args.records.now c.kids_of-kids.result c.kids.i c.at.result kid c.kids.seen.err c.seen_with-seen.result.err c.at.ensures low c.record_of.ensures c.kids.invariant.err c.seen_with-seen.ensures.err;
      held = held_more c.args.records.now (holds_cell c.args.r.now.cell) (holds c.args.r.now.cell (halved (centre_of c.args.r.now))) c.kids_of-kids.result c.kids.i c.at.result kid c.kids.seen.held c.seen_with-seen.result.held
          c.at.ensures low c.record_of.ensures c.kids.invariant.held c.seen_with-seen.ensures.held;
    }

pub returns-then-is_sum : goal.returns-then-is_sum
returns-then-is_sum c =
    let t : c.is_sum.result ≡ true = c.if-is_sum.true in
    ap (λ b. b && c.kids.seen.held) (sym t)
    ∙ saturated_is c.args.l c.args.records.now c.args.r.now c.kids_of-kids.result c.kids.i c.kids.seen.err c.is_sum.result c.kids.seen.held c.kids_of-kids.ensures.kids
    (omega (arith, c.kids-test.false, c.len-i-end.ensures.len)) c.kids.invariant.err c.kids.invariant.held c.is_sum.ensures

pub returns-else-is_sum : goal.returns-else-is_sum
returns-else-is_sum c =
    let f : c.is_sum.result ≡ false = c.if-is_sum.false in
    f ∙ ap (λ b. b && c.kids.seen.held) (sym f)
    ∙ saturated_is c.args.l c.args.records.now c.args.r.now c.kids_of-kids.result c.kids.i c.kids.seen.err c.is_sum.result c.kids.seen.held c.kids_of-kids.ensures.kids
    (omega (arith, c.kids-test.false, c.len-i-end.ensures.len)) c.kids.invariant.err c.kids.invariant.held c.is_sum.ensures
