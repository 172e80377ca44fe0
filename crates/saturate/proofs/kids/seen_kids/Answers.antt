use Rattle.std.proofs.Common.{◌≡◌, ◌<◌, ◌∙◌, refl, map, take, length, fold, sym, ap, subst, arith}
use Rattle.std.specs.Prelude.{flat_map}
use Rattle.std.specs.Option.{option_to_list}
use Rattle.tetra_name.specs.Names.{point_of}
use Rattle.diamond_graph.specs.Graphs.{GraphState, IsGraph}
use Rattle.diamond_graph.specs.Saturated.{records_at}
use Rattle.diamond_graph.proofs.FaultLaw.{err_more}
use Rattle.saturate.specs.Raised.{hull_with, counted_with, looked_at}
use Rattle.saturate.proofs.Raising.{fold_kids_more, looked_graph}
use Rattle.saturate.proofs.kids.seen_kids.Goals as goal

pub record_of-requires : goal.record_of-requires
record_of-requires c =
    subst IsGraph (sym c.kids.invariant.graph) (looked_graph c.args.graph.now (flat_map (records_at c.args.graph.now.records) (take c.kids.i (map point_of c.kids_of-kids.result))) c.requires.graph)

pub kids-preserved : goal.kids-preserved
kids-preserved c =
    let g = c.args.graph.now in
    let ks = c.kids_of-kids.result in
    let low : c.kids.i < length ks = omega (arith, c.kids-test.true, c.len-i-end.ensures.len) in
    let kid = option_to_list c.record_of.result in
    let seen = flat_map (records_at g.records) (take c.kids.i (map point_of ks)) in
    let is : kid ≡ records_at g.records (point_of c.at.result)
    = c.record_of.ensures.record ∙ ap (λ (s : GraphState). records_at s.records (point_of c.at.result)) c.kids.invariant.graph in
    record {
      err = err_more g.records ks c.kids.i c.at.result kid c.kids.seen.err c.seen_with-seen.result.err c.at.ensures low is c.kids.invariant.err c.seen_with-seen.ensures.err;
      cell = fold_kids_more hull_with c.args.cell g.records ks c.kids.i c.at.result kid c.kids.seen.cell c.seen_with-seen.result.cell c.at.ensures low is c.kids.invariant.cell c.seen_with-seen.ensures.cell;
      graph =
          c.record_of.ensures.graph
          ∙ ap (λ (s : GraphState). looked_at s (records_at s.records (point_of c.at.result))) c.kids.invariant.graph
          ∙ ap (λ t. record { l = g.l; records = g.records; tests = t })
          (fold_kids_more counted_with g.tests g.records ks c.kids.i c.at.result (records_at g.records (point_of c.at.result)) (fold counted_with g.tests seen) (fold counted_with (fold counted_with g.tests seen) (records_at g.records (point_of c.at.result)))
          c.at.ensures low refl refl refl);
    }
