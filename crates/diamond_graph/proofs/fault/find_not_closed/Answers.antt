use Rattle.std.proofs.Common.{◌≡◌, true, false, arith, sym, ◌∙◌, map}
use Rattle.tetra_name.specs.Names.{point_of}
use Rattle.diamond_graph.proofs.FaultLaw.{closed_more, closed_fails, closed_holds}
use Rattle.diamond_graph.proofs.fault.find_not_closed.Goals as goal

pub returns-then-not-has_all : goal.returns-then-not-has_all
returns-then-not-has_all c =
    let f : c.has_all.result ≡ false = cc in
    closed_fails c.args.l c.args.records.now c.args.centres.now.keys (map point_of c.parents_of.result) c.records.i _ c.requires.keys c.parents_of.ensures.parents (sym f ∙ c.has_all.ensures)
    (omega (arith, c.records-test.true)) c.records.invariant

pub records-preserved : goal.records-preserved
records-preserved c =
    let t : c.has_all.result ≡ true = cc in
    closed_more c.args.l c.args.records.now c.args.centres.now.keys (map point_of c.parents_of.result) c.records.i _ c.requires.keys c.parents_of.ensures.parents (sym t ∙ c.has_all.ensures)
    (omega (arith, c.records-test.true)) c.records.invariant

pub returns : goal.returns
returns c = closed_holds c.args.l c.args.records.now c.records.i (omega (arith, c.records-test.false)) c.records.invariant
