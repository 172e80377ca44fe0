use Rattle.std.proofs.Common.{◌∷◌, [], sym, ap, ◌∙◌}
use Rattle.std.proofs.lemmas.Option.{get_or_from_slice_get}
use Rattle.diamond_graph.specs.declared.record.Record.{Record}
use Rattle.diamond_graph.proofs.FaultLaw.{record_found, record_missing}
use Rattle.tetra_name.specs.Names.{point_of}
use Rattle.saturate.specs.Raised.{looked_at}
use Rattle.saturate.proofs.Raising.{distinct_centres}
use Rattle.saturate.proofs.kids.record_of.Goals as goal

pub returns-in-Some-clause-record : goal.returns-in-Some-clause-record
returns-in-Some-clause-record c =
    let g = c.args.graph.now in
    let r = c.record_at.result in
    ap (λ (q : Record). q ∷ []) (sym (get_or_from_slice_get g.records c.in-Some.i r r c.record_at.ensures.value))
    ∙ record_found g.records (point_of c.args.centre) c.in-Some.i r (distinct_centres g c.requires) c.in-Some.ensures.place

pub returns-in-Some-clause-graph : goal.returns-in-Some-clause-graph
returns-in-Some-clause-graph c =
    let g = c.args.graph.now in
    let r = c.record_at.result in
    c.record_at.ensures.tests
    ∙ ap (looked_at g)
    (ap (λ (q : Record). q ∷ []) (sym (get_or_from_slice_get g.records c.in-Some.i r r c.record_at.ensures.value))
    ∙ record_found g.records (point_of c.args.centre) c.in-Some.i r (distinct_centres g c.requires) c.in-Some.ensures.place)

pub returns-in-None-clause-record : goal.returns-in-None-clause-record
returns-in-None-clause-record c = record_missing c.args.graph.now.records (point_of c.args.centre) c.in-None.ensures.place

pub returns-in-None-clause-graph : goal.returns-in-None-clause-graph
returns-in-None-clause-graph c = ap (looked_at c.args.graph.now) (record_missing c.args.graph.now.records (point_of c.args.centre) c.in-None.ensures.place)
