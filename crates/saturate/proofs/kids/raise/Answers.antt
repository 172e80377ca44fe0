use Rattle.std.proofs.Common.{◌≡◌, ◌∙◌, Some, slice_get, ap, arith}
use Rattle.tetra_name.specs.Names.{point_of}
use Rattle.diamond_graph.specs.declared.record.Record.{Record}
use Rattle.diamond_graph.specs.Graphs.{GraphState}
use Rattle.diamond_graph.specs.Saturated.{kid_records, greatest_err}
use Rattle.saturate.proofs.Raising.{record_there, seen_at, sum_small, raise_sets, raised_there, raise_allowed, raised_graph}
use Rattle.saturate.proofs.kids.raise.Goals as goal
use Rattle.saturate.proofs.kids.raise.Goals.{After-set_record}

pub overflow_add-from : goal.overflow_add-from
overflow_add-from c =
    let g = c.args.graph.now in
    let there = record_there g.records c.args.i c.requires.place in
    let small = sum_small g c.args.i there.0 c.args.own c.args.hull c.centre_at.ensures.graph there.1 c.requires.own c.requires.cell in
    let errs = c.seen_kids-seen.ensures.err ∙ ap greatest_err (seen_at g c.args.i there.0 (point_of c.centre_at.result) c.centre_at.ensures.centre there.1) in
    omega (arith, small, errs, c.from.ensures)

pub set_record-requires-clause-right : goal.set_record-requires-clause-right
set_record-requires-clause-right c =
    let g = c.args.graph.now in
    let there = record_there g.records c.args.i c.requires.place in
    raise_allowed g c.seen_kids-seen.new.graph c.args.i there.0 (kid_records g.l g.records (point_of c.centre_at.result)) c.args.own c.from.result c.seen_kids-seen.result.err c.args.hull c.seen_kids-seen.result.cell
    c.centre_at.ensures.graph there.1 c.requires.own c.requires.cell (seen_at g c.args.i there.0 (point_of c.centre_at.result) c.centre_at.ensures.centre there.1)
    c.seen_kids-seen.ensures.graph c.from.ensures c.seen_kids-seen.ensures.err c.seen_kids-seen.ensures.cell

-- the graph that is left, for the record at the place
left : (c : After-set_record) (r : Record) → slice_get c.args.graph.now.records c.args.i ≡ Some r → c.set_record.new.self ≡ raised_graph c.args.graph.now c.args.i r c.args.own c.args.hull
left c r at =
    let g = c.args.graph.now in
    raise_sets g c.seen_kids-seen.new.graph c.set_record.new.self c.args.i r (kid_records g.l g.records (point_of c.centre_at.result)) c.args.own c.from.result c.seen_kids-seen.result.err c.args.hull c.seen_kids-seen.result.cell
    at (seen_at g c.args.i r (point_of c.centre_at.result) c.centre_at.ensures.centre at)
    c.seen_kids-seen.ensures.graph c.from.ensures c.seen_kids-seen.ensures.err c.seen_kids-seen.ensures.cell c.set_record.ensures

pub returns-clause-record : goal.returns-clause-record
returns-clause-record c = λ r at. ap (λ (s : GraphState). s.records) (left (goal.at.returns-clause-record c).After-set_record r at)

pub returns-clause-tests : goal.returns-clause-tests
returns-clause-tests c = λ r at. ap (λ (s : GraphState). s.tests) (left (goal.at.returns-clause-tests c).After-set_record r at)

pub returns-clause-l : goal.returns-clause-l
returns-clause-l c =
    let there = record_there c.args.graph.now.records c.args.i c.requires.place in
    ap (λ (s : GraphState). s.l) (left (goal.at.returns-clause-l c).After-set_record there.0 there.1)

pub returns-clause-saturated : goal.returns-clause-saturated
returns-clause-saturated c =
    let g = c.args.graph.now in
    let there = record_there g.records c.args.i c.requires.place in
    raised_there g c.set_record.new.self c.args.i there.0 c.args.own c.args.hull c.centre_at.ensures.graph there.1 c.requires.holds (left (goal.at.returns-clause-saturated c).After-set_record there.0 there.1)
