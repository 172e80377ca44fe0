use Rattle.std.proofs.Common.{◌≡◌, ◌<◌, true, false, length, map, get_or, sym, ap, ◌∙◌, arith}
use Rattle.std.proofs.lemmas.List.{length-map}
use Rattle.std.proofs.lemmas.List.Folds.{list_all_at}
use Rattle.tpz_base.specs.Cuts.{has_diamond}
use Rattle.tetra_name.specs.Names.{point_of}
use Rattle.diamond_graph.proofs.SetLaw.{contains-has}
use Rattle.diamond_graph.proofs.FaultLaw.{kid_point, passes_more, passes_all}
use Rattle.diamond_graph.proofs.fault.has_all.Goals as goal
use Rattle.diamond_graph.proofs.fault.has_all.Goals.{After-contains}

-- the answer for the centre at the place
answer : (c : After-contains) → (c.wanted.i < length c.args.wanted.now) → has_diamond c.args.centres.now.keys (get_or (map point_of c.args.wanted.now) c.wanted.i (point_of c.at.result)) ≡ c.contains.result
answer c low =
    ap (has_diamond c.args.centres.now.keys) (kid_point c.args.wanted.now c.wanted.i c.at.result c.at.ensures low)
    ∙ sym (c.contains.ensures ∙ contains-has c.args.centres.now.keys c.key.result ∙ ap (has_diamond c.args.centres.now.keys) c.key.ensures)

pub returns-then-not-contains : goal.returns-then-not-contains
returns-then-not-contains c =
    let low : c.wanted.i < length c.args.wanted.now = omega (arith, c.wanted-test.true, c.len-i-end.ensures.len) in
    let size = length-map c.args.wanted.now point_of in
    let f : c.contains.result ≡ false = cc in
    sym (list_all_at (has_diamond c.args.centres.now.keys) (map point_of c.args.wanted.now) c.wanted.i (point_of c.at.result) (omega (arith, low, size))
    (answer (goal.at.returns-then-not-contains c).After-contains low ∙ f))

pub wanted-preserved : goal.wanted-preserved
wanted-preserved c =
    let low : c.wanted.i < length c.args.wanted.now = omega (arith, c.wanted-test.true, c.len-i-end.ensures.len) in
    let size = length-map c.args.wanted.now point_of in
    let t : c.contains.result ≡ true = cc in
    passes_more (has_diamond c.args.centres.now.keys) (map point_of c.args.wanted.now) c.wanted.i (point_of c.at.result) (omega (arith, low, size)) c.wanted.invariant
    (answer (goal.at.wanted-preserved c).After-contains low ∙ t)

pub returns : goal.returns
returns c =
    let size = length-map c.args.wanted.now point_of in
    sym (passes_all (has_diamond c.args.centres.now.keys) (map point_of c.args.wanted.now) c.wanted.i (omega (arith, c.wanted-test.false, c.len-i-end.ensures.len, size)) c.wanted.invariant)
