use Rattle.std.proofs.Common.{arith}
use Rattle.std.proofs.lemmas.Bool.Decides.{nat_tests}
use Rattle.ply_head.specs.Headers.{is_vertex}
use Rattle.ply_head.proofs.Places.{find_read, find_none}
use Rattle.ply_head.proofs.checks.has_vertex.Goals as goal

pub returns-then-at-elements : goal.returns-then-at-elements
returns-then-at-elements c =
    let first = find_read is_vertex c.args.elements.now c.first_vertex-at.result c.index-elements-at.result c.first_vertex-at.ensures.place
    c.index-elements-at.is c.if-at-elements.true in
    rw first c.has_coordinates.ensures

pub returns-else-at-elements : goal.returns-else-at-elements
returns-else-at-elements c =
    rw (find_none is_vertex c.args.elements.now c.first_vertex-at.result c.first_vertex-at.ensures.place c.if-at-elements.false) (grind (arith, nat_tests))
