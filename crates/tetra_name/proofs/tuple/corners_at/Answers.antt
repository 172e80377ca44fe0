use Rattle.std.proofs.Common.{rules, ◌<◌, arith, refl, sym, subst}
use Rattle.std.specs.List.{AllByRecursion}
use Rattle.tetra_name.specs.Names.{point_of}
use Rattle.tetra_name.specs.Steps.{edge_corners, long_axes, IsScalable}
use Rattle.tetra_name.proofs.tuple.corners_at.Goals as goal
use Rattle.tetra_name.proofs.Closed.{few_kind}

pub scaled-requires-else-odds-eq2-3-clause-scalable : goal.scaled-requires-else-odds-eq2-3-clause-scalable
unfolding edge_corners
scaled-requires-else-odds-eq2-3-clause-scalable c =
    let few : long_axes (point_of c.args.u) < 2 = omega arith in
    let h = subst (AllByRecursion (IsScalable c.args.j)) (few_kind (point_of c.args.u) c.args.q (long_axes (point_of c.args.u)) refl few) c.requires.scalable in
    subst (IsScalable c.args.j) (sym c.moved-face.ensures.moved) h.1.1.0

pub returns-else-odds-eq2 : goal.returns-else-odds-eq2
unfolding edge_corners
returns-else-odds-eq2 c =
    let few : long_axes (point_of c.args.u) < 2 = omega arith in
    rw (few_kind (point_of c.args.u) c.args.q (long_axes (point_of c.args.u)) refl few) (search rules)
