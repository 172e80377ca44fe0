use Rattle.std.proofs.Common.{sym, ◌∙◌}
use Rattle.tetra_name.specs.Names.{point_of}
use Rattle.tetra_name.proofs.PlaceLaw.{corners_in, corners_fit}
use Rattle.tetra_name.proofs.EveryName.{has_own_corners, bisects_longest}
use Rattle.tetra_name.proofs.tuple.corners.Goals as goal

pub corners_at-requires-clause-scalable : goal.corners_at-requires-clause-scalable
corners_at-requires-clause-scalable c =
    corners_fit c.args.l c.args.t c.place_of-p.result.power c.place_of-p.result.side (point_of c.place_of-p.result.point) c.place_of-p.result.pair c.place_of-p.ensures.place c.requires.bound.most

pub returns-clause-corners : goal.returns-clause-corners
returns-clause-corners c =
    c.corners_at.ensures ∙ sym (corners_in c.args.l c.args.t c.place_of-p.result.power c.place_of-p.result.side (point_of c.place_of-p.result.point) c.place_of-p.result.pair c.place_of-p.ensures.place)

pub returns-clause-own : goal.returns-clause-own
returns-clause-own c = has_own_corners c.args.l c.args.t c.requires.name

pub returns-clause-longest : goal.returns-clause-longest
returns-clause-longest c = bisects_longest c.args.l c.args.t c.requires.name
