use Rattle.tetra_name.specs.Names.{point_of}
use Rattle.tetra_name.proofs.slot.place_of.Goals as goal
use Rattle.tetra_name.proofs.PlaceLaw.{centre_of_name, has_pair, directions_known}

pub scale_of-v-requires-clause-centre : goal.scale_of-v-requires-clause-centre
scale_of-v-requires-clause-centre c = centre_of_name c.args.l c.args.t c.requires.name

pub pair_at-requires-clause-valid : goal.pair_at-requires-clause-valid
pair_at-requires-clause-valid c = has_pair c.args.l c.args.t c.scale_of-v.result.power c.scale_of-v.result.side (point_of c.scale_of-v.result.point) c.scale_of-v.ensures.scale c.requires.name

pub returns-clause-first : goal.returns-clause-first
returns-clause-first c = (directions_known c.scale_of-v.result.side (point_of c.scale_of-v.result.point) c.args.t.slot c.pair_at.result c.pair_at.ensures).0

pub returns-clause-second : goal.returns-clause-second
returns-clause-second c = (directions_known c.scale_of-v.result.side (point_of c.scale_of-v.result.point) c.args.t.slot c.pair_at.result c.pair_at.ensures).1
