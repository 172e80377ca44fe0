use Rattle.std.proofs.Common.{◌%◌, refl}
use Rattle.tetra_name.specs.Names.{point_of}
use Rattle.assign.proofs.LeanLaw.{no_step, step_there}
use Rattle.assign.proofs.plane.middle_step.Goals as goal

pub middle_axis-requires : goal.middle_axis-requires
middle_axis-requires c = c.requires c.if-depth-eq0.true

pub returns-then-depth-eq0 : goal.returns-then-depth-eq0
returns-then-depth-eq0 c = step_there c.args.depth (c.args.depth % 3) (point_of c.args.unit) c.args.slot _ refl c.if-depth-eq0.true c.middle_axis.ensures

pub returns-else-depth-eq0 : goal.returns-else-depth-eq0
returns-else-depth-eq0 c = no_step c.args.depth (c.args.depth % 3) (point_of c.args.unit) c.args.slot refl c.if-depth-eq0.false
