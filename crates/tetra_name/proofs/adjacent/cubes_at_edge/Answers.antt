use Rattle.std.proofs.Common.{sym, ◌∙◌, subst, ◌-◌}
use Rattle.tetra_name.specs.Names.{point_of}
use Rattle.tetra_name.specs.Steps.{IsScalable}
use Rattle.tetra_name.proofs.adjacent.cubes_at_edge.Goals as goal
use Rattle.tetra_name.proofs.Halving.{half_fits}

pub scaled-requires-clause-scalable : goal.scaled-requires-clause-scalable
scaled-requires-clause-scalable c = subst (IsScalable (c.args.v.power - 1)) (sym c.half_step-centre.ensures) (half_fits c.args.v.side (c.args.v.power - 1) (point_of c.args.v.point) _ c.requires.room (sym c.is_half_step.ensures ∙ c.if-is_half_step.true))
