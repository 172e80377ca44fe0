use Rattle.std.proofs.Common.{◌/◌, ◌%◌, ◌-◌, ap, ◌∙◌}
use Rattle.tetra_name.specs.Names.{over, point_of}
use Rattle.tetra_name.proofs.PlaceLaw.{centre_of_name}
use Rattle.assign.specs.Leans.{middle_step}
use Rattle.assign.proofs.LeanLaw.{few_slots}
use Rattle.assign.proofs.plane.Plane.of.Goals as goal

pub level-depth-requires-clause-centre : goal.level-depth-requires-clause-centre
level-depth-requires-clause-centre c = centre_of_name _ _ c.requires.name

pub middle_step-requires : goal.middle_step-requires
middle_step-requires c = few_slots c.args.l c.args.name c.requires.name _ c.level-depth.ensures.level

pub invariant_of-result : goal.invariant_of-result
invariant_of-result c = record {
  bound = c.requires.bound;
  named = c.requires.name;
  above = c.requires.level;
  units = c.in_units-unit.ensures ∙ ap (λ n. over (c.args.l - n / 3) (point_of c.args.name.centre)) c.level-depth.ensures.level;
  steps = c.middle_step.ensures ∙ ap (λ n. middle_step (n % 3) (point_of c.in_units-unit.result) c.args.name.slot) c.level-depth.ensures.level;
}
