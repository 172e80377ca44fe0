use Rattle.std.proofs.Common.{◌≡◌, ◌++◌, ◌≤◌, ◌^◌, ◌-◌, drop, length, map}
use Rattle.std.specs.Prelude.{filter}
use Rattle.tpz_base.specs.Points.{point_scale}
use Rattle.tetra_name.specs.Names.{point_of}
use Rattle.tetra_name.specs.Steps.{half_step, is_half_step}
use Rattle.tetra_name.proofs.adjacent.cubes_at_edge.Given as goal

abbrev pub invariant-loop-o : goal.invariant-loop-o
invariant-loop-o l =
    (length l.found ≤ l.o-index)
    × (map point_of l.found ++ map (λ o. point_scale (2 ^ (l.v.power - 1)) (half_step (point_of l.v.point) (point_of o))) (filter (λ o. is_half_step l.v.side (point_of l.v.point) (point_of o)) (drop l.o-index l.offsets)) ≡ map (λ o. point_scale (2 ^ (l.v.power - 1)) (half_step (point_of l.v.point) (point_of o))) (filter (λ o. is_half_step l.v.side (point_of l.v.point) (point_of o)) l.offsets))
