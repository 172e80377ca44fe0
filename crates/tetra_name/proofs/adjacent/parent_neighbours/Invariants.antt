use Rattle.std.proofs.Common.{◌≡◌, ◌++◌, ◌≤◌, ◌^◌, drop, length, map}
use Rattle.std.specs.Prelude.{filter}
use Rattle.tpz_base.specs.Points.{point_scale}
use Rattle.tetra_name.specs.Names.{point_of}
use Rattle.tetra_name.specs.Steps.{is_parent_step, moved}
use Rattle.tetra_name.proofs.adjacent.parent_neighbours.Given as goal

abbrev pub invariant-loop-d : goal.invariant-loop-d
invariant-loop-d l =
    (length l.found ≤ l.d-index)
    × (map point_of l.found ++ map (λ d. point_scale (2 ^ l.v.power) (moved l.step d (point_of l.from))) (filter (is_parent_step l.v.side (point_of l.v.point)) (drop l.d-index l.directions)) ≡ map (λ d. point_scale (2 ^ l.v.power) (moved l.step d (point_of l.from))) (filter (is_parent_step l.v.side (point_of l.v.point)) l.directions))
