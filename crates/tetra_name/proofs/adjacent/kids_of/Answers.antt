use Rattle.std.proofs.Common.{◌^◌, ◌-◌, map, sym, ◌∙◌}
use Rattle.tpz_base.specs.Points.{point_scale}
use Rattle.tetra_name.specs.Names.{half_of, point_of}
use Rattle.tetra_name.specs.Steps.{half_step, is_half_step, half_offsets, step_directions}
use Rattle.tetra_name.proofs.AdjacentFacts.{map-filter-map, room_1, room_half, small, flat_kids_are, edge_kids_are}
use Rattle.tetra_name.proofs.adjacent.kids_of.Goals as goal

pub cubes_at_edge-requires-clause-side : goal.cubes_at_edge-requires-clause-side
cubes_at_edge-requires-clause-side c = small c.args.l (point_of c.args.c) c.scale_of-v.result.power c.scale_of-v.result.side (point_of c.scale_of-v.result.point) c.scale_of-v.ensures.scale c.requires.bound.most c.requires.level

pub cubes_at_edge-requires-clause-room : goal.cubes_at_edge-requires-clause-room
cubes_at_edge-requires-clause-room c =
    room_half c.args.l (point_of c.args.c) c.scale_of-v.result.power c.scale_of-v.result.side (point_of c.scale_of-v.result.point) c.scale_of-v.ensures.scale c.requires.bound.most c.requires.level
    (sym c.long_axes.ensures.axes ∙ c.if-long_axes-eq1.true)

pub long_neighbours-requires-clause-room : goal.long_neighbours-requires-clause-room
long_neighbours-requires-clause-room c = room_1 c.args.l (point_of c.args.c) c.scale_of-v.result.power c.scale_of-v.result.side (point_of c.scale_of-v.result.point) c.scale_of-v.ensures.scale c.requires.bound.most

pub returns-then-long_axes-eq1 : goal.returns-then-long_axes-eq1
unfolding half_offsets
returns-then-long_axes-eq1 c =
    let F = edge_kids_are c.args.l (point_of c.args.c) c.scale_of-v.result.power c.scale_of-v.result.side (point_of c.scale_of-v.result.point) c.scale_of-v.ensures.scale c.requires.bound.most c.requires.level
    c.cubes_at_edge.result (sym c.long_axes.ensures.axes ∙ c.if-long_axes-eq1.true)
    (c.cubes_at_edge.ensures ∙ map-filter-map point_of (λ o. point_scale (2 ^ (c.scale_of-v.result.power - 1)) (half_step (point_of c.scale_of-v.result.point) o)) (is_half_step c.scale_of-v.result.side (point_of c.scale_of-v.result.point)) (map half_of half_offsets)) in
    record { kids = F.kids_are; centres = F.centres; level = F.level }

pub returns-else-long_axes-eq1 : goal.returns-else-long_axes-eq1
unfolding step_directions
returns-else-long_axes-eq1 c =
    let F = flat_kids_are c.args.l (point_of c.args.c) c.scale_of-v.result.power c.scale_of-v.result.side (point_of c.scale_of-v.result.point) c.scale_of-v.ensures.scale c.requires.bound.most c.requires.level
    c.long_neighbours.result (λ e. c.if-long_axes-eq1.false (c.long_axes.ensures.axes ∙ e)) c.long_neighbours.ensures in
    record { kids = F.kids_are; centres = F.centres; level = F.level }
