use Rattle.std.proofs.Common.{sym, ◌∙◌, subst}
use Rattle.tetra_name.specs.Names.{point_of, IsWithin}
use Rattle.tetra_name.specs.Steps.{step_directions}
use Rattle.tetra_name.proofs.AdjacentFacts.{room_1, room_2, start_within, flat_parents_are, cube_parents_are, root_parents_are}
use Rattle.tetra_name.proofs.adjacent.parents_of.Goals as goal

pub parent_neighbours-requires-clause-room : goal.parent_neighbours-requires-clause-room
parent_neighbours-requires-clause-room c = room_1 c.args.l (point_of c.args.c) c.scale_of-v.result.power c.scale_of-v.result.side (point_of c.scale_of-v.result.point) c.scale_of-v.ensures.scale c.requires.bound.most

pub parent_neighbours-requires-2-clause-room : goal.parent_neighbours-requires-2-clause-room
parent_neighbours-requires-2-clause-room c = room_2 c.args.l (point_of c.args.c) c.scale_of-v.result.power c.scale_of-v.result.side (point_of c.scale_of-v.result.point) c.scale_of-v.ensures.scale c.requires.bound.most c.if-v-l.false

pub parent_neighbours-requires-2-clause-within : goal.parent_neighbours-requires-2-clause-within
parent_neighbours-requires-2-clause-within c =
    subst (IsWithin c.scale_of-v.result.side) (sym c.start_point.ensures.start)
    (start_within c.args.l (point_of c.args.c) c.scale_of-v.result.power c.scale_of-v.result.side (point_of c.scale_of-v.result.point) c.scale_of-v.ensures.scale c.requires.bound.most)

pub returns-then-long_axes-ne3 : goal.returns-then-long_axes-ne3
unfolding step_directions
returns-then-long_axes-ne3 c =
    let F = flat_parents_are c.args.l (point_of c.args.c) c.scale_of-v.result.power c.scale_of-v.result.side (point_of c.scale_of-v.result.point) c.scale_of-v.ensures.scale c.requires.bound.most c.parent_neighbours.result
    (λ e. c.if-long_axes-ne3.true (c.long_axes.ensures.axes ∙ e)) c.parent_neighbours.ensures in
    record { parents = F.parents_are; centres = F.centres; level = F.level }

pub returns-then-v-l : goal.returns-then-v-l
returns-then-v-l c =
    let F = root_parents_are c.args.l (point_of c.args.c) c.scale_of-v.result.power c.scale_of-v.result.side (point_of c.scale_of-v.result.point) c.scale_of-v.ensures.scale c.requires.bound.most c.new.result c.new.ensures
    (sym c.long_axes.ensures.axes ∙ c.if-long_axes-ne3.false) c.if-v-l.true in
    record { parents = F.parents_are; centres = F.centres; level = F.level }

pub returns : goal.returns
unfolding step_directions
returns c =
    let F = cube_parents_are c.args.l (point_of c.args.c) c.scale_of-v.result.power c.scale_of-v.result.side (point_of c.scale_of-v.result.point) c.scale_of-v.ensures.scale c.requires.bound.most c.parent_neighbours-2.result (point_of c.start_point.result) c.start_point.ensures.start
    (sym c.long_axes.ensures.axes ∙ c.if-long_axes-ne3.false) c.if-v-l.false c.parent_neighbours-2.ensures in
    record { parents = F.parents_are; centres = F.centres; level = F.level }
