use Rattle.std.proofs.Common.{◌-◌, ◌*◌, ◌^◌, arith, sym, ◌∙◌, ap, subst}
use Rattle.tpz_base.specs.Points.{point_scale}
use Rattle.tetra_name.specs.Names.{point_of}
use Rattle.tetra_name.specs.Steps.{IsScalable, slot_at, child_point}
use Rattle.tetra_name.proofs.PlaceLaw.{centre_of_name}
use Rattle.tetra_name.specs.Places.{TellsMember}
use Rattle.tetra_name.proofs.Children.{both}
use Rattle.tetra_name.proofs.NameFacts.{is_child}
use Rattle.tetra_name.proofs.ChildFacts.{tells, edge_tells, within, side_fits, edge_scales, edge_named, scales, named}
use Rattle.tetra_name.proofs.descent.child.Goals as goal

pub child_point-point-requires-clause-within : goal.child_point-point-requires-clause-within
child_point-point-requires-clause-within c =
    within c.args.l c.args.t c.place_of-p.result.power c.place_of-p.result.side (point_of c.place_of-p.result.point) c.place_of-p.result.pair c.requires.bound.most c.place_of-p.ensures.place c.requires.level

pub overflow_mul-p : goal.overflow_mul-p
overflow_mul-p c =
    let s = side_fits c.args.l c.args.t c.place_of-p.result.power c.place_of-p.result.side (point_of c.place_of-p.result.point) c.place_of-p.result.pair c.requires.bound.most c.place_of-p.ensures.place c.requires.level in
    omega (arith, s)

pub name_of-requires-clause-scalable : goal.name_of-requires-clause-scalable
name_of-requires-clause-scalable c =
    subst (IsScalable (c.place_of-p.result.power - 1)) (sym c.child_point-point.ensures)
    (edge_scales c.args.l c.args.t c.place_of-p.result.power c.place_of-p.result.side (point_of c.place_of-p.result.point) c.place_of-p.result.pair c.requires.bound.most c.place_of-p.ensures.place c.requires.level c.args.which c.requires.which
    (sym c.long_axes.ensures.axes ∙ c.if-long_axes-eq1.true))

pub name_of-requires-else-long_axes-eq1-clause-scalable : goal.name_of-requires-else-long_axes-eq1-clause-scalable
name_of-requires-else-long_axes-eq1-clause-scalable c =
    subst (IsScalable c.place_of-p.result.power) (sym c.child_point-point.ensures)
    (scales c.args.l c.args.t c.place_of-p.result.power c.place_of-p.result.side (point_of c.place_of-p.result.point) c.place_of-p.result.pair c.requires.bound.most c.place_of-p.ensures.place c.requires.level c.args.which c.requires.which
    (λ e. c.if-long_axes-eq1.false (c.long_axes.ensures.axes ∙ e)))

pub returns-then-long_axes-eq1 : goal.returns-then-long_axes-eq1
returns-then-long_axes-eq1 c =
    let same = edge_named c.args.l c.args.t c.place_of-p.result.power c.place_of-p.result.side (point_of c.place_of-p.result.point) c.place_of-p.result.pair c.requires.bound.most c.place_of-p.ensures.place c.requires.level c.args.which c.name_of.result c.requires.which
    (sym c.long_axes.ensures.axes ∙ c.if-long_axes-eq1.true)
    (c.name_of.ensures.centre ∙ ap (point_scale (2 ^ (c.place_of-p.result.power - 1))) c.child_point-point.ensures)
    (c.name_of.ensures.slot ∙ ap (λ u. slot_at (2 * c.place_of-p.result.side) u c.child_pair-pair.result) c.child_point-point.ensures ∙ ap (slot_at (2 * c.place_of-p.result.side) (child_point c.args.which (point_of c.place_of-p.result.point) c.place_of-p.result.pair)) c.child_pair-pair.ensures.pair) in
    let k = is_child c.args.l c.args.which c.args.t c.name_of.result c.requires.name same in
    record { child = same; name = k.name; centre = centre_of_name c.args.l _ k.name; level = k.level }

pub returns-else-long_axes-eq1 : goal.returns-else-long_axes-eq1
returns-else-long_axes-eq1 c =
    let same = named c.args.l c.args.t c.place_of-p.result.power c.place_of-p.result.side (point_of c.place_of-p.result.point) c.place_of-p.result.pair c.requires.bound.most c.place_of-p.ensures.place c.requires.level c.args.which c.name_of-else-long_axes-eq1.result c.requires.which
    (λ e. c.if-long_axes-eq1.false (c.long_axes.ensures.axes ∙ e))
    (c.name_of-else-long_axes-eq1.ensures.centre ∙ ap (point_scale (2 ^ c.place_of-p.result.power)) c.child_point-point.ensures)
    (c.name_of-else-long_axes-eq1.ensures.slot ∙ ap (λ u. slot_at c.place_of-p.result.side u c.child_pair-pair.result) c.child_point-point.ensures ∙ ap (slot_at c.place_of-p.result.side (child_point c.args.which (point_of c.place_of-p.result.point) c.place_of-p.result.pair)) c.child_pair-pair.ensures.pair) in
    let k = is_child c.args.l c.args.which c.args.t c.name_of-else-long_axes-eq1.result c.requires.name same in
    record { child = same; name = k.name; centre = centre_of_name c.args.l _ k.name; level = k.level }

pub name_of-requires-clause-member : goal.name_of-requires-clause-member
name_of-requires-clause-member c =
    both (TellsMember (2 * c.place_of-p.result.side)) _ _ _ _ (sym c.child_point-point.ensures) (sym c.child_pair-pair.ensures.pair)
    (edge_tells c.args.l c.args.t c.place_of-p.result.power c.place_of-p.result.side (point_of c.place_of-p.result.point) c.place_of-p.result.pair c.requires.bound.most c.place_of-p.ensures.place c.requires.level c.args.which c.requires.which (sym c.long_axes.ensures.axes ∙ c.if-long_axes-eq1.true))

pub name_of-requires-else-long_axes-eq1-clause-member : goal.name_of-requires-else-long_axes-eq1-clause-member
name_of-requires-else-long_axes-eq1-clause-member c =
    both (TellsMember c.place_of-p.result.side) _ _ _ _ (sym c.child_point-point.ensures) (sym c.child_pair-pair.ensures.pair)
    (tells c.args.l c.args.t c.place_of-p.result.power c.place_of-p.result.side (point_of c.place_of-p.result.point) c.place_of-p.result.pair c.requires.bound.most c.place_of-p.ensures.place c.requires.level c.args.which c.requires.which (λ e. c.if-long_axes-eq1.false (c.long_axes.ensures.axes ∙ e)))
