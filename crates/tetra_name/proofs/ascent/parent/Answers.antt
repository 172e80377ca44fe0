use Rattle.std.proofs.Common.{◌+◌, ◌/◌, ◌^◌, arith, sym, ◌∙◌, ap, subst, refl, true≢false}
use Rattle.tpz_base.specs.Points.{point_scale}
use Rattle.tetra_name.specs.Names.{point_of}
use Rattle.tetra_name.specs.Steps.{slot_at, parent_point, IsScalable}
use Rattle.tetra_name.specs.Places.{TellsMember}
use Rattle.tetra_name.proofs.Children.{both}
use Rattle.tetra_name.proofs.PlaceLaw.{centre_of_name}
use Rattle.tetra_name.proofs.ParentFacts.{flat_tells, cube_tells, IsParent, flat_scales, cube_scales, flat_named, cube_parent, is_root}
use Rattle.tetra_name.proofs.ascent.parent.Goals as goal

pub name_of-name-requires-clause-scalable : goal.name_of-name-requires-clause-scalable
name_of-name-requires-clause-scalable c =
    subst (IsScalable c.place_of-p.result.power) (sym c.parent_point-point.ensures)
    (flat_scales c.args.l c.args.t c.place_of-p.result.power c.place_of-p.result.side (point_of c.place_of-p.result.point) c.place_of-p.result.pair c.requires.bound.most c.place_of-p.ensures.place
    (λ e. c.if-long_axes-ne3.true (c.long_axes.ensures.axes ∙ e)))

pub name_of-name-requires-2-clause-scalable : goal.name_of-name-requires-2-clause-scalable
name_of-name-requires-2-clause-scalable c =
    subst (IsScalable (c.place_of-p.result.power + 1)) (sym c.parent_point-point.ensures)
    (cube_scales c.args.l c.args.t c.place_of-p.result.power c.place_of-p.result.side (point_of c.place_of-p.result.point) c.place_of-p.result.pair c.requires.bound.most c.place_of-p.ensures.place
    (sym c.long_axes.ensures.axes ∙ c.if-long_axes-ne3.false) c.if-p-l.false)

pub returns-then-p-l-clause-root : goal.returns-then-p-l-clause-root
returns-then-p-l-clause-root c = (
  λ e. is_root c.args.l c.args.t c.place_of-p.result.power c.place_of-p.result.side (point_of c.place_of-p.result.point) c.place_of-p.result.pair c.requires.bound.most c.place_of-p.ensures.place
      (sym c.long_axes.ensures.axes ∙ c.if-long_axes-ne3.false) c.if-p-l.true,
  λ e. refl,
)

pub returns-then-long_axes-ne3 : goal.returns-then-long_axes-ne3
returns-then-long_axes-ne3 c =
    let point = point_of c.place_of-p.result.point in
    let F : IsParent c.args.l c.parent_which-which.result c.args.t c.name_of-name.result =
    subst (λ w. IsParent c.args.l w c.args.t c.name_of-name.result) (sym c.parent_which-which.ensures)
    (flat_named c.args.l c.args.t c.place_of-p.result.power c.place_of-p.result.side (point_of c.place_of-p.result.point) c.place_of-p.result.pair c.requires.bound.most c.place_of-p.ensures.place c.name_of-name.result
    (λ e. c.if-long_axes-ne3.true (c.long_axes.ensures.axes ∙ e))
    (c.name_of-name.ensures.centre ∙ ap (point_scale (2 ^ c.place_of-p.result.power)) c.parent_point-point.ensures)
    (c.name_of-name.ensures.slot ∙ ap (λ u. slot_at c.place_of-p.result.side u c.parent_pair-pair.result) c.parent_point-point.ensures
    ∙ ap (slot_at c.place_of-p.result.side (parent_point (point_of c.place_of-p.result.point) c.place_of-p.result.pair)) c.parent_pair-pair.ensures.pair)) in
    record { root = (λ e. absurd (true≢false e), λ e. absurd (omega (arith, e, F.level))); name = F.name; centre = centre_of_name c.args.l _ F.name; which = F.few; child = F.child; level = F.level }

pub returns : goal.returns
returns c =
    let F : IsParent c.args.l c.parent_which-which.result c.args.t c.name_of-name-2.result =
    subst (λ w. IsParent c.args.l w c.args.t c.name_of-name-2.result) (sym c.parent_which-which.ensures)
    (cube_parent c.args.l c.args.t c.place_of-p.result.power c.place_of-p.result.side (point_of c.place_of-p.result.point) c.place_of-p.result.pair c.requires.bound.most c.place_of-p.ensures.place c.name_of-name-2.result
    (sym c.long_axes.ensures.axes ∙ c.if-long_axes-ne3.false) c.if-p-l.false
    (c.name_of-name-2.ensures.centre ∙ ap (point_scale (2 ^ (c.place_of-p.result.power + 1))) c.parent_point-point.ensures)
    (c.name_of-name-2.ensures.slot ∙ ap (λ u. slot_at (c.place_of-p.result.side / 2) u c.parent_pair-pair.result) c.parent_point-point.ensures
    ∙ ap (slot_at (c.place_of-p.result.side / 2) (parent_point (point_of c.place_of-p.result.point) c.place_of-p.result.pair)) c.parent_pair-pair.ensures.pair)) in
    record { root = (λ e. absurd (true≢false e), λ e. absurd (omega (arith, e, F.level))); name = F.name; centre = centre_of_name c.args.l _ F.name; which = F.few; child = F.child; level = F.level }

pub name_of-name-requires-clause-member : goal.name_of-name-requires-clause-member
name_of-name-requires-clause-member c =
    both (TellsMember c.place_of-p.result.side) _ _ _ _ (sym c.parent_point-point.ensures) (sym c.parent_pair-pair.ensures.pair)
    (flat_tells c.args.l c.args.t c.place_of-p.result.power c.place_of-p.result.side (point_of c.place_of-p.result.point) c.place_of-p.result.pair c.requires.bound.most c.place_of-p.ensures.place (λ e. c.if-long_axes-ne3.true (c.long_axes.ensures.axes ∙ e)))

pub name_of-name-requires-2-clause-member : goal.name_of-name-requires-2-clause-member
name_of-name-requires-2-clause-member c =
    both (TellsMember (c.place_of-p.result.side / 2)) _ _ _ _ (sym c.parent_point-point.ensures) (sym c.parent_pair-pair.ensures.pair)
    (cube_tells c.args.l c.args.t c.place_of-p.result.power c.place_of-p.result.side (point_of c.place_of-p.result.point) c.place_of-p.result.pair c.requires.bound.most c.place_of-p.ensures.place (sym c.long_axes.ensures.axes ∙ c.if-long_axes-ne3.false) c.if-p-l.false)
