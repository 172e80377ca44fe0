use Rattle.std.proofs.Common.{rules, ◌∙◌, sym, ap, subst, map, w32}
use Rattle.std.specs.Prelude.{FitsSigned, IfSome, Option}
use Rattle.std.proofs.lemmas.Int.{to_z-of_z}
use Rattle.std.specs.Option.{option_or}
use Rattle.tpz_base.specs.Cubes.{Row}
use Rattle.ply_body.specs.declared.fault.BodyFault.{BodyFault}
use Rattle.ply_body.specs.Hulls.{IsExtent}
use Rattle.ply_body.proofs.CubeRows.{or_extent, or_three}
use Rattle.ply_body.proofs.hull.too_wide_hull.Goals as goal

pub returns-clause-first : goal.returns-clause-first
returns-clause-first c = λ rows is.
    let lx : FitsSigned w32 c.args.hull.low.x = search rules in
    let ly : FitsSigned w32 c.args.hull.low.y = search rules in
    let lz : FitsSigned w32 c.args.hull.low.z = search rules in
    let hx : FitsSigned w32 c.args.hull.high.x = search rules in
    let hy : FitsSigned w32 c.args.hull.high.y = search rules in
    let hz : FitsSigned w32 c.args.hull.high.z = search rules in
    let x = simp to_z-of_z at (c.wide-on_x.ensures.wide (map (λ (r : Row). r.x) rows)) in
    let y = simp to_z-of_z at (c.wide-on_y.ensures.wide (map (λ (r : Row). r.y) rows)) in
    let z = simp to_z-of_z at (c.wide-on_z.ensures.wide (map (λ (r : Row). r.z) rows)) in
    c.or-2.ensures ∙ ap (option_or c.wide-on_x.result) c.or.ensures
    ∙ or_three _ _ _ _ _ _ (x (ap (λ (r : Row). r.x) is.low) (ap (λ (r : Row). r.x) is.high)) (y (ap (λ (r : Row). r.y) is.low) (ap (λ (r : Row). r.y) is.high))
    (z (ap (λ (r : Row). r.z) is.low) (ap (λ (r : Row). r.z) is.high))

pub returns-clause-extent : goal.returns-clause-extent
returns-clause-extent c =
    let others : IfSome c.or.result IsExtent = subst (λ (o : Option BodyFault). IfSome o IsExtent) (sym c.or.ensures) (or_extent _ _ c.wide-on_y.ensures.extent c.wide-on_z.ensures.extent) in
    subst (λ (o : Option BodyFault). IfSome o IsExtent) (sym c.or-2.ensures) (or_extent _ _ c.wide-on_x.ensures.extent others)
