use Rattle.std.proofs.Common.{rules, ◌∙◌, ap, w32}
use Rattle.std.specs.Prelude.{max, FitsSigned}
use Rattle.std.proofs.lemmas.Int.{to_z-of_z}
use Rattle.ply_body.proofs.CubeRows.{widest_is}
use Rattle.ply_body.proofs.hull.width_of.Goals as goal

pub returns : goal.returns
returns c = λ rows is.
    let lx : FitsSigned w32 c.args.hull.low.x = search rules in
    let ly : FitsSigned w32 c.args.hull.low.y = search rules in
    let lz : FitsSigned w32 c.args.hull.low.z = search rules in
    let hx : FitsSigned w32 c.args.hull.high.x = search rules in
    let hy : FitsSigned w32 c.args.hull.high.y = search rules in
    let hz : FitsSigned w32 c.args.hull.high.z = search rules in
    let x = simp to_z-of_z at c.extent-on_x.ensures in
    let y = simp to_z-of_z at c.extent-on_y.ensures in
    let z = simp to_z-of_z at c.extent-on_z.ensures in
    c.max-2.ensures ∙ ap (max c.extent-on_x.result) c.max.ensures ∙ widest_is rows c.args.hull _ _ _ is x y z
