use Rattle.std.proofs.Common.{◌≡◌, ◌+◌, ◌-◌, ◌*◌, sym, ◌∙◌, ap, arith}
use Rattle.tpz_base.specs.Diamonds.{level_of}
use Rattle.tetra_name.specs.Names.{point_of}
use Rattle.tetra_name.proofs.centre.level.Goals as goal
use Rattle.tetra_name.proofs.PlaceLaw.{level_facts}

pub returns : goal.returns
returns c =
    let f = level_facts c.args.l (point_of c.args.c) c.scale_of-v.result.power c.scale_of-v.result.side (point_of c.scale_of-v.result.point) c.scale_of-v.ensures.scale in
    let e : level_of c.args.l (point_of c.args.c) ≡ 3 * (c.args.l - c.scale_of-v.result.power) + (3 - c.long_axes.result) =
    f.level ∙ ap (λ o. 3 * (c.args.l - c.scale_of-v.result.power) + (3 - o)) (sym c.long_axes.ensures.axes) in
    record { level = sym e; most = omega (arith, e, f.most); whole = (λ lt. f.whole (omega (arith, e, lt)), λ w. omega (arith, e, f.above w)) }
