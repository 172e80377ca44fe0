-- Each point stands behind the one before it.
use Rattle.std.proofs.Common.{ap, refl}
use Rattle.std.proofs.lemmas.List.{take_rest}
use Rattle.tri_stream.specs.Blocks.{point_in}
use Rattle.tri_stream.proofs.blocks.tri_from.Goals as goal

pub returns : goal.returns
returns c =
    let bytes = c.args.bytes.now in
    let b = ap point_in (take_rest bytes 12) in
    let d = ap point_in (take_rest bytes 24) in
    rw (c.point_from.ensures, c.point_from-2.ensures, c.point_from-3.ensures, b, d) refl
