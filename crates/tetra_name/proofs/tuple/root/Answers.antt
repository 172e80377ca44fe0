use Rattle.std.proofs.Common.{◌≡◌, ◌*◌, ◌^◌, ◌%◌, ◌≤◌, arith}
use Rattle.std.proofs.Math.Pow.{pow_mono}
use Rattle.tpz_base.proofs.PointLemmas.{point_cong}
use Rattle.tetra_name.proofs.tuple.root.Goals as goal
use Rattle.tetra_name.proofs.RootsLaw.{root_facts}
use Rattle.tetra_name.proofs.PlaceLaw.{centre_of_name}
use Rattle.tetra_name.proofs.EveryName.{names_each}

pub returns : goal.returns
returns c =
    let p : 2 ^ c.args.l ≤ 2 ^ 30 = pow_mono c.requires.bound.most in
    let half : 1 * 2 ^ c.args.l % 4294967296 ≡ 2 ^ c.args.l = omega (arith, p) in
    let r = root_facts c.args.l _ c.requires.slot (point_cong _ _ _ _ _ _ half half half) in
    record { root = r.root; name = r.name; centre = centre_of_name c.args.l _ r.name; level = r.level; names = names_each c.args.l c.requires.bound.most }
