use Rattle.std.proofs.Common.{arith}
use Rattle.ply_head.proofs.RoleLemmas.{set_role}
use Rattle.ply_head.proofs.used.put_role.Goals as goal

pub returns-then-at-len : goal.returns-then-at-len
returns-then-at-len c =
    let is = set_role c.args.properties.now.items c.args.at c.index_mut.result.now c.args.role (omega (arith, c.args.properties.now.ok.0)) in
    rw (← c.index_mut.ensures.value) at is
