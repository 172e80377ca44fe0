-- Root after root.
use Rattle.std.proofs.Common.{refl}
use Rattle.cut_blocks.proofs.ShownLaw.{root_added}
use Rattle.cut_blocks.proofs.blocks.add_roots.Goals as goal

pub roots-preserved : goal.roots-preserved
roots-preserved c = record {
  end = c.roots.invariant.end;
  mesh = root_added c.args.base.now.patches c.roots.slot _ _ _ _ _ c.patch.ensures c.roots.invariant.mesh c.in_ok-push.ensures.items refl;
}
