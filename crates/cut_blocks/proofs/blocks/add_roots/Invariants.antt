use Rattle.std.proofs.Common.{◌≡◌, ◌++◌, take, length}
use Rattle.patch_view.specs.Views.{mesh_of}
use Rattle.patch_file.specs.Patches.{joined}
use Rattle.cut_blocks.proofs.blocks.add_roots.Given as goal

abbrev pub invariant-roots : goal.invariant-roots
invariant-roots l = record {
  end : l.slot-end ≡ length l.base.patches;
  mesh : mesh_of l.into.items ≡ mesh_of l.initial.into.items ++ joined (take l.slot l.base.patches);
}
