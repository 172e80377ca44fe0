use Rattle.std.proofs.Common.{◌≡◌, ◌++◌, take, length}
use Rattle.patch_view.specs.Views.{mesh_of}
use Rattle.cut_blocks.specs.Shown.{bit_picked}
use Rattle.patch_file.specs.Patches.{joined}
use Rattle.cut_blocks.proofs.blocks.add_shown.Given as goal

abbrev pub invariant-parts : goal.invariant-parts
invariant-parts l = record {
  end : l.k-end ≡ length l.shown.block.patches;
  mesh : mesh_of l.into.items ≡ mesh_of l.initial.into.items ++ joined (bit_picked l.shown.bits 0 (take l.k l.shown.block.patches));
}
