use Rattle.std.proofs.Common.{◌≡◌, ◌++◌, take}
use Rattle.std.specs.Prelude.{flat_map}
use Rattle.patch_view.specs.Views.{mesh_of}
use Rattle.cut_blocks.specs.Shown.{shown_patches}
use Rattle.patch_file.specs.Patches.{joined}
use Rattle.cut_blocks.proofs.blocks.add_all_shown.Given as goal

abbrev pub invariant-all : goal.invariant-all
invariant-all l = record {
  mesh : mesh_of l.into.items ≡ mesh_of l.initial.into.items ++ joined (flat_map shown_patches (take l.one-index l.shown));
}
