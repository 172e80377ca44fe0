use Rattle.std.proofs.Common.{◌≡◌, true, false, take, length}
use Rattle.std.specs.Prelude.{All, None, flat_map}
use Rattle.std.specs.Option.{ForSome}
use Rattle.patch_file.specs.Asking.{HasAsked}
use Rattle.view_cut.specs.Sets.{centres_at}
use Rattle.cut_blocks.specs.WrongBlocks.{first_wrong}
use Rattle.cut_blocks.specs.Shown.{outer_patches_at, shown_patches, stored_in, AreCounted, IsNamed}
use Rattle.cut_blocks.proofs.blocks.read_cut.Given as goal

abbrev pub invariant-records : goal.invariant-records
invariant-records g l = record {
  held : g.S.Blob.held l.store ≡ g.S.Blob.held l.initial.store;
  patches : ForSome (g.S.Blob.held l.initial.store) (λ bs.
      flat_map shown_patches l.shown.items ≡ flat_map (outer_patches_at (stored_in l.reader bs).0 (centres_at l.graph.records l.set)) (take l.i-index l.set));
  count : length l.shown.items ≡ l.i-index;
  right : ForSome (g.S.Blob.held l.initial.store) (λ bs. first_wrong (stored_in l.reader bs).0 (take l.i-index l.set) ≡ None);
  named : All (IsNamed l.graph.l) l.shown.items;
  asked : HasAsked l.tries l.i-index true false (g.S.Blob.faults l.initial.store) (g.S.Blob.faults l.store) (g.S.Blob.reads l.initial.store) (g.S.Blob.reads l.store)
      (g.S.Blob.outcomes l.initial.store) (g.S.Blob.outcomes l.store);
  counted : AreCounted l.initial.reads l.reads (g.S.Blob.reads l.initial.store) (g.S.Blob.reads l.store);
}
