use Rattle.std.proofs.Common.{◌≡◌, false, replicate}
use Rattle.patch_file.specs.Asking.{Asks}
use Rattle.view_cut.specs.Views.{counted_by}
use Rattle.cut_blocks.proofs.blocks.read_with_tries.Given as goal

abbrev pub invariant-tries : goal.invariant-tries
invariant-tries g l = record {
  held : g.S.Blob.held l.store ≡ g.S.Blob.held l.initial.store;
  counted : l.reads ≡ counted_by l.counter l.initial.reads;
  asked : Asks (replicate l.counter false) (g.S.Blob.faults l.initial.store) (g.S.Blob.faults l.store) (g.S.Blob.reads l.initial.store) (g.S.Blob.reads l.store)
      (g.S.Blob.outcomes l.initial.store) (g.S.Blob.outcomes l.store);
}
