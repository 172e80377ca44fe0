use Rattle.std.proofs.Common.{◌≡◌, ◌+◌, ◌*◌, ◌≤◌}
use Rattle.std.specs.Option.{ForSome}
use Rattle.patch_file.specs.Appended.{Stands}
use Rattle.library_tests.proofs.store_writing.patches.Given as goal

abbrev pub invariant-loop-one : goal.invariant-loop-one
invariant-loop-one g l = record {
  left : l.writer.progress.left ≡ l.initial.writer.progress.left;
  short : l.writer.progress.end ≤ l.initial.writer.progress.end + 40 * l.one-index;
  stands : ForSome (g.S.Blob.held l.store) (Stands l.writer.tail);
}
