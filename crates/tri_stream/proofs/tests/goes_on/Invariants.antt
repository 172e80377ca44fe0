-- All streams are as before, and the cursor follows its own.
use Rattle.std.proofs.Common.{◌≡◌}
use Rattle.std.specs.Option.{ForSome}
use Rattle.tri_stream.specs.declared.names.StreamId.{StreamId}
use Rattle.tri_stream.specs.Streams.{count_of, total, Follows, Stands}
use Rattle.tri_stream.proofs.tests.goes_on.Given as goal

abbrev pub invariant-times : goal.invariant-times
invariant-times g l = record {
  counts : (x : StreamId) → count_of l.streams x ≡ count_of l.fn.streams x;
  follows : Follows l.streams (g.B.Blob.held l.blob) l.at;
  stands : ForSome (g.B.Blob.held l.blob) (Stands l.streams);
  level : l.streams.l ≡ l.fn.streams.l;
  total : total l.streams ≡ total l.fn.streams;
}
