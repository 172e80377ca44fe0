-- So many triangles were added, and the streams that were live are.
use Rattle.std.proofs.Common.{◌≡◌, ◌≤◌, ◌+◌}
use Rattle.std.specs.Option.{ForSome}
use Rattle.tri_stream.specs.declared.names.Cursor.{Cursor}
use Rattle.tri_stream.specs.declared.names.StreamId.{StreamId}
use Rattle.tri_stream.specs.Streams.{total, Follows, IsLive, Stands}
use Rattle.tri_stream.proofs.tests.add.Given as goal

abbrev pub invariant-times : goal.invariant-times
invariant-times g l = record {
  live : (x : StreamId) → IsLive l.fn.streams x → IsLive l.streams x;
  stands : ForSome (g.B.Blob.held l.blob) (Stands l.streams);
  level : l.streams.l ≡ l.fn.streams.l;
  few : total l.streams ≤ total l.fn.streams + l.i;
  cursors : (at : Cursor) → Follows l.fn.streams (g.B.Blob.held l.fn.blob) at → Follows l.streams (g.B.Blob.held l.blob) at;
}
