use Rattle.std.proofs.Common.{◌≡◌, ◌≤◌, ◌+◌, take}
use Rattle.tpz_io.specs.Told.{ahead}
use Rattle.ply_body.proofs.field.take_bytes.Given as goal

abbrev pub invariant-each : goal.invariant-each
invariant-each g l = record {
  told : ahead l.initial.reader (g.S.Source.left l.initial.source) ≡ ahead (take l.byte-index l.bytes) (ahead l.reader (g.S.Source.left l.source));
  room : l.initial.room ≡ l.byte-index + l.room;
  later : g.S.Source.faults l.initial.source ≤ g.S.Source.faults l.source;
}
