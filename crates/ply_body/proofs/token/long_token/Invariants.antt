use Rattle.std.proofs.Common.{◌≡◌, ◌≤◌}
use Rattle.tpz_io.specs.Told.{ahead}
use Rattle.tpz_base.specs.Texts.{Bytes}
use Rattle.ply_body.specs.Tokens.{IsLong, items_behind}
use Rattle.ply_body.proofs.token.long_token.Given as goal

abbrev pub invariant-bytes : goal.invariant-bytes
invariant-bytes g l = record {
  told : (text : Bytes) → IsLong text → (more : Bytes) × (IsLong more
      × (items_behind text l.initial.room (ahead l.initial.reader (g.S.Source.left l.initial.source))
      ≡ items_behind more l.room (ahead l.reader (g.S.Source.left l.source))));
  later : g.S.Source.faults l.initial.source ≤ g.S.Source.faults l.source;
}

abbrev pub decreases-bytes : goal.decreases-bytes
decreases-bytes g l = l.room
