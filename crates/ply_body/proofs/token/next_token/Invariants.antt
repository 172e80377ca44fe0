use Rattle.std.proofs.Common.{◌≡◌, ◌≤◌, false, length}
use Rattle.std.specs.List.{list_any}
use Rattle.tpz_io.specs.Told.{ahead}
use Rattle.ply_head.specs.declared.element.Format.TheVariants.{Ascii}
use Rattle.ply_body.specs.Items.{is_gap}
use Rattle.ply_body.specs.Tokens.{items_ahead, items_behind}
use Rattle.ply_body.proofs.token.next_token.Given as goal

abbrev pub invariant-bytes : goal.invariant-bytes
invariant-bytes g l = record {
  told : items_ahead Ascii l.initial.room (ahead l.initial.reader (g.S.Source.left l.initial.source))
      ≡ items_behind l.text l.room (ahead l.reader (g.S.Source.left l.source));
  none : list_any is_gap l.text ≡ false;
  few : length l.text ≤ 64;
  later : g.S.Source.faults l.initial.source ≤ g.S.Source.faults l.source;
}

abbrev pub decreases-bytes : goal.decreases-bytes
decreases-bytes g l = l.room
