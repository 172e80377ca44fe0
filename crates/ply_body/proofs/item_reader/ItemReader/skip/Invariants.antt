use Rattle.std.proofs.Common.{◌≡◌, ◌≤◌, ◌-◌}
use Rattle.std.specs.Option.{option_map}
use Rattle.ply_body.specs.Items.{items_told, skipped}
use Rattle.ply_body.proofs.item_reader.ItemReader.skip.Given as goal

abbrev pub invariant-items : goal.invariant-items
invariant-items g l = record {
  told : option_map (skipped l.kind l.count) (items_told l.initial.self (g.S.Source.left l.initial.source))
      ≡ option_map (skipped l.kind (l.count - l.counter)) (items_told l.self (g.S.Source.left l.source));
  later : g.S.Source.faults l.initial.source ≤ g.S.Source.faults l.source;
}
