use Rattle.std.proofs.Common.{◌≡◌, ◌≤◌, drop}
use Rattle.std.specs.Option.{option_map}
use Rattle.ply_body.specs.Items.{items_told, passed}
use Rattle.ply_body.proofs.unused.pass_all.Given as goal

abbrev pub invariant-properties : goal.invariant-properties
invariant-properties g l = record {
  passes : option_map (passed l.properties) (items_told l.initial.items (g.I.Source.left l.initial.src))
      ≡ option_map (passed (drop l.property-index l.properties)) (items_told l.items (g.I.Source.left l.src));
  later : g.I.Source.faults l.initial.src ≤ g.I.Source.faults l.src;
}
