use Rattle.std.proofs.Common.{◌≡◌, ◌≤◌, drop}
use Rattle.std.specs.Option.{option_map}
use Rattle.ply_body.specs.Items.{items_told}
use Rattle.ply_body.specs.Places.{front_of}
use Rattle.ply_body.proofs.face_row.read_front.Given as goal

abbrev pub invariant-front : goal.invariant-front
invariant-front g l = record {
  same : option_map (front_of l.properties) (items_told l.initial.items (g.I.Source.left l.initial.src))
      ≡ option_map (front_of (drop l.at l.properties)) (items_told l.items (g.I.Source.left l.src));
  later : g.I.Source.faults l.initial.src ≤ g.I.Source.faults l.src;
}
