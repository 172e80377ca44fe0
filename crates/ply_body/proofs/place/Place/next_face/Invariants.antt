use Rattle.std.proofs.Common.{◌≡◌, ◌≤◌, ◌-◌, [], length}
use Rattle.ply_body.specs.Places.{tally, IsPlaced, Walks}
use Rattle.ply_body.proofs.place.Place.next_face.Given as goal

abbrev pub invariant-elements : goal.invariant-elements
invariant-elements g l = record {
  walks : Walks l.vertices l.elements l.initial.self l.initial.items (g.I.Source.left l.initial.src) l.self l.items (g.I.Source.left l.src) [];
  placed : IsPlaced l.vertices l.elements l.self;
  tally : tally l.self ≡ tally l.initial.self;
  later : g.I.Source.faults l.initial.src ≤ g.I.Source.faults l.src;
}

abbrev pub decreases-elements : goal.decreases-elements
decreases-elements g l = length l.elements - l.self.next
