use Rattle.std.proofs.Common.{◌≡◌, ◌≤◌, []}
use Rattle.ply_body.specs.Places.{tally, HasNearCorners, IsCounted, Moves}
use Rattle.ply_body.proofs.place.Place.face_in_row.Given as goal

abbrev pub invariant-corners : goal.invariant-corners
invariant-corners g l = record {
  moves : Moves l.vertices l.properties l.initial.self l.initial.items (g.I.Source.left l.initial.src) l.self l.items (g.I.Source.left l.src) [];
  counted : IsCounted l.self;
  near : HasNearCorners l.vertices l.self;
  behind : l.self.behind ≡ l.initial.self.behind;
  left : l.self.left ≡ l.initial.self.left;
  next : l.self.next ≡ l.initial.self.next;
  tally : tally l.self ≡ tally l.initial.self;
  less : l.self.polygon.left ≤ l.initial.self.polygon.left;
  later : g.I.Source.faults l.initial.src ≤ g.I.Source.faults l.src;
}

abbrev pub decreases-corners : goal.decreases-corners
decreases-corners g l = l.self.polygon.left
