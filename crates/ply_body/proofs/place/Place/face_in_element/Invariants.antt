use Rattle.std.proofs.Common.{◌≡◌, ◌≤◌, ◌<◌, []}
use Rattle.std.specs.Prelude.{All}
use Rattle.ply_head.specs.Heads.{IsSkipped}
use Rattle.ply_body.specs.Places.{tally, HasNearCorners, IsBehind, IsCounted, Moves}
use Rattle.ply_body.proofs.place.Place.face_in_element.Given as goal

abbrev pub invariant-rows : goal.invariant-rows
invariant-rows g l = record {
  moves : Moves l.vertices l.properties l.initial.self l.initial.items (g.I.Source.left l.initial.src) l.self l.items (g.I.Source.left l.src) [];
  counted : IsCounted l.self;
  near : HasNearCorners l.vertices l.self;
  behind : IsBehind l.properties l.self;
  left : l.self.left ≤ l.initial.self.left;
  next : l.self.next ≡ l.initial.self.next;
  tally : tally l.self ≡ tally l.initial.self;
  plain : (0 < l.initial.self.left → All IsSkipped l.properties) → l.initial.self.polygon.left ≡ 0 → l.self.polygon.left ≡ 0;
  later : g.I.Source.faults l.initial.src ≤ g.I.Source.faults l.src;
}

abbrev pub decreases-rows : goal.decreases-rows
decreases-rows g l = l.self.left
