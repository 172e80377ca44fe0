use Rattle.std.proofs.Common.{◌≡◌, ◌≤◌, ◌+◌, ◌-◌, List, length}
use Rattle.tpz_base.specs.Texts.{Face}
use Rattle.ply_body.specs.Places.{tally, AreBroken, IsPlaced, Walks}
use Rattle.ply_body.proofs.walk.Walk.next_whole.Given as goal

abbrev pub invariant-dropped : goal.invariant-dropped
invariant-dropped g l = record {
  lost : (lost : List Face)
      × Walks l.initial.self.vertices l.initial.self.elements.items l.initial.self.place l.initial.self.items (g.I.Source.left l.initial.src)
      l.self.place l.self.items (g.I.Source.left l.src) lost
      × (l.self.dropped ≡ l.initial.self.dropped + length lost)
      × AreBroken l.frame (g.B.Blob.held l.initial.points) lost;
  elements : l.self.elements ≡ l.initial.self.elements;
  vertices : l.self.vertices ≡ l.initial.self.vertices;
  placed : IsPlaced l.initial.self.vertices l.initial.self.elements.items l.self.place;
  counts : tally l.self.place + l.initial.self.dropped ≡ tally l.initial.self.place + l.self.dropped;
  held : g.B.Blob.held l.points ≡ g.B.Blob.held l.initial.points;
  input_later : g.I.Source.faults l.initial.src ≤ g.I.Source.faults l.src;
  work_later : g.B.Blob.faults l.initial.points ≤ g.B.Blob.faults l.points;
}

abbrev pub decreases-dropped : goal.decreases-dropped
decreases-dropped g l = 2147483648 - l.self.dropped
