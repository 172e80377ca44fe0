-- Only the vertices from the number on lack entries.
use Rattle.std.proofs.Common.{drop}
use Rattle.tpz_base.specs.Lists.{has}
use Rattle.tpz_base.specs.Points.{point_eq}
use Rattle.edge_collapse.specs.Feeds.{IsFedBut, AreSane}
use Rattle.edge_collapse.specs.Searches.{KeepsRoom, IsRoomy}
use Rattle.edge_collapse.proofs.feeding.offer_all.Given as goal

abbrev pub invariant-loop-v : goal.invariant-loop-v
invariant-loop-v l = record {
  fed : IsFedBut (λ p. has point_eq (drop l.v l.list.vertices) p) l.list.vertices l.list.mesh l.search.queue;
  sane : AreSane l.list.vertices l.search.queue;
  room : KeepsRoom l.fn.search l.search;
  roomy : IsRoomy l.list l.search;
}
