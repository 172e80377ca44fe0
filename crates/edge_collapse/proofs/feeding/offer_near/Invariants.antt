-- Only the vertices from the index on lack entries.
use Rattle.std.proofs.Common.{◌≡◌, drop, map}
use Rattle.tpz_base.specs.Lists.{has}
use Rattle.tpz_base.specs.Points.{point_eq}
use Rattle.patch_mesh.specs.Slots.{point_at}
use Rattle.edge_collapse.specs.Feeds.{IsFedBut, AreSane}
use Rattle.edge_collapse.specs.Searches.{KeepsRoom, IsRoomy}
use Rattle.edge_collapse.proofs.feeding.offer_near.Given as goal

abbrev pub invariant-loop-i : goal.invariant-loop-i
invariant-loop-i l = record {
  fed : IsFedBut (λ p. has point_eq (drop l.i (map (point_at l.list.vertices) l.search.near.items)) p) l.list.vertices l.list.mesh l.search.queue;
  sane : AreSane l.list.vertices l.search.queue;
  near : l.search.near.items ≡ l.fn.search.near.items;
  room : KeepsRoom l.fn.search l.search;
  roomy : IsRoomy l.list l.search;
}
