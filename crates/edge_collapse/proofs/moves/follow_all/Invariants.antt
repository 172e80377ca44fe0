-- The pairs from the index on were followed.
use Rattle.std.proofs.Common.{◌≤◌, drop, length, map}
use Rattle.edge_collapse.specs.Places.{ends_at, AreLed}
use Rattle.edge_collapse.proofs.moves.follow_all.Given as goal

abbrev pub invariant-loop-i : goal.invariant-loop-i
invariant-loop-i l = record {
  within : l.i ≤ length l.pairs;
  led : AreLed l.list.vertices (map (ends_at l.list.vertices) (drop l.i l.pairs)) l.places;
}

abbrev pub decreases-loop-i : goal.decreases-loop-i
decreases-loop-i l = l.i
