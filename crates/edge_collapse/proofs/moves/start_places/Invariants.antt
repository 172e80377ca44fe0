-- The vertices so far are led to themselves.
use Rattle.std.proofs.Common.{◌≡◌, ◌≤◌, vec_len, vec_capacity}
use Rattle.std.specs.List.{range_with_len}
use Rattle.edge_collapse.proofs.moves.start_places.Given as goal

abbrev pub invariant-loop-v : goal.invariant-loop-v
invariant-loop-v l = record {
  items : l.places.items ≡ range_with_len 0 l.v;
  few : vec_len l.places ≤ l.v;
  capacity : vec_capacity l.fn.places ≤ vec_capacity l.places;
}
