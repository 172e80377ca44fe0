-- The vertices so far are told, and the sums are 0.
use Rattle.std.proofs.Common.{◌≡◌, ◌≤◌, map, take, vec_capacity}
use Rattle.tpz_base.specs.Meshes.{is_outer}
use Rattle.edge_collapse.specs.Balances.{zeros}
use Rattle.edge_collapse.proofs.outer.list_outer.Given as goal

abbrev pub invariant-loop-v : goal.invariant-loop-v
invariant-loop-v l = record {
  none : l.balance.items ≡ zeros l.list.vertices;
  outer : l.outer.items ≡ map (is_outer l.list.mesh) (take l.v l.list.vertices);
  balance_capacity : vec_capacity l.fn.balance ≤ vec_capacity l.balance;
  outer_capacity : vec_capacity l.fn.outer ≤ vec_capacity l.outer;
}
