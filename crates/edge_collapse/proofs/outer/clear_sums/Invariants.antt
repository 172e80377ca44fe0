-- A 0 for each vertex so far.
use Rattle.std.proofs.Common.{◌≡◌, ◌≤◌, take, vec_capacity}
use Rattle.edge_collapse.specs.Balances.{zeros}
use Rattle.edge_collapse.proofs.outer.clear_sums.Given as goal

abbrev pub invariant-loop : goal.invariant-loop
invariant-loop l = record {
  none : l.balance.items ≡ zeros (take l.counter l.list.vertices);
  capacity : vec_capacity l.fn.balance ≤ vec_capacity l.balance;
}
