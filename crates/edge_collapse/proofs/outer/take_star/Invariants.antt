-- The sums are those of the triangles that are left.
use Rattle.std.proofs.Common.{◌≡◌, ◌≤◌, ◌-◌, drop, length, vec_capacity}
use Rattle.std.specs.Prelude.{filter}
use Rattle.tpz_base.specs.Meshes.{has_corner}
use Rattle.patch_mesh.specs.Walks.{IsWalk}
use Rattle.edge_collapse.specs.Balances.{sums_at}
use Rattle.edge_collapse.proofs.outer.take_star.Given as goal

abbrev pub invariant-loop-k : goal.invariant-loop-k
invariant-loop-k l = record {
  walk : IsWalk l.list l.p l.walk;
  few : l.walk.place ≤ 4194304;
  sums : l.balance.items ≡ sums_at (drop l.walk.place (filter (has_corner l.p) l.list.mesh)) l.p l.list.vertices;
  capacity : vec_capacity l.fn.balance ≤ vec_capacity l.balance;
}

abbrev pub decreases-loop-k : goal.decreases-loop-k
decreases-loop-k l = length (filter (has_corner l.p) l.list.mesh) - l.walk.place
