-- The sums are those of the triangles so far.
use Rattle.std.proofs.Common.{◌≡◌, ◌≤◌, ◌-◌, take, length, vec_capacity}
use Rattle.std.specs.Prelude.{filter}
use Rattle.tpz_base.specs.Meshes.{has_corner}
use Rattle.patch_mesh.specs.Walks.{IsWalk}
use Rattle.edge_collapse.specs.Balances.{sums_at}
use Rattle.edge_collapse.proofs.outer.add_star.Given as goal

abbrev pub invariant-loop-k : goal.invariant-loop-k
invariant-loop-k l = record {
  walk : IsWalk l.list l.p l.walk;
  few : l.walk.place ≤ 4194304;
  sums : l.balance.items ≡ sums_at (take l.walk.place (filter (has_corner l.p) l.list.mesh)) l.p l.list.vertices;
  capacity : vec_capacity l.fn.balance ≤ vec_capacity l.balance;
}

abbrev pub decreases-loop-k : goal.decreases-loop-k
decreases-loop-k l = length (filter (has_corner l.p) l.list.mesh) - l.walk.place
