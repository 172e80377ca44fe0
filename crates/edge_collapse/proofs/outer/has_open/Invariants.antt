-- No triangle so far has such an edge.
use Rattle.std.proofs.Common.{◌≡◌, ◌≤◌, ◌-◌, take, length, false}
use Rattle.std.specs.Prelude.{filter}
use Rattle.std.specs.List.{list_any}
use Rattle.tpz_base.specs.Meshes.{has_corner}
use Rattle.patch_mesh.specs.Shops.{opens_at}
use Rattle.patch_mesh.specs.Walks.{IsWalk}
use Rattle.edge_collapse.proofs.outer.has_open.Given as goal

abbrev pub invariant-loop-k : goal.invariant-loop-k
invariant-loop-k l = record {
  walk : IsWalk l.list l.p l.walk;
  few : l.walk.place ≤ 4194304;
  none : list_any (opens_at l.list.mesh l.p) (take l.walk.place (filter (has_corner l.p) l.list.mesh)) ≡ false;
}

abbrev pub decreases-loop-k : goal.decreases-loop-k
decreases-loop-k l = length (filter (has_corner l.p) l.list.mesh) - l.walk.place
