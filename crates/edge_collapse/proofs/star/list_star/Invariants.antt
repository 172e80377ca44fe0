-- The triangles so far are listed.
use Rattle.std.proofs.Common.{◌≡◌, ◌≤◌, ◌-◌, take, length, map, vec_capacity, vec_len}
use Rattle.std.specs.Prelude.{All, filter}
use Rattle.tpz_base.specs.Meshes.{has_corner}
use Rattle.patch_mesh.specs.Walks.{IsWalk}
use Rattle.edge_collapse.specs.Sweeps.{star_face, IsStarFace}
use Rattle.edge_collapse.proofs.star.list_star.Given as goal

abbrev pub invariant-loop-k : goal.invariant-loop-k
invariant-loop-k l = record {
  walk : IsWalk l.list l.p l.walk;
  few : l.walk.place ≤ 4194304;
  faces : l.faces.items ≡ map (star_face l.p) (take l.walk.place (filter (has_corner l.p) l.list.mesh));
  good : All (IsStarFace l.p) l.faces.items;
  listed : vec_len l.faces ≤ l.walk.place;
  capacity : vec_capacity l.fn.faces ≤ vec_capacity l.faces;
}

abbrev pub decreases-loop-k : goal.decreases-loop-k
decreases-loop-k l = length (filter (has_corner l.p) l.list.mesh) - l.walk.place
