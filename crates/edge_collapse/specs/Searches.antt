-- What a search for legal pairs keeps between two collapses.
use Rattle.std.specs.Prelude.{◌≡◌, ◌≤◌, map, length, vec_capacity}
use Rattle.tpz_base.specs.Meshes.{is_outer}
use Rattle.patch_mesh.specs.Shops.{Shop}
use Rattle.edge_collapse.specs.declared.search.Search.{Search}
use Rattle.edge_collapse.specs.Feeds.{IsFed, AreSane}

-- which vertices are outer is known, and there is room for an entry of each vertex, the triangles at one, and the points near a collapse
pub record IsRoomy (s : Shop) (x : Search) : Type 0 where
  pub long : length s.vertices ≤ length x.queue
  pub outer : x.outer.items ≡ map (is_outer s.mesh) s.vertices
  pub faces : length s.mesh ≤ vec_capacity x.faces
  pub near : length s.mesh ≤ vec_capacity x.near

-- the entry of each vertex covers its legal pairs
pub record IsReady (s : Shop) (x : Search) : Type 0 where
  pub roomy : IsRoomy s x
  pub fed : IsFed s.vertices s.mesh x.queue
  pub sane : AreSane s.vertices x.queue

-- no room is lost, and which vertices are outer stays
pub record KeepsRoom (a b : Search) : Type 0 where
  pub queue : length b.queue ≡ length a.queue
  pub outer : b.outer.items ≡ a.outer.items
  pub outer_room : vec_capacity a.outer ≤ vec_capacity b.outer
  pub faces : vec_capacity a.faces ≤ vec_capacity b.faces
  pub near : vec_capacity a.near ≤ vec_capacity b.near
