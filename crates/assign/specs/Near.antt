-- A member's slot with its distance.
use Rattle.std.specs.Prelude.{◌≡◌, ◌<◌, ℕ, List, take, slice_get, nat_lt, if◌then◌else◌, IfSome}
use Rattle.std.specs.List.{reduce}
use Rattle.tpz_base.specs.declared.shape.Point.{Point}
use Rattle.tpz_base.specs.Tetrahedra.{Tetrahedron}
use Rattle.assign.specs.declared.near.Near.{Near}
use Rattle.assign.specs.Leaf.{centre_dist, nearer}

-- the second where its distance is strictly less, and else the first
abbrev pub nearer_of : Near → Near → Near
nearer_of a b = if nat_lt b.distance a.distance then b else a

-- a stands for the nearest of the first n members, for a triangle with the corners' sum p
pub record IsNearest (p : Point) (ms : List Tetrahedron) (n : ℕ) (a : Near) : Type 0 where
  pub is : reduce (nearer p) (take n ms) ≡ slice_get ms a.slot
  pub distance : IfSome (slice_get ms a.slot) (λ T. a.distance ≡ centre_dist p T)
  pub low : a.slot < n
