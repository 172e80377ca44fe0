-- The plane that bisects a tetrahedron, as callers see it, and what is kept of it.
use Rattle.std.specs.Prelude.{ℕ, ◌≡◌, ◌<◌, ◌-◌, ◌*◌, ◌/◌, ◌%◌, Option}
use Rattle.tpz_base.specs.Diamonds.{level_of}
use Rattle.tetra_name.specs.declared.shape.Half.{Half}
use Rattle.tetra_name.specs.declared.shape.Tet.{Tet}
use Rattle.tetra_name.specs.Names.{over, point_of, IsBound, IsName}
use Rattle.assign.specs.Leans.{middle_step}

-- the tetrahedron with this name, in a cube of 2 ^ l whole units
pub record Bisected : Type 0 where
  pub name : Tet
  pub l : ℕ

-- the centre in units of its level, and the axis of the middle one of three steps
pub record IsPlane (L : ℕ) (t : Tet) (unit : Half) (axis : Option ℕ) : Type 0 where
  pub bound : IsBound L
  pub named : IsName L t
  pub above : level_of L (point_of t.centre) < 3 * L
  pub units : point_of unit ≡ over (L - level_of L (point_of t.centre) / 3) (point_of t.centre)
  pub steps : axis ≡ middle_step (level_of L (point_of t.centre) % 3) (point_of unit) t.slot
