-- Triangles by their roots.
use Rattle.std.specs.Prelude.{ℕ, Bool, not}
use Rattle.tpz_base.specs.declared.shape.Tri.{Tri}
use Rattle.tpz_base.specs.Roots.{is_in_root}

-- t isn't in the root at this place
unfoldable pub is_outside : ℕ → Tri → Bool
is_outside place t = not (is_in_root place t)
