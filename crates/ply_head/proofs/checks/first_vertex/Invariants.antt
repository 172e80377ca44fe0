use Rattle.std.proofs.Common.{◌≡◌, ℕ, ◌<◌, false, get_or}
use Rattle.ply_head.specs.Headers.{Declared, is_vertex}
use Rattle.ply_head.proofs.checks.first_vertex.Given as goal

abbrev pub invariant-loop-i : goal.invariant-loop-i
invariant-loop-i l = (d : Declared) (k : ℕ) → k < l.i → is_vertex (get_or l.elements k d) ≡ false
