use Rattle.std.proofs.Common.{◌≡◌, ℕ, ◌<◌, false, get_or}
use Rattle.ply_head.specs.Headers.{Named, is_scalar}
use Rattle.ply_head.proofs.used.first_scalar.Given as goal

abbrev pub invariant-loop-i : goal.invariant-loop-i
invariant-loop-i l = (d : Named) (k : ℕ) → k < l.i → is_scalar l.name (get_or l.named k d) ≡ false
