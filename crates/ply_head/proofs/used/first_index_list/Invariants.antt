use Rattle.std.proofs.Common.{◌≡◌, ℕ, ◌<◌, false, get_or}
use Rattle.ply_head.specs.Headers.{Named, is_index_list}
use Rattle.ply_head.proofs.used.first_index_list.Given as goal

abbrev pub invariant-loop-i : goal.invariant-loop-i
invariant-loop-i l = (d : Named) (k : ℕ) → k < l.i → is_index_list (get_or l.named k d) ≡ false
