-- The walk is at a corner of u, if it hasn't come to the end.
use Rattle.std.proofs.Common.{◌≡◌, true, ◌*◌, length, IfSome, nat_eq}
use Rattle.tpz_base.specs.Lists.{has}
use Rattle.patch_mesh.specs.Slots.{corners_from}
use Rattle.patch_mesh.proofs.NearLaw.{left_of}
use Rattle.patch_mesh.proofs.faces.Faces.shared.Given as goal

abbrev pub invariant-loop-at : goal.invariant-loop-at
invariant-loop-at l = record { own : IfSome l.at (λ c. has nat_eq (corners_from l.u 0 l.self.slots) c ≡ true) }

abbrev pub decreases-loop-at : goal.decreases-loop-at
decreases-loop-at l = left_of (3 * length l.self.slots) l.at
