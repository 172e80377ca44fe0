-- The way back stays in the walk, and each node is lower than the one before.
use Rattle.std.proofs.Common.{◌≡◌, true, nat_eq}
use Rattle.tpz_base.specs.Lists.{has}
use Rattle.star_ring.specs.Rings.{ring_of, read_from}
use Rattle.corner_stars.proofs.places.below.Given as goal

abbrev pub invariant-loop-a : goal.invariant-loop-a
invariant-loop-a l = record { own : has nat_eq (read_from l.first (ring_of l.ring.rings l.first)) l.a ≡ true }

abbrev pub decreases-loop-a : goal.decreases-loop-a
decreases-loop-a l = l.a
