-- The bench isn't simplified while triangles are added.
use Rattle.std.proofs.Common.{◌≡◌, false}
use Rattle.library_tests.proofs.collapses.bench_with.Given as goal

abbrev pub invariant-loop-t : goal.invariant-loop-t
invariant-loop-t g l = l.bench.simplified ≡ false
