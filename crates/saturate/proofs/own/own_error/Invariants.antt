use Rattle.std.proofs.Common.{◌≡◌, take}
use Rattle.saturate.specs.Raised.{greatest_length}
use Rattle.saturate.proofs.own.own_error.Given as goal

abbrev pub invariant-loop-m : goal.invariant-loop-m
invariant-loop-m l = l.own ≡ greatest_length (take l.m-index l.moves)
