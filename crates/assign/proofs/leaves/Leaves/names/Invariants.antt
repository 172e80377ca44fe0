-- The keys that were yielded have their names, in order.
use Rattle.std.proofs.Common.{◌≡◌, ◌++◌, map}
use Rattle.assign.specs.Names.{name_of}
use Rattle.assign.proofs.leaves.Leaves.names.Given as goal

abbrev pub invariant-keys : goal.invariant-keys
invariant-keys l = l.names.items ++ map name_of l.key-iterator ≡ map name_of l.initial.key-iterator
