-- The roots so far are named, and nothing else.
use Rattle.split_pass.proofs.RootNames.{NamesFirst}
use Rattle.split_pass.proofs.root.set_roots.Given as goal

abbrev pub invariant-slots : goal.invariant-slots
invariant-slots l = NamesFirst l.fn.l l.slot l.fn.ids l.leaves
