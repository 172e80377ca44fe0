use Rattle.tetra_name.specs.Names.{point_of, IsCentre, IsName}
use Rattle.library_tests.proofs.leaves.last_of.Given as goal

abbrev pub invariant-levels : goal.invariant-levels
invariant-levels g l = IsName l.l l.name × IsCentre l.l (point_of l.name.centre)
