use Rattle.tpz_base.specs.Diamonds.{level_of}
use Rattle.tetra_name.specs.Names.{point_of}
use Rattle.diamond_graph.proofs.AddingLaw.{IsPartway}
use Rattle.diamond_graph.proofs.ancestors.+add_with_ancestors.Given as goal

abbrev pub decreases-add_with_ancestors : goal.decreases-add_with_ancestors
decreases-add_with_ancestors l = level_of l.l (point_of l.c)

abbrev pub invariant-parents : goal.invariant-parents
invariant-parents l = IsPartway l.l l.p l.initial.centres.keys l.centres.keys l.parents l.i
