use Rattle.std.proofs.Common.{◌-◌, ◌*◌}
use Rattle.tpz_base.specs.Diamonds.{level_of}
use Rattle.tetra_name.specs.Names.{point_of}
use Rattle.diamond_graph.specs.Graphs.{centres}
use Rattle.assign.proofs.LeafLaw.{IsOnWay}
use Rattle.assign.proofs.leaf.leaf_of.Given as goal

abbrev pub invariant-way : goal.invariant-way
invariant-way l = IsOnWay l.l (centres l.graph) l.t l.name

abbrev pub decreases-way : goal.decreases-way
decreases-way l = 3 * l.l - level_of l.l (point_of l.name.centre)
