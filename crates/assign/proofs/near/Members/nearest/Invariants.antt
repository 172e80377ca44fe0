use Rattle.tpz_base.specs.Tetrahedra.{members}
use Rattle.tetra_name.specs.Names.{point_of}
use Rattle.assign.specs.Near.{IsNearest}
use Rattle.assign.specs.Sums.{point_at}
use Rattle.assign.proofs.near.Members.nearest.Given as goal

abbrev pub invariant-members : goal.invariant-members
invariant-members l = IsNearest (point_at l.sum) (members l.self-inside.l (point_of l.self-inside.centre)) l.slot l.best
