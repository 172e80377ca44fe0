use Rattle.std.proofs.Common.{arith, length-take}
use Rattle.tetra_name.proofs.shape.Halves.len.Goals as goal

pub returns-clause-len : goal.returns-clause-len
returns-clause-len c = rw (← c.self.view_is) (simp length-take (omega arith))
