use Rattle.std.proofs.Common.{rules}
use Rattle.tetra_name.specs.Names.{power_of}
use Rattle.tetra_name.proofs.centre.power.Goals as goal

pub returns : goal.returns
unfolding power_of
returns c = search rules
