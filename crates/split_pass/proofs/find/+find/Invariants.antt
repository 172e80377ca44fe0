-- The levels that are left.
use Rattle.std.proofs.Common.{◌-◌, ◌*◌}
use Rattle.tpz_base.specs.Diamonds.{level_of}
use Rattle.tetra_name.specs.Names.{point_of}
use Rattle.split_pass.proofs.find.+find.Given as goal

abbrev pub decreases-find : goal.decreases-find
decreases-find g l = 3 * l.l - level_of l.l (point_of l.name.centre)
