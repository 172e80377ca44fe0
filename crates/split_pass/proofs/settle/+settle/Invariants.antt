-- The levels that are left.
use Rattle.std.proofs.Common.{◌-◌, ◌*◌}
use Rattle.tpz_base.specs.Diamonds.{level_of}
use Rattle.tetra_name.specs.Names.{point_of}
use Rattle.split_pass.proofs.settle.+settle.Given as goal

abbrev pub decreases-settle : goal.decreases-settle
decreases-settle g l = 3 * l.l - level_of l.l (point_of l.name.centre)
