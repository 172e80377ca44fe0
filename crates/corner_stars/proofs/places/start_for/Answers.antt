-- The first node isn't above the new one.
use Rattle.corner_stars.proofs.StarRise.{passed_first}
use Rattle.corner_stars.proofs.places.start_for.Goals as goal

pub returns-in-None : goal.returns-in-None
returns-in-None c = passed_first c.args.ring.now.rings c.args.first c.args.c c.requires.least
