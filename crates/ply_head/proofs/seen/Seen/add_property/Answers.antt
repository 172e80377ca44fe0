use Rattle.std.proofs.Common.{refl}
use Rattle.ply_head.proofs.SeenLemmas.{with_last-none}
use Rattle.ply_head.proofs.seen.Seen.add_property.Goals as goal

pub returns-in_default : goal.returns-in_default
returns-in_default c = rw (c.in_default.is, with_last-none c.args.self.now.elements) refl
