-- The next node of the star.
use Rattle.patch_mesh.proofs.NearLaw.{own_live, next_own}
use Rattle.patch_mesh.proofs.faces.Faces.behind.Goals as goal

pub next-next-requires : goal.next-next-requires
next-next-requires c = own_live c.args.v c.args.self.now.slots c.args.c c.requires

pub returns-then-next-c-clause-own : goal.returns-then-next-c-clause-own
returns-then-next-c-clause-own c = next_own c.args.v c.args.self.now.slots c.args.c c.next-next.result c.requires c.next-next.ensures
