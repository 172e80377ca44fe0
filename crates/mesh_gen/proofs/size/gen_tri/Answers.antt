use Rattle.std.proofs.Common.{◌∙◌}
use Rattle.mesh_gen.proofs.Places.{tri_at, tri_whole, tri_up_to}
use Rattle.mesh_gen.proofs.size.gen_tri.Goals as goal

pub returns-clause-tri : goal.returns-clause-tri
returns-clause-tri c = (tri_at c.args.n c.args.i c.requires.size c.requires.place).same ∙ c.half_of.ensures

pub returns-clause-whole : goal.returns-clause-whole
returns-clause-whole c = tri_whole c.args.n c.args.i c.half_of.result c.requires.size c.requires.place (returns-clause-tri c)

pub returns-clause-bound : goal.returns-clause-bound
returns-clause-bound c = tri_up_to c.args.n c.args.i c.half_of.result c.requires.size c.requires.place (returns-clause-tri c)
