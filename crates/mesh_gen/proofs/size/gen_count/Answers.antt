use Rattle.mesh_gen.proofs.Places.{generated_length}
use Rattle.mesh_gen.proofs.Sums.{generated_closed}
use Rattle.mesh_gen.proofs.size.gen_count.Goals as goal

pub returns-clause-count : goal.returns-clause-count
returns-clause-count c = generated_length c.args.n

pub returns-clause-closed : goal.returns-clause-closed
returns-clause-closed c = generated_closed c.args.n
