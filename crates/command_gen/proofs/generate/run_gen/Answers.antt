use Rattle.mesh_gen.proofs.Sums.{generated_closed}
use Rattle.command_gen.proofs.generate.run_gen.Goals as goal

pub returns-in-Ok-clause-closed : goal.returns-in-Ok-clause-closed
returns-in-Ok-clause-closed g c = generated_closed c.args.size

pub returns-in-Err-OutFault-clause-closed : goal.returns-in-Err-OutFault-clause-closed
returns-in-Err-OutFault-clause-closed g c = generated_closed c.args.size

pub returns-in-Err-Memory-clause-closed : goal.returns-in-Err-Memory-clause-closed
returns-in-Err-Memory-clause-closed g c = generated_closed c.args.size
