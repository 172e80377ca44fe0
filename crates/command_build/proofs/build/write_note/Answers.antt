-- The note alone is written.
use Rattle.std.proofs.Common.{◌∙◌}
use Rattle.mesh_output.proofs.Exports.{one_note}
use Rattle.command_build.proofs.build.write_note.Goals as goal

pub returns-in-Ok-clause-ok : goal.returns-in-Ok-clause-ok
returns-in-Ok-clause-ok g c = one_note c.as_bytes.result.now _ _ _ _ _ (c.as_bytes.ensures.value ∙ c.in_ok-line.ensures) c.note.ensures.parts c.in-Ok.ensures.line
