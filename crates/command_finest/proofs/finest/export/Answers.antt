use Rattle.std.proofs.Common.{◌∙◌}
use Rattle.command_finest.proofs.FinestItems.{finest_items_are}
use Rattle.command_finest.proofs.finest.export.Goals as goal

pub returns-clause-ok : goal.returns-clause-ok
returns-clause-ok g c =
    rw (finest_items_are c.args.facts c.args.mesh.now c.as_bytes.result.now c.as_slice-vertices.result.now c.requires.numbering (c.as_bytes.ensures.value ∙ c.in_ok-line.ensures) c.as_slice-vertices.ensures.keys)
    at c.write_part_and_note.ensures.ok

pub returns-clause-front : goal.returns-clause-front
returns-clause-front g c =
    rw (finest_items_are c.args.facts c.args.mesh.now c.as_bytes.result.now c.as_slice-vertices.result.now c.requires.numbering (c.as_bytes.ensures.value ∙ c.in_ok-line.ensures) c.as_slice-vertices.ensures.keys)
    at c.write_part_and_note.ensures.front
