-- The note alone is written.
use Rattle.std.proofs.Common.{◌∙◌}
use Rattle.command_info.proofs.InfoLemmas.{note_written}
use Rattle.command_info.proofs.info.write_note.Goals as goal

pub returns-in-Ok-clause-ok : goal.returns-in-Ok-clause-ok
returns-in-Ok-clause-ok g c =
    note_written c.params.result.now c.args.reader.now.params c.records.result _ c.bytes.result _ c.as_bytes.result.now _ _ _ _ (c.as_bytes.ensures.value ∙ c.in_ok-line.ensures)
    c.params.ensures c.records.ensures c.bytes.ensures c.note.ensures.parts c.in-Ok.ensures.line
