use Rattle.cut_export.specs.Numbering.{numbered_mesh}
use Rattle.cut_export.specs.Parts.{row_of}
use Rattle.mesh_output.proofs.Exports.{part_alone, part_and_note, none_yet, whole_front}
use Rattle.mesh_output.proofs.export.write_part_and_note.Goals as goal

pub returns-in_err-write_numbered-clause-front : goal.returns-in_err-write_numbered-clause-front
returns-in_err-write_numbered-clause-front g c = none_yet _ _ _ _ _ c.in_err-write_numbered.ensures.err c.write_numbered.ensures.notes

pub returns-in_err-note-clause-front : goal.returns-in_err-note-clause-front
returns-in_err-note-clause-front g c =
    part_alone c.args.digits (row_of c.args.low) (numbered_mesh c.args.mesh.now) c.args.line.now _ _ _ _ _ _ c.in_ok-write_numbered.ensures.part c.write_numbered.ensures.notes
    c.note.ensures.parts c.in_err-note.ensures.notes

pub returns-clause-ok : goal.returns-clause-ok
returns-clause-ok g c =
    part_and_note c.args.digits (row_of c.args.low) (numbered_mesh c.args.mesh.now) c.args.line.now _ _ _ _ _ _ c.in_ok-write_numbered.ensures.part c.write_numbered.ensures.notes
    c.note.ensures.parts c.in_ok-note.ensures.line

pub returns-clause-front : goal.returns-clause-front
returns-clause-front g c = whole_front _ _ _ _ _ _ _ _ (returns-clause-ok g c)
