use Rattle.cut_export.specs.Parts.{row_of}
use Rattle.cut_export.proofs.Exports.{numbered_text}
use Rattle.cut_export.proofs.Pieces.{text_written}
use Rattle.cut_export.proofs.part_text.write_text.Goals as goal

pub returns-clause-bytes : goal.returns-clause-bytes
returns-clause-bytes g c =
    rw (← numbered_text c.args.digits (row_of c.args.low.now) c.args.mesh.now c.requires.numbering)
    (rw (← c.as_slice-vertices.ensures.keys, ← c.as_slice-faces.ensures.value)
    (text_written c.args.digits (row_of c.args.low.now) c.as_slice-vertices.result.now c.as_slice-faces.result.now _ _ _ _ _ _ _ _
    c.requires.empty c.push_head.ensures c.in_ok-write_vertices.ensures.bytes c.in_ok-write_faces.ensures.bytes c.in_ok-flush.ensures.bytes))
