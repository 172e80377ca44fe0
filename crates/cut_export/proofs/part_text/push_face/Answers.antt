use Rattle.cut_export.specs.Parts.{face_of}
use Rattle.cut_export.proofs.PartLines.{face_pieces}
use Rattle.cut_export.proofs.part_text.push_face.Goals as goal

pub returns : goal.returns
returns c = cc (face_pieces c.args.buffer.now (face_of c.args.f))
