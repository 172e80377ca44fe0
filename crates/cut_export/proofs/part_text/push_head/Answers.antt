use Rattle.cut_export.proofs.PartLines.{head_pieces}
use Rattle.cut_export.proofs.part_text.push_head.Goals as goal

pub returns : goal.returns
returns c = cc (head_pieces c.args.buffer.now c.args.digits c.args.vertices c.args.faces)
