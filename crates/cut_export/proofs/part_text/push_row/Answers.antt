use Rattle.cut_export.specs.Parts.{row_at}
use Rattle.cut_export.proofs.PartLines.{row_steps, passed}
use Rattle.cut_export.proofs.part_text.push_row.Goals as goal

pub returns : goal.returns
returns c =
    row_steps c.args.buffer.now _ _ _ _ _ _ (row_at c.args.x c.args.y c.args.z) (passed _ _ _ c.ranges.x c.push_signed.ensures.bytes)
    c.push.ensures.bytes (passed _ _ _ c.ranges.y c.push_signed-2.ensures.bytes) c.push-2.ensures.bytes
    (passed _ _ _ c.ranges.z c.push_signed-3.ensures.bytes) c.push-3.ensures.bytes
