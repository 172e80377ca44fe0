use Rattle.ply_head.proofs.Places.{last_read}
use Rattle.ply_head.proofs.checks.is_in_face.Goals as goal

pub returns-in-len1-up : goal.returns-in-len1-up
returns-in-len1-up c =
    let last = last_read c.args.elements.now c.last-item.result c.in-len1-up.len_at_least c.last-item.is in
    rw (last, ← c.as_slice.ensures) c.is_word.ensures
