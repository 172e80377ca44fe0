use Rattle.std.proofs.Common.{◌∙◌, arith}
use Rattle.std.proofs.lemmas.Result.{err_from_is_err_and}
use Rattle.ply_body.proofs.Binds.{then_moves, then_fails}
use Rattle.ply_body.proofs.place.Place.face_in_element.Goals as goal

pub returns-in_err-face-clause-failed : goal.returns-in_err-face-clause-failed
returns-in_err-face-clause-failed g c =
    let p = err_from_is_err_and c.from_residual.result c.from_residual.ensures.1 in
    rw (p.1, p.2) (then_fails c.rows.invariant.moves c.rows.invariant.later c.in_err-face.ensures.failed)

pub returns-in_err-begin_row-clause-failed : goal.returns-in_err-begin_row-clause-failed
returns-in_err-begin_row-clause-failed g c =
    let p = err_from_is_err_and c.from_residual-in_err-begin_row.result c.from_residual-in_err-begin_row.ensures.1 in
    let moves = rw c.in_default.is at c.in_ok-face.ensures.moves in
    rw (p.1, p.2) (then_fails (then_moves c.rows.invariant.moves moves) (omega arith) (c.in_err-begin_row.ensures.failed c.args.vertices))

pub rows-preserved : goal.rows-preserved
rows-preserved g c =
    let moves = rw c.in_default.is at c.in_ok-face.ensures.moves in
    let goes = rw c.in_default.is at c.in_ok-face.ensures.goes in
    let row = c.in_ok-begin_row.ensures in
    record {
      moves = then_moves (then_moves c.rows.invariant.moves moves) (row.moves c.args.vertices);
      counted = row.counted;
      near = λ h. absurd (omega (arith, row.taken));
      behind = row.behind;
      left = omega (arith, row.left, c.in_ok-face.ensures.left);
      next = row.next ∙ (goes.next ∙ c.rows.invariant.next);
      tally = omega (arith, row.tally, goes.tally);
      plain = λ skip none. row.plain (skip (omega (arith, row.left, c.in_ok-face.ensures.left)));
      later = omega arith;
    }
