use Rattle.std.proofs.Common.{◌∙◌, arith}
use Rattle.std.proofs.lemmas.Result.{err_from_is_err_and}
use Rattle.ply_body.proofs.Binds.{then_moves, then_fails}
use Rattle.ply_body.proofs.place.Place.face_in_row.Goals as goal

pub returns-in-Some-clause-moves : goal.returns-in-Some-clause-moves
returns-in-Some-clause-moves g c =
    let moves = rw c.in-Some.is at c.in_ok-face.ensures.moves in
    then_moves c.corners.invariant.moves (moves c.args.properties.now)

pub corners-preserved : goal.corners-preserved
corners-preserved g c =
    let moves = rw c.in_default.is at c.in_ok-face.ensures.moves in
    let goes = rw c.in_default.is at c.in_ok-face.ensures.goes in
    record {
      moves = then_moves c.corners.invariant.moves (moves c.args.properties.now);
      counted = goes.counted;
      near = goes.corners;
      behind = c.in_ok-face.ensures.behind ∙ c.corners.invariant.behind;
      left = c.in_ok-face.ensures.left ∙ c.corners.invariant.left;
      next = goes.next ∙ c.corners.invariant.next;
      tally = omega (arith, goes.tally);
      less = omega (arith, c.in_ok-face.ensures.taken);
      later = omega arith;
    }

pub returns-in_err-face-clause-failed : goal.returns-in_err-face-clause-failed
returns-in_err-face-clause-failed g c =
    let p = err_from_is_err_and c.from_residual.result c.from_residual.ensures.1 in
    rw (p.1, p.2) (then_fails c.corners.invariant.moves c.corners.invariant.later (c.in_err-face.ensures.failed c.args.properties.now))

pub returns-clause-moves : goal.returns-clause-moves
returns-clause-moves g c = then_moves c.corners.invariant.moves (c.in_ok-end_row.ensures.moves c.args.vertices)

pub returns-in_err-end_row-clause-failed : goal.returns-in_err-end_row-clause-failed
returns-in_err-end_row-clause-failed g c =
    let p = err_from_is_err_and c.from_residual-in_err-end_row.result c.from_residual-in_err-end_row.ensures.1 in
    rw (p.1, p.2) (then_fails c.corners.invariant.moves c.corners.invariant.later (c.in_err-end_row.ensures.failed c.args.vertices))
