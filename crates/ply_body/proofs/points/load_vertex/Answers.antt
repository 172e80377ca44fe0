use Rattle.std.proofs.Common.{◌≡◌, ◌∙◌, sym, ap, inl, Err}
use Rattle.std.proofs.lemmas.Result.{err_from_is_err_and}
use Rattle.ply_body.proofs.CubeRows.{small_hull}
use Rattle.ply_body.proofs.SpotRows.{where_ok}
use Rattle.ply_body.proofs.points.load_vertex.Goals as goal

pub returns-in_err-hull-clause-refused : goal.returns-in_err-hull-clause-refused
returns-in_err-hull-clause-refused g c = λ f is refusal.
    let p = err_from_is_err_and c.from_residual.result c.from_residual.ensures.1 in
    let fault : c.in_err-hull.field-0.0 ≡ f = cc in
    inl (c.in_err-hull.ensures.refused f (ap Err fault) refusal)

pub frame_of-requires-clause-low : goal.frame_of-requires-clause-low
frame_of-requires-clause-low g c =
    let (rows, count, are, taken) = c.in_ok-hull.ensures.rows in
    small_hull c.in_ok-hull.hull rows are.hull are.small

pub returns-in-None-clause-rows : goal.returns-in-None-clause-rows
returns-in-None-clause-rows g c =
    let (rows, count, are, taken) = c.in_ok-hull.ensures.rows in
    let all = count ∙ sym c.row_count-count.ensures in
    let narrow = sym (c.too_wide.ensures.first rows are.hull) ∙ c.in-None.is in
    (rows, c.frame_of.ensures.frame rows are.hull all narrow are.small, narrow, where_ok _ c.flush.result (sym c.if-is_err.ensures.value) c.flush.ensures.kept rows all are.kept, taken)

pub returns-in-None-clause-vertices : goal.returns-in-None-clause-vertices
returns-in-None-clause-vertices g c =
    let (rows, count, are, taken) = c.in_ok-hull.ensures.rows in
    let all = count ∙ sym c.row_count-count.ensures in
    let narrow = sym (c.too_wide.ensures.first rows are.hull) ∙ c.in-None.is in
    (c.frame_of.ensures.frame rows are.hull all narrow are.small).vertices ∙ count
