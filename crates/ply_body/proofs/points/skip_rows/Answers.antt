use Rattle.std.proofs.Common.{◌≡◌, ◌+◌, ◌++◌, ◌∷◌, ◌∙◌, ℕ, [], length, refl, ap, arith, Err}
use Rattle.std.proofs.lemmas.List.{length_push}
use Rattle.std.proofs.lemmas.Result.{err_from_is_err_and}
use Rattle.ply_body.specs.Spots.{row_of}
use Rattle.ply_body.proofs.RowsSoFar.{none_read, more_read, all_read, row_is_refused}
use Rattle.ply_body.proofs.points.skip_rows.Goals as goal

pub rows-init : goal.rows-init
rows-init g c = record { taken = ([], refl, none_read _ _ _ _ _); later = omega arith }

pub rows-preserved : goal.rows-preserved
rows-preserved g c =
    let (rs, count, so_far) = c.rows.invariant.taken in
    record {
      taken = (rs ++ row_of c.in_ok-take_row.field-0 ∷ [], length_push rs _ ∙ ap (λ (n : ℕ). n + 1) count, more_read _ _ _ _ _ _ _ rs _ so_far c.in_ok-take_row.ensures.taken);
      later = omega (arith, c.rows.invariant.later, c.in_ok-take_row.ensures.later);
    }

pub returns-in_err-take_row-clause-refused : goal.returns-in_err-take_row-clause-refused
returns-in_err-take_row-clause-refused g c = λ f is refusal.
    let p = err_from_is_err_and c.from_residual.result c.from_residual.ensures.1 in
    let (rs, count, so_far) = c.rows.invariant.taken in
    let fault : c.in_err-take_row.field-0.0 ≡ f = cc in
    let refused = c.in_err-take_row.ensures.refused f (ap Err fault) refusal in
    row_is_refused c.args.digits c.args.number c.row_count-count.result c.rows.row c.args.element.now _ _ rs f c.row_count-count.ensures so_far count (omega arith) refused

pub returns-clause-taken : goal.returns-clause-taken
returns-clause-taken g c =
    let (rs, count, so_far) = c.rows.invariant.taken in
    let all : length rs ≡ c.row_count-count.result = omega arith in
    (rs, all_read c.args.digits c.args.number c.row_count-count.result c.args.element.now _ _ rs c.row_count-count.ensures so_far all)
