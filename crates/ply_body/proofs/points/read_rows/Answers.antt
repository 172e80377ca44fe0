use Rattle.std.proofs.Common.{◌≡◌, ◌+◌, ◌++◌, ◌∷◌, ◌∙◌, ℕ, [], length, refl, sym, ap, arith, Err}
use Rattle.std.proofs.lemmas.List.{length_push}
use Rattle.std.proofs.lemmas.List.Elements.{All-nil, All-push}
use Rattle.std.proofs.lemmas.Result.{err_from_is_err_and}
use Rattle.ply_body.specs.declared.fault.BodyFault.TheVariants.{WorkFault, WorkDamage}
use Rattle.ply_body.specs.Spots.{row_of, IsSmallRow}
use Rattle.ply_body.proofs.SpotRows.{keeps_none, where_ok}
use Rattle.ply_body.proofs.RowsSoFar.{none_read, more_read, all_read, row_is_refused}
use Rattle.ply_body.proofs.points.read_rows.Goals as goal

pub rows-init : goal.rows-init
rows-init g c =
    let empty : length c.args.buffer.now ≡ 0 = ap length c.requires.buffer in
    record {
      taken = ([], refl, record { hull = refl; small = All-nil IsSmallRow; kept = keeps_none _ _ c.requires.buffer }, none_read _ _ _ _ _);
      way = omega (arith, empty);
      input_later = omega arith;
      work_later = omega arith;
      telling = refl;
    }

pub rows-preserved : goal.rows-preserved
rows-preserved g c =
    let (rs, count, are, so_far) = c.rows.invariant.taken in
    let r = row_of c.in_ok-spot.spot in
    let answered = sym c.if-is_err.ensures.value in
    let way = where_ok _ c.add.result answered c.add.ensures.way in
    record {
      taken = (
        rs ++ r ∷ [],
        length_push rs r ∙ ap (λ (n : ℕ). n + 1) count,
        record {
          hull = c.widened.ensures rs are.hull;
          small = All-push IsSmallRow rs r are.small c.in_ok-spot.ensures.small;
          kept = where_ok _ c.add.result answered c.add.ensures.kept rs count are.kept;
        },
        more_read _ _ _ _ _ _ _ rs r so_far c.in_ok-spot.ensures.taken,
      );
      way = way;
      input_later = omega (arith, c.rows.invariant.input_later, c.in_ok-spot.ensures.later);
      work_later = omega (arith, c.rows.invariant.work_later, c.add.ensures.cause.later);
      telling = c.add.ensures.telling ∙ c.rows.invariant.telling;
    }

pub returns-in_err-spot-clause-refused : goal.returns-in_err-spot-clause-refused
returns-in_err-spot-clause-refused g c = λ f is refusal.
    let p = err_from_is_err_and c.from_residual.result c.from_residual.ensures.1 in
    let (rs, count, are, so_far) = c.rows.invariant.taken in
    let fault : c.in_err-spot.field-0.0 ≡ f = cc in
    let refused = c.in_err-spot.ensures.refused f (ap Err fault) refusal in
    row_is_refused c.args.digits c.args.number c.row_count-count.result c.rows.row c.args.element.now _ _ rs f c.row_count-count.ensures so_far count (omega arith) refused

pub returns-in_err-spot-clause-work : goal.returns-in_err-spot-clause-work
returns-in_err-spot-clause-work g c = λ is.
    let p = err_from_is_err_and c.from_residual.result c.from_residual.ensures.1 in
    let fault : c.in_err-spot.field-0.0 ≡ WorkFault = cc in
    absurd (c.in_err-spot.ensures.device WorkFault (ap Err fault))

pub returns-in_err-spot-clause-damage : goal.returns-in_err-spot-clause-damage
returns-in_err-spot-clause-damage g c = λ offset is.
    let p = err_from_is_err_and c.from_residual.result c.from_residual.ensures.1 in
    let fault : c.in_err-spot.field-0.0 ≡ WorkDamage offset = cc in
    c.in_err-spot.ensures.device (WorkDamage offset) (ap Err fault)

pub returns-clause-rows : goal.returns-clause-rows
returns-clause-rows g c =
    let (rs, count, are, so_far) = c.rows.invariant.taken in
    let all : length rs ≡ c.row_count-count.result = omega arith in
    (rs, all ∙ c.row_count-count.ensures, are, all_read c.args.digits c.args.number c.row_count-count.result c.args.element.now _ _ rs c.row_count-count.ensures so_far all)
