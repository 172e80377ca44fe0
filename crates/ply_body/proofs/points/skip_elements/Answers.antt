use Rattle.std.proofs.Common.{◌≡◌, ◌<◌, ◌∙◌, length, sym, subst, ap, arith, Err}
use Rattle.std.proofs.lemmas.Result.{err_from_is_err_and}
use Rattle.ply_head.specs.Heads.{IsOther}
use Rattle.ply_body.specs.VertexRows.{setting}
use Rattle.ply_body.proofs.Taking.{refused_behind}
use Rattle.ply_body.proofs.Layouts.{element_passed, element_refused, elements_end}
use Rattle.ply_body.proofs.points.skip_elements.Goals as goal

pub returns-in_err-skip_rows-clause-refused : goal.returns-in_err-skip_rows-clause-refused
returns-in_err-skip_rows-clause-refused g c = λ f is refusal vertices behind.
    let p = err_from_is_err_and c.from_residual.result c.from_residual.ensures.1 in
    let fault : c.in_err-skip_rows.field-0.0 ≡ f = cc in
    let below : c.elements.number < length c.args.elements.now = omega arith in
    refused_behind _ _ _ _ _ (c.elements.invariant.passed vertices behind)
    (element_refused c.args.digits vertices c.elements.number c.args.elements.now behind c.index-elements-number.result _ f below c.index-elements-number.is
    (c.in_err-skip_rows.ensures.refused f (ap Err fault) refusal))

pub elements-preserved : goal.elements-preserved
elements-preserved g c =
    let (rows, taken) = c.in_ok-skip_rows.ensures.taken in
    let el = c.index-elements-number.result in
    let below : c.elements.number < length c.args.elements.now = omega arith in
    let other : IsOther el = subst IsOther (sym c.index-elements-number.is) (c.requires.elements c.elements.number el below) in
    record {
      passed = λ vertices behind. c.elements.invariant.passed vertices behind
          ∙ element_passed c.args.digits vertices c.elements.number c.args.elements.now behind el _ _ rows below c.index-elements-number.is other.used taken;
      later = omega (arith, c.elements.invariant.later, c.in_ok-skip_rows.ensures.later);
    }

pub returns-clause-passed : goal.returns-clause-passed
returns-clause-passed g c = λ vertices behind. c.elements.invariant.passed vertices behind
    ∙ elements_end (setting c.args.digits vertices) c.elements.number c.args.elements.now behind _ c.elements-test.false (omega arith)
