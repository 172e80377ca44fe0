use Rattle.std.proofs.Common.{◌≡◌, ◌∙◌, ap, Err}
use Rattle.std.proofs.lemmas.Result.{err_from_is_err_and}
use Rattle.ply_body.specs.declared.fault.BodyFault.TheVariants.{WorkFault, WorkDamage}
use Rattle.ply_body.proofs.Layouts.{loaded, refused_before, vertex_refused}
use Rattle.ply_body.proofs.VertexCounts.{vertex_rows}
use Rattle.ply_body.proofs.points.load.Goals as goal

pub returns-in_err-skip_elements-clause-refused : goal.returns-in_err-skip_elements-clause-refused
returns-in_err-skip_elements-clause-refused g c = λ f is refusal.
    let p = err_from_is_err_and c.from_residual.result c.from_residual.ensures.1 in
    let fault : c.in_err-skip_elements.field-0.0 ≡ f = cc in
    refused_before c.args.digits c.vertex_number-number.result c.args.elements.now _ f (c.in_err-skip_elements.ensures.refused f (ap Err fault) refusal)

pub returns-in_err-skip_elements-clause-work : goal.returns-in_err-skip_elements-clause-work
returns-in_err-skip_elements-clause-work g c = λ is.
    let p = err_from_is_err_and c.from_residual.result c.from_residual.ensures.1 in
    let fault : c.in_err-skip_elements.field-0.0 ≡ WorkFault = cc in
    absurd (c.in_err-skip_elements.ensures.device WorkFault (ap Err fault))

pub returns-in_err-skip_elements-clause-damage : goal.returns-in_err-skip_elements-clause-damage
returns-in_err-skip_elements-clause-damage g c = λ offset is.
    let p = err_from_is_err_and c.from_residual.result c.from_residual.ensures.1 in
    let fault : c.in_err-skip_elements.field-0.0 ≡ WorkDamage offset = cc in
    absurd (c.in_err-skip_elements.ensures.device (WorkDamage offset) (ap Err fault))

pub returns-in_err-frame-clause-refused : goal.returns-in_err-frame-clause-refused
returns-in_err-frame-clause-refused g c = λ f is refusal.
    let p = err_from_is_err_and c.from_residual-in_err-frame.result c.from_residual-in_err-frame.ensures.1 in
    let fault : c.in_err-frame.field-0.0 ≡ f = cc in
    vertex_refused c.args.digits c.vertex_number-number.result c.args.elements.now _ _ _ c.index-elements-number.result f c.vertex_number-number.ensures
    c.index-elements-number.is c.in_ok-skip_elements.ensures.passed (c.in_err-frame.ensures.refused f (ap Err fault) refusal)

pub returns-clause-rows : goal.returns-clause-rows
returns-clause-rows g c =
    let (rows, is_frame, narrow, held, taken) = c.in_ok-frame.ensures.rows in (
      rows,
      is_frame,
      loaded c.args.digits c.vertex_number-number.result c.args.elements.now _ _ _ c.index-elements-number.result rows c.vertex_number-number.ensures
          c.index-elements-number.is c.in_ok-skip_elements.ensures.passed taken narrow,
      held,
    )

pub returns-clause-vertices : goal.returns-clause-vertices
returns-clause-vertices g c =
    c.in_ok-frame.ensures.vertices
    ∙ vertex_rows c.vertex_number-number.result c.args.elements.now c.index-elements-number.result c.vertex_number-number.ensures c.index-elements-number.is
