use Rattle.std.proofs.Common.{◌≡◌, ap, Err}
use Rattle.std.proofs.lemmas.Result.{err_from_is_err_and}
use Rattle.ply_body.specs.declared.item_reader.ItemFault.TheVariants.{Flaw}
use Rattle.ply_body.proofs.face_row.read_list.Goals as goal

pub returns-in_err-count-clause-refused : goal.returns-in_err-count-clause-refused
returns-in_err-count-clause-refused g c = λ flaw is.
    let p = err_from_is_err_and c.from_residual.result c.from_residual.ensures.1 in
    let same : c.in_err-count.field-0.0 ≡ Flaw flaw = cc in
    c.in_err-count.ensures.refused flaw (ap Err same)
