use Rattle.std.proofs.Common.{◌≡◌, Err}
use Rattle.std.proofs.lemmas.Result.{err_from_is_err_and}
use Rattle.ply_body.specs.declared.item_reader.ItemFault.TheVariants as item_fault
use Rattle.ply_body.proofs.item_reader.take_item.Goals as goal

pub returns-in_err-next_field-clause-refused : goal.returns-in_err-next_field-clause-refused
returns-in_err-next_field-clause-refused g c flaw is =
    let p = err_from_is_err_and c.from_residual-in_err-next_field.result c.from_residual-in_err-next_field.ensures.1 in
    let same : c.next_field.result ≡ Err (item_fault.Flaw flaw) = cc in
    c.next_field.ensures.refused flaw same
