use Rattle.std.proofs.Common.{◌≡◌, Err, sym, ◌∙◌}
use Rattle.std.proofs.lemmas.Result.{err_from_is_err_and}
use Rattle.ply_body.specs.declared.item_reader.ItemFault.TheVariants as item_fault
use Rattle.ply_body.specs.Items.{coordinate_of}
use Rattle.ply_body.proofs.ItemLemmas.{not_taken, meaningless}
use Rattle.ply_body.proofs.item_reader.ItemReader.coordinate.Goals as goal

pub returns-in_err-item-clause-refused : goal.returns-in_err-item-clause-refused
returns-in_err-item-clause-refused g c flaw is =
    let p = err_from_is_err_and c.from_residual.result c.from_residual.ensures.1 in
    let same : c.next_item.result ≡ Err (item_fault.Flaw flaw) = cc in
    not_taken (coordinate_of c.args.digits) c.args.kind _ flaw (c.next_item.ensures.refused flaw same)

pub returns-in_err-coordinate_of-clause-refused : goal.returns-in_err-coordinate_of-clause-refused
returns-in_err-coordinate_of-clause-refused g c flaw is =
    let p = err_from_is_err_and c.from_residual-in_err-coordinate_of.result c.from_residual-in_err-coordinate_of.ensures.1 in
    let same : c.coordinate_of.result ≡ Err flaw = cc in
    meaningless (coordinate_of c.args.digits) c.args.kind _ _ _ flaw c.in_ok-item.ensures.taken (sym c.coordinate_of.ensures.coordinate ∙ same)
