use Rattle.std.proofs.Common.{rules, ◌≡◌, ◌≢◌, ap, Err}
use Rattle.std.proofs.lemmas.Result.{err_from_is_err_and}
use Rattle.ply_head.specs.Heads.{IsSkipped}
use Rattle.ply_head.specs.declared.element.Role.TheVariants.{Skip}
use Rattle.ply_body.specs.declared.item_reader.ItemFault.TheVariants as item_fault
use Rattle.ply_body.specs.Spots.{row_of}
use Rattle.ply_body.specs.VertexRows.{setting, used_row}
use Rattle.ply_body.proofs.Taking.{coordinate_refused, unused_refused, unused_taken}
use Rattle.ply_body.proofs.row.read_property.Goals as goal

pub returns-in_err-pass-clause-refused : goal.returns-in_err-pass-clause-refused
returns-in_err-pass-clause-refused g c = λ flaw is vertices.
    let p = err_from_is_err_and c.from_residual.result c.from_residual.ensures.1 in
    let fault : c.in_err-pass.field-0.0 ≡ item_fault.Flaw flaw = cc in
    let skip : IsSkipped c.args.property.now = search rules in
    unused_refused (setting c.args.digits vertices) c.args.property.now (used_row (row_of c.args.spot)) _ flaw skip (c.in_err-pass.ensures.refused flaw (ap Err fault))

pub returns-then-eq-clause-taken : goal.returns-then-eq-clause-taken
returns-then-eq-clause-taken g c = λ vertices.
    let skip : IsSkipped c.args.property.now = search rules in
    unused_taken (setting c.args.digits vertices) c.args.property.now (used_row (row_of c.args.spot)) _ _ skip c.in_ok-pass.ensures.taken

pub returns-in_err-value-clause-refused : goal.returns-in_err-value-clause-refused
returns-in_err-value-clause-refused g c = λ flaw is vertices.
    let p = err_from_is_err_and c.from_residual-in_err-value.result c.from_residual-in_err-value.ensures.1 in
    let fault : c.in_err-value.field-0.0 ≡ item_fault.Flaw flaw = cc in
    let used : c.args.property.now.role ≢ Skip = search rules in
    coordinate_refused (setting c.args.digits vertices) c.args.property.now (used_row (row_of c.args.spot)) _ flaw c.requires.property used
    (c.in_err-value.ensures.refused flaw (ap Err fault))
