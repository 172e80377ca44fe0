use Rattle.std.proofs.Common.{◌≡◌, ◌∙◌, ◌<◌, length, ap, Err, arith}
use Rattle.std.proofs.lemmas.Result.{err_from_is_err_and}
use Rattle.ply_body.specs.declared.item_reader.ItemFault.TheVariants as item_fault
use Rattle.ply_body.specs.VertexRows.{setting}
use Rattle.ply_body.proofs.Taking.{refused_behind, row_step, row_refused, row_ends}
use Rattle.ply_body.proofs.row.read_row.Goals as goal

pub returns-in_err-spot-clause-refused : goal.returns-in_err-spot-clause-refused
returns-in_err-spot-clause-refused g c = λ flaw is vertices.
    let p = err_from_is_err_and c.from_residual.result c.from_residual.ensures.1 in
    let fault : c.in_err-spot.field-0.0 ≡ item_fault.Flaw flaw = cc in
    let below : c.row.property-index < length c.args.properties.now = omega arith in
    refused_behind _ _ _ _ _ (c.row.invariant.taken vertices)
    (row_refused (setting c.args.digits vertices) c.args.properties.now c.row.property-index _ _ _ flaw below (c.in_err-spot.ensures.refused flaw (ap Err fault) vertices))

pub row-preserved : goal.row-preserved
row-preserved g c = record {
  taken = λ vertices.
      let below : c.row.property-index < length c.args.properties.now = omega arith in
      c.row.invariant.taken vertices
      ∙ row_step (setting c.args.digits vertices) c.args.properties.now c.row.property-index _ _ _ _ _ below (c.in_ok-spot.ensures.taken vertices);
  small = c.in_ok-spot.ensures.small;
  later = omega (arith, c.row.invariant.later, c.in_ok-spot.ensures.later);
}

pub returns-clause-taken : goal.returns-clause-taken
returns-clause-taken g c = λ vertices.
    c.row.invariant.taken vertices ∙ row_ends (setting c.args.digits vertices) c.args.properties.now c.row.property-index _ _ (omega arith)
