use Rattle.std.proofs.Common.{◌≡◌, ◌∙◌, List, ap, subst, sym, Err}
use Rattle.ply_head.specs.declared.element.Property.{Property}
use Rattle.ply_body.specs.Items.{items_told}
use Rattle.ply_body.specs.Spots.{row_of}
use Rattle.ply_body.specs.VertexRows.{RefusesRow, TakesRow}
use Rattle.ply_body.proofs.RowsSoFar.{row_fault_is}
use Rattle.ply_body.proofs.points.take_row.Goals as goal

pub returns-in-Err-clause-refused : goal.returns-in-Err-clause-refused
returns-in-Err-clause-refused g c = λ f is refusal.
    let told = items_told c.args.items.now (g.I.Source.left c.args.src.now) in
    let same : c.fault_at.result ≡ f = cc in
    row_fault_is _ _ _ _ _ c.in-Err.fault f (sym c.fault_at.ensures ∙ same) refusal
    (λ flaw at. subst (λ (ps : List Property). RefusesRow c.args.digits ps told flaw) c.properties.ensures (c.in-Err.ensures.refused flaw (ap Err at)))

pub returns-in-Ok-clause-taken : goal.returns-in-Ok-clause-taken
returns-in-Ok-clause-taken g c =
    let old = items_told c.args.items.now (g.I.Source.left c.args.src.now) in
    let new = items_told c.read_row.new.items (g.I.Source.left c.read_row.new.src) in
    subst (λ (ps : List Property). TakesRow c.args.digits ps old (row_of c.in-Ok.spot) new) c.properties.ensures c.in-Ok.ensures.taken
