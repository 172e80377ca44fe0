use Rattle.std.proofs.Common.{◌≡◌, ap, drop, Err}
use Rattle.std.proofs.lemmas.Result.{err_from_is_err_and}
use Rattle.ply_body.specs.declared.item_reader.ItemFault.TheVariants.{Flaw}
use Rattle.ply_body.specs.Items.{passed}
use Rattle.ply_body.proofs.Binds.{same_refused}
use Rattle.ply_body.proofs.Passing.{passed_refused}
use Rattle.ply_body.proofs.unused.pass_all.Goals as goal

pub returns-in_err-pass-clause-refused : goal.returns-in_err-pass-clause-refused
returns-in_err-pass-clause-refused g c = λ flaw is.
    let p = err_from_is_err_and c.from_residual.result c.from_residual.ensures.1 in
    let same : c.in_err-pass.field-0.0 ≡ Flaw flaw = cc in
    let ps = c.args.properties.now in
    let i = c.properties.property-index in
    same_refused (passed ps) (passed (drop i ps)) (Err flaw) _ _ c.properties.invariant.passes
    (λ x told. passed_refused ps i x flaw c.properties-test.true (c.in_err-pass.ensures.refused flaw (ap Err same) x told))
