use Rattle.std.proofs.Common.{◌≡◌, refl, ap, Err}
use Rattle.std.proofs.lemmas.Result.{err_from_is_err_and}
use Rattle.ply_body.specs.declared.item_reader.ItemFault.TheVariants.{Flaw}
use Rattle.ply_body.specs.Items.{item_as, count_of, pass_one, skipped}
use Rattle.ply_body.proofs.Binds.{takes_same, same_refused}
use Rattle.ply_body.proofs.unused.pass.Goals as goal

pub returns-in-None-clause-refused : goal.returns-in-None-clause-refused
returns-in-None-clause-refused g c = λ flaw is x told. rw c.in-None.is (c.skip.ensures.refused flaw is x told)

pub returns-in_err-count-clause-refused : goal.returns-in_err-count-clause-refused
returns-in_err-count-clause-refused g c = λ flaw is x told.
    let p = err_from_is_err_and c.from_residual.result c.from_residual.ensures.1 in
    let same : c.in_err-count.field-0.0 ≡ Flaw flaw = cc in
    rw (c.in-Some.is, c.in_err-count.ensures.refused flaw (ap Err same) x told) refl

pub returns-clause-refused : goal.returns-clause-refused
returns-clause-refused g c = λ flaw is.
    let p = c.args.property.now in
    same_refused (pass_one p) (λ i. skipped p.kind c.in_ok-count.count i) (Err flaw) _ _
    (takes_same (item_as count_of c.in-Some.count_kind) c.in_ok-count.count _ _ _ _ c.in_ok-count.ensures.taken (λ o n e. rw (c.in-Some.is, e) refl))
    (c.skip-2.ensures.refused flaw is)
