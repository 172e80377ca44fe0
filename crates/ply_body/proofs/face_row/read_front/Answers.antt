use Rattle.std.proofs.Common.{◌≡◌, ap, drop, Err}
use Rattle.std.proofs.lemmas.Result.{err_from_is_err_and, IfOk-weaker}
use Rattle.ply_body.specs.declared.item_reader.ItemFault.TheVariants.{Flaw}
use Rattle.ply_body.specs.Places.{front_of}
use Rattle.ply_body.proofs.Binds.{same_refused}
use Rattle.ply_body.proofs.Passing.{behind_list, front_refused_at_list, front_refused_before}
use Rattle.ply_body.proofs.face_row.read_front.Goals as goal

pub returns-in-Some-clause-refused : goal.returns-in-Some-clause-refused
returns-in-Some-clause-refused g c = λ flaw is.
    let ps = c.args.properties.now in
    same_refused (front_of ps) (front_of (drop c.front.at ps)) (Err flaw) _ _ c.front.invariant.same
    (λ x told. front_refused_at_list ps c.front.at c.in-Some.count_kind x flaw c.front-test.true c.in-Some.ensures (c.read_list.ensures.refused flaw is x told))

pub returns-in_err-pass-clause-refused : goal.returns-in_err-pass-clause-refused
returns-in_err-pass-clause-refused g c = λ flaw is.
    let p = err_from_is_err_and c.from_residual.result c.from_residual.ensures.1 in
    let same : c.in_err-pass.field-0.0 ≡ Flaw flaw = cc in
    let ps = c.args.properties.now in
    same_refused (front_of ps) (front_of (drop c.front.at ps)) (Err flaw) _ _ c.front.invariant.same
    (λ x told. front_refused_before ps c.front.at x flaw c.front-test.true c.in_default.ensures (c.in_err-pass.ensures.refused flaw (ap Err same) x told))

pub returns-in-Some-clause-behind : goal.returns-in-Some-clause-behind
returns-in-Some-clause-behind g c =
    IfOk-weaker c.read_list.result _ _
    (λ front read. rw read.1 (behind_list c.args.properties.now c.front.at c.in-Some.count_kind c.requires c.front-test.true c.in-Some.ensures)) c.read_list.ensures.taken
