use Rattle.std.proofs.Common.{arith}
use Rattle.script_text.proofs.Spellings.{spelled_only}
use Rattle.script_text.proofs.CommandLemmas.{behind_x, behind_y, behind_z, refuses_view, view_is}
use Rattle.script_text.proofs.command.read_view.Goals as goal

pub returns-in_err-x : goal.returns-in_err-x
returns-in_err-x c = rw c.from_residual.ensures (refuses_view c.args.numbers.now (λ line v. c.in_err-x.ensures v.x _ v.bounds.x_near v.text))

pub returns-in_err-y : goal.returns-in_err-y
returns-in_err-y c = rw c.from_residual-in_err-y.ensures (refuses_view c.args.numbers.now (λ line v.
    let rest = behind_x c.args.numbers.now line v c.in_ok-x.x c.in_ok-x.numbers.now c.in_ok-x.ensures.1 c.in_ok-x.ensures.0 in
    c.in_err-y.ensures v.y _ v.bounds.y_near rest.1))

pub returns-in_err-z : goal.returns-in_err-z
returns-in_err-z c = rw c.from_residual-in_err-z.ensures (refuses_view c.args.numbers.now (λ line v.
    let rest = behind_y c.args.numbers.now line v c.in_ok-x.x c.in_ok-y.y c.in_ok-x.numbers.now c.in_ok-y.numbers.now c.in_ok-x.ensures.1 c.in_ok-y.ensures.1 c.in_ok-x.ensures.0 c.in_ok-y.ensures.0 in
    c.in_err-z.ensures v.z _ v.bounds.z_near rest.1))

pub returns-in_err-tol : goal.returns-in_err-tol
returns-in_err-tol c = rw c.from_residual-in_err-tol.ensures (refuses_view c.args.numbers.now (λ line v.
    let rest = behind_z c.args.numbers.now line v c.in_ok-x.x c.in_ok-y.y c.in_ok-z.z c.in_ok-x.numbers.now c.in_ok-y.numbers.now c.in_ok-z.numbers.now
    c.in_ok-x.ensures.1 c.in_ok-y.ensures.1 c.in_ok-z.ensures.1 c.in_ok-x.ensures.0 c.in_ok-y.ensures.0 c.in_ok-z.ensures.0 in
    c.in_err-tol.ensures v.tol v.bounds.tol_fits rest.1))

pub returns : goal.returns
returns c = spelled_only _ _ (view_is c.args.numbers.now c.in_ok-x.numbers.now c.in_ok-y.numbers.now c.in_ok-z.numbers.now c.in_ok-x.x c.in_ok-y.y c.in_ok-z.z c.in_ok-tol.tol
    c.in_ok-x.ensures.1 c.in_ok-y.ensures.1 c.in_ok-z.ensures.1 (omega arith) c.in_ok-x.ensures.0 c.in_ok-y.ensures.0 c.in_ok-z.ensures.0 c.in_ok-tol.ensures)
