use Rattle.std.proofs.Common.{◌≡◌, ◌∙◌, arith, ap}
use Rattle.std.specs.Prelude.{unsigned_abs}
use Rattle.script_text.proofs.CommandLemmas.{parsed_coordinate, same_bits, same_text}
use Rattle.script_text.proofs.command.coordinate.Goals as goal
use Rattle.script_text.proofs.command.coordinate.Goals.{else-eq-via-then-eq+else-unsigned_abs-le-FARTHEST, else-eq-via-else-eq}

pub returns-in_err-z : goal.returns-in_err-z
returns-in_err-z c = rw c.from_residual.ensures (λ z near is.
    let parsed = parsed_coordinate c.args.word.now c.parse.result c.parse.ensures.value.0 z near is in
    let none = c.in_err-z.was in
    let value = c.ok.ensures.value in
    cc)

pub returns-else-eq : goal.returns-else-eq
returns-else-eq c = λ z near is.
    let parsed = parsed_coordinate c.args.word.now c.parse.result c.parse.ensures.value.0 z near is in
    let some = c.in_ok-z.was in
    let value = c.ok.ensures.value in
    let same : z ≡ c.in_ok-z.z = cc in
    elim c.else-eq.branch [
      | else-eq-via-then-eq+else-unsigned_abs-le-FARTHEST w ↦
          let back = ap unsigned_abs (same_bits z c.in_ok-z.z near same) in
          let size : w.unsigned_abs.result ≡ unsigned_abs z = w.unsigned_abs.ensures.value ∙ back in
          omega (arith, w.if-unsigned_abs-le-FARTHEST.false)
      | else-eq-via-else-eq w ↦
          let equal = same_text c.args.word.now c.format.result.now z c.in_ok-z.z near same is c.format.ensures.text in
          let tested = c.eq.ensures in
          let failed = w.if-eq.false in
          cc
    ]
