use Rattle.std.proofs.Common.{Some, None, lit<}
use Rattle.std.specs.Fmt.{signed_decimal}
use Rattle.std.proofs.lemmas.Str.Pattern.{split_after}
use Rattle.script_text.proofs.NumberWords.{near_fits, no_space}
use Rattle.script_text.proofs.command.first_coordinate.Goals as goal

pub returns-in_err-word : goal.returns-in_err-word
returns-in_err-word c = rw c.from_residual.ensures (λ z rest near is.
    split_after 32 c.args.numbers.now (signed_decimal z) rest None c.in_err-word.ensures.cases (lit< tt) is (no_space z (near_fits z near)))

pub returns-in_err-coordinate : goal.returns-in_err-coordinate
returns-in_err-coordinate c = rw c.from_residual-in_err-coordinate.ensures (λ z rest near is.
    let cut = split_after 32 c.args.numbers.now (signed_decimal z) rest (Some (c.in_ok-word.word, c.in_ok-word.rest)) c.in_ok-word.ensures.cases (lit< tt) is (no_space z (near_fits z near)) in
    c.in_err-coordinate.ensures z near cut.0)
