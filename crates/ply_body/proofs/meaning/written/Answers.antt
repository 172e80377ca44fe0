use Rattle.std.proofs.Common.{sym, ◌∙◌, ◌≤◌, arith}
use Rattle.std.specs.Prelude.{unsigned_abs}
use Rattle.std.proofs.lemmas.Int.{ints}
use Rattle.ply_body.proofs.MeaningLemmas.{number_fits}
use Rattle.ply_body.proofs.meaning.written.Goals as goal

pub overflow_cast-result : goal.overflow_cast-result
overflow_cast-result c =
    let fits : unsigned_abs c.in-Ok.z ≤ 2147483647 = number_fits c.args.text.now c.args.digits c.in-Ok.z (sym c.read_number.ensures ∙ c.in-Ok.is) in
    grind (arith, ints)

pub returns-in-Ok-clause-coordinate : goal.returns-in-Ok-clause-coordinate
returns-in-Ok-clause-coordinate c =
    let fits : unsigned_abs c.in-Ok.z ≤ 2147483647 = number_fits c.args.text.now c.args.digits c.in-Ok.z (sym c.read_number.ensures ∙ c.in-Ok.is) in
    let is = sym c.read_number.ensures ∙ c.in-Ok.is in
    rw is (grind (arith, ints))

pub returns-in-Ok-clause-fits : goal.returns-in-Ok-clause-fits
returns-in-Ok-clause-fits c =
    let fits : unsigned_abs c.in-Ok.z ≤ 2147483647 = number_fits c.args.text.now c.args.digits c.in-Ok.z (sym c.read_number.ensures ∙ c.in-Ok.is) in
    grind (arith, ints)
