use Rattle.std.proofs.Common.{◌∙◌, ap, Ok}
use Rattle.tpz_io.specs.Told.{ahead}
use Rattle.script_text.specs.Scripts.{Place, lines_told}
use Rattle.script_text.proofs.LineLemmas.{long_outside}
use Rattle.script_text.proofs.script.Script.next_line.Goals as goal

pub returns-in-TooLong-clause-bad : goal.returns-in-TooLong-clause-bad
returns-in-TooLong-clause-bad g c = λ n is texts told.
    let same = ap (λ (p : Place). lines_told (ahead p.held (g.C.Source.left c.args.src.now))) c.self.view_is in
    long_outside n texts (c.in_ok-take_line.ensures.long (ap Ok c.in-TooLong.is) texts (same ∙ told))
