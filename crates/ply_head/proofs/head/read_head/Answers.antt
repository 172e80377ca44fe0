use Rattle.std.proofs.Common.{◌≡◌, true, ap, sym, ◌∙◌, Err, arith}
use Rattle.ply_head.specs.declared.line.LineFault.TheVariants.{Full}
use Rattle.ply_head.specs.declared.fault.HeadFault.TheVariants.{InputFault}
use Rattle.std.specs.Option.{option_map}
use Rattle.tpz_io.specs.Told.{ahead}
use Rattle.ply_head.specs.Lines.{lines_told}
use Rattle.ply_head.specs.Headers.{Seen, heading_from}
use Rattle.ply_head.specs.Steps.{full_fault}
use Rattle.ply_head.proofs.HeadLemmas.{ended, is_refusal, tidy_step, at_the_end}
use Rattle.ply_head.proofs.ReadLemmas.{more_told, full_refused}
use Rattle.ply_head.proofs.head.read_head.Goals as goal

pub returns-in-Err-Full-clause-refused : goal.returns-in-Err-Full-clause-refused
returns-in-Err-Full-clause-refused g c = λ f is _ bytes told.
    let same : c.in-Err-Full.field-0 ≡ Full = c.in-Err-Full.field-0-is in
    let fault : f ≡ full_fault c.lines.lines.number = cc (is, c.full_fault.ensures, ap full_fault c.number-number.ensures) in
    let refused = full_refused c.lines.seen (g.I.Source.left c.args.src.now) (ahead c.lines.lines.held (g.I.Source.left c.lines.src)) c.lines.lines.number
    c.lines.lines.taken c.lines.invariant.told (c.in-Err-Full.ensures.full (ap Err same)) c.lines.invariant.first bytes told in
    rw fault refused

pub invariant_of-result : goal.invariant_of-result
invariant_of-result g c =
    let step = rw c.in-Done.is at c.in_ok-take.ensures in
    rw step.3 (at_the_end c.lines.seen c.in-Ok.line step.0 step.1 c.lines.invariant.tidy)

pub returns-in-Refused-clause-input : goal.returns-in-Refused-clause-input
returns-in-Refused-clause-input g c = λ is.
    let step = rw c.in-Refused.is at c.in_ok-take.ensures in
    let refusal = is_refusal c.lines.seen c.in-Ok.line c.in-Refused.fault step in
    let same : c.in-Refused.fault ≡ InputFault = cc in
    absurd (rw same at refusal)

pub lines-preserved : goal.lines-preserved
lines-preserved g c =
    let step = rw c.in-More.is at c.in_ok-take.ensures in
    let whole : c.in-Ok.line.is_ended ≡ true = ended c.lines.seen c.in-Ok.line step.0 in
    let passed = c.in-Ok.ensures.passed whole in
    let before = lines_told c.lines.lines.number c.lines.lines.taken (ahead c.lines.lines.held (g.I.Source.left c.lines.src)) in
    let rest = lines_told c.next.new.self.number c.next.new.self.taken (ahead c.next.new.self.held (g.I.Source.left c.next.new.source)) in
    record {
      told = c.lines.invariant.told ∙ more_told c.lines.seen c.in-Ok.line before rest c.in-Ok.ensures.line whole step.0 step.1
          ∙ ap (λ (s : Seen). option_map (heading_from s) rest) (sym step.2);
      rest = c.in-Ok.ensures.rest (g.I.Source.left c.args.src.now) c.lines.invariant.rest whole;
      tidy = rw step.2 (tidy_step c.lines.seen c.in-Ok.line step.0 c.lines.invariant.tidy);
      first = λ one. absurd (omega (arith, passed.number, one));
      numbered = omega (arith, passed.number);
      later = omega (arith, c.in-Ok.ensures.later);
    }
