use Rattle.std.proofs.Common.{◌-◌, [], drop, sym, ◌∙◌, ap, subst, Err}
use Rattle.std.proofs.lemmas.List.{take_rest}
use Rattle.ply_body.specs.declared.fault.BodyFault.{BodyFault}
use Rattle.ply_body.specs.Bodies.{fault_of}
use Rattle.ply_body.specs.Readings.{coming}
use Rattle.ply_body.specs.Items.{passed}
use Rattle.ply_body.specs.Places.{cursor_at, polygon_of, rest_of, told_at, IsReason}
use Rattle.ply_body.proofs.Binds.{item_reason, passes_same, refused_told, told_none}
use Rattle.ply_body.proofs.Coming.{cursor, end_row_step, end_row_refused}
use Rattle.ply_body.proofs.place.Place.end_row.Goals as goal

pub returns-in-Ok-clause-moves : goal.returns-in-Ok-clause-moves
returns-in-Ok-clause-moves g c = λ v. record {
  told = λ s es is.
      let p = c.args.self.now in
      let ps = c.args.properties.now in
      let b = c.in-Some.behind in
      let taken = rw (take_rest ps b) at c.in-Ok.ensures.taken in
      passes_same (passed (drop b ps)) (coming s (cursor_at p ps es)) (coming s (cursor (polygon_of p.polygon) [] p.row p.left p.formed ps p.next es)) _ _ taken
      (λ o n read. end_row_step s (polygon_of p.polygon) (rest_of p.behind ps) ps p.row p.left p.formed p.next es o n c.requires.polygon c.requires.behind.skipped (rw c.in-Some.is read))
      ∙ sym (told_none _);
}

pub returns-in-Err-clause-failed : goal.returns-in-Err-clause-failed
returns-in-Err-clause-failed g c = λ v. record {
  reason = λ s es is.
      let p = c.args.self.now in
      let ps = c.args.properties.now in
      let b = c.in-Some.behind in
      let refused = rw (take_rest ps b) at c.in-Err.ensures.refused in
      let told = told_at s ps es p c.args.items.now (g.I.Source.left c.args.src.now) in
      subst (λ (f : BodyFault). IsReason told (g.I.Source.faults c.args.src.now) (g.I.Source.faults c.pass_all.new.src) f) (sym c.fault.ensures)
      (item_reason (p.next - 1) (p.row - 1) told _ _ c.in-Err.fault
      (λ flaw same. refused_told (passed (drop b ps)) (coming s (cursor_at p ps es)) _ flaw (Err (fault_of (p.next - 1) (p.row - 1) flaw))
      (refused flaw (ap Err same))
      (λ o read. end_row_refused s (polygon_of p.polygon) (rest_of p.behind ps) ps p.row p.left p.formed p.next es o flaw c.requires.polygon c.requires.behind.skipped (rw c.in-Some.is read)))
      (λ same. c.in-Err.ensures.input (ap Err same)));
}
