use Rattle.std.proofs.Common.{◌≡◌, ◌+◌, ◌-◌, sym, ◌∙◌, ap, subst, arith, refl, Err}
use Rattle.ply_body.specs.declared.fault.BodyFault.{BodyFault}
use Rattle.ply_body.specs.Bodies.{fault_of}
use Rattle.ply_body.specs.Readings.{coming}
use Rattle.ply_body.specs.Places.{cursor_at, front_of, front_read, polygon_of, rest_of, told_at, IsReason}
use Rattle.ply_body.proofs.Binds.{item_reason, takes_same, refused_told, told_none}
use Rattle.ply_body.proofs.Coming.{cursor, begin_row_step, begin_row_refused}
use Rattle.ply_body.proofs.place.Place.begin_row.Goals as goal

pub returns-in-Ok-clause-moves : goal.returns-in-Ok-clause-moves
returns-in-Ok-clause-moves g c = λ v. record {
  told = λ s es is.
      let p = c.args.self.now in
      let ps = c.args.properties.now in
      let front = c.in-Ok.front in
      let q = polygon_of (record c.none-self.result { kind = front.kind; left = front.count }) in
      let one : p.left ≡ p.left - 1 + 1 = omega arith in
      takes_same (front_of ps) (front_read front ps) (coming s (cursor_at p ps es))
      (coming s (cursor q (rest_of front.behind ps) (p.row + 1) (p.left - 1) (p.formed + c.fan_size.result) ps p.next es)) _ _ c.in-Ok.ensures.taken
      (λ o n read. rw (c.requires.ended.behind, c.fan_size.ensures)
      (begin_row_step s (polygon_of p.polygon) q ps p.row p.left (p.left - 1) p.formed p.next es o n (front_read front ps)
      c.requires.ended.polygon one c.requires.layout read refl (rw c.none-self.ensures refl) refl))
      ∙ sym (told_none _);
}

pub returns-in-Err-clause-failed : goal.returns-in-Err-clause-failed
returns-in-Err-clause-failed g c = λ v. record {
  reason = λ s es is.
      let p = c.args.self.now in
      let ps = c.args.properties.now in
      let one : p.left ≡ p.left - 1 + 1 = omega arith in
      let r : p.row + 1 - 1 ≡ p.row = omega arith in
      let told = told_at s ps es p c.args.items.now (g.I.Source.left c.args.src.now) in
      subst (λ (f : BodyFault). IsReason told (g.I.Source.faults c.args.src.now) (g.I.Source.faults c.read_front.new.src) f) (sym (c.fault.ensures))
      (rw r (item_reason (p.next - 1) p.row told _ _ c.in-Err.fault
      (λ flaw same. refused_told (front_of ps) (coming s (cursor_at p ps es)) _ flaw (Err (fault_of (p.next - 1) p.row flaw))
      (c.in-Err.ensures.refused flaw (ap Err same))
      (λ o read. rw c.requires.ended.behind (begin_row_refused s (polygon_of p.polygon) ps p.row p.left (p.left - 1) p.formed p.next es o flaw c.requires.ended.polygon one c.requires.layout read)))
      (λ same. c.in-Err.ensures.input (ap Err same))));
}
