use Rattle.std.proofs.Common.{◌≡◌, ◌+◌, ◌-◌, sym, ap, subst, rules, arith, Err}
use Rattle.ply_body.specs.declared.fault.BodyFault.{BodyFault}
use Rattle.ply_body.specs.declared.fault.Flaw.TheVariants.{TooManyTris}
use Rattle.ply_body.specs.Items.{item_as, index_of}
use Rattle.ply_body.specs.Bodies.{fault_of}
use Rattle.ply_body.specs.Readings.{coming, with_faces}
use Rattle.ply_body.specs.Places.{cursor_at, faces_of, polygon_of, rest_of, told_at, IsReason}
use Rattle.ply_body.proofs.Binds.{item_reason, refused_told, taken_told, takes_step}
use Rattle.ply_body.proofs.Coming.{corner_step, corner_refused, corner_too_many}
use Rattle.ply_body.proofs.place.Place.next_corner.Goals as goal

pub returns-in-Err-clause-failed : goal.returns-in-Err-clause-failed
returns-in-Err-clause-failed g c = λ ps. record {
  reason = λ s es is.
      let p = c.args.self.now in
      let one : p.polygon.left ≡ p.polygon.left - 1 + 1 = omega arith in
      let told = told_at s ps es p c.args.items.now (g.I.Source.left c.args.src.now) in
      subst (λ (f : BodyFault). IsReason told (g.I.Source.faults c.args.src.now) (g.I.Source.faults c.index.new.source) f) (sym c.fault.ensures)
      (item_reason (p.next - 1) (p.row - 1) told _ _ c.in-Err.fault
      (λ flaw same. refused_told (item_as (index_of c.args.vertices) p.polygon.kind) (coming s (cursor_at p ps es)) _ flaw (Err (fault_of (p.next - 1) (p.row - 1) flaw))
      (c.in-Err.ensures.refused flaw (ap Err same))
      (λ o read. corner_refused s (polygon_of p.polygon) (rest_of p.behind ps) ps p.row p.left p.formed p.next (p.polygon.left - 1) es o flaw one (rw is read)))
      (λ same. c.in-Err.ensures.input (ap Err same)));
}

pub returns-then-is_too_many-clause-failed : goal.returns-then-is_too_many-clause-failed
returns-then-is_too_many-clause-failed g c = λ ps. record {
  reason = λ s es is.
      let p = c.args.self.now in
      let one : p.polygon.left ≡ p.polygon.left - 1 + 1 = omega arith in
      let told = told_at s ps es p c.args.items.now (g.I.Source.left c.args.src.now) in
      subst (λ (f : BodyFault). IsReason told (g.I.Source.faults c.args.src.now) (g.I.Source.faults c.index.new.source) f) (sym c.fault-then-is_too_many.ensures)
      (taken_told (item_as (index_of c.args.vertices) p.polygon.kind) c.in-Ok.corner (coming s (cursor_at p ps es)) _ _ (Err (fault_of (p.next - 1) (p.row - 1) TooManyTris)) c.in-Ok.ensures.taken
      (λ o n read. corner_too_many s (polygon_of p.polygon) (rest_of p.behind ps) ps p.row p.left p.formed p.next (p.polygon.left - 1) es o n c.in-Ok.corner one (rw is read) (search rules)));
}

pub returns-clause-moves : goal.returns-clause-moves
returns-clause-moves g c = λ ps. record {
  told = λ s es is.
      let p = c.args.self.now in
      let q = c.add.new.self in
      takes_step (item_as (index_of c.args.vertices) p.polygon.kind) c.in-Ok.corner (coming s (cursor_at p ps es)) _ (with_faces (faces_of c.add.result)) _ _ c.in-Ok.ensures.taken
      (λ o n read. corner_step s (polygon_of p.polygon) (polygon_of q) (rest_of p.behind ps) ps p.row p.left p.formed p.next es o n c.in-Ok.corner (faces_of c.add.result)
      c.add.ensures.kind c.add.ensures.taken c.add.ensures.left c.add.ensures.fan (rw is read) (search rules));
}
