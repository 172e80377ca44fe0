use Rattle.std.proofs.Common.{ℕ, ◌+◌, length, refl, sym, ◌∙◌, ap, subst, arith, [], ◌∷◌, ◌++◌, Ok}
use Rattle.run_status.specs.Statuses.{IsRefused}
use Rattle.std.specs.Prelude.{All}
use Rattle.std.specs.Option.{ForSome}
use Rattle.std.proofs.lemmas.List.{length_push}
use Rattle.std.proofs.lemmas.List.Elements.{All-nil, All-push}
use Rattle.tri_stream.specs.Lists.{IsHeld}
use Rattle.ply_body.specs.Spots.{HoldsPoints}
use Rattle.mesh_stream.specs.Readings.{AreWhole}
use Rattle.mesh_stream.proofs.ReadLemmas.{none_read, more_read, read_refused, read_all, none_whole, one_whole, no_more_whole, same_status, not_refused_yet, refusal_of_body, AllLost, OneGiven}
use Rattle.mesh_stream.proofs.reading.read_tris.Goals as goal

pub tris-init : goal.tris-init
tris-init g c = record {
  frame = c.requires.frame;
  opened = c.requires.fresh.0;
  few = omega (arith, c.requires.fresh.1, c.requires.fresh.2);
  points = c.requires.points;
  held = refl;
  plain = subst (All (IsHeld c.args.frame.now.l)) (sym c.new-tris.ensures.items) (All-nil (IsHeld c.args.frame.now.l));
  count = ap length c.new-tris.ensures.items ∙ sym c.requires.fresh.1;
  read = ([], none_read _, none_whole _ _ _ _ c.new-tris.ensures.items c.requires.fresh.2);
  input_later = omega arith;
  work_later = omega arith;
}

pub returns-in-Err-clause-refused : goal.returns-in-Err-clause-refused
returns-in-Err-clause-refused g c = λ status is refused x told.
    let f = c.in-Err.fault in
    let same = same_status _ status _ is c.status_of_body.ensures in
    let refusal = refusal_of_body f (subst (λ s. IsRefused s) same refused) in
    let last = not_refused_yet _ f c.tris.invariant.opened (c.in-Err.ensures.refused f refl refusal) in
    (f, read_refused _ _ c.tris.invariant.read.0 f c.tris.invariant.read.1 last x told, same)

pub returns-in_default-clause-tris : goal.returns-in_default-clause-tris
returns-in_default-clause-tris g c =
    let read = c.tris.invariant.read in
    let end = c.in-Ok.ensures.end (ap Ok c.in_default.is) in
    let held = c.next_tri.ensures.held ∙ c.tris.invariant.held in
    let lost = subst (λ h. AllLost c.args.frame.now h end.0) c.tris.invariant.held end.2 in record {
      faces = read.0 ++ end.0;
      all = read_all _ _ read.0 end.0 read.1 end.1.faces;
      whole = subst (λ h. AreWhole c.args.frame.now h (read.0 ++ end.0) c.tris.tris.items c.next_tri.new.self.dropped) (sym held)
          (no_more_whole c.args.frame.now _ read.0 end.0 c.tris.tris.items c.tris.faces.dropped _ read.2 end.1.dropped lost);
    }

pub tris-preserved : goal.tris-preserved
tris-preserved g c =
    let read = c.tris.invariant.read in
    let given = c.in-Ok.ensures.tri c.in-Some.t (ap Ok c.in-Some.is) in
    let more = subst (λ h. OneGiven c.args.frame.now h given.0 given.1 c.in-Some.t) c.tris.invariant.held given.3 in record {
      frame = c.next_tri.ensures.frame ∙ c.tris.invariant.frame;
      opened = c.in-Ok.ensures.opened;
      few = c.next_tri.ensures.few;
      points = subst (λ h. ForSome h (HoldsPoints c.args.frame.now)) (sym c.next_tri.ensures.held) c.tris.invariant.points;
      held = c.next_tri.ensures.held ∙ c.tris.invariant.held;
      plain = subst (All (IsHeld c.args.frame.now.l)) (sym c.in_ok-push.ensures.items) (All-push (IsHeld c.args.frame.now.l) c.tris.tris.items c.in-Some.t c.tris.invariant.plain
          (record { whole = c.in-Ok.ensures.whole c.in-Some.t (ap Ok c.in-Some.is); cube = c.in-Ok.ensures.cube c.in-Some.t (ap Ok c.in-Some.is) }));
      count = ap length c.in_ok-push.ensures.items ∙ length_push c.tris.tris.items c.in-Some.t ∙ ap (λ (n : ℕ). n + 1) c.tris.invariant.count ∙ sym given.2.given;
      read = (
        read.0 ++ (given.0 ++ given.1 ∷ []),
        more_read _ _ _ read.0 (given.0 ++ given.1 ∷ []) read.1 given.2.faces,
        one_whole c.args.frame.now _ read.0 given.0 given.1 c.in-Some.t c.tris.tris.items _ c.tris.faces.dropped _ read.2 c.in_ok-push.ensures.items
            given.2.dropped (c.in-Ok.ensures.whole c.in-Some.t (ap Ok c.in-Some.is)) more,
      );
      input_later = omega (arith, c.tris.invariant.input_later, c.next_tri.ensures.later.0);
      work_later = omega (arith, c.tris.invariant.work_later, c.next_tri.ensures.later.1);
    }
