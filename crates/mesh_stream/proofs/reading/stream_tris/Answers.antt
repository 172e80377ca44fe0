use Rattle.std.proofs.Common.{ℕ, ◌+◌, refl, sym, ◌∙◌, ap, subst, arith, [], ◌∷◌, ◌++◌, Ok}
use Rattle.std.specs.Option.{ForSome}
use Rattle.std.proofs.lemmas.List.{length_push}
use Rattle.std.proofs.lemmas.List.Elements.{All-nil, All-push}
use Rattle.tri_stream.specs.Lists.{IsHeld}
use Rattle.tpz_base.specs.Cubes.{IsTriInCube}
use Rattle.tri_stream.specs.Streams.{Stands}
use Rattle.mesh_stream.specs.Fills.{Fills}
use Rattle.run_status.specs.Statuses.{IsRefused}
use Rattle.mesh_stream.proofs.Filling.{fills_none, fills_one, still_live}
use Rattle.mesh_stream.proofs.ReadLemmas.{none_read, more_read, read_refused, read_all, none_whole, one_whole, no_more_whole, same_status, not_refused_yet, refusal_of_body, given_before, lost_before, points_kept, fronts_join, same_front, KeepsFront}
use Rattle.mesh_stream.proofs.reading.stream_tris.Goals as goal

pub tris-init : goal.tris-init
tris-init g c = record {
  frame = c.requires.frame;
  opened = c.requires.fresh.0;
  few = omega (arith, c.requires.fresh.1, c.requires.fresh.2);
  points = c.requires.points;
  base = refl;
  front = same_front c.args.frame.now.end (g.W.Blob.held c.args.work.now);
  read = (
    [],
    [],
    none_read _,
    none_whole _ _ _ _ refl c.requires.fresh.2,
    sym c.requires.fresh.1,
    fills_none c.args.whole c.args.streams.now _ c.requires.stands,
    All-nil (IsHeld c.args.frame.now.l),
  );
  input_later = omega arith;
  work_later = omega arith;
}

pub returns-in-Err-clause-refused : goal.returns-in-Err-clause-refused
returns-in-Err-clause-refused g c = λ status is refused x told.
    let f = c.in-Err.fault in
    let same = same_status _ status _ is c.status_of_body.ensures in
    let refusal = refusal_of_body f (subst (λ s. IsRefused s) same refused) in
    let last = not_refused_yet _ f c.tris.invariant.opened (c.in-Err.ensures.refused f refl refusal) in
    (f, read_refused _ _ c.tris.invariant.read.0 f c.tris.invariant.read.2 last x told, same)

pub returns-in_default-clause-tris : goal.returns-in_default-clause-tris
returns-in_default-clause-tris g c =
    let inv = c.tris.invariant in
    let read = inv.read in
    let end = c.in-Ok.ensures.end (ap Ok c.in_default.is) in
    let lost = lost_before c.args.frame.now c.args.frame.now.end _ _ end.0 inv.front c.requires.end end.2 in (
      read.1,
      record {
        faces = read.0 ++ end.0;
        all = read_all _ _ read.0 end.0 read.2 end.1.faces;
        whole = no_more_whole c.args.frame.now _ read.0 end.0 read.1 c.tris.faces.dropped _ read.3 end.1.dropped lost;
      },
      subst (λ h. Fills c.args.whole read.1 c.args.streams.now c.tris.streams (g.W.Blob.held c.args.work.now) h) (sym c.next_tri.ensures.held) read.5,
      omega arith,
      read.6,
    )

pub append-requires-clause-live : goal.append-requires-clause-live
append-requires-clause-live g c = still_live c.args.whole c.tris.invariant.read.1 c.args.streams.now c.tris.streams _ _ c.tris.invariant.read.5 c.requires.live

pub append-requires-clause-stands : goal.append-requires-clause-stands
append-requires-clause-stands g c = subst (λ h. ForSome h (Stands c.tris.streams)) (sym c.next_tri.ensures.held) c.tris.invariant.read.5.stands

pub append-requires-clause-cube : goal.append-requires-clause-cube
append-requires-clause-cube g c =
    subst (λ l. IsTriInCube l c.in-Some.t) (sym (c.tris.invariant.read.5.l ∙ c.requires.l)) (c.in-Ok.ensures.cube c.in-Some.t (ap Ok c.in-Some.is))

pub append-requires-clause-few : goal.append-requires-clause-few
append-requires-clause-few g c =
    omega (arith, c.tris.invariant.read.5.total, c.tris.invariant.read.4, c.requires.empty, c.tris.invariant.few)

pub tris-preserved : goal.tris-preserved
tris-preserved g c =
    let inv = c.tris.invariant in
    let read = inv.read in
    let t = c.in-Some.t in
    let given = c.in-Ok.ensures.tri t (ap Ok c.in-Some.is) in
    let more = given_before c.args.frame.now c.args.frame.now.end _ _ given.0 given.1 t inv.front c.requires.end given.3 in
    let held = c.next_tri.ensures.held in
    let so_far = subst (λ h. Fills c.args.whole read.1 c.args.streams.now c.tris.streams (g.W.Blob.held c.args.work.now) h) (sym held) read.5 in
    let front = subst (λ h. KeepsFront c.args.frame.now.end (g.W.Blob.held c.args.work.now) h) (sym held) inv.front in
    let base = inv.base ∙ c.requires.base in
    let joined = fronts_join c.args.frame.now.end c.tris.streams.base _ _ _ base front c.append.ensures.kept.front in
    record {
      frame = c.next_tri.ensures.frame ∙ inv.frame;
      opened = c.in-Ok.ensures.opened;
      few = c.next_tri.ensures.few;
      points = points_kept c.args.frame.now c.args.frame.now.end _ _ joined c.requires.end c.requires.points;
      base = c.append.ensures.kept.base ∙ inv.base;
      front = joined;
      read = (
        read.0 ++ (given.0 ++ given.1 ∷ []),
        read.1 ++ t ∷ [],
        more_read _ _ _ read.0 (given.0 ++ given.1 ∷ []) read.2 given.2.faces,
        one_whole c.args.frame.now _ read.0 given.0 given.1 t read.1 (read.1 ++ t ∷ []) c.tris.faces.dropped _ read.3 refl
            given.2.dropped (c.in-Ok.ensures.whole t (ap Ok c.in-Some.is)) more,
        length_push read.1 t ∙ ap (λ (n : ℕ). n + 1) read.4 ∙ sym given.2.given,
        fills_one c.args.whole read.1 t c.args.streams.now c.tris.streams _ _ _ _ so_far c.in_ok-append.ensures.count c.in_ok-append.ensures.list
            c.in_ok-append.ensures.others c.in_ok-append.ensures.total c.append.ensures.kept,
        All-push (IsHeld c.args.frame.now.l) read.1 t read.6
            (record { whole = c.in-Ok.ensures.whole t (ap Ok c.in-Some.is); cube = c.in-Ok.ensures.cube t (ap Ok c.in-Some.is) }),
      );
      input_later = omega (arith, inv.input_later, c.next_tri.ensures.later.0);
      work_later = omega (arith, inv.work_later, c.next_tri.ensures.later.1, c.append.ensures.later);
    }
