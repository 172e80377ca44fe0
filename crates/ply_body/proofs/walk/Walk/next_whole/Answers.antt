use Rattle.std.proofs.Common.{◌≡◌, ◌∙◌, inl, inr, [], ◌∷◌, ◌++◌, refl, sym, ap, Ok, false, rules, arith}
use Rattle.std.proofs.lemmas.List.{length_push}
use Rattle.std.proofs.lemmas.List.Elements.{All-nil, All-push}
use Rattle.std.proofs.lemmas.Result.{err_from_is_err_and}
use Rattle.tpz_base.specs.Texts.{Face}
use Rattle.tpz_base.specs.Meshes.{is_whole}
use Rattle.ply_body.specs.Inputs.{triangle_at}
use Rattle.ply_body.specs.Spots.{spots_of}
use Rattle.ply_body.specs.Places.{face_of}
use Rattle.ply_body.proofs.Walking.{both_walks, later_work, stay, then_walk_fails, walk_ends}
use Rattle.ply_body.proofs.walk.Walk.next_whole.Goals as goal

pub dropped-init : goal.dropped-init
dropped-init g c = record {
  lost = ([], stay _ _ _ _ _, omega arith, record { broken = λ bytes told low rows frame holds. All-nil (λ (f : Face). is_whole (triangle_at (spots_of low rows) f) ≡ false) });
  elements = refl;
  vertices = refl;
  placed = c.requires.placed;
  counts = refl;
  held = refl;
  input_later = omega arith;
  work_later = omega arith;
}

pub returns-in-None-clause-end : goal.returns-in-None-clause-end
returns-in-None-clause-end g c = λ is.
    let it = c.dropped.invariant in
    let out = rw (c.as_slice.ensures.value, it.elements, it.vertices) at (c.in_ok-found.ensures.out (ap Ok c.in-None.is)) in
    (it.lost.0, walk_ends it.lost.1 out, it.lost.2, it.lost.3)

pub returns-in_err-found-clause-failed : goal.returns-in_err-found-clause-failed
returns-in_err-found-clause-failed g c =
    let p = err_from_is_err_and c.from_residual.result c.from_residual.ensures.1 in
    let it = c.dropped.invariant in
    let failed = rw (c.as_slice.ensures.value, it.elements, it.vertices) at c.in_err-found.ensures.failed in
    rw (p.1, p.2) (inl (then_walk_fails it.lost.1 it.input_later failed))

pub returns-in_err-tri-clause-failed : goal.returns-in_err-tri-clause-failed
returns-in_err-tri-clause-failed g c =
    let p = err_from_is_err_and c.from_residual-in_err-tri.result c.from_residual-in_err-tri.ensures.1 in
    let it = c.dropped.invariant in
    rw (p.1, p.2) (inr (record { reason = later_work _ _ _ _ _ _ it.held it.work_later c.in_err-tri.ensures.failed }))

pub returns-then-whole-clause-tri : goal.returns-then-whole-clause-tri
returns-then-whole-clause-tri g c = λ t is.
    let it = c.dropped.invariant in
    let walks = rw (c.as_slice.ensures.value, it.elements, it.vertices, c.in-Some.is) at c.in_ok-found.ensures.walks in
    let same : c.in_ok-tri.tri ≡ t = cc in (
      it.lost.0,
      face_of c.in-Some.corners,
      both_walks it.lost.1 walks,
      it.lost.2,
      λ bytes told low rows frame holds. (it.lost.3.broken bytes told low rows frame holds, sym same ∙ c.in_ok-tri.ensures.tri bytes (it.held ∙ told) low rows frame holds),
    )

pub dropped-preserved : goal.dropped-preserved
dropped-preserved g c =
    let it = c.dropped.invariant in
    let face = face_of c.in-Some.corners in
    let walks = rw (c.as_slice.ensures.value, it.elements, it.vertices, c.in-Some.is) at c.in_ok-found.ensures.walks in
    let placed = rw (c.as_slice.ensures.value, it.elements, it.vertices) at c.in_ok-found.ensures.placed in
    let tally = rw c.in-Some.is at c.in_ok-found.ensures.tally in
    let broken : is_whole c.in_ok-tri.tri ≡ false = search rules in
    record {
      lost = (
        it.lost.0 ++ face ∷ [],
        both_walks it.lost.1 walks,
        omega (arith, it.lost.2, length_push it.lost.0 face),
        record {
          broken = λ bytes told low rows frame holds. All-push (λ (f : Face). is_whole (triangle_at (spots_of low rows) f) ≡ false) it.lost.0 face
              (it.lost.3.broken bytes told low rows frame holds) (ap is_whole (sym (c.in_ok-tri.ensures.tri bytes (it.held ∙ told) low rows frame holds)) ∙ broken);
        },
      );
      elements = it.elements;
      vertices = it.vertices;
      placed = placed;
      counts = omega (arith, tally, it.counts);
      held = c.in_ok-tri.ensures.held ∙ it.held;
      input_later = omega (arith, c.in_ok-found.ensures.later, it.input_later);
      work_later = omega (arith, c.in_ok-tri.ensures.later, it.work_later);
    }
