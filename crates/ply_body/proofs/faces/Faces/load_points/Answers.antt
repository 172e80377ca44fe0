use Rattle.std.proofs.Common.{◌≡◌, ◌∙◌, subst, sym, ap, arith, Err}
use Rattle.ply_body.specs.declared.frame.Frame.{Frame}
use Rattle.ply_body.specs.Spots.{IsSmallFrame}
use Rattle.ply_body.specs.Readings.{Reading}
use Rattle.ply_body.proofs.Opening.{before_placed, is_new, loaded_refused, loaded_told}
use Rattle.ply_body.proofs.faces.Faces.load_points.Goals as goal

pub invariant_of-self : goal.invariant_of-self
invariant_of-self g c =
    let it = c.self.invariant in
    let r = c.self.inside in
    let new = is_new r c.args.self.now c.self.view_is c.requires in
    let here = c.before-self-inside.ensures in
    let rest = rw c.as_slice.ensures.value at c.in-Ok.ensures.behind in
    let counted = rw c.as_slice.ensures.value at c.in-Ok.ensures.vertices in
    record {
      digits_few = it.digits_few;
      small = it.small;
      laid_out = it.laid_out;
      vertices_are = it.vertices_are;
      vertices_few = it.vertices_few;
      counts_few = it.counts_few;
      fresh = λ none _. absurd (cc);
      ready = λ frame is none.
          let same : c.in-Ok.loaded.frame ≡ frame = cc in
          record {
            frame_small = subst IsSmallFrame same c.in-Ok.ensures.small;
            vertices = ap (λ (f : Frame). f.vertices) (sym same) ∙ counted ∙ sym it.vertices_are;
            placed = rw here (before_placed r.walk.vertices r.walk.elements.items c.in-Ok.loaded.next it.small rest);
            counted = rw (here, new.given, new.dropped) (omega arith);
          };
    }

pub returns-in-Ok-clause-rows : goal.returns-in-Ok-clause-rows
returns-in-Ok-clause-rows g c =
    let r = c.self.inside in
    let new = is_new r c.args.self.now c.self.view_is c.requires in
    let it = rw c.as_slice.ensures.value at c.in-Ok.ensures.rows in (
      it.0,
      it.1,
      rw (← c.self.view_is) (loaded_told r c.before-self-inside.result c.in-Ok.loaded.next it.0 _ _ new.next c.self.invariant.vertices_are c.before-self-inside.ensures it.2),
      it.3,
    )

pub returns-in-Err-clause-refused : goal.returns-in-Err-clause-refused
returns-in-Err-clause-refused g c = λ f is refusal.
    let r = c.self.inside in
    let new = is_new r c.args.self.now c.self.view_is c.requires in
    let same : c.in-Err.refusal ≡ f = cc in
    let refused = rw c.as_slice.ensures.value at c.in-Err.ensures.refused in
    rw (← c.self.view_is) (loaded_refused r _ f new.next c.self.invariant.vertices_are (refused f (ap Err same) refusal))

pub returns-in-Ok-clause-vertices : goal.returns-in-Ok-clause-vertices
returns-in-Ok-clause-vertices g c =
    let counted = rw c.as_slice.ensures.value at c.in-Ok.ensures.vertices in
    counted ∙ sym c.self.invariant.vertices_are ∙ ap (λ (x : Reading). x.setting.vertices) c.self.view_is
