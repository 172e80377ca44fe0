use Rattle.std.proofs.Common.{◌<◌, [], length, sym, subst, ap, Ok, arith}
use Rattle.std.proofs.lemmas.Result.{err_from_is_err_and}
use Rattle.ply_body.specs.declared.place.Place.{Place}
use Rattle.ply_body.specs.Places.{IsPlaced, Walks}
use Rattle.ply_body.proofs.Walking.{begins, placed_after, then_walks, then_walks_out, then_walk_fails, walk_fails, walks, walks_out}
use Rattle.ply_body.proofs.place.Place.next_face.Goals as goal

pub returns-in-Some-clause-placed : goal.returns-in-Some-clause-placed
returns-in-Some-clause-placed g c =
    let here = c.current-properties.ensures in
    let at = c.in-Some.is in
    let goes = rw at at c.in_ok-face.ensures.goes in
    let plain = rw (here, at) at c.in_ok-face.ensures.plain in
    placed_after c.args.elements.now c.elements.invariant.placed goes (rw here at c.in_ok-face.ensures.behind) c.in_ok-face.ensures.left (λ none. absurd (cc)) plain

pub returns-in_err-face-clause-failed : goal.returns-in_err-face-clause-failed
returns-in_err-face-clause-failed g c =
    let p = err_from_is_err_and c.from_residual.result c.from_residual.ensures.1 in
    rw (p.1, p.2) (then_walk_fails c.elements.invariant.walks c.elements.invariant.later
    (walk_fails c.args.elements.now (rw c.current-properties.ensures at c.in_err-face.ensures.failed)))

pub returns-then-self-elements-clause-out : goal.returns-then-self-elements-clause-out
returns-then-self-elements-clause-out g c = λ is.
    let here = c.current-properties.ensures in
    let at = c.in_default.is in
    let goes = rw at at c.in_ok-face.ensures.goes in
    let moves = rw (here, at) at c.in_ok-face.ensures.moves in
    let ended = c.in_ok-face.ensures.ended (ap Ok at) in
    then_walks_out (then_walks c.elements.invariant.walks (walks c.args.elements.now moves goes.next))
    (walks_out c.args.vertices c.args.elements.now c.face_in_element.new.self _ _ ended.0 ended.1 (omega arith))

pub elements-preserved : goal.elements-preserved
elements-preserved g c =
    let here = c.current-properties.ensures in
    let at = c.in_default.is in
    let goes = rw at at c.in_ok-face.ensures.goes in
    let moves = rw (here, at) at c.in_ok-face.ensures.moves in
    let plain = rw (here, at) at c.in_ok-face.ensures.plain in
    let ended = c.in_ok-face.ensures.ended (ap Ok at) in
    let es = c.args.elements.now in
    let p = c.face_in_element.new.self in
    let el = c.index-elements-self.result in
    let placed = placed_after es c.elements.invariant.placed goes (rw here at c.in_ok-face.ensures.behind) c.in_ok-face.ensures.left (λ none. ended.0.polygon) plain in
    let next : p.next < length es = omega (arith, placed.next) in
    let new = begins c.args.vertices es p el c.requires.small placed ended.0 ended.1 next c.index-elements-self.is in
    let is = c.begin_element.ensures in
    record {
      walks = subst (λ (q : Place). Walks c.args.vertices es c.args.self.now c.args.items.now (g.I.Source.left c.args.src.now) q c.face_in_element.new.items (g.I.Source.left c.face_in_element.new.src) []) (sym is)
          (then_walks (then_walks c.elements.invariant.walks (walks es moves goes.next)) (new.walks _ _));
      placed = subst (λ (q : Place). IsPlaced c.args.vertices es q) (sym is) new.placed;
      tally = rw is (omega (arith, goes.tally, c.elements.invariant.tally));
      later = omega arith;
    }
