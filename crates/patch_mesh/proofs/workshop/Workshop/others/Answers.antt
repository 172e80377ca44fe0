-- The corners are those of the triangle's slot.
use Rattle.std.proofs.Common.{◌≡◌, ℕ, ◌/◌, true, length, sym, subst, Some}
use Rattle.std.specs.Prelude.{nat_eq, slice_get}
use Rattle.tpz_base.specs.declared.shape.Point.{Point}
use Rattle.tpz_base.specs.declared.shape.Tri.{Tri}
use Rattle.tpz_base.specs.Lists.{has}
use Rattle.patch_mesh.specs.Shops.{Shop}
use Rattle.patch_mesh.specs.Slots.{tri_numbered, slot_at, IsFace}
use Rattle.patch_mesh.specs.Corners.{star}
use Rattle.patch_mesh.proofs.SheetLaw.{good_at}
use Rattle.patch_mesh.proofs.CornerLaw.{numbers_below, live_of}
use Rattle.patch_mesh.proofs.ViewLaw.{star_tri}
use Rattle.patch_mesh.proofs.Others.{IsKnown, IsPlaced, known, placed, next_a, last_a, next_b, last_b, next_c, last_c}
use Rattle.patch_mesh.proofs.workshop.Workshop.others.Goals as goal
use Rattle.patch_mesh.proofs.workshop.Workshop.others.Goals.{After-slot-s}

pub slot-s-requires : goal.slot-s-requires
slot-s-requires c = numbers_below (c.args.c / 3) c.self.inside.faces.slots (subst (λ (s : Shop). has nat_eq s.numbers (c.args.c / 3) ≡ true) (sym c.self.view_is) c.requires)

face_here : (c : After-slot-s) → IsFace (length c.self.inside.places.points) c.slot-s.result
face_here c =
    let live : (slot_at c.self.inside.faces.slots (c.args.c / 3)).alive ≡ true = live_of (c.args.c / 3) c.self.inside.faces.slots (subst (λ (s : Shop). has nat_eq s.numbers (c.args.c / 3) ≡ true) (sym c.self.view_is) c.requires) in
    subst (IsFace (length c.self.inside.places.points)) (sym c.slot-s.ensures) (good_at (length c.self.inside.places.points) c.self.inside.faces.slots (c.args.c / 3) c.self.invariant.good live)

known_here : (c : After-slot-s) (t : Tri) → tri_numbered (c.args.c / 3) c.args.self.now.numbers c.args.self.now.mesh ≡ Some t → IsKnown c.self.inside.places.points c.slot-s.result t
known_here c t tri =
    known c.self.inside.places.points c.self.inside.faces.slots (c.args.c / 3) c.slot-s.result t c.self.invariant.good
    (subst (λ (s : Shop). has nat_eq s.numbers (c.args.c / 3) ≡ true) (sym c.self.view_is) c.requires)
    (subst (λ (s : Shop). tri_numbered (c.args.c / 3) s.numbers s.mesh ≡ Some t) (sym c.self.view_is) tri) c.slot-s.ensures

placed_here : (c : After-slot-s) (p : Point) (i : ℕ) (t : Tri) → slice_get (star c.args.self.now p) i ≡ Some c.args.c
    → tri_numbered (c.args.c / 3) c.args.self.now.numbers c.args.self.now.mesh ≡ Some t → IsPlaced p c.args.c t
placed_here c p i t got tri =
    placed p (c.args.c / 3) c.args.c t (star_tri p 0 c.args.self.now.numbers c.args.self.now.mesh i c.args.c t c.len.ensures.numbered.rising got tri).corner

pub returns-then-place-eq0-clause-next : goal.returns-then-place-eq0-clause-next
returns-then-place-eq0-clause-next c =
    let here = (goal.at.returns-then-place-eq0-clause-next c).After-slot-s in
    λ p i t got tri. rw (← c.self.view_is) (next_a c.self.inside.places.points p c.slot-s.result t (known_here here t tri) ((placed_here here p i t got tri).first c.if-place-eq0.true))

pub returns-then-place-eq0-clause-last : goal.returns-then-place-eq0-clause-last
returns-then-place-eq0-clause-last c =
    let here = (goal.at.returns-then-place-eq0-clause-last c).After-slot-s in
    λ p i t got tri. rw (← c.self.view_is) (last_a c.self.inside.places.points p c.slot-s.result t (known_here here t tri) ((placed_here here p i t got tri).first c.if-place-eq0.true))

pub returns-then-place-eq0-clause-next_within : goal.returns-then-place-eq0-clause-next_within
returns-then-place-eq0-clause-next_within c =
    let here = (goal.at.returns-then-place-eq0-clause-next_within c).After-slot-s in
    rw (← c.self.view_is) (face_here here).b

pub returns-then-place-eq0-clause-last_within : goal.returns-then-place-eq0-clause-last_within
returns-then-place-eq0-clause-last_within c =
    let here = (goal.at.returns-then-place-eq0-clause-last_within c).After-slot-s in
    rw (← c.self.view_is) (face_here here).c

pub returns-then-place-eq1-clause-next : goal.returns-then-place-eq1-clause-next
returns-then-place-eq1-clause-next c =
    let here = (goal.at.returns-then-place-eq1-clause-next c).After-slot-s in
    λ p i t got tri.
    let at = (placed_here here p i t got tri).second c.if-place-eq1.true in
    rw (← c.self.view_is) (next_b c.self.inside.places.points p c.slot-s.result t (known_here here t tri) at.0 at.1)

pub returns-then-place-eq1-clause-last : goal.returns-then-place-eq1-clause-last
returns-then-place-eq1-clause-last c =
    let here = (goal.at.returns-then-place-eq1-clause-last c).After-slot-s in
    λ p i t got tri.
    let at = (placed_here here p i t got tri).second c.if-place-eq1.true in
    rw (← c.self.view_is) (last_b c.self.inside.places.points p c.slot-s.result t (known_here here t tri) at.0 at.1)

pub returns-then-place-eq1-clause-next_within : goal.returns-then-place-eq1-clause-next_within
returns-then-place-eq1-clause-next_within c =
    let here = (goal.at.returns-then-place-eq1-clause-next_within c).After-slot-s in
    rw (← c.self.view_is) (face_here here).c

pub returns-then-place-eq1-clause-last_within : goal.returns-then-place-eq1-clause-last_within
returns-then-place-eq1-clause-last_within c =
    let here = (goal.at.returns-then-place-eq1-clause-last_within c).After-slot-s in
    rw (← c.self.view_is) (face_here here).a

pub returns-else-place-eq1-clause-next : goal.returns-else-place-eq1-clause-next
returns-else-place-eq1-clause-next c =
    let here = (goal.at.returns-else-place-eq1-clause-next c).After-slot-s in
    λ p i t got tri.
    let at = (placed_here here p i t got tri).third c.if-place-eq0.false c.if-place-eq1.false in
    rw (← c.self.view_is) (next_c c.self.inside.places.points p c.slot-s.result t (known_here here t tri) at.0 at.1)

pub returns-else-place-eq1-clause-last : goal.returns-else-place-eq1-clause-last
returns-else-place-eq1-clause-last c =
    let here = (goal.at.returns-else-place-eq1-clause-last c).After-slot-s in
    λ p i t got tri.
    let at = (placed_here here p i t got tri).third c.if-place-eq0.false c.if-place-eq1.false in
    rw (← c.self.view_is) (last_c c.self.inside.places.points p c.slot-s.result t (known_here here t tri) at.0 at.1)

pub returns-else-place-eq1-clause-next_within : goal.returns-else-place-eq1-clause-next_within
returns-else-place-eq1-clause-next_within c =
    let here = (goal.at.returns-else-place-eq1-clause-next_within c).After-slot-s in
    rw (← c.self.view_is) (face_here here).a

pub returns-else-place-eq1-clause-last_within : goal.returns-else-place-eq1-clause-last_within
returns-else-place-eq1-clause-last_within c =
    let here = (goal.at.returns-else-place-eq1-clause-last_within c).After-slot-s in
    rw (← c.self.view_is) (face_here here).b
