-- Each corner of the walk is one of u, and a higher one than before.
use Rattle.std.proofs.Common.{◌≡◌, true, ◌*◌, ◌<◌, length, sym, subst, IfSome, nat_eq}
use Rattle.tpz_base.specs.Lists.{has}
use Rattle.patch_mesh.specs.Slots.{corners_from}
use Rattle.patch_mesh.proofs.NearLaw.{first_own, own_live, own_below, left_of, left_less}
use Rattle.patch_mesh.proofs.faces.Faces.shared.Goals as goal

pub loop-at-init : goal.loop-at-init
loop-at-init c = record { own = first_own (corners_from c.args.u 0 c.args.self.now.slots) c.first-at.result c.first-at.ensures }

pub corner_at-found-requires : goal.corner_at-found-requires
corner_at-found-requires c =
    let slots = c.args.self.now.slots in
    let own : has nat_eq (corners_from c.args.u 0 slots) c.in-Some.c ≡ true = subst (λ o. IfSome o (λ k. has nat_eq (corners_from c.args.u 0 slots) k ≡ true)) c.in-Some.is c.loop-at.invariant.own in
    own_live c.args.u slots c.in-Some.c own

pub loop-at-smaller : goal.loop-at-smaller
loop-at-smaller c =
    let slots = c.args.self.now.slots in
    let m = 3 * length slots in
    let own : has nat_eq (corners_from c.args.u 0 slots) c.in-Some.c ≡ true = subst (λ o. IfSome o (λ k. has nat_eq (corners_from c.args.u 0 slots) k ≡ true)) c.in-Some.is c.loop-at.invariant.own in
    subst (λ o. left_of m c.behind-at.result < left_of m o) (sym c.in-Some.is)
    (left_less m c.in-Some.c c.behind-at.result (own_below c.args.u slots c.in-Some.c own) c.behind-at.ensures.further)
