-- The next node of the star.
use Rattle.std.proofs.Common.{◌≡◌, true, IfSome, nat_eq, subst}
use Rattle.tpz_base.specs.Lists.{has}
use Rattle.patch_mesh.specs.Slots.{corners_from}
use Rattle.patch_mesh.proofs.NearLaw.{own_live, next_own}
use Rattle.patch_mesh.proofs.faces.Faces.beside.Goals as goal

pub next-next-requires : goal.next-next-requires
next-next-requires c =
    let own : has nat_eq (corners_from c.args.w 0 c.args.self.now.slots) c.in_ok-a.a ≡ true = subst (λ o. IfSome o (λ a. has nat_eq (corners_from c.args.w 0 c.args.self.now.slots) a ≡ true)) c.in_ok-a.was c.requires in
    own_live c.args.w c.args.self.now.slots c.in_ok-a.a own

pub returns-else-next-n-clause-own : goal.returns-else-next-n-clause-own
returns-else-next-n-clause-own c =
    let own : has nat_eq (corners_from c.args.w 0 c.args.self.now.slots) c.in_ok-a.a ≡ true = subst (λ o. IfSome o (λ a. has nat_eq (corners_from c.args.w 0 c.args.self.now.slots) a ≡ true)) c.in_ok-a.was c.requires in
    next_own c.args.w c.args.self.now.slots c.in_ok-a.a c.next-next.result own c.next-next.ensures
