use Rattle.std.proofs.Common.{[], ◌∷◌, refl}
use Rattle.ply_head.proofs.SeenLemmas.{with_last-front}
use Rattle.ply_head.proofs.seen.DeclaredElements.push_property.Goals as goal

pub returns-in_ok-push-2 : goal.returns-in_ok-push-2
returns-in_ok-push-2 c =
    rw (c.in_ok-push-2.ensures.items, ← c.self.view_is, c.in-Some.ensures.items, with_last-front (c.args.named ∷ []) _ c.in-Some.last, c.in_ok-push.ensures) refl
