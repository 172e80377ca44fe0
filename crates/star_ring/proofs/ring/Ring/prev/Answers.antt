use Rattle.std.proofs.Common.{◌≡◌, true, sym, subst}
use Rattle.star_ring.specs.Rings.{Rings, IsSound, in_a_ring}
use Rattle.star_ring.proofs.Blocks.{sound_from, prev_is}
use Rattle.star_ring.proofs.ring.Ring.prev.Goals as goal

pub returns-clause-value : goal.returns-clause-value
returns-clause-value c =
    let linked : in_a_ring c.self.inside.listing.rings c.args.node ≡ true = subst (λ (s : Rings). in_a_ring s.rings c.args.node ≡ true) (sym c.self.view_is) c.requires in
    rw (← c.self.view_is, c.get.ensures) (prev_is c.self.inside.block c.self.inside.listing.rings c.args.node c.self.invariant linked)

pub returns-clause-sound : goal.returns-clause-sound
returns-clause-sound c = subst IsSound c.self.view_is (sound_from c.self.inside.block c.self.inside.listing.rings c.self.invariant)
