-- The entry with the centre comes to the front.
use Rattle.std.proofs.Common.{◌∙◌, ap}
use Rattle.std.specs.Map.{keys_of}
use Rattle.tpz_base.specs.declared.shape.Point.{Point}
use Rattle.tpz_base.specs.Cuts.{has_diamond}
use Rattle.tetra_name.specs.Names.{point_of}
use Rattle.patch_cache.specs.Caches.{cache_state, to_front}
use Rattle.patch_cache.proofs.CacheLaw.{found, promoted_front, kept_front}
use Rattle.patch_cache.proofs.Cache.touch.Goals as goal

pub invariant_of-self : goal.invariant_of-self
invariant_of-self g c = kept_front c.key.result c.self.inside.lru c.promote.new.self c.self.invariant c.promote.ensures.entries

pub returns-clause-found : goal.returns-clause-found
returns-clause-found g c =
    c.promote.ensures.value ∙ found c.key.result c.self.inside.lru.entries ∙ ap (λ (d : Point). has_diamond (keys_of c.self.inside.lru.entries) d) c.key.ensures
    ∙ ap (λ s. has_diamond (keys_of s.entries) (point_of c.args.centre)) c.self.view_is

pub returns-clause-entries : goal.returns-clause-entries
returns-clause-entries g c =
    ap (λ s. cache_state s.entries s.cap) c.promote.ensures.entries
    ∙ ap (λ es. cache_state es c.self.inside.lru.cap) (promoted_front c.key.result c.self.inside.lru.entries c.self.invariant.differ)
    ∙ ap (λ (d : Point). cache_state (to_front d c.self.inside.lru.entries) c.self.inside.lru.cap) c.key.ensures
    ∙ ap (λ s. cache_state (to_front (point_of c.args.centre) s.entries) s.cap) c.self.view_is

pub returns-clause-cache : goal.returns-clause-cache
returns-clause-cache g c = kept_front c.key.result c.self.inside.lru c.promote.new.self c.self.invariant c.promote.ensures.entries
