-- The new entry comes first, and the last one goes where the cache was full.
use Rattle.std.proofs.Common.{◌∷◌, ◌∙◌, length, take, drop, sym, ap}
use Rattle.std.specs.Map.{keys_of}
use Rattle.tpz_base.specs.declared.shape.Point.{Point}
use Rattle.tetra_name.specs.Names.{point_of}
use Rattle.patch_cache.specs.Caches.{cache_state}
use Rattle.patch_cache.proofs.CacheLaw.{absent_at, admitted, kept_admit, kept_same, displaced_last, admit_gone, gone_where_full}
use Rattle.patch_cache.proofs.Cache.admit.Goals as goal

pub invariant_of-self : goal.invariant_of-self
invariant_of-self g c = kept_same c.self.inside.lru c.push.new.self c.self.invariant c.in_err-last.ensures.err

pub invariant_of-self-2 : goal.invariant_of-self-2
invariant_of-self-2 g c =
    let absent = absent_at (cache_state c.self.inside.lru.entries c.self.inside.lru.cap) c.args.self.now c.key.result (point_of c.args.centre) c.self.view_is c.key.ensures c.requires.absent in
    kept_admit c.key.result c.args.value c.self.inside.lru c.push.new.self c.self.invariant absent c.in_ok-last.ensures.entries

pub returns-clause-cache : goal.returns-clause-cache
returns-clause-cache g c =
    let absent = absent_at (cache_state c.self.inside.lru.entries c.self.inside.lru.cap) c.args.self.now c.key.result (point_of c.args.centre) c.self.view_is c.key.ensures c.requires.absent in
    kept_admit c.key.result c.args.value c.self.inside.lru c.push.new.self c.self.invariant absent c.in_ok-last.ensures.entries

pub returns-clause-entries : goal.returns-clause-entries
returns-clause-entries g c =
    let absent = absent_at (cache_state c.self.inside.lru.entries c.self.inside.lru.cap) c.args.self.now c.key.result (point_of c.args.centre) c.self.view_is c.key.ensures c.requires.absent in
    ap (λ s. cache_state s.entries s.cap) c.in_ok-last.ensures.entries
    ∙ ap (λ es. cache_state es c.self.inside.lru.cap) (admitted c.key.result c.args.value c.self.inside.lru c.self.invariant absent)
    ∙ ap (λ (d : Point). cache_state (take c.self.inside.lru.cap ((d, c.args.value) ∷ c.self.inside.lru.entries)) c.self.inside.lru.cap) c.key.ensures
    ∙ ap (λ s. cache_state (take s.cap ((point_of c.args.centre, c.args.value) ∷ s.entries)) s.cap) c.self.view_is

pub returns-clause-evicted : goal.returns-clause-evicted
returns-clause-evicted g c =
    let absent = absent_at (cache_state c.self.inside.lru.entries c.self.inside.lru.cap) c.args.self.now c.key.result (point_of c.args.centre) c.self.view_is c.key.ensures c.requires.absent in
    admit_gone c.self.inside.lru.cap (c.key.result, c.args.value) c.self.inside.lru.entries c.centre_alone.result c.in_ok-last.last c.self.invariant.least c.self.invariant.few
    c.centre_alone.ensures (c.in_ok-last.ensures.old ∙ displaced_last c.key.result c.args.value c.self.inside.lru absent)
    ∙ ap (λ (d : Point). keys_of (drop c.self.inside.lru.cap ((d, c.args.value) ∷ c.self.inside.lru.entries))) c.key.ensures
    ∙ ap (λ s. keys_of (drop s.cap ((point_of c.args.centre, c.args.value) ∷ s.entries))) c.self.view_is

pub returns-clause-full : goal.returns-clause-full
returns-clause-full g c =
    let absent = absent_at (cache_state c.self.inside.lru.entries c.self.inside.lru.cap) c.args.self.now c.key.result (point_of c.args.centre) c.self.view_is c.key.ensures c.requires.absent in
    let r = gone_where_full c.self.inside.lru.cap c.self.inside.lru.entries c.centre_alone.result c.in_ok-last.last c.self.invariant.least c.self.invariant.few
    c.centre_alone.ensures (c.in_ok-last.ensures.old ∙ displaced_last c.key.result c.args.value c.self.inside.lru absent) in (
      λ some. ap (λ s. length s.entries) (sym c.self.view_is) ∙ r.0 some ∙ ap (λ s. s.cap) c.self.view_is,
      λ long. r.1 (ap (λ s. length s.entries) c.self.view_is ∙ long ∙ ap (λ s. s.cap) (sym c.self.view_is)),
    )
