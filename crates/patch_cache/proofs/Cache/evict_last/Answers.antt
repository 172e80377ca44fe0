-- The last entry goes.
use Rattle.std.proofs.Common.{◌-◌, ◌≤◌, ◌∙◌, suc, length, drop, sym, ap, arith}
use Rattle.std.specs.Map.{keys_of}
use Rattle.patch_cache.proofs.CacheLaw.{kept_take, last_gone, none_where_empty}
use Rattle.patch_cache.proofs.Cache.evict_last.Goals as goal

pub invariant_of-self : goal.invariant_of-self
invariant_of-self g c = kept_take (length c.self.inside.lru.entries - 1) c.self.inside.lru c.pop_lru.new.self c.self.invariant c.pop_lru.ensures.entries

pub returns-clause-evicted : goal.returns-clause-evicted
returns-clause-evicted g c =
    let es = c.self.inside.lru.entries in
    let few : length es ≤ suc (length es - 1) = omega arith in
    last_gone (length es - 1) es c.centre_alone.result c.pop_lru.result few c.centre_alone.ensures c.pop_lru.ensures.value
    ∙ ap (λ s. keys_of (drop (length s.entries - 1) s.entries)) c.self.view_is

pub returns-clause-empty : goal.returns-clause-empty
returns-clause-empty g c =
    let r = none_where_empty c.self.inside.lru.entries c.centre_alone.result c.pop_lru.result c.centre_alone.ensures c.pop_lru.ensures.value in
    (λ none. ap (λ s. s.entries) (sym c.self.view_is) ∙ r.0 none, λ empty. r.1 (ap (λ s. s.entries) c.self.view_is ∙ empty))

pub returns-clause-cache : goal.returns-clause-cache
returns-clause-cache g c = kept_take (length c.self.inside.lru.entries - 1) c.self.inside.lru c.pop_lru.new.self c.self.invariant c.pop_lru.ensures.entries
