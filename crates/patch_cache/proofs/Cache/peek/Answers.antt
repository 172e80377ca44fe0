use Rattle.std.proofs.Common.{◌≡◌, ◌∙◌, ap, refl, is_some, option_copied, Option, Some, None, Bor}
use Rattle.tpz_base.specs.declared.shape.Point.{Point}
use Rattle.tpz_base.specs.Cuts.{has_diamond}
use Rattle.std.specs.Map.{keys_of}
use Rattle.tetra_name.specs.Names.{point_of}
use Rattle.patch_cache.proofs.CacheLaw.{found}
use Rattle.patch_cache.proofs.Cache.peek.Goals as goal

some_copied : {V : Type 0} (r : Option (Bor V)) → is_some r ≡ is_some (option_copied r)
some_copied None = refl
some_copied (Some x) = refl

pub returns-clause-found : goal.returns-clause-found
returns-clause-found g c =
    some_copied c.peek.result ∙ ap is_some c.peek.ensures ∙ found c.key.result c.self.inside.lru.entries ∙ ap (λ (d : Point). has_diamond (keys_of c.self.inside.lru.entries) d) c.key.ensures
    ∙ ap (λ s. has_diamond (keys_of s.entries) (point_of c.args.centre)) c.self.view_is
