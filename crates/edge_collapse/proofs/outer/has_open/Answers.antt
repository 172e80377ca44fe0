-- One more triangle.
use Rattle.std.proofs.Common.{sym, ◌∙◌}
use Rattle.std.specs.Prelude.{filter}
use Rattle.tpz_base.specs.Meshes.{has_corner}
use Rattle.patch_mesh.specs.Shops.{opens_at}
use Rattle.patch_mesh.proofs.Local.{outer_by_star}
use Rattle.patch_mesh.proofs.WalkLaw.{none_yet, none_at_all, any_found}
use Rattle.edge_collapse.proofs.OuterLaw.{opens_read, star_corner}
use Rattle.edge_collapse.proofs.outer.has_open.Goals as goal

pub returns-then-is_open : goal.returns-then-is_open
returns-then-is_open c =
    let M = c.args.list.now.mesh in
    let t = c.in-Some.k.tri in
    let at = star_corner c.args.p M c.loop-k.walk.place t (sym c.in-Some.ensures.tri) in
    let told = opens_read c.args.list.now.vertices c.args.balance.now M c.args.p t c.in-Some.k.next c.in-Some.k.last c.in-Some.ensures.plain.whole at
    c.requires.sums c.in-Some.ensures.next_within c.in-Some.ensures.last_within c.in-Some.ensures.next c.in-Some.ensures.last ∙ sym c.is_open.ensures in
    sym (outer_by_star M c.args.p ∙ any_found (opens_at M c.args.p) (filter (has_corner c.args.p) M) c.loop-k.walk.place t (sym c.in-Some.ensures.tri) (told ∙ c.if-is_open.true))

pub loop-k-preserved : goal.loop-k-preserved
loop-k-preserved c =
    let M = c.args.list.now.mesh in
    let t = c.in-Some.k.tri in
    let at = star_corner c.args.p M c.loop-k.walk.place t (sym c.in-Some.ensures.tri) in
    let told = opens_read c.args.list.now.vertices c.args.balance.now M c.args.p t c.in-Some.k.next c.in-Some.k.last c.in-Some.ensures.plain.whole at
    c.requires.sums c.in-Some.ensures.next_within c.in-Some.ensures.last_within c.in-Some.ensures.next c.in-Some.ensures.last ∙ sym c.is_open.ensures in
    record {
      walk = c.step.ensures.walk;
      few = c.in-Some.ensures.few;
      none = none_yet (opens_at M c.args.p) (filter (has_corner c.args.p) M) c.loop-k.walk.place _ t (sym c.in-Some.ensures.tri) (told ∙ c.if-is_open.false) c.loop-k.invariant.none c.in-Some.ensures.place;
    }

pub returns : goal.returns
returns c =
    let M = c.args.list.now.mesh in
    sym (outer_by_star M c.args.p ∙ none_at_all (opens_at M c.args.p) (filter (has_corner c.args.p) M) c.loop-k.walk.place (sym c.in_default.ensures.tri) c.loop-k.invariant.none)
