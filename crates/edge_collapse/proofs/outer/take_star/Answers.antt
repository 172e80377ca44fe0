-- One triangle less.
use Rattle.std.proofs.Common.{◌≤◌, ℕ, ◌+◌, drop, length, unsigned_abs, negsuc, arith, sym, ◌∙◌, ap, subst}
use Rattle.std.proofs.lemmas.List.{length-drop}
use Rattle.std.specs.Prelude.{filter}
use Rattle.tpz_base.specs.Meshes.{has_corner}
use Rattle.patch_mesh.specs.Walks.{IsWalk}
use Rattle.patch_mesh.proofs.WalkLaw.{filter_most}
use Rattle.edge_collapse.specs.Balances.{balance_at, sums_at}
use Rattle.edge_collapse.proofs.OuterLaw.{taken, edge_count_left, many_sums, small_first, small_after, star_corner, all_left, none_left}
use Rattle.edge_collapse.proofs.outer.take_star.Goals as goal

pub loop-k-init : goal.loop-k-init
loop-k-init c =
    let start = c.walk_at-walk.ensures.start in
    record {
      walk = subst (λ q. IsWalk c.args.list.now q c.walk_at-walk.result) (sym c.requires.at) c.walk_at-walk.ensures.walk;
      few = omega arith;
      sums = c.requires.sums ∙ all_left c.args.list.now.mesh c.args.p c.args.list.now.vertices c.walk_at-walk.result.place start;
      capacity = omega arith;
    }

pub shift-requires-clause-small : goal.shift-requires-clause-small
shift-requires-clause-small c =
    let M = c.args.list.now.mesh in
    let xs = filter (has_corner c.args.p) M in
    let i = c.loop-k.walk.place in
    let few : length (drop i xs) ≤ 4194304 = omega (arith, length-drop i xs, filter_most c.args.p M, c.len.ensures) in
    let small : unsigned_abs (balance_at c.loop-k.balance.items c.in-Some.k.next) ≤ 12582912
    = small_first c.args.list.now.vertices c.loop-k.balance.items (drop i xs) c.args.p c.in-Some.k.next c.loop-k.invariant.sums c.in-Some.ensures.next_within few in
    omega (arith, small)

pub shift-requires-in-Some-clause-small : goal.shift-requires-in-Some-clause-small
shift-requires-in-Some-clause-small c =
    let M = c.args.list.now.mesh in
    let xs = filter (has_corner c.args.p) M in
    let vs = c.args.list.now.vertices in
    let i = c.loop-k.walk.place in
    let before = c.loop-k.balance.items in
    let sums = c.loop-k.invariant.sums in
    let few : length (drop i xs) ≤ 4194304 = omega (arith, length-drop i xs, filter_most c.args.p M, c.len.ensures) in
    small_after before c.shift.new.balance.items c.in-Some.k.next c.in-Some.k.last (negsuc 0) (omega (arith, many_sums vs before (drop i xs) c.args.p sums, c.in-Some.ensures.next_within)) c.shift.ensures.items (omega arith)
    (small_first vs before (drop i xs) c.args.p c.in-Some.k.next sums c.in-Some.ensures.next_within few)
    (small_first vs before (drop i xs) c.args.p c.in-Some.k.last sums c.in-Some.ensures.last_within few)

pub loop-k-preserved : goal.loop-k-preserved
loop-k-preserved c =
    let xs = filter (has_corner c.args.p) c.args.list.now.mesh in
    let vs = c.args.list.now.vertices in
    let p = c.args.p in
    let i = c.loop-k.walk.place in
    let t = c.in-Some.k.tri in
    let got = sym c.in-Some.ensures.tri in
    record {
      walk = c.step.ensures.walk;
      few = c.in-Some.ensures.few;
      sums = taken vs c.vertex_count.ensures.distinct p t c.in-Some.ensures.plain.whole (star_corner p c.args.list.now.mesh i t got) c.in-Some.k.next c.in-Some.k.last
          c.in-Some.ensures.next_within c.in-Some.ensures.last_within c.in-Some.ensures.next c.in-Some.ensures.last (drop (i + 1) xs) (drop i xs)
          (λ a b. edge_count_left xs i t a b got) c.loop-k.balance.items c.shift.new.balance.items c.shift-in-Some.new.balance.items c.loop-k.invariant.sums c.shift.ensures.items c.shift-in-Some.ensures.items
          ∙ ap (λ (n : ℕ). sums_at (drop n xs) p vs) (sym c.in-Some.ensures.place);
      capacity = omega arith;
    }

pub returns-clause-none : goal.returns-clause-none
returns-clause-none c =
    let xs = filter (has_corner c.args.p) c.args.list.now.mesh in
    c.loop-k.invariant.sums ∙ none_left xs c.args.p c.args.list.now.vertices c.loop-k.walk.place (sym c.in_default.ensures.tri)
