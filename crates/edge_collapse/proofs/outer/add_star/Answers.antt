-- One more triangle.
use Rattle.std.proofs.Common.{◌≤◌, ℕ, ◌+◌, take, length, unsigned_abs, pos, arith, sym, ◌∙◌, ap}
use Rattle.std.proofs.lemmas.List.{length-take}
use Rattle.std.specs.Prelude.{filter}
use Rattle.tpz_base.specs.Meshes.{has_corner}
use Rattle.patch_mesh.proofs.MeshTests.{edge_count_next}
use Rattle.patch_mesh.proofs.WalkLaw.{all_taken}
use Rattle.edge_collapse.specs.Balances.{balance_at, sums_at}
use Rattle.edge_collapse.proofs.OuterLaw.{added, many_sums, small_first, small_after, star_corner, sums_of_star}
use Rattle.edge_collapse.proofs.outer.add_star.Goals as goal

pub shift-requires-clause-small : goal.shift-requires-clause-small
shift-requires-clause-small c =
    let xs = filter (has_corner c.args.p) c.args.list.now.mesh in
    let i = c.loop-k.walk.place in
    let few : length (take i xs) ≤ 4194304 = omega (arith, length-take i xs, c.loop-k.invariant.few) in
    let small : unsigned_abs (balance_at c.loop-k.balance.items c.in-Some.k.next) ≤ 12582912
    = small_first c.args.list.now.vertices c.loop-k.balance.items (take i xs) c.args.p c.in-Some.k.next c.loop-k.invariant.sums c.in-Some.ensures.next_within few in
    omega (arith, small)

pub shift-requires-in-Some-clause-small : goal.shift-requires-in-Some-clause-small
shift-requires-in-Some-clause-small c =
    let xs = filter (has_corner c.args.p) c.args.list.now.mesh in
    let vs = c.args.list.now.vertices in
    let i = c.loop-k.walk.place in
    let before = c.loop-k.balance.items in
    let sums = c.loop-k.invariant.sums in
    let few : length (take i xs) ≤ 4194304 = omega (arith, length-take i xs, c.loop-k.invariant.few) in
    small_after before c.shift.new.balance.items c.in-Some.k.next c.in-Some.k.last (pos 1) (omega (arith, many_sums vs before (take i xs) c.args.p sums, c.in-Some.ensures.next_within)) c.shift.ensures.items (omega arith)
    (small_first vs before (take i xs) c.args.p c.in-Some.k.next sums c.in-Some.ensures.next_within few)
    (small_first vs before (take i xs) c.args.p c.in-Some.k.last sums c.in-Some.ensures.last_within few)

pub loop-k-preserved : goal.loop-k-preserved
loop-k-preserved c =
    let xs = filter (has_corner c.args.p) c.args.list.now.mesh in
    let vs = c.args.list.now.vertices in
    let p = c.args.p in
    let i = c.loop-k.walk.place in
    let t = c.in-Some.k.tri in
    let got = sym c.in-Some.ensures.tri in
    record {
      walk = c.step.ensures.walk;
      few = c.in-Some.ensures.few;
      sums = added vs c.vertex_count.ensures.distinct p t c.in-Some.ensures.plain.whole (star_corner p c.args.list.now.mesh i t got) c.in-Some.k.next c.in-Some.k.last
          c.in-Some.ensures.next_within c.in-Some.ensures.last_within c.in-Some.ensures.next c.in-Some.ensures.last (take i xs) (take (i + 1) xs)
          (λ a b. edge_count_next xs i t a b got) c.loop-k.balance.items c.shift.new.balance.items c.shift-in-Some.new.balance.items c.loop-k.invariant.sums c.shift.ensures.items c.shift-in-Some.ensures.items
          ∙ ap (λ (n : ℕ). sums_at (take n xs) p vs) (sym c.in-Some.ensures.place);
      capacity = omega arith;
    }

pub returns-clause-sums : goal.returns-clause-sums
returns-clause-sums c =
    let xs = filter (has_corner c.args.p) c.args.list.now.mesh in
    let vs = c.args.list.now.vertices in
    c.loop-k.invariant.sums ∙ ap (λ M. sums_at M c.args.p vs) (all_taken xs c.loop-k.walk.place (sym c.in_default.ensures.tri)) ∙ sums_of_star c.args.list.now.mesh c.args.p vs
