-- One pair more.
use Rattle.std.proofs.Common.{◌≡◌, ℕ, ◌+◌, ◌-◌, ◌<◌, arith, map, drop, length, refl, subst}
use Rattle.edge_collapse.specs.Places.{ends_at, AreLed}
use Rattle.edge_collapse.proofs.PlaceLaw.{follow_down}
use Rattle.edge_collapse.proofs.moves.follow_all.Goals as goal

pub loop-i-preserved : goal.loop-i-preserved
loop-i-preserved c =
    let vs = c.args.list.now.vertices in
    let pairs = c.args.pairs.now in
    let less : c.loop-i.i - 1 < length pairs = omega arith in
    let back : c.loop-i.i ≡ c.loop-i.i - 1 + 1 = omega arith in
    let led = subst (λ (n : ℕ). AreLed vs (map (ends_at vs) (drop n pairs)) c.loop-i.places) back c.loop-i.invariant.led in
    record {
      within = omega arith;
      led = follow_down vs pairs (c.loop-i.i - 1) (record { from = 0; to = 0 }) c.loop-i.places _ c.vertex_count.ensures.distinct c.requires.pairs less led refl;
    }
