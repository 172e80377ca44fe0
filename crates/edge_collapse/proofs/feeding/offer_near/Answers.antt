-- One vertex more has its entry.
use Rattle.std.proofs.Common.{◌≡◌, ◌+◌, ◌∷◌, ◌<◌, ℕ, List, arith, drop, map, length, sym, ◌∙◌, ap, subst}
use Rattle.std.specs.Prelude.{slice_index}
use Rattle.tpz_base.specs.Lists.{has}
use Rattle.tpz_base.specs.Points.{point_eq}
use Rattle.patch_mesh.specs.Slots.{point_at}
use Rattle.edge_collapse.specs.Feeds.{IsFedBut}
use Rattle.edge_collapse.proofs.SearchLaw.{room_then, roomy_kept, near_is, index_is}
use Rattle.edge_collapse.proofs.feeding.offer_near.Goals as goal

pub loop-i-preserved : goal.loop-i-preserved
loop-i-preserved c =
    let vs = c.args.list.now.vertices in
    let M = c.args.list.now.mesh in
    let i = c.loop-i.i in
    let ns = c.loop-i.search.near.items in
    let rest = drop (i + 1) (map (point_at vs) ns) in
    let within : i < length ns = omega (arith, ap length c.loop-i.invariant.near, c.len-i-end.ensures, c.loop-i-test.true, c.loop-i.auto.i-end) in
    let is : slice_index ns i ≡ c.index-v.result.now = index_is ns i c.index-v.result.now within c.index-v.ensures in
    let split : drop i (map (point_at vs) ns) ≡ point_at vs c.index-v.result.now ∷ rest = near_is vs ns i within ∙ ap (λ v. point_at vs v ∷ rest) is in
    record {
      fed = subst (λ (ms : List ℕ). IsFedBut (λ p. has point_eq (drop (i + 1) (map (point_at vs) ms)) p) vs M c.offer.new.search.queue) (sym c.offer.ensures.near)
          (c.offer.ensures.fed (λ p. has point_eq rest p) (subst (λ ps. IsFedBut (λ p. has point_eq ps p) vs M c.loop-i.search.queue) split c.loop-i.invariant.fed));
      sane = c.offer.ensures.sane c.loop-i.invariant.sane;
      near = c.offer.ensures.near ∙ c.loop-i.invariant.near;
      room = room_then c.args.search.now c.loop-i.search c.offer.new.search c.loop-i.invariant.room c.offer.ensures.room;
      roomy = roomy_kept c.args.list.now c.loop-i.search c.offer.new.search c.loop-i.invariant.roomy c.offer.ensures.room;
    }
