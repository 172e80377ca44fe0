-- One vertex more has its entry.
use Rattle.std.proofs.Common.{arith, ◌+◌, drop, subst}
use Rattle.tpz_base.specs.Lists.{has}
use Rattle.tpz_base.specs.Points.{point_eq}
use Rattle.edge_collapse.specs.Feeds.{IsFedBut}
use Rattle.edge_collapse.proofs.SearchLaw.{room_then, roomy_kept, rest_is}
use Rattle.edge_collapse.proofs.feeding.offer_all.Goals as goal

pub loop-v-preserved : goal.loop-v-preserved
loop-v-preserved c =
    let vs = c.args.list.now.vertices in
    let M = c.args.list.now.mesh in
    let v = c.loop-v.v in
    record {
      fed = c.offer.ensures.fed (λ p. has point_eq (drop (v + 1) vs) p)
          (subst (λ ps. IsFedBut (λ p. has point_eq ps p) vs M c.loop-v.search.queue) (rest_is vs v (omega arith)) c.loop-v.invariant.fed);
      sane = c.offer.ensures.sane c.loop-v.invariant.sane;
      room = room_then c.args.search.now c.loop-v.search c.offer.new.search c.loop-v.invariant.room c.offer.ensures.room;
      roomy = roomy_kept c.args.list.now c.loop-v.search c.offer.new.search c.loop-v.invariant.roomy c.offer.ensures.room;
    }
