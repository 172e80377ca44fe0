-- One step back is another node of the walk, and a lower one.
use Rattle.corner_stars.proofs.StarRise.{own_linked, back_step, passed_own}
use Rattle.corner_stars.proofs.places.below.Goals as goal

pub prev-a-requires : goal.prev-a-requires
prev-a-requires c =
    own_linked c.args.ring.now.rings c.requires.sound.once c.args.first c.args.c c.requires.linked c.requires.rising c.loop-a.a c.loop-a.invariant.own

pub loop-a-smaller : goal.loop-a-smaller
loop-a-smaller c =
    (back_step c.args.ring.now.rings c.requires.sound.once c.args.first c.args.c c.requires.linked c.requires.rising c.loop-a.a c.prev-a.result
    c.loop-a.invariant.own c.requires.least c.loop-a-test.true c.prev-a.ensures.value).lower

pub loop-a-preserved : goal.loop-a-preserved
loop-a-preserved c = record {
  own = (back_step c.args.ring.now.rings c.requires.sound.once c.args.first c.args.c c.requires.linked c.requires.rising c.loop-a.a c.prev-a.result
      c.loop-a.invariant.own c.requires.least c.loop-a-test.true c.prev-a.ensures.value).own;
}

pub returns : goal.returns
returns c =
    passed_own c.args.ring.now.rings c.requires.sound.once c.args.first c.args.c c.requires.linked c.requires.rising c.loop-a.a c.loop-a.invariant.own c.loop-a-test.false
