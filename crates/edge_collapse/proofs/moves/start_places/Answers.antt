-- One vertex more.
use Rattle.std.proofs.Common.{arith}
use Rattle.std.proofs.lemmas.Grind.{common_steps}
use Rattle.edge_collapse.proofs.PlaceLaw.{range_more, start_led}
use Rattle.edge_collapse.proofs.moves.start_places.Goals as goal

pub loop-v-preserved : goal.loop-v-preserved
loop-v-preserved c =
    let more = range_more c.loop-v.v in
    grind (arith, common_steps)

pub returns-clause-led : goal.returns-clause-led
returns-clause-led c = start_led c.args.list.now.vertices c.loop-v.places.items c.loop-v.v c.loop-v.invariant.items (omega arith)
