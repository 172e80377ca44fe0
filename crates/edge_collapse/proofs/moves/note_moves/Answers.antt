-- One vertex more.
use Rattle.std.proofs.Common.{◌<◌, arith, length, List, ◌++◌, sym, ◌∙◌, ap, ap₂}
use Rattle.tpz_base.specs.declared.shape.Point.{Point}
use Rattle.tpz_base.specs.declared.shape.Move.{Move}
use Rattle.patch_mesh.specs.Slots.{point_at}
use Rattle.edge_collapse.specs.Places.{taken_by, moves_between, moves_among}
use Rattle.edge_collapse.proofs.PlaceLaw.{among_more, among_all}
use Rattle.edge_collapse.proofs.moves.note_moves.Goals as goal

pub loop-v-preserved : goal.loop-v-preserved
loop-v-preserved c =
    let vs = c.args.list.now.vertices in
    let v = c.loop-v.v in
    let less : v < length vs = omega arith in
    record {
      items = λ es led. c.note_move.ensures.items
          ∙ ap₂ (λ (ms : List Move) (p : Point). ms ++ moves_between (point_at vs v) p) (c.loop-v.invariant.items es led) (led.led v less)
          ∙ sym (among_more (taken_by es) vs v less);
      few = omega arith;
      capacity = omega arith;
    }

pub returns-clause-items : goal.returns-clause-items
returns-clause-items c = λ es led. c.loop-v.invariant.items es led ∙ ap (moves_among (taken_by es)) (among_all c.args.list.now.vertices c.loop-v.v (omega arith))
