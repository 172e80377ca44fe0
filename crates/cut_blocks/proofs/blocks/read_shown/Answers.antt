-- The block of a record, and the parts that are active.
use Rattle.std.proofs.Common.{ap, Err}
use Rattle.view_cut.proofs.ActiveLaw.{place_there}
use Rattle.cut_blocks.proofs.OpenLaw.{named_there, same_status, shown_there, wrong_none, wrong_some}
use Rattle.cut_blocks.proofs.blocks.read_shown.Goals as goal

pub returns-in-Err-clause-bad : goal.returns-in-Err-clause-bad
returns-in-Err-clause-bad g c = λ bad e.
    let r = c.in-Err.ensures.bad bad (ap Err (same_status _ _ e)) in (
      r.0,
      r.1,
      λ bs told.
          wrong_some _ c.args.reader.now c.args.graph.now c.requires.open bs told c.args.i r.0
          (place_there c.args.graph.now c.args.set.now c.args.i c.requires.set c.requires.member) (r.2 bs told),
    )

pub returns-clause-patches : goal.returns-clause-patches
returns-clause-patches g c = λ bs told.
    shown_there _ c.args.reader.now c.args.graph.now c.requires.open bs told c.args.set.now c.args.i c.centre_at-centre.result c.active-bits.result c.in-Ok.block
    (place_there c.args.graph.now c.args.set.now c.args.i c.requires.set c.requires.member) c.centre_at-centre.ensures.centre c.active-bits.ensures.bits (c.in-Ok.ensures.table bs told)

pub returns-clause-right : goal.returns-clause-right
returns-clause-right g c = λ bs told.
    wrong_none _ c.args.reader.now c.args.graph.now c.requires.open bs told c.args.i c.in-Ok.block
    (place_there c.args.graph.now c.args.set.now c.args.i c.requires.set c.requires.member) (c.in-Ok.ensures.table bs told)

pub returns-clause-named : goal.returns-clause-named
returns-clause-named g c =
    named_there _ c.args.reader.now c.args.graph.now c.requires.open c.args.i c.centre_at-centre.result c.active-bits.result c.in-Ok.block c.centre_at-centre.ensures.graph
    (place_there c.args.graph.now c.args.set.now c.args.i c.requires.set c.requires.member) c.centre_at-centre.ensures.centre c.in-Ok.ensures.right
