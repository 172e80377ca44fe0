use Rattle.std.proofs.Common.{sym, ◌∙◌, ap}
use Rattle.tetra_name.specs.Names.{point_of}
use Rattle.tetra_name.specs.States.{quick_count}
use Rattle.tetra_name.proofs.slot.member_count.Goals as goal
use Rattle.tetra_name.proofs.NameFacts.{slots_of}
use Rattle.tetra_name.proofs.PlaceLaw.{count_in, box_of_scale}
use Rattle.tetra_name.proofs.StatesLaw.{count_law}

pub returns : goal.returns
returns c =
    let box = box_of_scale c.args.l (point_of c.args.c) c.scale_of-v.result.power c.scale_of-v.result.side (point_of c.scale_of-v.result.point) c.scale_of-v.ensures.scale in
    let count =
    c.quick_count.ensures ∙ ap quick_count c.states_of.ensures.states
    ∙ sym (count_law c.scale_of-v.result.side (point_of c.scale_of-v.result.point) box c.scale_of-v.ensures.even c.scale_of-v.ensures.some)
    ∙ sym (count_in c.args.l (point_of c.args.c) c.scale_of-v.result.power c.scale_of-v.result.side (point_of c.scale_of-v.result.point) c.scale_of-v.ensures.scale) in
    record { count = count; slots = slots_of c.args.l c.args.c _ count }
