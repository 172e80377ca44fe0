use Rattle.std.proofs.Common.{sym, ◌∙◌, ap}
use Rattle.std.specs.Prelude.{Some}
use Rattle.tetra_name.specs.Names.{point_of}
use Rattle.tetra_name.specs.States.{edge_axes, quick_pair}
use Rattle.tetra_name.proofs.slot.pair_at.Goals as goal
use Rattle.tetra_name.proofs.NameFacts.{some_of}
use Rattle.tetra_name.proofs.StatesLaw.{box_of, cube_slot, pair_law}

pub quick_pair-requires : goal.quick_pair-requires
quick_pair-requires c = λ e.
    let s = some_of _ c.requires.valid in
    cube_slot c.args.side (point_of c.args.u) (box_of c.args.side (point_of c.args.u) c.requires.within) c.requires.even c.requires.some c.args.slot s.0 s.1 (ap edge_axes (sym c.states_of.ensures.states) ∙ e)

pub returns : goal.returns
returns c =
    let s = some_of _ c.requires.valid in
    let same = pair_law c.args.side (point_of c.args.u) (box_of c.args.side (point_of c.args.u) c.requires.within) c.requires.even c.requires.some c.args.slot s.0 s.1 in
    s.1 ∙ ap Some (sym (c.quick_pair.ensures ∙ ap (λ S. quick_pair S c.args.slot) c.states_of.ensures.states ∙ same))
