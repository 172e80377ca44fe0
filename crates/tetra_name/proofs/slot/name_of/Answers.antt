use Rattle.std.proofs.Common.{◌∙◌, ap}
use Rattle.tetra_name.specs.Names.{point_of}
use Rattle.tetra_name.specs.States.{quick_slot}
use Rattle.tetra_name.proofs.slot.name_of.Goals as goal
use Rattle.tetra_name.proofs.NameFacts.{contains-member}
use Rattle.tetra_name.proofs.StatesLaw.{slot_law}

pub returns-clause-slot : goal.returns-clause-slot
returns-clause-slot c =
    c.quick_slot.ensures ∙ ap (λ S. quick_slot S c.args.p.pair) c.states_of.ensures.states
    ∙ slot_law c.args.p.side (point_of c.args.p.point) c.requires.member.box c.requires.member.even c.requires.member.some c.args.p.pair (contains-member _ c.args.p.pair c.requires.member.listed) c.requires.member.valid
