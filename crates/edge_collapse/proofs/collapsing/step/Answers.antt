-- The ends of the pair are vertices, and have numbers.
use Rattle.std.proofs.Common.{subst, sym}
use Rattle.std.specs.Prelude.{All}
use Rattle.std.proofs.lemmas.List.Elements.{All-push}
use Rattle.edge_collapse.specs.Places.{IsNumbered}
use Rattle.edge_collapse.proofs.LeastLaw.{legal_pair}
use Rattle.edge_collapse.proofs.collapsing.step.Goals as goal

pub number_of-to-requires : goal.number_of-to-requires
number_of-to-requires c = (legal_pair c.args.list.now.mesh c.in-Some.k.from c.in-Some.k.to c.in-Some.ensures.legal).to

pub returns-in-Some-clause-pairs : goal.returns-in-Some-clause-pairs
returns-in-Some-clause-pairs c =
    let P = IsNumbered c.args.list.now.vertices in
    subst (All P) (sym c.note.ensures.items) (All-push P c.args.pairs.now.items _ c.requires.pairs (c.in-Some.ensures.at.within, c.number_of-to.ensures.within))
