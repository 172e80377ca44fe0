-- The front is the cut of the view.
use Rattle.std.proofs.Common.{◌∙◌, ap, sym, subst}
use Rattle.std.specs.List.Sorted.{IsStrictlyIncreasing}
use Rattle.diamond_graph.specs.Graphs.{GraphState}
use Rattle.view_cut.specs.Sets.{centres_at}
use Rattle.view_cut.proofs.PlaceLaw.{places_ascend, wanted_at}
use Rattle.view_cut.proofs.ViewLaw.{graph_cut, wanted_set}
use Rattle.view_cut.proofs.looking.Front.look.Goals as goal

pub invariant_of-self : goal.invariant_of-self
invariant_of-self c =
    subst IsStrictlyIncreasing (sym c.in_ok-found.ensures.places) (places_ascend c.args.view.now c.args.graph.now.records)

pub returns-clause-centres : goal.returns-clause-centres
returns-clause-centres c = ap (centres_at c.args.graph.now.records) c.in_ok-found.ensures.places ∙ wanted_at c.args.view.now c.args.graph.now.records

pub returns-clause-cut : goal.returns-clause-cut
returns-clause-cut c = graph_cut c.args.graph.now c.args.view.now c.in_ok-found.ensures.graph c.requires.saturated

pub returns-clause-set : goal.returns-clause-set
returns-clause-set c =
    wanted_set c.args.graph.now c.find_wanted.new.graph c.args.view.now c.in_ok-found.found.items c.in_ok-found.ensures.graph c.requires.saturated c.in_ok-found.ensures.places
    (ap (λ (g : GraphState). g.l) c.in_ok-found.ensures.tests) (ap (λ (g : GraphState). g.records) c.in_ok-found.ensures.tests)
