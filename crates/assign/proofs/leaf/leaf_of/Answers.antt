use Rattle.std.proofs.Common.{◌≡◌, ◌∙◌, sym, subst, arith}
use Rattle.tetra_name.specs.Names.{IsName, tetrahedron_of}
use Rattle.diamond_graph.specs.Graphs.{centres}
use Rattle.assign.specs.Leaf.{leaf}
use Rattle.assign.proofs.LeafLaw.{first_way, next_way, last_way, way_name, graph_level}
use Rattle.assign.proofs.leaf.leaf_of.Goals as goal

pub way-init : goal.way-init
way-init c =
    first_way c.l-l.result (centres c.args.graph.now) c.args.t.now c.root-name.result c.root_of.result c.root-name.ensures.root (c.root_of.ensures.root c.l-l.result)

pub side-which-requires-clause-name : goal.side-which-requires-clause-name
side-which-requires-clause-name c = way_name _ _ _ _ c.way.invariant

pub side-which-requires-clause-level : goal.side-which-requires-clause-level
side-which-requires-clause-level c = graph_level c.args.graph.now _ _ c.l-l.ensures.l c.l-l.ensures.graph (sym c.has.ensures ∙ c.way-test.true)

pub child-name-requires-clause-name : goal.child-name-requires-clause-name
child-name-requires-clause-name c = way_name _ _ _ _ c.way.invariant

pub child-name-requires-clause-level : goal.child-name-requires-clause-level
child-name-requires-clause-level c = graph_level c.args.graph.now _ _ c.l-l.ensures.l c.l-l.ensures.graph (sym c.has.ensures ∙ c.way-test.true)

pub way-smaller : goal.way-smaller
way-smaller c =
    let low = graph_level c.args.graph.now _ _ c.l-l.ensures.l c.l-l.ensures.graph (sym c.has.ensures ∙ c.way-test.true) in
    omega (arith, low, c.child-name.ensures.level)

pub way-preserved : goal.way-preserved
way-preserved c =
    next_way c.l-l.result (centres c.args.graph.now) c.args.t.now c.way.name c.child-name.result c.side-which.result c.way.invariant (sym c.has.ensures ∙ c.way-test.true)
    (graph_level c.args.graph.now _ _ c.l-l.ensures.l c.l-l.ensures.graph (sym c.has.ensures ∙ c.way-test.true)) c.side-which.ensures.child c.child-name.ensures.child

pub returns-clause-leaf : goal.returns-clause-leaf
returns-clause-leaf c =
    subst (λ n. tetrahedron_of n c.way.name ≡ leaf n (centres c.args.graph.now) c.args.t.now) c.l-l.ensures.l
    (last_way c.l-l.result (centres c.args.graph.now) c.args.t.now c.way.name c.way.invariant (sym c.has.ensures ∙ c.way-test.false))

pub returns-clause-name : goal.returns-clause-name
returns-clause-name c = subst (λ n. IsName n c.way.name) c.l-l.ensures.l (way_name _ _ _ _ c.way.invariant)
