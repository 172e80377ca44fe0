-- A tetrahedron adds nothing, or its stream's triangles.
use Rattle.std.proofs.Common.{◌≡◌, ◌∙◌, true, false, rules, sym, ap}
use Rattle.tpz_base.specs.Tetrahedra.{Tetrahedron}
use Rattle.tpz_base.specs.Cuts.{has_diamond}
use Rattle.tetra_name.specs.Names.{point_of}
use Rattle.diamond_graph.specs.Graphs.{centres}
use Rattle.assign.proofs.LeafLaw.{named_diamond}
use Rattle.cut_order.proofs.LeafOrder.{adds_empty, adds_split, adds_stream, in_some, on_ok}
use Rattle.cut_order.proofs.order.add_leaf.Goals as goal

pub returns-then-has-clause-mesh : goal.returns-then-has-clause-mesh
returns-then-has-clause-mesh g c =
    let graph = c.args.split.now.graph in
    let is_in : has_diamond (centres graph) (point_of c.args.name.centre) ≡ true = search rules in
    in_some _ _ (λ (T : Tetrahedron) is. adds_split graph.l (centres graph) c.args.split.now.leaves _ _ T _
    (ap (has_diamond (centres graph)) (named_diamond graph.l c.args.name T is) ∙ is_in))

pub returns-in-Some-clause-mesh : goal.returns-in-Some-clause-mesh
returns-in-Some-clause-mesh g c =
    let graph = c.args.split.now.graph in
    let is_out : has_diamond (centres graph) (point_of c.args.name.centre) ≡ false = search rules in
    on_ok c.add_stream.result _ _ (λ added. in_some _ _ (λ (T : Tetrahedron) is. adds_stream graph.l (centres graph) c.args.split.now.leaves _ _ c.args.name T c.in-Some.id _ _ is
    (ap (has_diamond (centres graph)) (named_diamond graph.l c.args.name T is) ∙ is_out) (sym c.stream.ensures ∙ c.in-Some.is) added)) c.add_stream.ensures.mesh

pub returns-in-None-clause-mesh : goal.returns-in-None-clause-mesh
returns-in-None-clause-mesh g c =
    let graph = c.args.split.now.graph in
    let is_out : has_diamond (centres graph) (point_of c.args.name.centre) ≡ false = search rules in
    in_some _ _ (λ (T : Tetrahedron) is. adds_empty graph.l (centres graph) c.args.split.now.leaves _ _ c.args.name T _ is
    (ap (has_diamond (centres graph)) (named_diamond graph.l c.args.name T is) ∙ is_out) (sym c.stream.ensures ∙ c.in-None.is))
