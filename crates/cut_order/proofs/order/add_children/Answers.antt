-- What the first child adds, and then what the second adds.
use Rattle.std.proofs.Common.{◌≡◌, ◌∷◌, [], ◌∙◌, ap}
use Rattle.tpz_base.specs.Tetrahedra.{Tetrahedron, child_0, child_1}
use Rattle.tetra_name.specs.Names.{child_of, tetrahedron_of}
use Rattle.diamond_graph.specs.Graphs.{centres}
use Rattle.cut_export.specs.Numbering.{numbered_mesh}
use Rattle.split_pass.proofs.Dividing.{at_some}
use Rattle.cut_order.proofs.LeafOrder.{adds_more, first_child, in_some, on_ok, second_child}
use Rattle.cut_order.proofs.order.add_children.Goals as goal

pub returns-clause-mesh : goal.returns-clause-mesh
returns-clause-mesh g c =
    let graph = c.args.split.now.graph in
    let first_is : tetrahedron_of graph.l c.child.result ≡ child_of 0 (tetrahedron_of graph.l c.args.name) = rw c.l-l.ensures.l at c.child.ensures.child in
    let second_is : tetrahedron_of graph.l c.child-2.result ≡ child_of 1 (tetrahedron_of graph.l c.args.name) = rw c.l-l.ensures.l at c.child-2.ensures.child in
    on_ok c.add_leaf-2.result _ _ (λ second. in_some _ _ (λ (T : Tetrahedron) is.
    adds_more graph.l (centres graph) c.args.split.now.leaves (child_0 T ∷ []) (child_1 T ∷ []) _ (numbered_mesh c.add_leaf.new.numbered) _ c.add_leaf.ensures.kept
    (at_some _ _ (child_0 T) c.in_ok-add_leaf.ensures.mesh (first_is ∙ ap (child_of 0) is ∙ first_child T))
    (at_some _ _ (child_1 T) second (second_is ∙ ap (child_of 1) is ∙ second_child T)))) c.add_leaf-2.ensures.mesh
