-- The roots, and then the parts of the diamonds that are split: the active tetrahedra of the finest cut.
use Rattle.std.proofs.Common.{subst}
use Rattle.std.specs.Prelude.{◌++◌, flat_map}
use Rattle.tpz_base.specs.Meshes.{Mesh}
use Rattle.tpz_base.specs.Tetrahedra.{parts, roots}
use Rattle.diamond_graph.specs.Graphs.{centres}
use Rattle.cut_order.specs.Leaves.{Adds}
use Rattle.cut_export.specs.Numbering.{numbered_mesh}
use Rattle.cut_order.proofs.LeafOrder.{adds_more, cut_added}
use Rattle.cut_order.proofs.order.number_leaves.Goals as goal

pub returns-clause-mesh : goal.returns-clause-mesh
returns-clause-mesh g c =
    let graph = c.args.split.now.graph in
    let F = centres graph in
    let all = adds_more graph.l F c.args.split.now.leaves (roots graph.l) (flat_map (parts graph.l) F) _ (numbered_mesh c.add_roots.new.numbered) _
    c.add_roots.ensures.kept c.in_ok-add_roots.ensures.mesh c.in_ok-add_diamonds.ensures.mesh in
    cut_added graph.l F c.args.split.now.leaves _ _ _
    (subst (λ (m : Mesh). Adds graph.l F c.args.split.now.leaves c.args.streams.now (g.W.Blob.held c.args.work.now) (roots graph.l ++ flat_map (parts graph.l) F) m (numbered_mesh c.add_diamonds.new.numbered))
    c.in_ok-numbered.ensures.mesh all)
