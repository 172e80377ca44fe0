-- Each root adds what it has.
use Rattle.std.proofs.Common.{◌≡◌, arith, refl, ◌∙◌}
use Rattle.tetra_name.specs.Names.{tetrahedron_of, root_at}
use Rattle.diamond_graph.specs.Graphs.{centres}
use Rattle.cut_export.specs.Numbering.{numbered_mesh}
use Rattle.cut_order.proofs.LeafOrder.{adds_none, keeps_both, keeps_self, roots_done, roots_more}
use Rattle.cut_order.proofs.order.add_roots.Goals as goal

pub roots-init : goal.roots-init
roots-init g c = record {
  mesh = adds_none c.args.split.now.graph.l (centres c.args.split.now.graph) c.args.split.now.leaves _ _ _;
  numbering = c.requires.numbering;
  kept = keeps_self _ _ c.requires.stands;
  later = omega arith;
  telling = refl;
}

pub roots-preserved : goal.roots-preserved
roots-preserved g c =
    let inv = c.roots.invariant in
    let graph = c.args.split.now.graph in
    let is : tetrahedron_of graph.l c.root.result ≡ root_at graph.l c.roots.slot = rw c.l-l.ensures.l at c.root.ensures.root in
    record {
      mesh = roots_more graph.l (centres graph) c.args.split.now.leaves c.roots.slot c.root.result _ (numbered_mesh c.roots.numbered) _ (omega arith) is inv.kept inv.mesh c.in_ok-add_leaf.ensures.mesh;
      numbering = c.in_ok-add_leaf.ensures.numbering;
      kept = keeps_both inv.kept c.add_leaf.ensures.kept;
      later = let a = inv.later in let b = c.add_leaf.ensures.later in omega arith;
      telling = c.add_leaf.ensures.telling ∙ inv.telling;
    }

pub returns-clause-mesh : goal.returns-clause-mesh
returns-clause-mesh g c =
    roots_done c.args.split.now.graph.l (centres c.args.split.now.graph) c.args.split.now.leaves _ _ c.roots.slot _ _ (omega arith) c.roots.invariant.mesh
