-- Each member's children add what they have.
use Rattle.std.proofs.Common.{◌≤◌, sym, subst, arith, List, refl, ◌∙◌}
use Rattle.tpz_base.specs.Tetrahedra.{Tetrahedron, children, members}
use Rattle.tetra_name.specs.Names.{count_of, point_of, IsName}
use Rattle.diamond_graph.specs.Graphs.{centres}
use Rattle.cut_order.specs.Leaves.{Adds}
use Rattle.cut_export.specs.Numbering.{numbered_mesh}
use Rattle.split_pass.proofs.Dividing.{at_some}
use Rattle.cut_order.proofs.LeafOrder.{adds_more, adds_none, joined_more, keeps_both, keeps_self, members_done, named_member}
use Rattle.cut_order.proofs.order.add_diamond.Goals as goal

pub members-init : goal.members-init
members-init g c = record {
  mesh = adds_none c.args.split.now.graph.l (centres c.args.split.now.graph) c.args.split.now.leaves _ _ _;
  numbering = c.requires.numbering;
  kept = keeps_self _ _ c.requires.stands;
  later = omega arith;
  telling = refl;
}

pub members-preserved : goal.members-preserved
members-preserved g c =
    let inv = c.members.invariant in
    let graph = c.args.split.now.graph in
    let F = centres graph in
    let name : IsName graph.l (record { centre = c.args.centre; slot = c.members.slot }) = rw c.l.ensures.l at ((c.member_count-count.ensures.slots c.members.slot).0 (omega arith)) in
    let (T, is, here) = named_member graph.l c.args.centre c.members.slot name in
    record {
      mesh = subst (λ (ts : List Tetrahedron). Adds graph.l F c.args.split.now.leaves c.args.streams.now (g.W.Blob.held c.args.work.now) ts (numbered_mesh c.args.numbered.now) (numbered_mesh c.add_children.new.numbered))
          (sym (joined_more children (members graph.l (point_of c.args.centre)) c.members.slot T here))
          (adds_more graph.l F c.args.split.now.leaves _ (children T) _ (numbered_mesh c.members.numbered) _ inv.kept inv.mesh (at_some _ _ T c.in_ok-add_children.ensures.mesh is));
      numbering = c.in_ok-add_children.ensures.numbering;
      kept = keeps_both inv.kept c.add_children.ensures.kept;
      later = let a = inv.later in let b = c.add_children.ensures.later in omega arith;
      telling = c.add_children.ensures.telling ∙ inv.telling;
    }

pub returns-clause-mesh : goal.returns-clause-mesh
returns-clause-mesh g c =
    let graph = c.args.split.now.graph in
    let most : count_of graph.l (point_of c.args.centre) ≤ c.members.slot = (let all = rw c.l.ensures.l at c.member_count-count.ensures.count in omega (arith, all)) in
    subst (λ (ts : List Tetrahedron). Adds graph.l (centres graph) c.args.split.now.leaves c.args.streams.now (g.W.Blob.held c.args.work.now) ts (numbered_mesh c.args.numbered.now) (numbered_mesh c.members.numbered))
    (members_done graph.l (point_of c.args.centre) c.members.slot most) c.members.invariant.mesh
