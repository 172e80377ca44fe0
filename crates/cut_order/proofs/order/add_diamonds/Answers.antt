-- Each diamond that is split adds what its members' children have.
use Rattle.std.proofs.Common.{◌≡◌, ◌≤◌, length, sym, ap, subst, arith, List, refl, ◌∙◌}
use Rattle.std.specs.Prelude.{flat_map}
use Rattle.std.proofs.lemmas.List.{length-map, take_all}
use Rattle.tpz_base.specs.Tetrahedra.{Tetrahedron, parts}
use Rattle.tetra_name.specs.Names.{point_of}
use Rattle.diamond_graph.specs.Closed.{CanSplit}
use Rattle.diamond_graph.specs.Graphs.{centres}
use Rattle.cut_order.specs.Leaves.{Adds}
use Rattle.cut_export.specs.Numbering.{numbered_mesh}
use Rattle.cut_order.proofs.LeafOrder.{adds_more, adds_none, all_at, joined_more, keeps_both, keeps_self}
use Rattle.cut_order.proofs.order.add_diamonds.Goals as goal

pub diamonds-init : goal.diamonds-init
diamonds-init g c = record {
  mesh = adds_none c.args.split.now.graph.l (centres c.args.split.now.graph) c.args.split.now.leaves _ _ _;
  numbering = c.requires.numbering;
  kept = keeps_self _ _ c.requires.stands;
  later = omega arith;
  telling = refl;
}

pub diamonds-preserved : goal.diamonds-preserved
diamonds-preserved g c =
    let inv = c.diamonds.invariant in
    let graph = c.args.split.now.graph in
    let F = centres graph in
    record {
      mesh = subst (λ (ts : List Tetrahedron). Adds graph.l F c.args.split.now.leaves c.args.streams.now (g.W.Blob.held c.args.work.now) ts (numbered_mesh c.args.numbered.now) (numbered_mesh c.add_diamond.new.numbered))
          (sym (joined_more (parts graph.l) F c.diamonds.i (point_of c.centre_at.result) c.centre_at.ensures.centre))
          (adds_more graph.l F c.args.split.now.leaves _ (parts graph.l (point_of c.centre_at.result)) _ (numbered_mesh c.diamonds.numbered) _ inv.kept inv.mesh c.in_ok-add_diamond.ensures.mesh);
      numbering = c.in_ok-add_diamond.ensures.numbering;
      kept = keeps_both inv.kept c.add_diamond.ensures.kept;
      later = let a = inv.later in let b = c.add_diamond.ensures.later in omega arith;
      telling = c.add_diamond.ensures.telling ∙ inv.telling;
    }

pub add_diamond-requires-clause-centre : goal.add_diamond-requires-clause-centre
add_diamond-requires-clause-centre g c =
    let graph = c.args.split.now.graph in
    (all_at (CanSplit graph.l) (centres graph) c.diamonds.i (point_of c.centre_at.result) c.centre_at.ensures.graph.closed.can_split c.centre_at.ensures.centre).0

pub add_diamond-requires-clause-level : goal.add_diamond-requires-clause-level
add_diamond-requires-clause-level g c =
    let graph = c.args.split.now.graph in
    (all_at (CanSplit graph.l) (centres graph) c.diamonds.i (point_of c.centre_at.result) c.centre_at.ensures.graph.closed.can_split c.centre_at.ensures.centre).1

pub returns-clause-mesh : goal.returns-clause-mesh
returns-clause-mesh g c =
    let graph = c.args.split.now.graph in
    let most : length (centres graph) ≤ c.diamonds.i = (let all : length (centres graph) ≡ length graph.records = simp length-map in omega (arith, all, c.len-count.ensures.len)) in
    subst (λ (ts : List Tetrahedron). Adds graph.l (centres graph) c.args.split.now.leaves c.args.streams.now (g.W.Blob.held c.args.work.now) ts (numbered_mesh c.args.numbered.now) (numbered_mesh c.diamonds.numbered))
    (ap (flat_map (parts graph.l)) (take_all c.diamonds.i (centres graph) most)) c.diamonds.invariant.mesh
