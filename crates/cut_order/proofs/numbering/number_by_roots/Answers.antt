use Rattle.std.proofs.Common.{◌∙◌, ◌++◌, ap}
use Rattle.tpz_base.specs.Meshes.{Mesh}
use Rattle.tpz_base.specs.Roots.{root_part}
use Rattle.cut_export.specs.Numbering.{numbered_mesh}
use Rattle.cut_order.proofs.RootLoops.{roots_here, later_parts, all_roots}
use Rattle.cut_order.proofs.numbering.number_by_roots.Goals as goal

pub roots-preserved : goal.roots-preserved
roots-preserved c = record {
  mesh = roots_here c.args.tris.items c.roots.tris.items _ _ c.roots.place c.roots.invariant.mesh c.roots.invariant.there
      (c.in_ok-add_root.ensures.mesh ∙ ap (λ (l : Mesh). numbered_mesh c.roots.numbered ++ root_part l c.roots.place) c.deref.ensures.value);
  numbering = c.in_ok-add_root.ensures.numbering;
  there = later_parts c.args.tris.items c.roots.tris.items _ c.roots.place c.roots.invariant.there c.let_go.ensures;
}

pub returns-clause-mesh : goal.returns-clause-mesh
returns-clause-mesh c = all_roots c.args.tris.items _ c.roots.place c.roots.invariant.mesh c.roots-test.false c.roots.auto.place-end
