-- What the roots so far add has been added.
use Rattle.std.proofs.Common.{◌≡◌, ◌≤◌}
use Rattle.std.specs.Prelude.{is_some, take}
use Rattle.tpz_base.specs.Tetrahedra.{roots}
use Rattle.diamond_graph.specs.Graphs.{centres}
use Rattle.cut_order.specs.Leaves.{Adds, KeepsStreams}
use Rattle.cut_export.specs.Numbering.{numbered_mesh, IsNumbering}
use Rattle.cut_order.proofs.order.add_roots.Given as goal

abbrev pub invariant-roots : goal.invariant-roots
invariant-roots g l =
    let held = g.W.Blob.held in
    record {
      mesh : Adds l.split.graph.l (centres l.split.graph) l.split.leaves l.fn.streams (held l.fn.work) (take l.slot (roots l.split.graph.l)) (numbered_mesh l.fn.numbered) (numbered_mesh l.numbered);
      numbering : IsNumbering l.numbered;
      kept : KeepsStreams l.fn.streams l.streams (held l.fn.work) (held l.work);
      later : g.W.Blob.faults l.fn.work ≤ g.W.Blob.faults l.work;
      telling : is_some (held l.work) ≡ is_some (held l.fn.work);
    }
