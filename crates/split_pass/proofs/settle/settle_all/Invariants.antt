-- Each named stream is settled, or its name is still to come.
use Rattle.std.proofs.Common.{◌≡◌, ◌≤◌, ◌⊎◌, Some}
use Rattle.std.specs.Prelude.{is_some}
use Rattle.std.specs.FinMap.{get}
use Rattle.tpz_base.specs.Meshes.{Mesh}
use Rattle.diamond_graph.specs.Graphs.{centres}
use Rattle.tetra_name.specs.declared.shape.Tet.{Tet}
use Rattle.tri_stream.specs.declared.names.StreamId.{StreamId}
use Rattle.tri_stream.specs.Streams.{total, Stays}
use Rattle.split_pass.specs.Spread.{AllBelow, HoldsThrough, IsKeyed, IsSettled}
use Rattle.split_pass.proofs.Settling.{IsToCome}
use Rattle.split_pass.proofs.settle.settle_all.Given as goal

abbrev pub invariant-names : goal.invariant-names
invariant-names g l =
    let held = g.B.Blob.held in
    let L = l.fn.graph.l in
    let F = centres l.fn.graph in
    record {
      below : AllBelow L F l.leaves;
      keyed : IsKeyed l.leaves l.streams;
      holds : (M : Mesh) → HoldsThrough L M l.fn.leaves l.fn.streams (held l.fn.work) → HoldsThrough L M l.leaves l.streams (held l.work);
      settled : (name : Tet) (id : StreamId) → get l.leaves name ≡ Some id → IsSettled F l.streams name id ⊎ IsToCome l.name-items l.name-index name;
      total : total l.streams ≡ total l.fn.streams;
      stays : Stays l.fn.streams l.streams (held l.work);
      later : g.B.Blob.faults l.fn.work ≤ g.B.Blob.faults l.work;
      telling : is_some (held l.work) ≡ is_some (held l.fn.work);
    }
