-- The triangles so far have been added.
use Rattle.std.proofs.Common.{◌≤◌, take}
use Rattle.mesh_stream.specs.Fills.{Fills}
use Rattle.finest_cut.proofs.splitting.fill.Given as goal

abbrev pub invariant-tris : goal.invariant-tris
invariant-tris g l = record {
  filled : Fills l.id (take l.t-index l.tris) l.fn.streams l.streams (g.W.Blob.held l.fn.work) (g.W.Blob.held l.work);
  later : g.W.Blob.faults l.fn.work ≤ g.W.Blob.faults l.work;
}
