use Rattle.std.proofs.Common.{◌≡◌, ◌≤◌, ◌*◌, List, length}
use Rattle.std.specs.Prelude.{is_some}
use Rattle.tpz_base.specs.Cubes.{Row}
use Rattle.ply_body.specs.Items.{items_told}
use Rattle.ply_body.specs.VertexRows.{AreRead, TakesSoFar}
use Rattle.ply_body.proofs.points.read_rows.Given as goal

abbrev pub invariant-rows : goal.invariant-rows
invariant-rows g l = record {
  taken : (rs : List Row) × (length rs ≡ l.row) × AreRead l.hull l.buffer (g.B.Blob.held l.points) rs
      × TakesSoFar l.digits l.number l.element.properties l.count (items_told l.initial.items (g.I.Source.left l.initial.src)) rs (items_told l.items (g.I.Source.left l.src));
  way : length l.buffer ≤ 12 * l.row;
  input_later : g.I.Source.faults l.initial.src ≤ g.I.Source.faults l.src;
  work_later : g.B.Blob.faults l.initial.points ≤ g.B.Blob.faults l.points;
  telling : is_some (g.B.Blob.held l.points) ≡ is_some (g.B.Blob.held l.initial.points);
}
