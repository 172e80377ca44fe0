use Rattle.std.proofs.Common.{◌≡◌, ◌≤◌, List, ◌+◌, ◌-◌, None, Some}
use Rattle.std.specs.Option.{ForSome, option_map}
use Rattle.std.specs.Prelude.{length, All}
use Rattle.tpz_base.specs.Texts.{Face}
use Rattle.tri_stream.specs.Lists.{IsHeld}
use Rattle.ply_body.specs.Spots.{HoldsPoints}
use Rattle.ply_body.specs.Readings.{coming_told, with_faces}
use Rattle.mesh_stream.specs.Readings.{AreWhole}
use Rattle.mesh_stream.proofs.reading.read_tris.Given as goal

abbrev pub invariant-tris : goal.invariant-tris
invariant-tris g l = record {
  frame : l.faces.frame ≡ Some l.frame;
  opened : l.faces.refusal ≡ None;
  few : l.faces.given + l.faces.dropped ≤ 2147483648;
  points : ForSome (g.W.Blob.held l.work) (HoldsPoints l.frame);
  held : g.W.Blob.held l.work ≡ g.W.Blob.held l.fn.work;
  plain : All (IsHeld l.frame.l) l.tris.items;
  count : length l.tris.items ≡ l.faces.given;
  read : (faces : List Face)
      × (coming_told l.fn.faces (g.I.Source.left l.fn.input) ≡ option_map (with_faces faces) (coming_told l.faces (g.I.Source.left l.input)))
      × AreWhole l.frame (g.W.Blob.held l.fn.work) faces l.tris.items l.faces.dropped;
  input_later : g.I.Source.faults l.fn.input ≤ g.I.Source.faults l.input;
  work_later : g.W.Blob.faults l.fn.work ≤ g.W.Blob.faults l.work;
}

abbrev pub decreases-tris : goal.decreases-tris
decreases-tris g l = 2147483648 - l.faces.given
