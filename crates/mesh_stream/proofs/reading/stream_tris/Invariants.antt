use Rattle.std.proofs.Common.{◌≡◌, ◌≤◌, List, ◌+◌, ◌-◌, None, Some}
use Rattle.std.specs.Option.{ForSome, option_map}
use Rattle.std.specs.Prelude.{length, All}
use Rattle.tpz_base.specs.Meshes.{Mesh}
use Rattle.tpz_base.specs.Texts.{Face}
use Rattle.tri_stream.specs.Lists.{IsHeld}
use Rattle.ply_body.specs.Spots.{HoldsPoints}
use Rattle.ply_body.specs.Readings.{coming_told, with_faces}
use Rattle.mesh_stream.specs.Fills.{Fills}
use Rattle.mesh_stream.specs.Readings.{AreWhole}
use Rattle.mesh_stream.proofs.ReadLemmas.{KeepsFront}
use Rattle.mesh_stream.proofs.reading.stream_tris.Given as goal

abbrev pub invariant-tris : goal.invariant-tris
invariant-tris g l = record {
  frame : l.faces.frame ≡ Some l.frame;
  opened : l.faces.refusal ≡ None;
  few : l.faces.given + l.faces.dropped ≤ 2147483648;
  points : ForSome (g.W.Blob.held l.work) (HoldsPoints l.frame);
  base : l.streams.base ≡ l.fn.streams.base;
  front : KeepsFront l.frame.end (g.W.Blob.held l.fn.work) (g.W.Blob.held l.work);
  read : (faces : List Face) × (tris : Mesh)
      × (coming_told l.fn.faces (g.I.Source.left l.fn.input) ≡ option_map (with_faces faces) (coming_told l.faces (g.I.Source.left l.input)))
      × AreWhole l.frame (g.W.Blob.held l.fn.work) faces tris l.faces.dropped × (length tris ≡ l.faces.given)
      × Fills l.whole tris l.fn.streams l.streams (g.W.Blob.held l.fn.work) (g.W.Blob.held l.work) × All (IsHeld l.frame.l) tris;
  input_later : g.I.Source.faults l.fn.input ≤ g.I.Source.faults l.input;
  work_later : g.W.Blob.faults l.fn.work ≤ g.W.Blob.faults l.work;
}

abbrev pub decreases-tris : goal.decreases-tris
decreases-tris g l = 2147483648 - l.faces.given
