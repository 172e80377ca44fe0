use Rattle.std.proofs.Common.{◌≡◌, ◌≤◌, take, IsTrue}
use Rattle.tpz_io.specs.Told.{followed_by}
use Rattle.cut_export.specs.Parts.{faces_text}
use Rattle.cut_export.proofs.part_text.write_faces.Given as goal

abbrev pub invariant-faces : goal.invariant-faces
invariant-faces g l = record {
  opened : IsTrue (g.O.Out.is_open l.out);
  bytes : followed_by (g.O.Out.unfinished l.out) l.buffer
      ≡ followed_by (followed_by (g.O.Out.unfinished l.fn.out) l.fn.buffer) (faces_text (take l.f-index l.faces));
  parts : g.O.Out.parts l.out ≡ g.O.Out.parts l.fn.out;
  notes : g.O.Out.notes l.out ≡ g.O.Out.notes l.fn.out;
  later : g.O.Out.faults l.fn.out ≤ g.O.Out.faults l.out;
}
