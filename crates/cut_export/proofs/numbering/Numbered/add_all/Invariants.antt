use Rattle.std.proofs.Common.{◌≡◌, ◌++◌, take}
use Rattle.cut_export.specs.Numbering.{numbered_mesh, IsNumbering}
use Rattle.cut_export.proofs.numbering.Numbered.add_all.Given as goal

abbrev pub invariant-tris : goal.invariant-tris
invariant-tris l = record {
  mesh : numbered_mesh l.self ≡ numbered_mesh l.initial.self ++ take l.t-index l.tris;
  numbering : IsNumbering l.self;
}
