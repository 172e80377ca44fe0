use Rattle.std.proofs.Common.{◌≡◌, take}
use Rattle.mesh_gen.specs.Generator.{generated}
use Rattle.cut_export.specs.Numbering.{numbered_mesh, IsNumbering}
use Rattle.command_gen.proofs.generate.number_generated.Given as goal

abbrev pub invariant-tris : goal.invariant-tris
invariant-tris l = record {
  mesh : numbered_mesh l.numbered ≡ take l.i (generated l.size);
  numbering : IsNumbering l.numbered;
}
