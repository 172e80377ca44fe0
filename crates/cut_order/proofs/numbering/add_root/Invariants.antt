use Rattle.std.proofs.Common.{◌≡◌, ◌++◌, take}
use Rattle.tpz_base.specs.Roots.{root_part}
use Rattle.cut_export.specs.Numbering.{numbered_mesh, IsNumbering}
use Rattle.cut_order.proofs.numbering.add_root.Given as goal

abbrev pub invariant-tris : goal.invariant-tris
invariant-tris l = record {
  mesh : numbered_mesh l.numbered ≡ numbered_mesh l.fn.numbered ++ root_part (take l.t-index l.tris) l.place;
  numbering : IsNumbering l.numbered;
}
