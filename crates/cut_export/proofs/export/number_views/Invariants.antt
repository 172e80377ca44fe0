use Rattle.std.proofs.Common.{◌≡◌, take}
use Rattle.patch_view.specs.Views.{mesh_of}
use Rattle.cut_export.specs.Numbering.{numbered_mesh, IsNumbering}
use Rattle.cut_export.proofs.export.number_views.Given as goal

abbrev pub invariant-views : goal.invariant-views
invariant-views l = record {
  mesh : numbered_mesh l.numbered ≡ mesh_of (take l.view-index l.views);
  numbering : IsNumbering l.numbered;
}
