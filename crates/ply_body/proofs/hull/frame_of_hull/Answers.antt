use Rattle.std.proofs.Common.{◌*◌, ◌∙◌, sym, ap}
use Rattle.ply_body.specs.Hulls.{level_from}
use Rattle.ply_body.specs.Spots.{coordinates}
use Rattle.ply_body.proofs.CubeRows.{level_is, narrow_is}
use Rattle.ply_body.proofs.hull.frame_of_hull.Goals as goal

pub returns-clause-frame : goal.returns-clause-frame
returns-clause-frame c = λ rows is count narrow small. record {
  small = small;
  l = c.level_of.ensures.level ∙ ap (level_from 1 30) (c.width_of.ensures rows is) ∙ sym (level_is rows);
  low = c.coordinates_of.ensures.coordinates ∙ ap coordinates (sym is.low);
  vertices = sym count;
  end = ap (◌*◌ 12) (sym count);
  narrow = narrow_is rows narrow;
}
