use Rattle.std.proofs.Common.{arith}
use Rattle.tetra_name.specs.Names.{point_of}
use Rattle.tetra_name.proofs.centre.scale_of.Goals as goal
use Rattle.tetra_name.proofs.NamesLaw.{test_of_centre, side_shift}
use Rattle.tetra_name.proofs.PlaceLaw.{scale_is, side_below, within_of_scale, even_of_scale}

pub overflow_cast-side : goal.overflow_cast-side
overflow_cast-side c = let t = test_of_centre c.args.l (point_of c.args.c) c.requires.bound.most c.requires.centre in omega (arith, t.power, c.power-power.ensures)

pub overflow_sub-side : goal.overflow_sub-side
overflow_sub-side c = let t = test_of_centre c.args.l (point_of c.args.c) c.requires.bound.most c.requires.centre in omega (arith, t.power, c.power-power.ensures)

pub in_units-requires : goal.in_units-requires
in_units-requires c = let t = test_of_centre c.args.l (point_of c.args.c) c.requires.bound.most c.requires.centre in omega (arith, t.power, c.power-power.ensures)

pub returns : goal.returns
returns c =
    let S = scale_is c.args.l (point_of c.args.c) c.power-power.result _ (point_of c.in_units.result) c.requires.bound.most c.requires.centre c.power-power.ensures c.in_units.ensures
    (side_shift c.args.l c.power-power.result c.requires.bound.most) in
    let t = test_of_centre c.args.l (point_of c.args.c) c.requires.bound.most c.requires.centre in
    let e = c.power-power.ensures in
    record {
      scale = S;
      power = omega (arith, t.power, e);
      side = side_below c.args.l (point_of c.args.c) c.power-power.result _ (point_of c.in_units.result) S c.requires.bound.most;
      within = within_of_scale c.args.l (point_of c.args.c) c.power-power.result _ (point_of c.in_units.result) S;
      even = even_of_scale c.args.l (point_of c.args.c) c.power-power.result _ (point_of c.in_units.result) S;
      some = S.unit.some;
    }
