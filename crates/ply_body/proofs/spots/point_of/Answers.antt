use Rattle.std.proofs.Common.{rules, arith, ◌≡◌, ap, w32, w64, slice_index_or}
use Rattle.std.specs.Prelude.{ℤ, pos, FitsSigned, List}
use Rattle.std.proofs.lemmas.Int.{to_z-of_z}
use Rattle.ply_body.specs.Spots.{row_of}
use Rattle.ply_body.proofs.SpotRows.{point_is}
use Rattle.ply_body.proofs.spots.point_of.Goals as goal

pub returns-in_err-above-3-clause-none : goal.returns-in_err-above-3-clause-none
returns-in_err-above-3-clause-none c = λ low is near result.
    let z : FitsSigned w32 c.args.spot.z = search rules in
    let lz : FitsSigned w64 (slice_index_or c.args.frame.now.low 2 (pos 0)) = search rules in
    let far = simp to_z-of_z at (c.above-3.ensures.none c.in_err-above-3.was) in
    let at : slice_index_or c.args.frame.now.low 2 (pos 0) ≡ low.z = ap (λ (l : List ℤ). slice_index_or l 2 (pos 0)) is in
    let far2 = rw at at far in
    let past = far2 near.over.z in
    omega (arith, near.near.z, past, c.side_of-side.ensures)

pub returns-clause-point : goal.returns-clause-point
returns-clause-point c =
    let x : FitsSigned w32 c.args.spot.x = search rules in
    let y : FitsSigned w32 c.args.spot.y = search rules in
    let z : FitsSigned w32 c.args.spot.z = search rules in
    let lx : FitsSigned w64 (slice_index_or c.args.frame.now.low 0 (pos 0)) = search rules in
    let ly : FitsSigned w64 (slice_index_or c.args.frame.now.low 1 (pos 0)) = search rules in
    let lz : FitsSigned w64 (slice_index_or c.args.frame.now.low 2 (pos 0)) = search rules in
    let dx = simp to_z-of_z at c.in_ok-above.ensures.distance in
    let dy = simp to_z-of_z at c.in_ok-above-2.ensures.distance in
    let dz = simp to_z-of_z at c.in_ok-above-3.ensures.distance in
    record {
      point = point_is c.args.frame.now.low (row_of c.args.spot) _ _ _ dx dy dz;
      cube = record {
        x = omega (arith, c.in_ok-above.ensures.within, c.side_of-side.ensures);
        y = omega (arith, c.in_ok-above-2.ensures.within, c.side_of-side.ensures);
        z = omega (arith, c.in_ok-above-3.ensures.within, c.side_of-side.ensures);
      };
    }
