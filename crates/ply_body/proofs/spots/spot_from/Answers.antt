use Rattle.std.proofs.Common.{rules, w32}
use Rattle.std.specs.Prelude.{FitsSigned}
use Rattle.std.proofs.lemmas.Int.{to_z-of_z}
use Rattle.ply_body.proofs.SpotRows.{row_back}
use Rattle.ply_body.proofs.spots.spot_from.Goals as goal

pub returns : goal.returns
returns c = λ r small is.
    let x : FitsSigned w32 c.read_i32.result = search rules in
    let y : FitsSigned w32 c.read_i32-2.result = search rules in
    let z : FitsSigned w32 c.read_i32-3.result = search rules in
    simp to_z-of_z (row_back r c.args.bytes.now _ _ _ small is c.read_i32.ensures c.read_i32-2.ensures c.read_i32-3.ensures)
