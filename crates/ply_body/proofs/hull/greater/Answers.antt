use Rattle.std.proofs.Common.{arith}
use Rattle.std.proofs.lemmas.Int.{to_z-of_z}
use Rattle.ply_body.proofs.SpotRows.{rows_equal}
use Rattle.ply_body.proofs.hull.greater.Goals as goal

pub returns : goal.returns
returns c = rows_equal _ _ _ _ _ _ (grind (arith, to_z-of_z)) (grind (arith, to_z-of_z)) (grind (arith, to_z-of_z))
