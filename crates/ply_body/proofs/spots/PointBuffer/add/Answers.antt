use Rattle.std.proofs.Common.{sym, subst, ◌++◌, ◌∷◌, []}
use Rattle.tpz_base.specs.Texts.{Bytes}
use Rattle.ply_body.specs.Spots.{row_of, Keeps}
use Rattle.ply_body.proofs.SpotRows.{keeps_more}
use Rattle.ply_body.proofs.spots.PointBuffer.add.Goals as goal

pub returns-clause-kept : goal.returns-clause-kept
returns-clause-kept g c = λ rows count kept.
    subst (λ (way : Bytes). Keeps (rows ++ row_of c.args.spot ∷ []) way (g.B.Blob.held c.make_room.new.points)) (sym c.push.ensures)
    (keeps_more rows (row_of c.args.spot) c.make_room.new.self _ (c.in_ok-make_room.ensures.kept rows count kept))
