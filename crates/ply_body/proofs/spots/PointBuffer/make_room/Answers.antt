use Rattle.std.specs.Prelude.{Result, Ok, Err, OnOk}
use Rattle.std.proofs.Common.{subst, sym}
use Rattle.tpz_base.specs.Texts.{Bytes}
use Rattle.ply_body.specs.Spots.{Keeps}
use Rattle.ply_body.proofs.SpotRows.{keeps_all}
use Rattle.ply_body.proofs.spots.PointBuffer.make_room.Goals as goal

both_ok : {T E : Type 0} (P Q R : Type 0) (r : Result T E) → (P → Q → R) → OnOk r P → OnOk r Q → OnOk r R
both_ok P Q R (Ok x) join p q = join p q
both_ok P Q R (Err e) join p q = tt

pub returns-then-len-gt-ROOM-clause-kept : goal.returns-then-len-gt-ROOM-clause-kept
returns-then-len-gt-ROOM-clause-kept g c = both_ok _ _ _ c.flush.result
    (λ empty held rows count kept. subst (λ (way : Bytes). Keeps rows way (g.B.Blob.held c.flush.new.points)) (sym empty) (keeps_all rows _ (held rows count kept)))
    c.flush.ensures.empty c.flush.ensures.kept
