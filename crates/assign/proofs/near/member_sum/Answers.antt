use Rattle.tpz_base.proofs.PointLemmas.{point_cong}
use Rattle.assign.proofs.NearLaw.{sum_is}
use Rattle.assign.proofs.near.member_sum.Goals as goal

pub returns : goal.returns
returns c =
    sum_is c.args.l c.args.name c.corners-at.result (record { x = c.tripled.result; y = c.tripled-2.result; z = c.tripled-3.result }) c.corners-at.ensures.corners
    (point_cong _ _ _ _ _ _ c.tripled.ensures c.tripled-2.ensures c.tripled-3.ensures)
