use Rattle.std.proofs.Common.{◌≡◌, ◌<◌, subst, arith}
use Rattle.tpz_base.specs.Tetrahedra.{members}
use Rattle.tetra_name.specs.Names.{point_of, tetrahedron_of, IsName}
use Rattle.assign.specs.Leaf.{nearest}
use Rattle.assign.specs.MemberSums.{DiamondAt}
use Rattle.assign.specs.Sums.{point_at}
use Rattle.assign.proofs.NearLaw.{all_members, distance_is, first_near, has_name, member_there, near_all, next_near, some_members, some_there, within}
use Rattle.assign.proofs.near.Members.nearest.Goals as goal

pub members-init : goal.members-init
members-init c =
    let i = c.self.inside in
    let inv = c.self.invariant in
    first_near (point_at c.corner_sum-sum.result) (members i.l (point_of i.centre)) c.distance.result (some_there i.l (point_of i.centre) inv.centred)
    (member_there i.l i.centre 0 _
    (distance_is (point_at c.corner_sum-sum.result) _ _ c.distance.result c.distance.ensures (inv.held.each 0 (some_members i.l (point_of i.centre) _ inv.centred inv.counted))))

pub members-preserved : goal.members-preserved
members-preserved c =
    let i = c.self.inside in
    let inv = c.self.invariant in
    next_near (point_at c.corner_sum-sum.result) (members i.l (point_of i.centre)) c.members.slot c.members.best c.nearer-best.result c.distance-distance.result
    c.members.auto.slot (within i.l (point_of i.centre) _ _ inv.counted c.members-test.true) c.members.invariant
    (member_there i.l i.centre c.members.slot _
    (distance_is (point_at c.corner_sum-sum.result) _ _ c.distance-distance.result c.distance-distance.ensures (inv.held.each c.members.slot c.members-test.true)))
    c.nearer-best.ensures

pub returns-clause-nearest : goal.returns-clause-nearest
returns-clause-nearest c =
    let i = c.self.inside in
    let inv = c.self.invariant in
    subst (λ (d : DiamondAt). tetrahedron_of d.l (record { centre = d.centre; slot = c.members.best.slot }) ≡ nearest d.l (point_of d.centre) c.args.t.now) c.self.view_is
    (near_all i.l i.centre c.args.t.now (point_at c.corner_sum-sum.result) c.members.slot c.members.best c.corner_sum-sum.ensures.value
    (all_members i.l (point_of i.centre) _ _ inv.counted (omega arith)) c.members.invariant)

pub returns-clause-name : goal.returns-clause-name
returns-clause-name c =
    let i = c.self.inside in
    let inv = c.self.invariant in
    let some = some_members i.l (point_of i.centre) _ inv.centred inv.counted in
    let here : c.members.best.slot < i.count = omega (arith, c.members.invariant.low, c.members.auto.slot-end some) in
    subst (λ (d : DiamondAt). IsName d.l (record { centre = d.centre; slot = c.members.best.slot })) c.self.view_is (has_name i.l i.centre c.members.best.slot i.count inv.counted here)
