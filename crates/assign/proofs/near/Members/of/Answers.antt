use Rattle.std.proofs.Common.{◌≡◌, length-set, ◌∙◌, subst, arith}
use Rattle.tetra_name.specs.Names.{point_of}
use Rattle.assign.specs.MemberSums.{HasSums}
use Rattle.assign.proofs.NearLaw.{few_members, more_sums}
use Rattle.assign.proofs.near.Members.of.Goals as goal

pub bounds-sums-slot : goal.bounds-sums-slot
bounds-sums-slot c = omega (arith, c.members-test.true, few_members c.args.l (point_of c.args.centre) _ c.requires.centre c.member_count-count.ensures.count)

pub members-preserved : goal.members-preserved
members-preserved c =
    let all = c.members.invariant.all in
    let few = few_members c.args.l (point_of c.args.centre) _ c.requires.centre c.member_count-count.ensures.count in
    record {
      all = length-set c.members.sums c.members.slot c.member_sum.result ∙ all;
      held = more_sums c.args.l c.args.centre c.members.slot c.members.sums c.member_sum.result (omega (arith, all, few, c.members-test.true)) c.members.invariant.held c.member_sum.ensures;
    }

pub invariant_of-result : goal.invariant_of-result
invariant_of-result c =
    let count : c.members.slot ≡ c.member_count-count.result = omega arith in
    record {
      bound = c.requires.bound;
      centred = c.requires.centre;
      counted = c.member_count-count.ensures.count;
      few = few_members c.args.l (point_of c.args.centre) _ c.requires.centre c.member_count-count.ensures.count;
      all = c.members.invariant.all;
      held = subst (λ n. HasSums c.args.l c.args.centre n c.members.sums) count c.members.invariant.held;
    }
