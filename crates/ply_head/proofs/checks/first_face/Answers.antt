use Rattle.ply_head.specs.Headers.{is_face}
use Rattle.ply_head.proofs.Places.{passed_more, first_found, none_found}
use Rattle.ply_head.proofs.checks.first_face.Goals as goal

pub loop-i-preserved : goal.loop-i-preserved
loop-i-preserved c =
    passed_more is_face c.args.elements.now c.loop-i.i c.index-elements-i.result c.index-elements-i.is c.loop-i-test.true (cc) c.loop-i.invariant

pub returns-then-is_face-clause-place : goal.returns-then-is_face-clause-place
returns-then-is_face-clause-place c =
    first_found is_face c.args.elements.now c.loop-i.i c.index-elements-i.result c.index-elements-i.is c.loop-i-test.true (cc) c.loop-i.invariant

pub returns-clause-place : goal.returns-clause-place
returns-clause-place c = none_found is_face c.args.elements.now c.loop-i.i c.loop-i-test.false c.loop-i.invariant
