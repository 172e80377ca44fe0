use Rattle.ply_head.specs.Headers.{is_scalar}
use Rattle.ply_head.proofs.Places.{passed_more, first_found, none_found}
use Rattle.ply_head.proofs.used.first_scalar.Goals as goal

pub loop-i-preserved : goal.loop-i-preserved
loop-i-preserved c =
    passed_more (is_scalar c.args.name.now) c.args.named.now c.loop-i.i c.index-named-i.result c.index-named-i.is c.loop-i-test.true (cc) c.loop-i.invariant

pub returns-then-is_scalar : goal.returns-then-is_scalar
returns-then-is_scalar c =
    first_found (is_scalar c.args.name.now) c.args.named.now c.loop-i.i c.index-named-i.result c.index-named-i.is c.loop-i-test.true (cc) c.loop-i.invariant

pub returns : goal.returns
returns c = none_found (is_scalar c.args.name.now) c.args.named.now c.loop-i.i c.loop-i-test.false c.loop-i.invariant
