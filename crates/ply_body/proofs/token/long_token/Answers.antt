use Rattle.std.proofs.Common.{◌≡◌, ◌-◌, suc, arith, sym, refl, ◌∙◌, false, true}
use Rattle.std.proofs.lemmas.Grind.{common_steps}
use Rattle.ply_body.specs.Items.{is_gap}
use Rattle.ply_body.proofs.TokenLemmas.{byte_taken, long_more, long_at_gap, end_long, at_the_room, refused_from}
use Rattle.ply_body.proofs.token.long_token.Goals as goal

pub bytes-preserved : goal.bytes-preserved
bytes-preserved g c =
    let next = rw c.in-Some.is at c.in_ok-byte.ensures.taken in
    let less : c.bytes.room ≡ suc (c.bytes.room - 1) = omega arith in
    let plain : is_gap c.in-Some.byte ≡ false = sym c.if-not-is_gap.ensures in
    record {
      told = λ text text_is. let before = c.bytes.invariant.told text text_is in (
        _,
        (
          long_more before.0 c.in-Some.byte before.1.0 plain,
          before.1.1 ∙ byte_taken before.0 c.in-Some.byte c.bytes.room (c.bytes.room - 1) _ _ next less,
        ),
      );
      later = grind (arith, common_steps);
    }

pub returns-in_default-clause-refused : goal.returns-in_default-clause-refused
returns-in_default-clause-refused g c text text_is kind =
    let next = rw c.in-Some.is at c.in_ok-byte.ensures.taken in
    let less : c.bytes.room ≡ suc (c.bytes.room - 1) = omega arith in
    let gap : is_gap c.in-Some.byte ≡ true = sym c.if-not-is_gap.ensures in
    let before = c.bytes.invariant.told text text_is in
    refused_from _ _ _ _ _ before.1.1 refl (long_at_gap kind before.0 c.in-Some.byte c.bytes.room (c.bytes.room - 1) _ _ next less gap before.1.0)

pub returns-in_default-2-clause-refused : goal.returns-in_default-2-clause-refused
returns-in_default-2-clause-refused g c text text_is kind =
    let before = c.bytes.invariant.told text text_is in
    refused_from _ _ _ _ _ before.1.1 refl (end_long kind before.0 c.bytes.room _ (c.in_ok-byte.ensures.end c.in_default.is) c.bytes-test.true before.1.0)

pub returns-clause-refused : goal.returns-clause-refused
returns-clause-refused g c text text_is kind =
    let before = c.bytes.invariant.told text text_is in
    refused_from _ _ _ _ _ before.1.1 refl (at_the_room kind before.0 c.bytes.room _ (omega arith) before.1.0.no_gap)
