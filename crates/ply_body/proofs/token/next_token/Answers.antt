use Rattle.std.proofs.Common.{◌≡◌, ◌<◌, ◌-◌, ℕ, suc, [], ◌∷◌, ◌++◌, length, length-append, arith, sym, ◌∙◌, false, true}
use Rattle.std.proofs.lemmas.Grind.{common_steps}
use Rattle.std.proofs.lemmas.Bool.Decides.{nat_tests}
use Rattle.ply_body.specs.Items.{is_gap}
use Rattle.ply_body.specs.declared.fault.Flaw.TheVariants.{Short, TooLong}
use Rattle.ply_body.specs.Tokens.{IsLong}
use Rattle.ply_body.proofs.TokenLemmas.{gap_taken, gap_passed, end_taken, end_short, byte_taken, no_gap_more, at_the_room, refused_from, taken_from}
use Rattle.ply_body.proofs.token.next_token.Goals as goal

pub returns-then-not-is_empty-clause-taken : goal.returns-then-not-is_empty-clause-taken
returns-then-not-is_empty-clause-taken g c kind =
    let next = rw c.in-Some.is at c.in_ok-byte.ensures.taken in
    let less : c.bytes.room ≡ suc (c.bytes.room - 1) = omega arith in
    let some : 0 < length c.bytes.text = grind (arith, nat_tests, c.if-not-is_empty.ensures) in
    let gap : is_gap c.in-Some.byte ≡ true = sym c.if-is_gap.ensures in
    taken_from _ _ _ _ _ c.bytes.invariant.told
    (gap_taken kind c.bytes.text c.in-Some.byte c.bytes.room (c.bytes.room - 1) _ _ next less gap c.bytes.invariant.none some c.bytes.invariant.few)

pub bytes-preserved-else-not-is_empty : goal.bytes-preserved-else-not-is_empty
bytes-preserved-else-not-is_empty g c =
    let next = rw c.in-Some.is at c.in_ok-byte.ensures.taken in
    let less : c.bytes.room ≡ suc (c.bytes.room - 1) = omega arith in
    let empty : length c.bytes.text ≡ 0 = grind (arith, nat_tests, c.if-not-is_empty.ensures) in
    let gap : is_gap c.in-Some.byte ≡ true = sym c.if-is_gap.ensures in
    record {
      told = c.bytes.invariant.told ∙ gap_passed c.bytes.text c.in-Some.byte c.bytes.room (c.bytes.room - 1) _ _ next less gap empty;
      none = c.bytes.invariant.none;
      few = c.bytes.invariant.few;
      later = grind (arith, common_steps);
    }

pub returns-then-is_full-clause-refused : goal.returns-then-is_full-clause-refused
returns-then-is_full-clause-refused g c flaw is kind =
    let next = rw c.in-Some.is at c.in_ok-byte.ensures.taken in
    let less : c.bytes.room ≡ suc (c.bytes.room - 1) = omega arith in
    let plain : is_gap c.in-Some.byte ≡ false = sym c.if-is_gap.ensures in
    let same : c.in_ok-long_token.field-0 ≡ flaw = cc in
    let long : IsLong (c.bytes.text ++ c.in-Some.byte ∷ []) =
    record { no_gap = no_gap_more c.bytes.text c.in-Some.byte c.bytes.invariant.none plain; long = grind (arith, nat_tests, length-append {A = ℕ}, c.if-is_full.ensures) } in
    refused_from _ _ _ _ _ (c.bytes.invariant.told ∙ byte_taken c.bytes.text c.in-Some.byte c.bytes.room (c.bytes.room - 1) _ _ next less) same
    (c.in_ok-long_token.ensures.refused (c.bytes.text ++ c.in-Some.byte ∷ []) long kind)

pub returns-clause-refused : goal.returns-clause-refused
returns-clause-refused g c flaw is kind =
    let same : TooLong ≡ flaw = cc in
    refused_from _ _ _ _ _ c.bytes.invariant.told same (at_the_room kind c.bytes.text c.bytes.room _ (omega arith) c.bytes.invariant.none)

pub returns-in_default-clause-taken : goal.returns-in_default-clause-taken
returns-in_default-clause-taken g c kind =
    let next = rw c.in_default.is at c.in_ok-byte.ensures.taken in
    let some : 0 < length c.bytes.text = grind (arith, nat_tests, c.if-is_empty.ensures) in
    taken_from _ _ _ _ _ c.bytes.invariant.told
    (end_taken kind c.bytes.text c.bytes.room _ _ next (c.in_ok-byte.ensures.end c.in_default.is) c.bytes.invariant.none c.bytes-test.true some c.bytes.invariant.few)

pub returns-then-is_empty-clause-refused : goal.returns-then-is_empty-clause-refused
returns-then-is_empty-clause-refused g c flaw is kind =
    let empty : length c.bytes.text ≡ 0 = grind (arith, nat_tests, c.if-is_empty.ensures) in
    let same : Short ≡ flaw = cc in
    refused_from _ _ _ _ _ c.bytes.invariant.told same (end_short kind c.bytes.text c.bytes.room _ (c.in_ok-byte.ensures.end c.in_default.is) c.bytes-test.true empty)

pub bytes-preserved : goal.bytes-preserved
bytes-preserved g c =
    let next = rw c.in-Some.is at c.in_ok-byte.ensures.taken in
    let less : c.bytes.room ≡ suc (c.bytes.room - 1) = omega arith in
    let plain : is_gap c.in-Some.byte ≡ false = sym c.if-is_gap.ensures in
    let told = c.bytes.invariant.told ∙ byte_taken c.bytes.text c.in-Some.byte c.bytes.room (c.bytes.room - 1) _ _ next less in
    rw c.push.ensures.bytes (record {
      told = told;
      none = no_gap_more c.bytes.text c.in-Some.byte c.bytes.invariant.none plain;
      few = grind (arith, nat_tests, length-append {A = ℕ}, c.if-is_full.ensures);
      later = grind (arith, common_steps);
    })
