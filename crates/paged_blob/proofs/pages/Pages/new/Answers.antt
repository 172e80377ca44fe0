-- Each place begins with 0, so the room needs to reach over none.
use Rattle.std.proofs.Common.{rules, arith}
use Rattle.paged_blob.proofs.Rooms.{zero_at}
use Rattle.paged_blob.proofs.pages.Pages.new.Goals as goal

pub invariant_of-result : goal.invariant_of-result
invariant_of-result c = (
  record {
    laps = search rules;
    dirty = search rules;
    room = λ slot small some. let none = zero_at c.in_ok-vec.field-0.items 1024 slot (search rules) small in absurd (omega arith);
    short = omega arith;
  },
  search rules,
)

pub returns : goal.returns
returns c = record { none = λ slot short. zero_at c.in_ok-vec.field-0.items 1024 slot (search rules) short }
