use Rattle.std.proofs.Common.{◌≡◌, length}
use Rattle.assign.specs.MemberSums.{HasSums}
use Rattle.assign.proofs.near.Members.of.Given as goal

abbrev pub invariant-members : goal.invariant-members
invariant-members l = record { all : length l.sums ≡ 24; held : HasSums l.l l.centre l.slot l.sums }
