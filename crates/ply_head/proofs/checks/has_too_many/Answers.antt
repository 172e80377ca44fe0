use Rattle.std.proofs.Common.{inl, inr}
use Rattle.ply_head.proofs.checks.has_too_many.Goals as goal

pub returns-in-ScalarLine : goal.returns-in-ScalarLine
returns-in-ScalarLine c =
    elim c.in-ScalarLine.is [
      | inl w ↦ rw (w.2, ← c.as_slice-in-ScalarLine.ensures) c.is_full.ensures
      | inr w ↦ rw (w.3, ← c.as_slice-in-ScalarLine.ensures) c.is_full.ensures
    ]
