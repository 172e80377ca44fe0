use Rattle.std.proofs.Common.{◌≡◌, ◌<◌, take, length}
use Rattle.std.specs.Prelude.{sum_by}
use Rattle.ply_head.specs.Headers.{Declared}
use Rattle.ply_head.proofs.checks.is_full.Given as goal

abbrev pub invariant-loop-element : goal.invariant-loop-element
invariant-loop-element l = record {
  counted : l.properties ≡ sum_by (λ (e : Declared). length e.properties) (take l.element-index l.elements);
  few : l.properties < 256;
}
