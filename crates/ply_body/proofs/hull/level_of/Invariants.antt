use Rattle.std.proofs.Common.{◌≡◌, ℕ, ◌+◌, ◌≤◌}
use Rattle.ply_body.specs.Hulls.{level_from}
use Rattle.ply_body.proofs.hull.level_of.Given as goal

abbrev pub invariant-levels : goal.invariant-levels
invariant-levels l = record {
  low : 1 ≤ l.level;
  rest : (n : ℕ) → l.level + n ≡ 31 → level_from 1 30 l.width ≡ level_from l.level n l.width;
}
