use Rattle.std.proofs.Common.{◌≡◌, ◌∙◌, sym, ap, ℕ, ◌-◌, suc, arith}
use Rattle.ply_body.specs.Hulls.{level_from}
use Rattle.ply_body.proofs.CubeRows.{level_here, level_next, level_end}
use Rattle.ply_body.proofs.hull.level_of.Goals as goal

pub levels-init : goal.levels-init
levels-init c = record { low = omega arith; rest = λ n is. (let e : 30 ≡ n = omega arith in ap (λ (m : ℕ). level_from 1 m c.args.width) e) }

pub levels-preserved : goal.levels-preserved
levels-preserved c = record {
  low = omega arith;
  rest = λ n is. c.levels.invariant.rest (suc n) (omega arith) ∙ level_next c.args.width c.levels.level n (omega (arith, c.side_of.ensures));
}

pub returns-then-width-side_of-clause-level : goal.returns-then-width-side_of-clause-level
returns-then-width-side_of-clause-level c =
    sym (c.levels.invariant.rest (suc (30 - c.levels.level)) (omega arith) ∙ level_here c.args.width c.levels.level _ (omega (arith, c.side_of.ensures)))

pub returns-clause-level : goal.returns-clause-level
returns-clause-level c = let last : c.levels.level ≡ 30 = omega (arith, c.levels.auto.level-end) in
    sym (c.levels.invariant.rest 1 (omega arith) ∙ level_end c.args.width c.levels.level last)
