-- One more 0.
use Rattle.std.proofs.Common.{◌≡◌, ◌<◌, ◌++◌, [], ◌∷◌, length, pos, arith, rules, sym, ◌∙◌, ap}
use Rattle.std.proofs.lemmas.List.{map_more}
use Rattle.tpz_base.specs.Points.{point}
use Rattle.edge_collapse.proofs.outer.clear_sums.Goals as goal

pub loop-preserved : goal.loop-preserved
loop-preserved c =
    let vs = c.args.list.now.vertices in
    let within : c.loop.counter < length vs = omega arith in
    let pushed : c.push.new.self.items ≡ c.loop.balance.items ++ pos 0 ∷ [] = search rules in
    record {
      none = pushed ∙ ap (λ zs. zs ++ pos 0 ∷ []) c.loop.invariant.none ∙ sym (map_more (λ v. pos 0) vs c.loop.counter (point 0 0 0) within);
      capacity = omega arith;
    }
