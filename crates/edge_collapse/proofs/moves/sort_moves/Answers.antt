-- The order of the starts is that of points.
use Rattle.std.proofs.Common.{◌+◌, get_or, rules, sym, ◌∙◌}
use Rattle.std.proofs.lemmas.List.Sorted.{answers_always}
use Rattle.edge_collapse.proofs.PlaceLaw.{point_cmp_is}
use Rattle.edge_collapse.proofs.moves.sort_moves.Goals as goal

pub returns-clause-sorted : goal.returns-clause-sorted
returns-clause-sorted c =
    let ms = c.sort_unstable_by_key.new.self.items in
    let sorted = c.sort_unstable_by_key.ensures.sorted (λ m. m.from) (answers_always _ _ _ (λ f a r g h. search rules)) in
    λ k d low l. sym (point_cmp_is (get_or ms (k + 1) d).from (get_or ms k d).from) ∙ sorted k d low l
