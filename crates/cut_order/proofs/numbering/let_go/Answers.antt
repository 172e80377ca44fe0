use Rattle.std.proofs.Common.{◌∙◌, rules}
use Rattle.std.proofs.lemmas.Fn.{filter_same}
use Rattle.cut_order.specs.Numbering.{is_outside}
use Rattle.cut_order.proofs.numbering.let_go.Goals as goal

pub returns : goal.returns
returns c = c.shrink_to_fit.ensures.items ∙ filter_same _ (is_outside c.args.place) _ (λ x b f' k. search rules) _ _ c.retain.ensures.filtered
