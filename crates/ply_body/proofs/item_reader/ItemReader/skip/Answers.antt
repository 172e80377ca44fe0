use Rattle.std.proofs.Common.{◌≡◌, ℕ, suc, ◌+◌, ◌-◌, Err, ◌∙◌, ap, arith}
use Rattle.std.proofs.lemmas.Grind.{common_steps}
use Rattle.std.proofs.lemmas.Result.{err_from_is_err_and}
use Rattle.std.specs.Option.{option_map}
use Rattle.ply_body.specs.declared.item_reader.ItemFault.TheVariants as item_fault
use Rattle.ply_body.specs.Items.{items_told, skipped}
use Rattle.ply_body.proofs.ItemLemmas.{one_skipped, none_skipped}
use Rattle.ply_body.proofs.item_reader.ItemReader.skip.Goals as goal

pub returns-in_err-next_item-clause-refused : goal.returns-in_err-next_item-clause-refused
returns-in_err-next_item-clause-refused g c flaw is =
    let p = err_from_is_err_and c.from_residual.result c.from_residual.ensures.1 in
    let same : c.next_item.result ≡ Err (item_fault.Flaw flaw) = cc in
    let more : c.args.count - c.items.counter ≡ suc (c.args.count - (c.items.counter + 1)) = omega arith in
    none_skipped c.args.kind (c.args.count - (c.items.counter + 1)) c.args.count _ (items_told c.items.self (g.S.Source.left c.items.source)) flaw
    (c.items.invariant.told ∙ ap (λ (n : ℕ). option_map (skipped c.args.kind n) (items_told c.items.self (g.S.Source.left c.items.source))) more)
    (c.next_item.ensures.refused flaw same)

pub items-preserved : goal.items-preserved
items-preserved g c =
    let more : c.args.count - c.items.counter ≡ suc (c.args.count - (c.items.counter + 1)) = omega arith in
    record {
      told = c.items.invariant.told ∙ ap (λ (n : ℕ). option_map (skipped c.args.kind n) (items_told c.items.self (g.S.Source.left c.items.source))) more
          ∙ one_skipped c.args.kind (c.args.count - (c.items.counter + 1)) _ _ _ c.in_ok-next_item.ensures.taken;
      later = grind (arith, common_steps);
    }

pub returns-clause-taken : goal.returns-clause-taken
returns-clause-taken g c =
    let none : c.args.count - c.items.counter ≡ 0 = omega arith in
    c.items.invariant.told ∙ ap (λ (n : ℕ). option_map (skipped c.args.kind n) (items_told c.items.self (g.S.Source.left c.items.source))) none
