-- Block after block.
use Rattle.std.proofs.Common.{sym, subst}
use Rattle.std.proofs.lemmas.List.Elements.{All-get_or}
use Rattle.cut_blocks.specs.Shown.{IsNamed}
use Rattle.cut_blocks.proofs.blocks.add_all_shown.Goals as goal

pub add_shown-requires-clause-named : goal.add_shown-requires-clause-named
add_shown-requires-clause-named c =
    subst (IsNamed c.args.l) (sym c.one-item.is) (All-get_or (IsNamed c.args.l) c.args.shown.now c.all.one-index c.one-item.result c.all-test.true c.requires.named)
