use Rattle.std.proofs.Common.{rules, codes, ◌≡◌}
use Rattle.clap.specs.Words.{rule_of}
use Rattle.command_words.specs.Parses.{option_rule}
use Rattle.command_words.proofs.OptionTables.{option_added}
use Rattle.command_words.proofs.options.command_of.Goals as goal

pub loop-setting-preserved : goal.loop-setting-preserved
loop-setting-preserved c =
    let id = c.new-in-loop-setting.ensures.id in
    let rule : rule_of c.action-arg.result ≡ option_rule c.new-in-loop-setting.result.id.now = search rules in
    option_added (codes "tpz") c.args.settings.now c.loop-setting.setting-index _ _ _ _ _ c.loop-setting-test.true id c.loop-setting.invariant
    (c.in_ok-command.ensures.shape (search rules)) rule
