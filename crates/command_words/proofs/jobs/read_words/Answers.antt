use Rattle.std.proofs.Common.{◌∙◌, ap, string_bytes}
use Rattle.std.proofs.lemmas.Result.{IfOk-weaker}
use Rattle.command_words.specs.Words.{asked}
use Rattle.command_words.proofs.OptionTables.{first_and_rest, none_given}
use Rattle.command_words.proofs.Spellings.{given_as_spelled}
use Rattle.command_words.proofs.jobs.read_words.Goals as goal

pub returns-in-len1-up-clause-ok : goal.returns-in-len1-up-clause-ok
returns-in-len1-up-clause-ok c =
    let words_are = first_and_rest string_bytes c.args.words.now c.command-item.result c.in-len1-up.len_at_least c.command-item.is in
    let is = ap asked words_are in
    IfOk-weaker c.read_command.result _ _ (λ job e. is ∙ e) c.read_command.ensures.ok

pub returns-in-len1-up-clause-usage : goal.returns-in-len1-up-clause-usage
returns-in-len1-up-clause-usage c usage =
    let words_are = first_and_rest string_bytes c.args.words.now c.command-item.result c.in-len1-up.len_at_least c.command-item.is in
    ap asked words_are ∙ c.read_command.ensures.usage usage

pub returns-in-len1-up-clause-spelled : goal.returns-in-len1-up-clause-spelled
returns-in-len1-up-clause-spelled c words gs = given_as_spelled words gs

pub returns-in-empty-clause-usage : goal.returns-in-empty-clause-usage
unfolding asked
returns-in-empty-clause-usage c usage = ap asked (none_given string_bytes c.args.words.now c.in-empty.len_below)

pub returns-in-empty-clause-spelled : goal.returns-in-empty-clause-spelled
returns-in-empty-clause-spelled c words gs = given_as_spelled words gs
