use Rattle.std.proofs.Common.{◌∙◌, refl, sym, true≢false}
use Rattle.std.proofs.lemmas.Result.{IfOk-weaker}
use Rattle.command_words.specs.Words.{build, finest, gen, info, replay, tour}
use Rattle.command_words.proofs.OptionTables.{asked_named, asked_other}
use Rattle.command_words.proofs.jobs.read_command.Goals as goal

pub returns-then-is_named-clause-ok : goal.returns-then-is_named-clause-ok
returns-then-is_named-clause-ok c =
    let is = asked_named finest _ _ refl (c.is_named.ensures.0 c.if-is_named.true) in
    IfOk-weaker c.read_finest.result _ _ (λ job e. is ∙ e) c.read_finest.ensures.ok

pub returns-then-is_named-clause-usage : goal.returns-then-is_named-clause-usage
returns-then-is_named-clause-usage c usage = asked_named finest _ _ refl (c.is_named.ensures.0 c.if-is_named.true) ∙ c.read_finest.ensures.usage usage

pub returns-then-is_named-2-clause-ok : goal.returns-then-is_named-2-clause-ok
returns-then-is_named-2-clause-ok c =
    let is = asked_named build _ _ refl (c.is_named-2.ensures.0 c.if-is_named-2.true) in
    IfOk-weaker c.read_build.result _ _ (λ job e. is ∙ e) c.read_build.ensures.ok

pub returns-then-is_named-2-clause-usage : goal.returns-then-is_named-2-clause-usage
returns-then-is_named-2-clause-usage c usage = asked_named build _ _ refl (c.is_named-2.ensures.0 c.if-is_named-2.true) ∙ c.read_build.ensures.usage usage

pub returns-then-is_named-3-clause-ok : goal.returns-then-is_named-3-clause-ok
returns-then-is_named-3-clause-ok c =
    let is = asked_named gen _ _ refl (c.is_named-3.ensures.0 c.if-is_named-3.true) in
    IfOk-weaker c.read_gen.result _ _ (λ job e. is ∙ e) c.read_gen.ensures.ok

pub returns-then-is_named-3-clause-usage : goal.returns-then-is_named-3-clause-usage
returns-then-is_named-3-clause-usage c usage = asked_named gen _ _ refl (c.is_named-3.ensures.0 c.if-is_named-3.true) ∙ c.read_gen.ensures.usage usage

pub returns-then-is_named-4-clause-ok : goal.returns-then-is_named-4-clause-ok
returns-then-is_named-4-clause-ok c =
    let is = asked_named info _ _ refl (c.is_named-4.ensures.0 c.if-is_named-4.true) in
    IfOk-weaker c.read_info.result _ _ (λ job e. is ∙ e) c.read_info.ensures.ok

pub returns-then-is_named-4-clause-usage : goal.returns-then-is_named-4-clause-usage
returns-then-is_named-4-clause-usage c usage = asked_named info _ _ refl (c.is_named-4.ensures.0 c.if-is_named-4.true) ∙ c.read_info.ensures.usage usage

pub returns-then-is_named-5-clause-ok : goal.returns-then-is_named-5-clause-ok
returns-then-is_named-5-clause-ok c =
    let is = asked_named replay _ _ refl (c.is_named-5.ensures.0 c.if-is_named-5.true) in
    IfOk-weaker c.read_replay.result _ _ (λ job e. is ∙ e) c.read_replay.ensures.ok

pub returns-then-is_named-5-clause-usage : goal.returns-then-is_named-5-clause-usage
returns-then-is_named-5-clause-usage c usage = asked_named replay _ _ refl (c.is_named-5.ensures.0 c.if-is_named-5.true) ∙ c.read_replay.ensures.usage usage

pub returns-then-is_named-6-clause-ok : goal.returns-then-is_named-6-clause-ok
returns-then-is_named-6-clause-ok c =
    let is = asked_named tour _ _ refl (c.is_named-6.ensures.0 c.if-is_named-6.true) in
    IfOk-weaker c.read_tour.result _ _ (λ job e. is ∙ e) c.read_tour.ensures.ok

pub returns-then-is_named-6-clause-usage : goal.returns-then-is_named-6-clause-usage
returns-then-is_named-6-clause-usage c usage = asked_named tour _ _ refl (c.is_named-6.ensures.0 c.if-is_named-6.true) ∙ c.read_tour.ensures.usage usage

pub returns-clause-usage : goal.returns-clause-usage
returns-clause-usage c usage =
    asked_other _ _ (
      λ e. true≢false (sym (c.is_named.ensures.1 e) ∙ c.if-is_named.false),
      (
        λ e. true≢false (sym (c.is_named-2.ensures.1 e) ∙ c.if-is_named-2.false),
        (
          λ e. true≢false (sym (c.is_named-3.ensures.1 e) ∙ c.if-is_named-3.false),
          (
            λ e. true≢false (sym (c.is_named-4.ensures.1 e) ∙ c.if-is_named-4.false),
            (
              λ e. true≢false (sym (c.is_named-5.ensures.1 e) ∙ c.if-is_named-5.false),
              (λ e. true≢false (sym (c.is_named-6.ensures.1 e) ∙ c.if-is_named-6.false), tt),
            ),
          ),
        ),
      ),
    )
