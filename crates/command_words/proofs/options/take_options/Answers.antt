use Rattle.std.proofs.Common.{◌≡◌, ◌∙◌, Bool, true, false, not, map, refl, sym, ap, subst, string_bytes, codes, true≢false, inl, inr}
use Rattle.std.specs.List.{list_all}
use Rattle.clap.specs.Words.{App, HasKind, HasMatchesOf, app_of, fault_of, is_simple_and_free, kind_of}
use Rattle.clap.specs.declared.error.kind.ErrorKind.TheVariants.{OutOfMemory}
use Rattle.command_words.specs.Words.{is_named}
use Rattle.command_words.specs.Parses.{options_app, setting_of}
use Rattle.command_words.proofs.OptionTables.{lone_dashes, names, names_stored, takes_options, tells_options}
use Rattle.command_words.proofs.Parses.{free_options}
use Rattle.command_words.proofs.options.take_options.Goals as goal

from_not : (b : Bool) → not b ≡ false → b ≡ true
from_not true e = refl
from_not false e = absurd (true≢false e)

pub returns-then-has_dashes_alone-clause-usage : goal.returns-then-has_dashes_alone-clause-usage
returns-then-has_dashes_alone-clause-usage c usage gs spelt fine =
    let named = ap (list_all is_named) (sym (names_stored c.args.settings.now)) ∙ c.requires.named in
    let taken = takes_options (codes "tpz") (map setting_of c.args.settings.now) (map string_bytes c.args.words.now) gs named spelt fine in
    let alone = sym c.has_dashes_alone.ensures ∙ c.if-has_dashes_alone.true in
    true≢false (sym alone ∙ lone_dashes string_bytes c.args.words.now ∙ ap not taken.1)

pub returns-in-Ok-clause-ok : goal.returns-in-Ok-clause-ok
returns-in-Ok-clause-ok c =
    let settings = map setting_of c.args.settings.now in
    let words = map string_bytes c.args.words.now in
    let is : app_of c.in_ok-command.command ≡ options_app (codes "tpz") (names settings) =
    c.in_ok-command.ensures ∙ ap (options_app (codes "tpz")) (names_stored c.args.settings.now) in
    let none = c.in-Ok.ensures.kinds (ap is_simple_and_free is ∙ free_options (codes "tpz") (names settings)) in
    let words_are = from_not _ (sym (lone_dashes string_bytes c.args.words.now) ∙ sym c.has_dashes_alone.ensures ∙ c.if-has_dashes_alone.false) in
    tells_options (codes "tpz") settings words c.in-Ok.matches words_are (sym (ap (λ (a : App). fault_of a words) is) ∙ none)
    (subst (λ (a : App). HasMatchesOf a words c.in-Ok.matches) is c.in-Ok.ensures.matches)

pub returns-in-Err-clause-usage : goal.returns-in-Err-clause-usage
returns-in-Err-clause-usage c usage gs spelt fine =
    let settings = map setting_of c.args.settings.now in
    let words = map string_bytes c.args.words.now in
    let is : app_of c.in_ok-command.command ≡ options_app (codes "tpz") (names settings) =
    c.in_ok-command.ensures ∙ ap (options_app (codes "tpz")) (names_stored c.args.settings.now) in
    let named = ap (list_all is_named) (sym (names_stored c.args.settings.now)) ∙ c.requires.named in
    let taken = takes_options (codes "tpz") settings words gs named spelt fine in
    let kind = subst (λ ks. HasKind ks c.in-Err.error) (ap (λ (a : App). fault_of a words) is ∙ taken.0)
    (c.in-Err.ensures.kinds (ap is_simple_and_free is ∙ free_options (codes "tpz") (names settings))) in
    let memory : kind_of c.in-Err.error ≡ OutOfMemory = elim kind [ inl out ↦ out | inr none ↦ absurd none ] in
    let made = c.fault_of.ensures (c.kind.ensures ∙ memory) in
    cc
