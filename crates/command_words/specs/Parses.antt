-- The command that `clap` reads options by, and what its matches tell.
use Rattle.std.specs.Prelude.{◌≡◌, ℕ, true, List, [], map, Option, Some, None, Result, Ok, Err, if◌then◌else◌}
use Rattle.std.specs.List.{list_all}
use Rattle.clap.specs.Words.{App, Rule, Text, first_value, found_of, new_rule}
use Rattle.clap.specs.Simple.{new_shape}
use Rattle.clap.specs.declared.builder.action.ArgAction.TheVariants.{Set}
use Rattle.clap.specs.declared.parser.matches.ArgMatches.{ArgMatches}
use Rattle.tpz_base.specs.Texts.{Bytes}
use Rattle.ply_head.specs.Numbers.{value}
use Rattle.command_words.specs.declared.jobs.WordsFault.{WordsFault}
use Rattle.command_words.specs.declared.jobs.WordsFault.TheVariants.{Usage}
use Rattle.command_words.specs.declared.options.Setting.{Setting as StoredSetting}
use Rattle.command_words.specs.Words.{Given, Setting, are_different, given_in, is_of, is_value, text_for}

abbrev pub setting_of : StoredSetting → Setting
setting_of s = record { name = s.name.now; least = s.least; greatest = s.greatest; is_required = s.is_required }

-- the number of a text that is a value of the option
abbrev pub number_in : Setting → Bytes → Option ℕ
number_in s text = if is_value s text then Some (value text) else None

abbrev pub number_or_usage : Option ℕ → Result (Option ℕ) WordsFault
number_or_usage None = Err Usage
number_or_usage (Some n) = Ok (Some n)

-- the number of the text that is given for an option, if any is
abbrev pub option_number : Setting → Option Bytes → Result (Option ℕ) WordsFault
option_number s None = if s.is_required then Err Usage else Ok None
option_number s (Some text) = number_or_usage (number_in s text)

-- an option that takes one value
abbrev pub option_rule : Text → Rule
option_rule name = record (new_rule name) { long = Some name; action = Some Set }

-- a command of these options, without help and version, whose words begin with the options
abbrev pub options_app : Text → List Text → App
options_app name options =
    record { top = record (new_shape name) { rules = map option_rule options; no_binary_name = true; disable_help_flag = true; disable_version_flag = true }; subs = [] }

-- the matches tell the options that the words spell, which are of these settings and different
pub record TellsOptions (settings : List Setting) (words : List Bytes) (m : ArgMatches) : Type 0 where
  pub given : List Given
  pub spelt : given_in words ≡ Some given
  pub own : list_all (is_of settings) given ≡ true
  pub different : are_different given ≡ true
  pub texts : (s : Setting) → first_value (found_of m) s.name ≡ text_for s given
