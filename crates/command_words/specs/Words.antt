-- The words of the command line: a command, and a list of its options, each with a number.
use Rattle.std.specs.Prelude.{◌≡◌, ℕ, ◌==◌, Bool, true, false, not, ◌&&◌, nat_le, if◌then◌else◌, List, [], ◌∷◌, ◌++◌, map, flat_map, codes, find, Option, Some, None, option_map, option_and_then, unwrap_or}
use Rattle.std.specs.List.{list_all, list_any, before_first, after_first}
use Rattle.std.specs.Option.{option_map_or}
use Rattle.std.specs.Str.{bytes_eq}
use Rattle.tpz_base.specs.Texts.{Bytes}
use Rattle.ply_head.specs.Numbers.{are_digits, value}
use Rattle.command_words.specs.declared.jobs.Job.{Job}
use Rattle.command_words.specs.declared.jobs.Job.TheVariants.{Finest, Build, Gen, Info, Replay, Tour}

-- ---- the options that words spell

-- an option as it is given: its name with the dashes, and its value
abbrev pub Given : Type 0
Given = Bytes × Bytes

abbrev pub is_equals : ℕ → Bool
is_equals c = c == 61

-- the word `--NAME=VALUE` in its two parts
abbrev pub parts_of : Bytes → Given
parts_of word = (before_first is_equals word, after_first is_equals word)

-- the option, and then those behind it
abbrev pub and_then : Given → Option (List Given) → Option (List Given)
and_then g = option_map (λ gs. g ∷ gs)

-- each option is one word with `=` in it, or a word without and its value, the next word
unfoldable pub given_in : List Bytes → Option (List Given)
given_in [] = Some []
given_in (word ∷ []) = if list_any is_equals word then Some (parts_of word ∷ []) else None
given_in (word ∷ next ∷ words) =
    if list_any is_equals word then and_then (parts_of word) (given_in (next ∷ words)) else and_then (word, next) (given_in words)

-- ---- how options are spelled

-- an option as it is written, in one word or in two; no `=` is in its name
pub record Spelling : Type 0 where
  pub name : Bytes
  pub value : Bytes
  pub is_one_word : Bool

abbrev pub is_spelling : Spelling → Bool
is_spelling s = not (list_any is_equals s.name)

-- `NAME=VALUE`, or `NAME` and `VALUE`
abbrev pub words_of : Spelling → List Bytes
words_of s = if s.is_one_word then (s.name ++ 61 ∷ s.value) ∷ [] else s.name ∷ s.value ∷ []

abbrev pub given_by : Spelling → Given
given_by s = (s.name, s.value)

-- the words are spellings of these options, one after the other
abbrev pub Spell : List Given → List Bytes → Type 0
Spell gs words = (ss : List Spelling) × (list_all is_spelling ss ≡ true) × (words ≡ flat_map words_of ss) × (gs ≡ map given_by ss)

-- ---- the options that a command has

-- an option of a command: its name without the dashes, the range of its value, and whether it must be there
pub record Setting : Type 0 where
  pub name : Bytes
  pub least : ℕ
  pub greatest : ℕ
  pub is_required : Bool

abbrev pub is_named : Bytes → Bool
is_named [] = false
is_named (c ∷ cs) = true

-- the word `--NAME`
abbrev pub flag : Setting → Bytes
flag s = 45 ∷ 45 ∷ s.name

abbrev pub is_of : List Setting → Given → Bool
is_of settings g = list_any (λ s. bytes_eq (flag s) g.0) settings

-- no name stands twice
abbrev pub are_different : List Given → Bool
are_different [] = true
are_different (g ∷ gs) = not (list_any (λ h. bytes_eq h.0 g.0) gs) && are_different gs

-- the value that is given for an option
abbrev pub text_for : Setting → List Given → Option Bytes
text_for s gs = option_map (λ g. g.1) (find (λ g. bytes_eq g.0 (flag s)) gs)

-- 1 to 10 decimal digits, whose number is in the range
abbrev pub is_value : Setting → Bytes → Bool
is_value s text = are_digits 1 10 text && (nat_le s.least (value text) && nat_le (value text) s.greatest)

abbrev pub is_met : List Given → Setting → Bool
is_met gs s = option_map_or (is_value s) (text_for s gs) (not s.is_required)

-- only these options, none of them twice, each value in its range, and what must be there
abbrev pub are_options : List Setting → List Given → Bool
are_options settings gs = list_all (is_of settings) gs && (are_different gs && list_all (is_met gs) settings)

abbrev pub number_for : Setting → List Given → Option ℕ
number_for s gs = option_map value (text_for s gs)

-- the number of an option that must be there; 0 stands for none, and is never used
abbrev pub needed_for : Setting → List Given → ℕ
needed_for s gs = unwrap_or (number_for s gs) 0

-- ---- the commands

abbrev pub digits : Setting
digits = record { name = codes "digits"; least = 0; greatest = 9; is_required = false }

abbrev pub cap : Setting
cap = record { name = codes "cap"; least = 1; greatest = 16777216; is_required = false }

abbrev pub budget : Setting
budget = record { name = codes "budget"; least = 1; greatest = 4194304; is_required = false }

abbrev pub size : Setting
size = record { name = codes "size"; least = 1; greatest = 500; is_required = true }

abbrev pub tries : Setting
tries = record { name = codes "tries"; least = 1; greatest = 100; is_required = false }

-- a command, its options, and its job by what is given
pub record Command : Type 0 where
  pub name : Bytes
  pub settings : List Setting
  pub job : List Given → Job

abbrev pub finest : Command
finest = record {
  name = codes "finest";
  settings = digits ∷ cap ∷ [];
  job = λ gs. Finest (number_for digits gs) (number_for cap gs);
}

abbrev pub build : Command
build = record {
  name = codes "build";
  settings = digits ∷ cap ∷ budget ∷ [];
  job = λ gs. Build (number_for digits gs) (unwrap_or (number_for cap gs) 1024) (unwrap_or (number_for budget gs) 32768);
}

abbrev pub gen : Command
gen = record {
  name = codes "gen";
  settings = size ∷ [];
  job = λ gs. Gen (needed_for size gs);
}

abbrev pub info : Command
info = record {
  name = codes "info";
  settings = tries ∷ [];
  job = λ gs. Info (unwrap_or (number_for tries gs) 3);
}

abbrev pub replay : Command
replay = record {
  name = codes "replay";
  settings = tries ∷ [];
  job = λ gs. Replay (unwrap_or (number_for tries gs) 3);
}

abbrev pub tour : Command
tour = record {
  name = codes "tour";
  settings = digits ∷ cap ∷ budget ∷ tries ∷ [];
  job = λ gs. Tour (number_for digits gs) (unwrap_or (number_for cap gs) 1024) (unwrap_or (number_for budget gs) 32768) (unwrap_or (number_for tries gs) 3);
}

abbrev pub commands : List Command
commands = finest ∷ build ∷ gen ∷ info ∷ replay ∷ tour ∷ []

-- the job of a command with the options that the words behind it spell
abbrev pub job_with : List Bytes → Command → Option Job
job_with words c = option_and_then (λ gs. if are_options c.settings gs then Some (c.job gs) else None) (given_in words)

-- the job that the words ask for
unfoldable pub asked : List Bytes → Option Job
asked [] = None
asked (word ∷ words) = option_and_then (job_with words) (find (λ c. bytes_eq c.name word) commands)
