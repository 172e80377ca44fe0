use Rattle.std.proofs.Common.{◌≡◌, codes, map, take}
use Rattle.clap.specs.Words.{app_of}
use Rattle.command_words.specs.Parses.{options_app}
use Rattle.command_words.proofs.options.command_of.Given as goal

abbrev pub invariant-loop-setting : goal.invariant-loop-setting
invariant-loop-setting l = app_of l.command ≡ options_app (codes "tpz") (map (λ s. s.name.now) (take l.setting-index l.settings))
