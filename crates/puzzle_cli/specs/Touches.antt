-- Which devices a job touches. The others are left as they were.
use Rattle.std.specs.Prelude.{Bool, true, false, Option, Some, None}
use Rattle.command_words.specs.declared.jobs.Job.{Job}
use Rattle.command_words.specs.declared.jobs.Job.TheVariants.{Finest, Build, Gen, Info, Replay, Tour}

pub record Devices : Type 0 where
  pub input : Bool
  pub script : Bool
  pub work : Bool
  pub store : Bool
  pub out : Bool

-- those of the job that words ask for; none where they ask for none
abbrev pub touched_by : Option Job → Devices
touched_by None = record { input = false; script = false; work = false; store = false; out = false }
touched_by (Some (Finest digits cap)) = record { input = true; script = false; work = true; store = false; out = true }
touched_by (Some (Build digits cap budget)) = record { input = true; script = false; work = true; store = true; out = true }
touched_by (Some (Gen size)) = record { input = false; script = false; work = false; store = false; out = true }
touched_by (Some (Info tries)) = record { input = false; script = false; work = false; store = true; out = true }
touched_by (Some (Replay tries)) = record { input = false; script = true; work = false; store = true; out = true }
touched_by (Some (Tour digits cap budget tries)) = record { input = true; script = true; work = true; store = true; out = true }
