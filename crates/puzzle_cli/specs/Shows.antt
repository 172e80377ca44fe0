-- What a run shows, by the job that the words ask for.
use Rattle.run_record.specs.Seen.{Seen, Untouched}
use Rattle.run_status.specs.declared.status.Status.{Status}
use Rattle.command_words.specs.declared.jobs.Job.{Job}
use Rattle.command_words.specs.declared.jobs.Job.TheVariants.{Finest, Build, Gen, Info, Replay, Tour}
use Rattle.command_finest.specs.FinestRuns.{FinestRun}
use Rattle.command_build.specs.BuildRuns.{BuildRun}
use Rattle.command_gen.specs.GenRuns.{GenRun}
use Rattle.command_info.specs.InfoRuns.{InfoRun}
use Rattle.command_replay.specs.ReplayRuns.{ReplayRun, TourRun}

-- by what the devices say before and after it, by whether they are as they were, and by the answer
unfoldable pub shows : Job → Seen → Seen → Untouched → Status → Type 0
shows (Finest digits cap) old new untouched answer = FinestRun digits cap old new answer
shows (Build digits cap budget) old new untouched answer = BuildRun digits cap budget old new (untouched.input × untouched.work × untouched.out) answer
shows (Gen size) old new untouched answer = GenRun size old new answer
shows (Info tries) old new untouched answer = InfoRun tries old new answer
shows (Replay tries) old new untouched answer = ReplayRun tries old new (untouched.script × untouched.out) answer
shows (Tour digits cap budget tries) old new untouched answer = TourRun digits cap budget tries old new untouched answer
