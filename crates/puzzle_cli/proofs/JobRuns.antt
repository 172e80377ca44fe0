-- What a run shows of the one job that the words ask for.
use Rattle.std.proofs.Common.{◌≡◌, ℕ, Bool, true, false, sym, ◌∙◌, ap, subst, true≢false}
use Rattle.std.specs.Prelude.{Option, Some, None}
use Rattle.run_record.specs.Seen.{Seen, Untouched}
use Rattle.command_words.specs.declared.jobs.Job.{Job}
use Rattle.command_words.specs.declared.jobs.Job.TheVariants.{Finest, Build, Gen, Info, Replay, Tour}
use Rattle.command_words.proofs.JobRanges.{one_job}
use Rattle.run_status.specs.declared.status.Status.{Status}
use Rattle.run_status.specs.declared.status.Status.TheVariants as status
use Rattle.puzzle_cli.specs.Shows.{shows}
use Rattle.puzzle_cli.specs.Touches.{Devices, touched_by}
use Rattle.command_finest.specs.FinestRuns.{FinestRun}
use Rattle.command_finest.proofs.FinestRuns.{finest_unstarted}
use Rattle.command_build.specs.BuildRuns.{BuildRun}
use Rattle.command_build.proofs.BuildRuns.{build_unstarted}
use Rattle.command_gen.specs.GenRuns.{GenRun}
use Rattle.command_gen.proofs.GenRuns.{gen_unstarted}
use Rattle.command_info.specs.InfoRuns.{InfoRun}
use Rattle.command_info.proofs.InfoRuns.{info_unstarted}
use Rattle.command_replay.specs.ReplayRuns.{ReplayRun, TourRun}
use Rattle.command_replay.proofs.ReplayRuns.{replay_unstarted}
use Rattle.command_replay.proofs.TourRuns.{tour_unstarted}

-- ---- the job that is run is the one that the words ask for

pub finest_shown : {old new : Seen} {answer : Status} (untouched : Untouched) (o : Option Job) (digits cap : Option ℕ) (job : Job) → o ≡ Some (Finest digits cap) → o ≡ Some job
    → FinestRun digits cap old new answer → shows job old new untouched answer
unfolding shows
finest_shown {old} {new} {answer} untouched o digits cap job a b run = subst (λ j. shows j old new untouched answer) (one_job o (Finest digits cap) job a b) run

pub build_shown : {old new : Seen} {answer : Status} (untouched : Untouched) (o : Option Job) (digits : Option ℕ) (cap budget : ℕ) (job : Job) → o ≡ Some (Build digits cap budget) → o ≡ Some job
    → BuildRun digits cap budget old new (untouched.input × untouched.work × untouched.out) answer → shows job old new untouched answer
unfolding shows
build_shown {old} {new} {answer} untouched o digits cap budget job a b run = subst (λ j. shows j old new untouched answer) (one_job o (Build digits cap budget) job a b) run

pub gen_shown : {old new : Seen} {answer : Status} (untouched : Untouched) (o : Option Job) (size : ℕ) (job : Job) → o ≡ Some (Gen size) → o ≡ Some job
    → GenRun size old new answer → shows job old new untouched answer
unfolding shows
gen_shown {old} {new} {answer} untouched o size job a b run = subst (λ j. shows j old new untouched answer) (one_job o (Gen size) job a b) run

pub info_shown : {old new : Seen} {answer : Status} (untouched : Untouched) (o : Option Job) (tries : ℕ) (job : Job) → o ≡ Some (Info tries) → o ≡ Some job
    → InfoRun tries old new answer → shows job old new untouched answer
unfolding shows
info_shown {old} {new} {answer} untouched o tries job a b run = subst (λ j. shows j old new untouched answer) (one_job o (Info tries) job a b) run

pub replay_shown : {old new : Seen} {answer : Status} (untouched : Untouched) (o : Option Job) (tries : ℕ) (job : Job) → o ≡ Some (Replay tries) → o ≡ Some job
    → ReplayRun tries old new (untouched.script × untouched.out) answer → shows job old new untouched answer
unfolding shows
replay_shown {old} {new} {answer} untouched o tries job a b run = subst (λ j. shows j old new untouched answer) (one_job o (Replay tries) job a b) run

pub tour_shown : {old new : Seen} {answer : Status} (untouched : Untouched) (o : Option Job) (digits : Option ℕ) (cap budget tries : ℕ) (job : Job) → o ≡ Some (Tour digits cap budget tries) → o ≡ Some job
    → TourRun digits cap budget tries old new untouched answer → shows job old new untouched answer
unfolding shows
tour_shown {old} {new} {answer} untouched o digits cap budget tries job a b run = subst (λ j. shows j old new untouched answer) (one_job o (Tour digits cap budget tries) job a b) run

-- memory ran out before a device was touched
pub unstarted : (job : Job) (s : Seen) (untouched : Untouched) → untouched.script → untouched.out → shows job s s untouched status.Memory
unfolding shows
unstarted (Finest digits cap) s untouched script out = finest_unstarted digits cap s
unstarted (Build digits cap budget) s untouched script out = build_unstarted digits cap budget s _
unstarted (Gen size) s untouched script out = gen_unstarted size s
unstarted (Info tries) s untouched script out = info_unstarted tries s
unstarted (Replay tries) s untouched script out = replay_unstarted tries s _ (script, out)
unstarted (Tour digits cap budget tries) s untouched script out = tour_unstarted digits cap budget tries s untouched script

-- ---- words ask for a job or for none

pub some_or_none : (o : Option Job) (j : Job) → o ≡ Some j → o ≡ None → ⊥
some_or_none o j a b = let both : ◌≡◌ {A = Option Job} (Some j) None = sym a ∙ b in cc

-- a device that is touched isn't one that isn't
pub touched : (f : Devices → Bool) (o p : Option Job) → o ≡ p → f (touched_by p) ≡ true → f (touched_by o) ≡ false → ⊥
touched f o p same is isnt = true≢false (sym is ∙ ap (λ j. f (touched_by j)) (sym same) ∙ isnt)
