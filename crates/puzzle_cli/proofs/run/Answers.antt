-- The words ask for one job, whose answer is that of the command.
use Rattle.std.proofs.Common.{refl, sym, ap, ◌∙◌}
use Rattle.std.specs.Prelude.{Some, Err}
use Rattle.tpz_base.specs.Cubes.{level_bound}
use Rattle.ply_body.specs.Inputs.{mesh_of}
use Rattle.run_status.specs.declared.status.Status.TheVariants as status
use Rattle.puzzle_cli.specs.Touches.{Devices}
use Rattle.finest_cut.proofs.RootCut.{each_once}
use Rattle.command_words.proofs.JobRanges.{asked_digits, asked_plan, asked_replay, asked_size, asked_tour, asked_tries}
use Rattle.puzzle_cli.proofs.JobRuns.{build_shown, finest_shown, gen_shown, info_shown, replay_shown, tour_shown, some_or_none, touched, unstarted}
use Rattle.command_gen.proofs.GenRuns.{gen_complete}
use Rattle.command_info.proofs.InfoRuns.{never_told, info_run}
use Rattle.mesh_output.proofs.OutAnswers.{never}
use Rattle.command_replay.proofs.ReplayRuns.{not_replayed}
use Rattle.mesh_stream.proofs.Completing.{answered}
use Rattle.puzzle_cli.proofs.run.Goals as goal

-- ---- without a job

pub returns-in-Err-Usage-clause-shown : goal.returns-in-Err-Usage-clause-shown
returns-in-Err-Usage-clause-shown g c = λ job asks. absurd (some_or_none _ job asks (c.in-Err-Usage.ensures.usage (ap Err c.in-Err-Usage.field-0-is)))

pub returns-in-Err-Memory-clause-shown : goal.returns-in-Err-Memory-clause-shown
returns-in-Err-Memory-clause-shown g c = λ job asks. unstarted job _ _ refl refl

-- ---- `finest`

pub run_finest-requires : goal.run_finest-requires
run_finest-requires g c = asked_digits _ c.in-Finest.digits c.in-Finest.cap (c.in-Ok.ensures.ok ∙ ap Some c.in-Finest.is)

pub returns-in-Finest-clause-same_input : goal.returns-in-Finest-clause-same_input
returns-in-Finest-clause-same_input g c = λ isnt. absurd (touched (λ (d : Devices). d.input) _ _ (c.in-Ok.ensures.ok ∙ ap Some c.in-Finest.is) refl isnt)

pub returns-in-Finest-clause-same_work : goal.returns-in-Finest-clause-same_work
returns-in-Finest-clause-same_work g c = λ isnt. absurd (touched (λ (d : Devices). d.work) _ _ (c.in-Ok.ensures.ok ∙ ap Some c.in-Finest.is) refl isnt)

pub returns-in-Finest-clause-same_out : goal.returns-in-Finest-clause-same_out
returns-in-Finest-clause-same_out g c = λ isnt. absurd (touched (λ (d : Devices). d.out) _ _ (c.in-Ok.ensures.ok ∙ ap Some c.in-Finest.is) refl isnt)

pub returns-in-Finest-clause-asked : goal.returns-in-Finest-clause-asked
returns-in-Finest-clause-asked g c = λ none. absurd (some_or_none _ _ c.in-Ok.ensures.ok none)

pub returns-in-Finest-clause-shown : goal.returns-in-Finest-clause-shown
returns-in-Finest-clause-shown g c = λ job asks.
    finest_shown _ _ c.in-Finest.digits c.in-Finest.cap job (c.in-Ok.ensures.ok ∙ ap Some c.in-Finest.is) asks
    (record {
      ok = c.run_finest.ensures.ok;
      once = λ rows faces. each_once c.in-Finest.cap (level_bound rows) (mesh_of rows faces);
      refused = c.run_finest.ensures.refused;
      accepted = c.run_finest.ensures.accepted;
      few = c.run_finest.ensures.few;
      too_many = c.run_finest.ensures.too_many;
      complete = λ bytes told held keeps no_input no_work no_out.
          answered c.in-Finest.digits c.in-Finest.cap bytes c.run_finest.result (record {
            usage = c.run_finest.ensures.asked;
            store = c.run_finest.ensures.own;
            refused = λ r. c.run_finest.ensures.refused r bytes told;
            accepted = λ h. c.run_finest.ensures.accepted h bytes told;
            few = λ h. c.run_finest.ensures.few h bytes told held keeps;
            too_many = λ h. c.run_finest.ensures.too_many h bytes told held keeps;
            input = λ e. no_input (c.run_finest.ensures.input_fault e);
            work = λ e. no_work (c.run_finest.ensures.work_fault e);
            damage = λ offset e. (let none = c.run_finest.ensures.work_damage offset e in let not_told = sym none ∙ keeps in cc);
            out = λ e. no_out (c.run_finest.ensures.out_fault e);
          });
      front = c.run_finest.ensures.front;
      unaccepted = c.run_finest.ensures.unaccepted;
      unread = c.run_finest.ensures.unread;
    })

-- ---- `build`

pub run_build-requires-clause-digits : goal.run_build-requires-clause-digits
run_build-requires-clause-digits g c = (asked_plan _ c.in-Build.digits c.in-Build.cap c.in-Build.budget (c.in-Ok.ensures.ok ∙ ap Some c.in-Build.is)).0

pub run_build-requires-clause-some_cap : goal.run_build-requires-clause-some_cap
run_build-requires-clause-some_cap g c = (asked_plan _ c.in-Build.digits c.in-Build.cap c.in-Build.budget (c.in-Ok.ensures.ok ∙ ap Some c.in-Build.is)).1

pub run_build-requires-clause-most_cap : goal.run_build-requires-clause-most_cap
run_build-requires-clause-most_cap g c = (asked_plan _ c.in-Build.digits c.in-Build.cap c.in-Build.budget (c.in-Ok.ensures.ok ∙ ap Some c.in-Build.is)).2

pub run_build-requires-clause-some : goal.run_build-requires-clause-some
run_build-requires-clause-some g c = (asked_plan _ c.in-Build.digits c.in-Build.cap c.in-Build.budget (c.in-Ok.ensures.ok ∙ ap Some c.in-Build.is)).3

pub run_build-requires-clause-most : goal.run_build-requires-clause-most
run_build-requires-clause-most g c = (asked_plan _ c.in-Build.digits c.in-Build.cap c.in-Build.budget (c.in-Ok.ensures.ok ∙ ap Some c.in-Build.is)).4

pub returns-in-Build-clause-same_input : goal.returns-in-Build-clause-same_input
returns-in-Build-clause-same_input g c = λ isnt. absurd (touched (λ (d : Devices). d.input) _ _ (c.in-Ok.ensures.ok ∙ ap Some c.in-Build.is) refl isnt)

pub returns-in-Build-clause-same_work : goal.returns-in-Build-clause-same_work
returns-in-Build-clause-same_work g c = λ isnt. absurd (touched (λ (d : Devices). d.work) _ _ (c.in-Ok.ensures.ok ∙ ap Some c.in-Build.is) refl isnt)

pub returns-in-Build-clause-same_store : goal.returns-in-Build-clause-same_store
returns-in-Build-clause-same_store g c = λ isnt. absurd (touched (λ (d : Devices). d.store) _ _ (c.in-Ok.ensures.ok ∙ ap Some c.in-Build.is) refl isnt)

pub returns-in-Build-clause-same_out : goal.returns-in-Build-clause-same_out
returns-in-Build-clause-same_out g c = λ isnt. absurd (touched (λ (d : Devices). d.out) _ _ (c.in-Ok.ensures.ok ∙ ap Some c.in-Build.is) refl isnt)

pub returns-in-Build-clause-asked : goal.returns-in-Build-clause-asked
returns-in-Build-clause-asked g c = λ none. absurd (some_or_none _ _ c.in-Ok.ensures.ok none)

pub returns-in-Build-clause-shown : goal.returns-in-Build-clause-shown
returns-in-Build-clause-shown g c = λ job asks. build_shown _ _ c.in-Build.digits c.in-Build.cap c.in-Build.budget job (c.in-Ok.ensures.ok ∙ ap Some c.in-Build.is) asks (c.run_build.ensures.run _ _)

-- ---- `gen`

pub run_gen-requires : goal.run_gen-requires
run_gen-requires g c = asked_size _ c.in-Gen.size (c.in-Ok.ensures.ok ∙ ap Some c.in-Gen.is)

pub returns-in-Gen-clause-usage : goal.returns-in-Gen-clause-usage
returns-in-Gen-clause-usage g c = λ e. absurd (never _ _ c.run_gen.ensures.status (λ e. cc) (λ e. cc) (λ e. cc) e)

pub returns-in-Gen-clause-asked : goal.returns-in-Gen-clause-asked
returns-in-Gen-clause-asked g c = λ none. absurd (some_or_none _ _ c.in-Ok.ensures.ok none)

pub returns-in-Gen-clause-same_out : goal.returns-in-Gen-clause-same_out
returns-in-Gen-clause-same_out g c = λ isnt. absurd (touched (λ (d : Devices). d.out) _ _ (c.in-Ok.ensures.ok ∙ ap Some c.in-Gen.is) refl isnt)

pub returns-in-Gen-clause-input_fault : goal.returns-in-Gen-clause-input_fault
returns-in-Gen-clause-input_fault g c = λ e. absurd (never _ _ c.run_gen.ensures.status (λ e. cc) (λ e. cc) (λ e. cc) e)

pub returns-in-Gen-clause-work_fault : goal.returns-in-Gen-clause-work_fault
returns-in-Gen-clause-work_fault g c = λ e. absurd (never _ _ c.run_gen.ensures.status (λ e. cc) (λ e. cc) (λ e. cc) e)

pub returns-in-Gen-clause-work_damage : goal.returns-in-Gen-clause-work_damage
returns-in-Gen-clause-work_damage g c = λ offset e. absurd (never _ _ c.run_gen.ensures.status (λ e. cc) (λ e. cc) (λ e. cc) e)

pub returns-in-Gen-clause-shown : goal.returns-in-Gen-clause-shown
returns-in-Gen-clause-shown g c = λ job asks.
    gen_shown _ _ c.in-Gen.size job (c.in-Ok.ensures.ok ∙ ap Some c.in-Gen.is) asks
    (record {
      ok = c.run_gen.ensures.ok;
      closed = c.run_gen.ensures.closed;
      complete = gen_complete _ _ c.run_gen.ensures.status c.run_gen.ensures.out_fault;
      front = c.run_gen.ensures.front;
    })

-- ---- `info`

pub run_info-requires-clause-some : goal.run_info-requires-clause-some
run_info-requires-clause-some g c = (asked_tries _ c.in-Info.tries (c.in-Ok.ensures.ok ∙ ap Some c.in-Info.is)).0

pub run_info-requires-clause-few : goal.run_info-requires-clause-few
run_info-requires-clause-few g c = (asked_tries _ c.in-Info.tries (c.in-Ok.ensures.ok ∙ ap Some c.in-Info.is)).1

pub returns-in-Info-clause-usage : goal.returns-in-Info-clause-usage
returns-in-Info-clause-usage g c = λ e. absurd (never_told _ _ c.run_info.ensures.status (λ e. cc) (λ e. cc) (λ e. cc) (λ e. cc) (λ b e. cc) e)

pub returns-in-Info-clause-asked : goal.returns-in-Info-clause-asked
returns-in-Info-clause-asked g c = λ none. absurd (some_or_none _ _ c.in-Ok.ensures.ok none)

pub returns-in-Info-clause-same_store : goal.returns-in-Info-clause-same_store
returns-in-Info-clause-same_store g c = λ isnt. absurd (touched (λ (d : Devices). d.store) _ _ (c.in-Ok.ensures.ok ∙ ap Some c.in-Info.is) refl isnt)

pub returns-in-Info-clause-same_out : goal.returns-in-Info-clause-same_out
returns-in-Info-clause-same_out g c = λ isnt. absurd (touched (λ (d : Devices). d.out) _ _ (c.in-Ok.ensures.ok ∙ ap Some c.in-Info.is) refl isnt)

pub returns-in-Info-clause-input_fault : goal.returns-in-Info-clause-input_fault
returns-in-Info-clause-input_fault g c = λ e. absurd (never_told _ _ c.run_info.ensures.status (λ e. cc) (λ e. cc) (λ e. cc) (λ e. cc) (λ b e. cc) e)

pub returns-in-Info-clause-work_fault : goal.returns-in-Info-clause-work_fault
returns-in-Info-clause-work_fault g c = λ e. absurd (never_told _ _ c.run_info.ensures.status (λ e. cc) (λ e. cc) (λ e. cc) (λ e. cc) (λ b e. cc) e)

pub returns-in-Info-clause-work_damage : goal.returns-in-Info-clause-work_damage
returns-in-Info-clause-work_damage g c = λ offset e. absurd (never_told _ _ c.run_info.ensures.status (λ e. cc) (λ e. cc) (λ e. cc) (λ e. cc) (λ b e. cc) e)

pub returns-in-Info-clause-shown : goal.returns-in-Info-clause-shown
returns-in-Info-clause-shown g c = λ job asks.
    info_shown _ _ c.in-Info.tries job (c.in-Ok.ensures.ok ∙ ap Some c.in-Info.is) asks
    (info_run c.in-Info.tries _ _ c.run_info.result c.run_info.ensures.status c.run_info.ensures.ok c.run_info.ensures.accepted c.run_info.ensures.refused c.run_info.ensures.fault c.run_info.ensures.spent
    c.run_info.ensures.out_fault c.run_info.ensures.written c.run_info.ensures.held)

-- ---- `replay`

pub run_replay-requires-clause-some : goal.run_replay-requires-clause-some
run_replay-requires-clause-some g c = (asked_replay _ c.in-Replay.tries (c.in-Ok.ensures.ok ∙ ap Some c.in-Replay.is)).0

pub run_replay-requires-clause-few : goal.run_replay-requires-clause-few
run_replay-requires-clause-few g c = (asked_replay _ c.in-Replay.tries (c.in-Ok.ensures.ok ∙ ap Some c.in-Replay.is)).1

pub returns-in-Replay-clause-usage : goal.returns-in-Replay-clause-usage
returns-in-Replay-clause-usage g c = λ e. absurd (not_replayed _ status.Usage c.run_replay.ensures.status (λ h. h) e)

pub returns-in-Replay-clause-asked : goal.returns-in-Replay-clause-asked
returns-in-Replay-clause-asked g c = λ none. absurd (some_or_none _ _ c.in-Ok.ensures.ok none)

pub returns-in-Replay-clause-same_script : goal.returns-in-Replay-clause-same_script
returns-in-Replay-clause-same_script g c = λ isnt. absurd (touched (λ (d : Devices). d.script) _ _ (c.in-Ok.ensures.ok ∙ ap Some c.in-Replay.is) refl isnt)

pub returns-in-Replay-clause-same_store : goal.returns-in-Replay-clause-same_store
returns-in-Replay-clause-same_store g c = λ isnt. absurd (touched (λ (d : Devices). d.store) _ _ (c.in-Ok.ensures.ok ∙ ap Some c.in-Replay.is) refl isnt)

pub returns-in-Replay-clause-same_out : goal.returns-in-Replay-clause-same_out
returns-in-Replay-clause-same_out g c = λ isnt. absurd (touched (λ (d : Devices). d.out) _ _ (c.in-Ok.ensures.ok ∙ ap Some c.in-Replay.is) refl isnt)

pub returns-in-Replay-clause-input_fault : goal.returns-in-Replay-clause-input_fault
returns-in-Replay-clause-input_fault g c = λ e. absurd (not_replayed _ status.InputFault c.run_replay.ensures.status (λ h. h) e)

pub returns-in-Replay-clause-work_fault : goal.returns-in-Replay-clause-work_fault
returns-in-Replay-clause-work_fault g c = λ e. absurd (not_replayed _ status.WorkFault c.run_replay.ensures.status (λ h. h) e)

pub returns-in-Replay-clause-work_damage : goal.returns-in-Replay-clause-work_damage
returns-in-Replay-clause-work_damage g c = λ offset e. absurd (not_replayed _ (status.WorkDamage offset) c.run_replay.ensures.status (λ h. h) e)

pub returns-in-Replay-clause-shown : goal.returns-in-Replay-clause-shown
returns-in-Replay-clause-shown g c = λ job asks. replay_shown _ _ c.in-Replay.tries job (c.in-Ok.ensures.ok ∙ ap Some c.in-Replay.is) asks (c.run_replay.ensures.run _ _ _ _)

-- ---- `tour`

pub run_tour-requires-clause-digits : goal.run_tour-requires-clause-digits
run_tour-requires-clause-digits g c = (asked_tour _ c.in-Tour.digits c.in-Tour.cap c.in-Tour.budget c.in-Tour.tries (c.in-Ok.ensures.ok ∙ ap Some c.in-Tour.is)).0

pub run_tour-requires-clause-some_cap : goal.run_tour-requires-clause-some_cap
run_tour-requires-clause-some_cap g c = (asked_tour _ c.in-Tour.digits c.in-Tour.cap c.in-Tour.budget c.in-Tour.tries (c.in-Ok.ensures.ok ∙ ap Some c.in-Tour.is)).1.0

pub run_tour-requires-clause-most_cap : goal.run_tour-requires-clause-most_cap
run_tour-requires-clause-most_cap g c = (asked_tour _ c.in-Tour.digits c.in-Tour.cap c.in-Tour.budget c.in-Tour.tries (c.in-Ok.ensures.ok ∙ ap Some c.in-Tour.is)).1.1

pub run_tour-requires-clause-some_budget : goal.run_tour-requires-clause-some_budget
run_tour-requires-clause-some_budget g c = (asked_tour _ c.in-Tour.digits c.in-Tour.cap c.in-Tour.budget c.in-Tour.tries (c.in-Ok.ensures.ok ∙ ap Some c.in-Tour.is)).2.0

pub run_tour-requires-clause-most_budget : goal.run_tour-requires-clause-most_budget
run_tour-requires-clause-most_budget g c = (asked_tour _ c.in-Tour.digits c.in-Tour.cap c.in-Tour.budget c.in-Tour.tries (c.in-Ok.ensures.ok ∙ ap Some c.in-Tour.is)).2.1

pub run_tour-requires-clause-some : goal.run_tour-requires-clause-some
run_tour-requires-clause-some g c = (asked_tour _ c.in-Tour.digits c.in-Tour.cap c.in-Tour.budget c.in-Tour.tries (c.in-Ok.ensures.ok ∙ ap Some c.in-Tour.is)).3.0

pub run_tour-requires-clause-few : goal.run_tour-requires-clause-few
run_tour-requires-clause-few g c = (asked_tour _ c.in-Tour.digits c.in-Tour.cap c.in-Tour.budget c.in-Tour.tries (c.in-Ok.ensures.ok ∙ ap Some c.in-Tour.is)).3.1

pub returns-in-Tour-clause-asked : goal.returns-in-Tour-clause-asked
returns-in-Tour-clause-asked g c = λ none. absurd (some_or_none _ _ c.in-Ok.ensures.ok none)

pub returns-in-Tour-clause-same_input : goal.returns-in-Tour-clause-same_input
returns-in-Tour-clause-same_input g c = λ isnt. absurd (touched (λ (d : Devices). d.input) _ _ (c.in-Ok.ensures.ok ∙ ap Some c.in-Tour.is) refl isnt)

pub returns-in-Tour-clause-same_script : goal.returns-in-Tour-clause-same_script
returns-in-Tour-clause-same_script g c = λ isnt. absurd (touched (λ (d : Devices). d.script) _ _ (c.in-Ok.ensures.ok ∙ ap Some c.in-Tour.is) refl isnt)

pub returns-in-Tour-clause-same_work : goal.returns-in-Tour-clause-same_work
returns-in-Tour-clause-same_work g c = λ isnt. absurd (touched (λ (d : Devices). d.work) _ _ (c.in-Ok.ensures.ok ∙ ap Some c.in-Tour.is) refl isnt)

pub returns-in-Tour-clause-same_store : goal.returns-in-Tour-clause-same_store
returns-in-Tour-clause-same_store g c = λ isnt. absurd (touched (λ (d : Devices). d.store) _ _ (c.in-Ok.ensures.ok ∙ ap Some c.in-Tour.is) refl isnt)

pub returns-in-Tour-clause-same_out : goal.returns-in-Tour-clause-same_out
returns-in-Tour-clause-same_out g c = λ isnt. absurd (touched (λ (d : Devices). d.out) _ _ (c.in-Ok.ensures.ok ∙ ap Some c.in-Tour.is) refl isnt)

pub returns-in-Tour-clause-shown : goal.returns-in-Tour-clause-shown
returns-in-Tour-clause-shown g c = λ job asks.
    tour_shown _ _ c.in-Tour.digits c.in-Tour.cap c.in-Tour.budget c.in-Tour.tries job (c.in-Ok.ensures.ok ∙ ap Some c.in-Tour.is) asks c.run_tour.ensures.run
