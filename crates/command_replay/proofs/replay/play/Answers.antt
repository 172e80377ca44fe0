-- Line after line.
use Rattle.std.proofs.Common.{◌∙◌, ◌+◌, ◌<◌, OnSome, ap, refl, sym, subst, arith, Ok, Err}
use Rattle.run_status.specs.Statuses.{IsOfLines}
use Rattle.cut_blocks.specs.Shown.{stored_in}
use Rattle.command_replay.specs.Plays.{play}
use Rattle.patch_file.proofs.AskingLaw.{asked_both}
use Rattle.cut_blocks.proofs.OpenLaw.{same_status}
use Rattle.cut_blocks.proofs.ShownLaw.{counted_none, counted_both}
use Rattle.command_replay.proofs.Progress.{asked_script, begun, calls_so_far, calls_with, ended, ended_well, front_none, front_so_far, lines_told, progressed, rose_later, script_bad, script_input, script_no_bad, script_no_out, script_no_read, script_of_lines, spent_with, wrong_with}
use Rattle.command_replay.proofs.replay.play.Goals as goal

pub lines-init : goal.lines-init
lines-init g c = record {
  held = refl;
  ready = c.requires.ready;
  parts = omega (arith, c.requires.parts);
  counted = counted_none _ _;
  script_later = omega arith;
  out_later = omega arith;
  progress = begun _ _ _ _ _ _ _ _ _ _ c.requires.start c.requires.parts c.requires.tests;
}

-- ---- at the end

pub returns-in-Ok-None-clause-whole : goal.returns-in-Ok-None-clause-whole
returns-in-Ok-None-clause-whole g c = λ ls is.
    (ended _ _ _ _ _ _ _ _ _ _ _ _ _ _ _ _ c.lines.invariant.progress _ _ _ (lines_told c.new-lines.result _ ls c.new-lines.ensures is) (c.in-Ok-None.ensures.end (ap Ok c.in-Ok-None.field-0-is))).0

pub returns-in-Ok-None-clause-played : goal.returns-in-Ok-None-clause-played
returns-in-Ok-None-clause-played g c = λ ls is bs told.
    ended_well _ _ _ _ _ _ _ _ _ _ _ _ _ _ _ _ c.lines.invariant.progress _ _ _ (lines_told c.new-lines.result _ ls c.new-lines.ensures is) (c.in-Ok-None.ensures.end (ap Ok c.in-Ok-None.field-0-is)) bs told

pub returns-in-Ok-None-clause-front : goal.returns-in-Ok-None-clause-front
returns-in-Ok-None-clause-front g c = λ ls is bs told.
    front_so_far _ _ _ _ _ _ _ _ _ _ _ _ _ _ _ _ c.lines.invariant.progress _ (lines_told c.new-lines.result _ ls c.new-lines.ensures is) bs told

pub returns-in-Ok-None-clause-asked : goal.returns-in-Ok-None-clause-asked
returns-in-Ok-None-clause-asked g c = (
  c.lines.invariant.progress.calls,
  c.lines.invariant.progress.asked,
  λ ls is bs told. calls_so_far _ _ _ _ _ _ _ _ _ _ _ _ _ _ _ _ c.lines.invariant.progress _ (lines_told c.new-lines.result _ ls c.new-lines.ensures is) bs told,
)

-- ---- where the script isn't read further

pub returns-in-Err-clause-bad_line : goal.returns-in-Err-clause-bad_line
returns-in-Err-clause-bad_line g c = λ n e ls is.
    let fault = ap Err (script_bad c.in-Err.fault n (sym c.status_of_script.ensures ∙ same_status _ _ e)) in
    let there = lines_told c.new-lines.result _ ls c.new-lines.ensures is in (
      (ended _ _ _ _ _ _ _ _ _ _ _ _ _ _ _ _ c.lines.invariant.progress _ _ _ there (c.in-Err.ensures.bad n fault)).0,
      λ bs told. ended_well _ _ _ _ _ _ _ _ _ _ _ _ _ _ _ _ c.lines.invariant.progress _ _ _ there (c.in-Err.ensures.bad n fault) bs told,
    )

pub returns-in-Err-clause-bad : goal.returns-in-Err-clause-bad
returns-in-Err-clause-bad g c = λ bad e. absurd (script_no_bad c.in-Err.fault bad (sym c.status_of_script.ensures ∙ same_status _ _ e))

pub returns-in-Err-clause-spent : goal.returns-in-Err-clause-spent
returns-in-Err-clause-spent g c = λ i e. absurd (script_no_read c.in-Err.fault _ (sym c.status_of_script.ensures ∙ same_status _ _ e))

pub returns-in-Err-clause-status : goal.returns-in-Err-clause-status
returns-in-Err-clause-status g c = subst IsOfLines (sym c.status_of_script.ensures) (script_of_lines c.in-Err.fault)

pub returns-in-Err-clause-front : goal.returns-in-Err-clause-front
returns-in-Err-clause-front g c = λ ls is bs told.
    front_so_far _ _ _ _ _ _ _ _ _ _ _ _ _ _ _ _ c.lines.invariant.progress _ (lines_told c.new-lines.result _ ls c.new-lines.ensures is) bs told

pub returns-in-Err-clause-asked : goal.returns-in-Err-clause-asked
returns-in-Err-clause-asked g c = (
  c.lines.invariant.progress.calls,
  asked_script _ _ _ c.in-Err.fault c.status_of_script.result _ _ _ _ _ _ c.status_of_script.ensures c.lines.invariant.progress.asked,
  λ ls is bs told. calls_so_far _ _ _ _ _ _ _ _ _ _ _ _ _ _ _ _ c.lines.invariant.progress _ (lines_told c.new-lines.result _ ls c.new-lines.ensures is) bs told,
)

pub returns-in-Err-clause-script_fault : goal.returns-in-Err-clause-script_fault
returns-in-Err-clause-script_fault g c = λ e.
    rose_later _ _ _ c.lines.invariant.script_later (c.in-Err.ensures.input (ap Err (script_input c.in-Err.fault (sym c.status_of_script.ensures ∙ same_status _ _ e))))

pub returns-in-Err-clause-out_fault : goal.returns-in-Err-clause-out_fault
returns-in-Err-clause-out_fault g c = λ e. absurd (script_no_out c.in-Err.fault (sym c.status_of_script.ensures ∙ same_status _ _ e))

-- ---- a line

pub play_line-requires-clause-few : goal.play_line-requires-clause-few
play_line-requires-clause-few g c =
    let rose : c.lines.lines.number < c.next.new.self.number = subst (λ o. OnSome o (c.lines.lines.number < c.next.new.self.number)) c.in-Ok-Some.field-0-is c.in-Ok-Some.ensures.number in
    omega (arith, c.lines.invariant.parts, rose, c.next.ensures.most)

pub lines-smaller : goal.lines-smaller
lines-smaller g c =
    let rose : c.lines.lines.number < c.next.new.self.number = subst (λ o. OnSome o (c.lines.lines.number < c.next.new.self.number)) c.in-Ok-Some.field-0-is c.in-Ok-Some.ensures.number in
    omega (arith, rose, c.next.ensures.most)

pub lines-preserved : goal.lines-preserved
lines-preserved g c =
    let rose : c.lines.lines.number < c.next.new.self.number = subst (λ o. OnSome o (c.lines.lines.number < c.next.new.self.number)) c.in-Ok-Some.field-0-is c.in-Ok-Some.ensures.number in
    let ok = c.in_default.ensures in
    let asked = ok.asked in
    record {
      held = ok.held ∙ c.lines.invariant.held;
      ready = ok.ready;
      parts = omega (arith, c.lines.invariant.parts, rose, ok.parts);
      counted = counted_both _ _ _ _ _ _ c.lines.invariant.counted ok.counted;
      script_later = omega (arith, c.lines.invariant.script_later, c.in-Ok-Some.ensures.later);
      out_later = omega (arith, c.lines.invariant.out_later, ok.out_later);
      progress =
          progressed _ _ _ c.args.reader.now c.lines.player _ _ _ _ _ _ _ _ _ _ _ c.lines.invariant.progress _ c.in-Ok-Some.line _
          (c.in-Ok-Some.ensures.command c.in-Ok-Some.line (ap Ok c.in-Ok-Some.field-0-is)) c.play_line.new.player _ _ asked.0 _ _ _
          (λ bs told. ok.step bs (c.lines.invariant.held ∙ told)) (λ bs told. ok.wrote bs (c.lines.invariant.held ∙ told)) (λ bs told. ok.right bs (c.lines.invariant.held ∙ told)) asked.1
          (λ bs told. asked.2 bs (c.lines.invariant.held ∙ told));
    }

pub returns-in-Err-play_line-clause-bad_line : goal.returns-in-Err-play_line-clause-bad_line
returns-in-Err-play_line-clause-bad_line g c = λ n e. absurd (c.in-Err-play_line.ensures.no_script n (ap Err (same_status _ _ e)))

pub returns-in-Err-play_line-clause-bad : goal.returns-in-Err-play_line-clause-bad
returns-in-Err-play_line-clause-bad g c = λ bad e.
    let r = c.in-Err-play_line.ensures.bad bad (ap Err (same_status _ _ e)) in (
      r.0,
      r.1,
      r.2,
      λ bs told. r.3 bs (c.lines.invariant.held ∙ told),
      λ ls is bs told.
          wrong_with _ _ _ c.args.reader.now c.lines.player _ _ _ _ _ _ _ _ _ _ _ c.lines.invariant.progress _ c.in-Ok-Some.line _ (c.in-Ok-Some.ensures.command c.in-Ok-Some.line (ap Ok c.in-Ok-Some.field-0-is))
          _ (lines_told c.new-lines.result _ ls c.new-lines.ensures is) bs told (r.0, r.1)
          (r.4 bs (c.lines.invariant.held ∙ told) (play (stored_in c.args.reader.now bs) c.lines.invariant.progress.done) (c.lines.invariant.progress.played bs told).playing),
    )

pub returns-in-Err-play_line-clause-spent : goal.returns-in-Err-play_line-clause-spent
returns-in-Err-play_line-clause-spent g c = λ i e ls is bs told.
    spent_with _ _ _ c.args.reader.now c.lines.player _ _ _ _ _ _ _ _ _ _ _ c.lines.invariant.progress _ c.in-Ok-Some.line _ (c.in-Ok-Some.ensures.command c.in-Ok-Some.line (ap Ok c.in-Ok-Some.field-0-is))
    _ (lines_told c.new-lines.result _ ls c.new-lines.ensures is) bs told i
    (c.in-Err-play_line.ensures.spent i (ap Err (same_status _ _ e)) bs (c.lines.invariant.held ∙ told) (play (stored_in c.args.reader.now bs) c.lines.invariant.progress.done) (c.lines.invariant.progress.played bs told).playing)

pub returns-in-Err-play_line-clause-front : goal.returns-in-Err-play_line-clause-front
returns-in-Err-play_line-clause-front g c = λ ls is bs told.
    front_none _ _ _ _ _ _ _ (front_so_far _ _ _ _ _ _ _ _ _ _ _ _ _ _ _ _ c.lines.invariant.progress _ (lines_told c.new-lines.result _ ls c.new-lines.ensures is) bs told) c.in-Err-play_line.ensures.err

pub returns-in-Err-play_line-clause-asked : goal.returns-in-Err-play_line-clause-asked
returns-in-Err-play_line-clause-asked g c =
    let a = c.in-Err-play_line.ensures.asked in (
      c.lines.invariant.progress.calls + a.0,
      asked_both _ _ _ _ _ _ _ _ _ _ _ _ _ _ _ c.lines.invariant.progress.asked a.1,
      λ ls is bs told.
          calls_with _ _ _ c.args.reader.now c.lines.player _ _ _ _ _ _ _ _ _ _ _ c.lines.invariant.progress _ c.in-Ok-Some.line _ (c.in-Ok-Some.ensures.command c.in-Ok-Some.line (ap Ok c.in-Ok-Some.field-0-is))
          _ (lines_told c.new-lines.result _ ls c.new-lines.ensures is) bs told a.0
          (a.2 bs (c.lines.invariant.held ∙ told) (play (stored_in c.args.reader.now bs) c.lines.invariant.progress.done) (c.lines.invariant.progress.played bs told).playing),
    )

pub returns-in-Err-play_line-clause-out_fault : goal.returns-in-Err-play_line-clause-out_fault
returns-in-Err-play_line-clause-out_fault g c = λ e. rose_later _ _ _ c.lines.invariant.out_later (c.in-Err-play_line.ensures.out_fault (ap Err (same_status _ _ e)))
