-- The opening, the lines, and the note.
use Rattle.std.proofs.Common.{ap, refl, ◌∙◌, subst, inl, inr, Err}
use Rattle.run_status.specs.declared.status.Status.TheVariants as status
use Rattle.cut_blocks.specs.Shown.{AreCounted}
use Rattle.mesh_output.proofs.OutAnswers.{isnt}
use Rattle.command_replay.proofs.Progress.{rose_later}
use Rattle.command_replay.proofs.ReplayRuns.{counted_asked, finished_run, lines_of_replay, note_of_replay, open_start, unfinished_run, unopened_run}
use Rattle.command_replay.proofs.replay.run_replay.Goals as goal

pub returns-in-Err-clause-run : goal.returns-in-Err-clause-run
returns-in-Err-clause-run g c =
    λ input input' work work'. unopened_run c.args.tries _ _ _ c.in-Err.fault c.status_of_open.result c.status_of_open.ensures (λ b e. c.in-Err.ensures.bad b (ap Err e)) c.in-Err.ensures.asked
    c.in-Err.ensures.held (refl, refl) refl refl

pub play-requires-clause-ready : goal.play-requires-clause-ready
play-requires-clause-ready g c = record {
  reader_of = open_start _ _ c.in-Ok.opened.0 c.in-Ok.opened.1 c.in-Ok.ensures.held c.in-Ok.ensures.opened;
  params = c.in-Ok.ensures.params;
  base = c.in-Ok.ensures.base;
  set = c.new.ensures.set c.in-Ok.opened.1;
  saturated = c.in-Ok.ensures.saturated;
}

pub returns-in-Err-play-clause-run : goal.returns-in-Err-play-clause-run
returns-in-Err-play-clause-run g c =
    let e = c.in-Err-play.ensures in
    let same = c.in-Ok.ensures.held in
    λ input input' work work'. unfinished_run c.args.tries _ _ _ c.in-Ok.opened.0 c.in-Ok.opened.1 (open_start _ _ c.in-Ok.opened.0 c.in-Ok.opened.1 refl c.in-Ok.ensures.opened) _ _ _ c.in-Err-play.status c.play.new.player
    e.status (λ l is text lt. let k = e.bad_line l (ap Err is) text lt in (k.0, λ bs told. k.1 bs (same ∙ told)))
    (λ b is. let k = e.bad b (ap Err is) in (k.0, k.1, k.2, λ bs told. k.3 bs (same ∙ told), λ text lt bs told. k.4 text lt bs (same ∙ told)))
    (λ i is text lt bs told. e.spent i (ap Err is) text lt bs (same ∙ told))
    (λ text lt bs told. c.play.ensures.front text lt bs (same ∙ told)) (counted_asked _ _ _ _ _ _ _ _ c.in-Ok.ensures.counted)
    (e.asked.0, e.asked.1, λ text lt bs told. e.asked.2 text lt bs (same ∙ told)) (λ is. e.script_fault (ap Err is)) (λ is. e.out_fault (ap Err is)) (e.held ∙ same)

pub returns-in-Err-play-clause-status : goal.returns-in-Err-play-clause-status
returns-in-Err-play-clause-status g c = lines_of_replay c.in-Err-play.status c.in-Err-play.ensures.status

pub returns-in-Err-play-clause-script_fault : goal.returns-in-Err-play-clause-script_fault
returns-in-Err-play-clause-script_fault g c = λ is. c.in-Err-play.ensures.script_fault (ap Err is)

pub returns-in-Err-play-clause-out_fault : goal.returns-in-Err-play-clause-out_fault
returns-in-Err-play-clause-out_fault g c = λ is. c.in-Err-play.ensures.out_fault (ap Err is)

pub returns-in-Ok-write_note-clause-run : goal.returns-in-Ok-write_note-clause-run
returns-in-Ok-write_note-clause-run g c =
    let e = c.in_default.ensures in
    let same = c.in-Ok.ensures.held in
    λ input input' work work'. finished_run c.args.tries _ _ _ c.in-Ok.opened.0 c.in-Ok.opened.1 (open_start _ _ c.in-Ok.opened.0 c.in-Ok.opened.1 refl c.in-Ok.ensures.opened) _ _ _ _ _ status.Ok c.play.new.player
    (inl refl) c.requires.few e.whole (λ text lt bs told. e.played text lt bs (same ∙ told)) c.in-Ok.ensures.counted (subst (λ x. AreCounted x c.play.new.player.reads (g.S.Blob.reads c.open.new.store) (g.S.Blob.reads c.play.new.store)) c.asked.ensures e.counted)
    (e.asked.0, e.asked.1, λ text lt bs told. e.asked.2 text lt bs (same ∙ told)) (λ is. c.in-Ok-write_note.ensures.ok) (λ never. absurd (never refl)) (λ is. absurd cc) (e.held ∙ same)

pub returns-clause-run : goal.returns-clause-run
returns-clause-run g c =
    let e = c.in_default.ensures in
    let same = c.in-Ok.ensures.held in
    λ input input' work work'. finished_run c.args.tries _ _ _ c.in-Ok.opened.0 c.in-Ok.opened.1 (open_start _ _ c.in-Ok.opened.0 c.in-Ok.opened.1 refl c.in-Ok.ensures.opened) _ _ _ _ _ c.in-Err-write_note.status c.play.new.player
    (elim c.in-Err-write_note.ensures.status [ inl is ↦ inr (inl is) | inr is ↦ inr (inr is) ]) c.requires.few e.whole (λ text lt bs told. e.played text lt bs (same ∙ told)) c.in-Ok.ensures.counted (subst (λ x. AreCounted x c.play.new.player.reads (g.S.Blob.reads c.open.new.store) (g.S.Blob.reads c.play.new.store)) c.asked.ensures e.counted)
    (e.asked.0, e.asked.1, λ text lt bs told. e.asked.2 text lt bs (same ∙ told)) (λ is. absurd (isnt _ _ c.in-Err-write_note.ensures.status (λ f. cc) (λ f. cc) is)) (λ never. c.in-Err-write_note.ensures.err)
    (λ is. rose_later _ _ _ e.out_later (c.in-Err-write_note.ensures.out c.in-Err-write_note.status refl is)) (e.held ∙ same)

pub returns-clause-status : goal.returns-clause-status
returns-clause-status g c = note_of_replay c.in-Err-write_note.status c.in-Err-write_note.ensures.status

pub returns-clause-script_fault : goal.returns-clause-script_fault
returns-clause-script_fault g c = λ is. absurd (isnt _ _ c.in-Err-write_note.ensures.status (λ f. cc) (λ f. cc) is)

pub returns-clause-out_fault : goal.returns-clause-out_fault
returns-clause-out_fault g c = λ is. rose_later _ _ _ c.in_default.ensures.out_later (c.in-Err-write_note.ensures.out c.in-Err-write_note.status refl is)
