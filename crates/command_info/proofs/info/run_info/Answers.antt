-- A store that is opened has its note.
use Rattle.std.proofs.Common.{refl, sym, ◌∙◌, ap, subst, inl, inr, Err}
use Rattle.tpz_io.specs.Writes.{Wrote}
use Rattle.command_info.proofs.InfoLemmas.{opened_items}
use Rattle.cut_blocks.proofs.Opening.{ends_failed, refused_by_open, failed_by_open, spent_is}
use Rattle.mesh_output.proofs.OutAnswers.{isnt}
use Rattle.command_info.proofs.info.run_info.Goals as goal

pub returns-in-Err-clause-refused : goal.returns-in-Err-clause-refused
returns-in-Err-clause-refused g c = λ bad is bytes told.
    c.in-Err.ensures.bad bad (ap Err (refused_by_open c.in-Err.fault bad (sym c.status_of_open.ensures ∙ is))) bytes told

pub returns-in-Err-clause-spent : goal.returns-in-Err-clause-spent
returns-in-Err-clause-spent g c = λ is.
    let failed = failed_by_open c.in-Err.fault (sym c.status_of_open.ensures ∙ is) in
    let asked = c.in-Err.ensures.asked in
    let all = asked.all_failed (spent_is c.in-Err.fault failed) in
    ends_failed c.args.tries asked.answers all.0 _ _ all.1 asked.asked.noted

pub returns-in-Ok-write_note-clause-ok : goal.returns-in-Ok-write_note-clause-ok
returns-in-Ok-write_note-clause-ok g c = λ _ bytes told.
    let o = opened_items _ c.in-Ok.reader c.in-Ok._graph c.in-Ok.ensures.opened bytes told in (
      o.0,
      o.1,
      subst (λ items. Wrote items (g.O.Out.parts c.args.out.now) (g.O.Out.parts c.write_note.new.out) (g.O.Out.notes c.args.out.now) (g.O.Out.notes c.write_note.new.out)) o.2
          c.in-Ok-write_note.ensures.ok,
    )

pub returns-clause-status : goal.returns-clause-status
returns-clause-status g c = elim c.in-Err-write_note.ensures.status [ inl e ↦ inr (inl e) | inr e ↦ inr (inr (inl e)) ]

pub returns-clause-ok : goal.returns-clause-ok
returns-clause-ok g c = λ e. absurd (isnt _ _ c.in-Err-write_note.ensures.status (λ f. cc) (λ f. cc) e)

pub returns-clause-accepted : goal.returns-clause-accepted
returns-clause-accepted g c = λ e bytes told. let o = opened_items _ c.in-Ok.reader c.in-Ok._graph c.in-Ok.ensures.opened bytes told in (o.0, o.1)

pub returns-clause-refused : goal.returns-clause-refused
returns-clause-refused g c = λ bad e. absurd (isnt _ _ c.in-Err-write_note.ensures.status (λ f. cc) (λ f. cc) e)

pub returns-clause-fault : goal.returns-clause-fault
returns-clause-fault g c = λ e. absurd (isnt _ _ c.in-Err-write_note.ensures.status (λ f. cc) (λ f. cc) e)

pub returns-clause-spent : goal.returns-clause-spent
returns-clause-spent g c = λ e. absurd (isnt _ _ c.in-Err-write_note.ensures.status (λ f. cc) (λ f. cc) e)

pub returns-clause-out_fault : goal.returns-clause-out_fault
returns-clause-out_fault g c = λ e. c.in-Err-write_note.ensures.out c.in-Err-write_note.status refl e
