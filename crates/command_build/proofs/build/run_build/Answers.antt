-- The input is built, and its note written.
use Rattle.std.proofs.Common.{refl, ap, inl, inr, Err}
use Rattle.run_status.specs.declared.status.Status.TheVariants as status
use Rattle.command_build.proofs.BuildRuns.{built_run, unbuilt_run}
use Rattle.mesh_stream.proofs.ReadLemmas.{err_is}
use Rattle.mesh_output.proofs.OutAnswers.{isnt}
use Rattle.command_build.proofs.build.run_build.Goals as goal

pub returns-in-Err-clause-run : goal.returns-in-Err-clause-run
returns-in-Err-clause-run g c =
    let e = c.in-Err.ensures in
    λ script script'. unbuilt_run c.args.plan.digits c.args.plan.cap c.args.plan.budget _ _ _ c.in-Err.status e.status
    (λ r. e.refused c.in-Err.status refl r) (λ is. e.accepted (inr (ap Err is))) (λ is. e.too_many (ap Err is))
    (λ len is. let k = e.not_empty len (ap Err is) in (k.0, k.1, (k.2, k.3, refl)))
    (λ store at some. elim (c.in-Err.ensures.empty store at some) [ inl is ↦ inl (err_is _ _ is) | inr is ↦ inr (err_is _ _ is) ])
    (λ is. e.store_fault (ap Err is)) (λ is. e.input_fault (ap Err is)) (λ is. e.work_fault (ap Err is)) (λ offset is. e.work_damage offset (ap Err is))
    c.store_input.ensures.reads (e.before c.in-Err.status refl) e.after c.store_input.ensures.left c.store_input.ensures.telling refl refl

pub returns-in-Ok-write_note-clause-run : goal.returns-in-Ok-write_note-clause-run
returns-in-Ok-write_note-clause-run g c =
    let o = c.in-Ok.ensures in
    λ script script'. built_run c.args.plan.digits c.args.plan.cap c.args.plan.budget _ _ _ status.Ok c.in-Ok.summary (inl refl) o.summary o.whole o.buildable (o.accepted (inl refl)) o.few
    (λ store at some. elim (c.in-Ok.ensures.empty store at some) [ inl is ↦ cc | inr is ↦ cc ])
    c.store_input.ensures.reads c.store_input.ensures.left c.store_input.ensures.telling (λ _. c.in-Ok-write_note.ensures.ok) (λ never. absurd (never refl)) (λ is. absurd cc)

pub returns-in-Err-write_note-clause-run : goal.returns-in-Err-write_note-clause-run
returns-in-Err-write_note-clause-run g c =
    let o = c.in-Ok.ensures in
    λ script script'. built_run c.args.plan.digits c.args.plan.cap c.args.plan.budget _ _ _ c.in-Err-write_note.status c.in-Ok.summary
    (elim c.in-Err-write_note.ensures.status [ inl is ↦ inr (inl is) | inr is ↦ inr (inr is) ]) o.summary o.whole o.buildable (o.accepted (inl refl)) o.few
    (λ store at some. elim (c.in-Ok.ensures.empty store at some) [ inl is ↦ cc | inr is ↦ cc ])
    c.store_input.ensures.reads c.store_input.ensures.left c.store_input.ensures.telling (λ is. absurd (isnt _ _ c.in-Err-write_note.ensures.status (λ f. cc) (λ f. cc) is)) (λ _. c.in-Err-write_note.ensures.err)
    (λ is. c.in-Err-write_note.ensures.out c.in-Err-write_note.status refl is)
