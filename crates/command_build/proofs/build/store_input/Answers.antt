-- The store is claimed, the input read, and its stream built.
use Rattle.std.proofs.Common.{◌≡◌, ◌≤◌, ◌<◌, Err, ap, length, refl, subst, inl, inr, sym, ◌∙◌, ◌⊎◌, arith}
use Rattle.std.specs.Option.{ForSome}
use Rattle.diamond_graph.specs.Adding.{most_centres}
use Rattle.ply_body.specs.Inputs.{mesh_of}
use Rattle.assign.specs.Splits.{split_set}
use Rattle.patch_file.specs.declared.shape.Params.{Params}
use Rattle.build_pass.specs.Building.{store_of, IsBuildable}
use Rattle.command_build.specs.Build.{input_store, IsLeft}
use Rattle.run_status.specs.declared.status.Status.TheVariants as status
use Rattle.mesh_stream.specs.Digits.{digits_of}
use Rattle.run_status.specs.Statuses.{IsOfStreams}
use Rattle.tri_stream.proofs.Changes.{untold_before}
use Rattle.mesh_stream.proofs.ReadLemmas.{err_is}
use Rattle.command_build.proofs.BuildSteps.{params_same, stored_never, stored_not_refused, stored_unbuilt, summary_same, unread_never, unread_unbuilt}
use Rattle.command_build.proofs.build.store_input.Goals as goal

pub returns-in-Err-read_stream-clause-accepted : goal.returns-in-Err-read_stream-clause-accepted
returns-in-Err-read_stream-clause-accepted g c = λ h.
    elim h [
      | inl e ↦ absurd cc
      | inr e ↦ unread_never _ _ (c.in-Err-read_stream.ensures.unread c.in-Err-read_stream.status refl) e (λ h. h)
    ]

pub returns-in-Err-read_stream-clause-too_many : goal.returns-in-Err-read_stream-clause-too_many
returns-in-Err-read_stream-clause-too_many g c = λ e. unread_never _ _ (c.in-Err-read_stream.ensures.unread c.in-Err-read_stream.status refl) e (λ h. h)

pub returns-in-Err-read_stream-clause-not_empty : goal.returns-in-Err-read_stream-clause-not_empty
returns-in-Err-read_stream-clause-not_empty g c = λ len e. unread_never _ _ (c.in-Err-read_stream.ensures.unread c.in-Err-read_stream.status refl) e (λ h. h)

pub returns-in-Err-read_stream-clause-status : goal.returns-in-Err-read_stream-clause-status
returns-in-Err-read_stream-clause-status g c = unread_unbuilt c.in-Err-read_stream.status (c.in-Err-read_stream.ensures.unread c.in-Err-read_stream.status refl)

pub returns-in-Err-read_stream-clause-store_fault : goal.returns-in-Err-read_stream-clause-store_fault
returns-in-Err-read_stream-clause-store_fault g c = λ e. unread_never _ _ (c.in-Err-read_stream.ensures.unread c.in-Err-read_stream.status refl) e (λ h. h)

pub returns-in-Ok-store_stream-clause-summary : goal.returns-in-Ok-store_stream-clause-summary
returns-in-Ok-store_stream-clause-summary g c = λ bytes told held keeps rows faces means.
    let is = c.in-Ok-read_stream.ensures.stream bytes told held keeps rows faces means in
    summary_same c.args.plan.cap c.args.plan.budget _ c.in-Ok-read_stream.read _ rows faces c.in-Ok-store_stream.built is (c.in-Ok-store_stream.ensures.built (mesh_of rows faces) is.list)

pub returns-in-Ok-store_stream-clause-whole : goal.returns-in-Ok-store_stream-clause-whole
returns-in-Ok-store_stream-clause-whole g c = λ bytes told held keeps rows faces means.
    let is = c.in-Ok-read_stream.ensures.stream bytes told held keeps rows faces means in
    subst (λ (p : Params). ForSome (g.S.Blob.held c.store_stream.new.store) (λ store. store ≡ store_of (mesh_of rows faces) p))
    (params_same c.args.plan.cap c.args.plan.budget _ c.in-Ok-read_stream.read _ rows faces is) (c.in-Ok-store_stream.ensures.whole (mesh_of rows faces) is.list)

pub returns-in-Ok-store_stream-clause-buildable : goal.returns-in-Ok-store_stream-clause-buildable
returns-in-Ok-store_stream-clause-buildable g c = λ bytes told held keeps rows faces means.
    let is = c.in-Ok-read_stream.ensures.stream bytes told held keeps rows faces means in
    subst (IsBuildable (mesh_of rows faces)) (params_same c.args.plan.cap c.args.plan.budget _ c.in-Ok-read_stream.read _ rows faces is)
    (c.in-Ok-store_stream.ensures.buildable (mesh_of rows faces) is.list is.tris _ _ _ is.low)

pub returns-in-Ok-store_stream-clause-few : goal.returns-in-Ok-store_stream-clause-few
returns-in-Ok-store_stream-clause-few g c = λ bytes told held keeps rows faces means.
    let is = c.in-Ok-read_stream.ensures.stream bytes told held keeps rows faces means in
    subst (λ n. length (split_set n c.args.plan.cap (mesh_of rows faces)) ≤ most_centres) is.l (c.in-Ok-store_stream.ensures.few (mesh_of rows faces) is.list)

pub returns-in-Err-store_stream-clause-too_many : goal.returns-in-Err-store_stream-clause-too_many
returns-in-Err-store_stream-clause-too_many g c = λ e bytes told held keeps rows faces means.
    let is = c.in-Ok-read_stream.ensures.stream bytes told held keeps rows faces means in
    subst (λ n. most_centres < length (split_set n c.args.plan.cap (mesh_of rows faces))) is.l (c.in-Err-store_stream.ensures.too_many (ap Err (err_is _ _ e)) (mesh_of rows faces) is.list)

pub returns-in-Err-store_stream-clause-after : goal.returns-in-Err-store_stream-clause-after
returns-in-Err-store_stream-clause-after g c = λ bytes told held keeps rows faces means.
    let is = c.in-Ok-read_stream.ensures.stream bytes told held keeps rows faces means in
    let now = g.S.Blob.held c.store_stream.new.store in
    subst (λ before. IsLeft before now (input_store c.args.plan.cap c.args.plan.budget (digits_of c.args.plan.digits bytes) rows faces)) c.claim.ensures.held
    (subst (λ (p : Params). IsLeft (g.S.Blob.held c.claim.new.store) now (store_of (mesh_of rows faces) p))
    (params_same c.args.plan.cap c.args.plan.budget _ c.in-Ok-read_stream.read _ rows faces is) (c.in-Err-store_stream.ensures.refused (mesh_of rows faces) is.list))

pub returns-in-Err-store_stream-clause-status : goal.returns-in-Err-store_stream-clause-status
returns-in-Err-store_stream-clause-status g c = stored_unbuilt c.in-Err-store_stream.status c.in-Err-store_stream.ensures.status

pub returns-in-Err-store_stream-clause-refused : goal.returns-in-Err-store_stream-clause-refused
returns-in-Err-store_stream-clause-refused g c = λ answer e refused.
    absurd (stored_not_refused answer (subst (λ s. (s ≡ status.StoreFault) ⊎ ((s ≡ status.TooManyRecords) ⊎ IsOfStreams s)) (err_is _ _ e) c.in-Err-store_stream.ensures.status) refused)

pub returns-in-Err-store_stream-clause-not_empty : goal.returns-in-Err-store_stream-clause-not_empty
returns-in-Err-store_stream-clause-not_empty g c = λ len e.
    stored_never _ _ c.in-Err-store_stream.ensures.status (err_is _ _ e) (λ f. cc) (λ f. cc) (λ f. cc) (λ f. cc) (λ offset f. cc)

pub returns-in-Err-store_stream-clause-input_fault : goal.returns-in-Err-store_stream-clause-input_fault
returns-in-Err-store_stream-clause-input_fault g c = λ e.
    stored_never _ _ c.in-Err-store_stream.ensures.status (err_is _ _ e) (λ f. cc) (λ f. cc) (λ f. cc) (λ f. cc) (λ offset f. cc)

pub returns-in-Err-store_stream-clause-work_fault : goal.returns-in-Err-store_stream-clause-work_fault
returns-in-Err-store_stream-clause-work_fault g c = λ e.
    let rose = c.in-Err-store_stream.ensures.work_fault (ap Err (err_is _ _ e)) in
    let first = c.read_stream.ensures.work_later in
    omega arith

pub returns-in-Err-store_stream-clause-work_damage : goal.returns-in-Err-store_stream-clause-work_damage
returns-in-Err-store_stream-clause-work_damage g c = λ offset e.
    untold_before _ _ c.read_stream.ensures.telling (c.in-Err-store_stream.ensures.work_damage offset (ap Err (err_is _ _ e)))

pub returns-in-Err-store_stream-clause-before : goal.returns-in-Err-store_stream-clause-before
returns-in-Err-store_stream-clause-before g c = λ answer e store memory work damage.
    let same = err_is _ _ e in
    elim c.in-Err-store_stream.ensures.status [
      | inl is ↦ absurd (store (sym same ∙ is))
      | inr k ↦ elim k [
        | inl is ↦ c.in-Err-store_stream.ensures.before (ap Err is) ∙ c.claim.ensures.held
        | inr m ↦ elim m [
          | inl is ↦ absurd (memory (sym same ∙ is))
          | inr n ↦ elim n [ inl is ↦ absurd (work (sym same ∙ is)) | inr is ↦ absurd (damage is.0 (sym same ∙ is.1)) ]
        ]
      ]
    ]
