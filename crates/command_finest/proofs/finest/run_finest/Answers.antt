-- What was read is written in the order of its cut.
use Rattle.std.proofs.Common.{◌≤◌, ◌<◌, List, length, refl, subst, inl, inr, ap, Err, arith}
use Rattle.tpz_base.specs.declared.shape.Point.{Point}
use Rattle.diamond_graph.specs.Adding.{most_centres}
use Rattle.run_status.specs.Statuses.{IsUnread}
use Rattle.mesh_stream.proofs.Completing.{unread_own}
use Rattle.command_finest.proofs.FinestItems.{as_told, front_as_told, split_is}
use Rattle.tri_stream.proofs.Changes.{untold_before}
use Rattle.mesh_stream.proofs.ReadLemmas.{told_later}
use Rattle.run_status.proofs.StreamFaults.{split_never, split_not_of_store, split_not_refused}
use Rattle.command_finest.proofs.finest.run_finest.Goals as goal

pub returns-in-Err-clause-asked : goal.returns-in-Err-clause-asked
returns-in-Err-clause-asked g c = λ e. subst (λ s. IsUnread s) e (c.in-Err.ensures.unread c.in-Err.status refl)

pub returns-in-Err-clause-own : goal.returns-in-Err-clause-own
returns-in-Err-clause-own g c = λ h. unread_own c.in-Err.status (c.in-Err.ensures.unread c.in-Err.status refl) h

pub returns-in-Err-number-clause-own : goal.returns-in-Err-number-clause-own
returns-in-Err-number-clause-own g c = λ h. split_not_of_store c.in-Err-number.status c.in-Err-number.ensures.status h

pub returns-in-Err-clause-ok : goal.returns-in-Err-clause-ok
returns-in-Err-clause-ok g c = λ e. absurd (subst (λ s. IsUnread s) e (c.in-Err.ensures.unread c.in-Err.status refl))

pub returns-in-Err-clause-accepted : goal.returns-in-Err-clause-accepted
returns-in-Err-clause-accepted g c = λ h.
    elim h [
      | inl e ↦ absurd (subst (λ s. IsUnread s) e (c.in-Err.ensures.unread c.in-Err.status refl))
      | inr k ↦ elim k [
        | inl e ↦ absurd (subst (λ s. IsUnread s) e (c.in-Err.ensures.unread c.in-Err.status refl))
        | inr e ↦ absurd (subst (λ s. IsUnread s) e (c.in-Err.ensures.unread c.in-Err.status refl))
      ]
    ]

pub returns-in-Err-clause-few : goal.returns-in-Err-clause-few
returns-in-Err-clause-few g c = λ h.
    elim h [
      | inl e ↦ absurd (subst (λ s. IsUnread s) e (c.in-Err.ensures.unread c.in-Err.status refl))
      | inr e ↦ absurd (subst (λ s. IsUnread s) e (c.in-Err.ensures.unread c.in-Err.status refl))
    ]

pub returns-in-Err-clause-too_many : goal.returns-in-Err-clause-too_many
returns-in-Err-clause-too_many g c = λ e. absurd (subst (λ s. IsUnread s) e (c.in-Err.ensures.unread c.in-Err.status refl))

pub returns-in-Err-clause-out_fault : goal.returns-in-Err-clause-out_fault
returns-in-Err-clause-out_fault g c = λ e. absurd (subst (λ s. IsUnread s) e (c.in-Err.ensures.unread c.in-Err.status refl))

pub returns-in-Err-number-clause-too_many : goal.returns-in-Err-number-clause-too_many
returns-in-Err-number-clause-too_many g c = λ e bytes told held keeps rows faces is.
    let (later, kept) = told_later _ _ held c.read_mesh.ensures.telling keeps in
    subst (λ (F : List Point). most_centres < length F) (split_is c.args.cap c.in-Ok.mesh _ rows faces (c.in-Ok.ensures.mesh bytes told held keeps rows faces is))
    (c.in-Err-number.ensures.too_many (ap Err e) later kept)

pub returns-in-Ok-export-clause-ok : goal.returns-in-Ok-export-clause-ok
returns-in-Ok-export-clause-ok g c = λ _ bytes told held keeps rows faces is.
    let (later, kept) = told_later _ _ held c.read_mesh.ensures.telling keeps in
    as_told c.args.cap c.in-Ok.mesh _ _ _ _ _ _ _ rows faces (c.in-Ok.ensures.mesh bytes told held keeps rows faces is) c.facts-facts.ensures
    (c.in-Ok-number.ensures.mesh later kept) c.in-Ok-export.ensures.ok

pub returns-in-Ok-export-clause-few : goal.returns-in-Ok-export-clause-few
returns-in-Ok-export-clause-few g c = λ _ bytes told held keeps rows faces is.
    let (later, kept) = told_later _ _ held c.read_mesh.ensures.telling keeps in
    subst (λ (F : List Point). length F ≤ most_centres) (split_is c.args.cap c.in-Ok.mesh _ rows faces (c.in-Ok.ensures.mesh bytes told held keeps rows faces is))
    (c.in-Ok-number.ensures.few later kept)

pub returns-in-Ok-export-clause-front : goal.returns-in-Ok-export-clause-front
returns-in-Ok-export-clause-front g c = λ bytes told held keeps rows faces is.
    let (later, kept) = told_later _ _ held c.read_mesh.ensures.telling keeps in
    front_as_told c.args.cap c.in-Ok.mesh _ _ _ _ _ _ _ rows faces (c.in-Ok.ensures.mesh bytes told held keeps rows faces is) c.facts-facts.ensures
    (c.in-Ok-number.ensures.mesh later kept) c.export.ensures.front

pub returns-in-Err-OutFault-clause-few : goal.returns-in-Err-OutFault-clause-few
returns-in-Err-OutFault-clause-few g c = λ _ bytes told held keeps rows faces is.
    let (later, kept) = told_later _ _ held c.read_mesh.ensures.telling keeps in
    subst (λ (F : List Point). length F ≤ most_centres) (split_is c.args.cap c.in-Ok.mesh _ rows faces (c.in-Ok.ensures.mesh bytes told held keeps rows faces is))
    (c.in-Ok-number.ensures.few later kept)

pub returns-in-Err-OutFault-clause-front : goal.returns-in-Err-OutFault-clause-front
returns-in-Err-OutFault-clause-front g c = λ bytes told held keeps rows faces is.
    let (later, kept) = told_later _ _ held c.read_mesh.ensures.telling keeps in
    front_as_told c.args.cap c.in-Ok.mesh _ _ _ _ _ _ _ rows faces (c.in-Ok.ensures.mesh bytes told held keeps rows faces is) c.facts-facts.ensures
    (c.in-Ok-number.ensures.mesh later kept) c.export.ensures.front

pub returns-clause-front : goal.returns-clause-front
returns-clause-front g c = λ bytes told held keeps rows faces is.
    let (later, kept) = told_later _ _ held c.read_mesh.ensures.telling keeps in
    front_as_told c.args.cap c.in-Ok.mesh _ _ _ _ _ _ _ rows faces (c.in-Ok.ensures.mesh bytes told held keeps rows faces is) c.facts-facts.ensures
    (c.in-Ok-number.ensures.mesh later kept) c.export.ensures.front

pub returns-in-Err-number-clause-asked : goal.returns-in-Err-number-clause-asked
returns-in-Err-number-clause-asked g c = λ e. split_never _ _ c.in-Err-number.ensures.status e (λ f. cc) (λ f. cc) (λ f. cc) (λ offset f. cc)

pub returns-in-Err-number-clause-ok : goal.returns-in-Err-number-clause-ok
returns-in-Err-number-clause-ok g c = λ e. split_never _ _ c.in-Err-number.ensures.status e (λ f. cc) (λ f. cc) (λ f. cc) (λ offset f. cc)

pub returns-in-Err-number-clause-input_fault : goal.returns-in-Err-number-clause-input_fault
returns-in-Err-number-clause-input_fault g c = λ e. split_never _ _ c.in-Err-number.ensures.status e (λ f. cc) (λ f. cc) (λ f. cc) (λ offset f. cc)

pub returns-in-Err-number-clause-out_fault : goal.returns-in-Err-number-clause-out_fault
returns-in-Err-number-clause-out_fault g c = λ e. split_never _ _ c.in-Err-number.ensures.status e (λ f. cc) (λ f. cc) (λ f. cc) (λ offset f. cc)

pub returns-in-Err-number-clause-refused : goal.returns-in-Err-number-clause-refused
returns-in-Err-number-clause-refused g c = λ h. absurd (split_not_refused c.in-Err-number.status c.in-Err-number.ensures.status h)

pub returns-in-Err-number-clause-few : goal.returns-in-Err-number-clause-few
returns-in-Err-number-clause-few g c = λ h.
    elim h [
      | inl e ↦ split_never _ _ c.in-Err-number.ensures.status e (λ f. cc) (λ f. cc) (λ f. cc) (λ offset f. cc)
      | inr e ↦ split_never _ _ c.in-Err-number.ensures.status e (λ f. cc) (λ f. cc) (λ f. cc) (λ offset f. cc)
    ]

pub returns-in-Err-number-clause-work_fault : goal.returns-in-Err-number-clause-work_fault
returns-in-Err-number-clause-work_fault g c = λ e.
    let rose = c.in-Err-number.ensures.work_fault (ap Err e) in
    let first = c.read_mesh.ensures.work_later in
    omega arith

pub returns-in-Err-number-clause-work_damage : goal.returns-in-Err-number-clause-work_damage
returns-in-Err-number-clause-work_damage g c = λ offset e.
    untold_before _ _ c.read_mesh.ensures.telling (c.in-Err-number.ensures.work_damage offset (ap Err e))
