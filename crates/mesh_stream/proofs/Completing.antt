-- Without a failure each input has its answer.
use Rattle.std.proofs.Common.{◌≡◌, ℕ, ◌≤◌, ◌<◌, ◌⊎◌, List, length, refl, sym, ◌∙◌, inl, inr, arith}
use Rattle.std.specs.Prelude.{Option, Result, Ok, Err}
use Rattle.tpz_base.specs.Cubes.{Row}
use Rattle.tpz_base.specs.Texts.{Bytes, Face}
use Rattle.ply_body.specs.Bodies.{Input}
use Rattle.ply_body.specs.Inputs.{Refusal}
use Rattle.diamond_graph.specs.Adding.{most_centres}
use Rattle.run_status.specs.declared.status.Status.{Status}
use Rattle.run_status.specs.declared.status.Status.TheVariants as status
use Rattle.mesh_stream.specs.Splits.{finest_split}
use Rattle.mesh_stream.specs.Digits.{input_for, IsAccepted}
use Rattle.run_status.specs.Statuses.{status_of, IsRefused, IsOfStore, IsUnread}

-- the answer is the input's, or want of memory
abbrev pub IsAnswer : Option ℕ → Option ℕ → Bytes → Status → Type 0
IsAnswer digits cap bytes answer =
    ((rows : List Row) (faces : List Face) → input_for digits bytes ≡ Ok (record { rows = rows; faces = faces })
    → (length (finest_split cap rows faces) ≤ most_centres → (answer ≡ status.Ok) ⊎ (answer ≡ status.Memory))
    × (most_centres < length (finest_split cap rows faces) → (answer ≡ status.TooManyRecords) ⊎ (answer ≡ status.Memory)))
    × ((r : Refusal) → input_for digits bytes ≡ Err r → (answer ≡ status_of r) ⊎ (answer ≡ status.Memory))

module _ (digits cap : Option ℕ) (bytes : Bytes) where
  one_meaning : (input : Input) (r : Refusal) → input_for digits bytes ≡ Ok input → input_for digits bytes ≡ Err r → ⊥
  one_meaning input r a b = let both : ◌≡◌ {A = Result Input Refusal} (Ok input) (Err r) = sym a ∙ b in cc

  refused_answer : (answer : Status) → (r : Refusal) × (input_for digits bytes ≡ Err r) × (answer ≡ status_of r) → IsAnswer digits cap bytes answer
  refused_answer answer (r, is, same) = (
    λ rows faces means. absurd (one_meaning _ r means is),
    λ r' is'. inl (let both : ◌≡◌ {A = Result Input Refusal} (Err r) (Err r') = sym is ∙ is' in let one : r ≡ r' = cc in rw (← one) same),
  )

  module _ (few_answer : (rows : List Row) (faces : List Face) → input_for digits bytes ≡ Ok (record { rows = rows; faces = faces }) → length (finest_split cap rows faces) ≤ most_centres) where
    ok_answer : IsAccepted digits bytes → IsAnswer digits cap bytes status.Ok
    ok_answer accepted = (
      λ rows faces means. (λ fits. inl refl, λ past. absurd (omega (arith, past, few_answer rows faces means))),
      λ r is. absurd (one_meaning accepted.0 r accepted.1 is),
    )

  past_answer : ((rows : List Row) (faces : List Face) → input_for digits bytes ≡ Ok (record { rows = rows; faces = faces }) → most_centres < length (finest_split cap rows faces))
      → IsAccepted digits bytes → IsAnswer digits cap bytes status.TooManyRecords
  past_answer past accepted = (
    λ rows faces means. (λ fits. absurd (omega (arith, fits, past rows faces means)), λ more. inl refl),
    λ r is. absurd (one_meaning accepted.0 r accepted.1 is),
  )

  -- what a run says of its answer, where nothing failed
  pub record Says (answer : Status) : Type 0 where
    pub usage : answer ≡ status.Usage → ⊥
    pub store : IsOfStore answer → ⊥
    pub refused : IsRefused answer → (r : Refusal) × (input_for digits bytes ≡ Err r) × (answer ≡ status_of r)
    pub accepted : (answer ≡ status.Ok) ⊎ ((answer ≡ status.OutFault) ⊎ (answer ≡ status.TooManyRecords)) → IsAccepted digits bytes
    pub few : (answer ≡ status.Ok) ⊎ (answer ≡ status.OutFault) → (rows : List Row) (faces : List Face)
        → input_for digits bytes ≡ Ok (record { rows = rows; faces = faces }) → length (finest_split cap rows faces) ≤ most_centres
    pub too_many : answer ≡ status.TooManyRecords → (rows : List Row) (faces : List Face)
        → input_for digits bytes ≡ Ok (record { rows = rows; faces = faces }) → most_centres < length (finest_split cap rows faces)
    pub input : answer ≡ status.InputFault → ⊥
    pub work : answer ≡ status.WorkFault → ⊥
    pub damage : (offset : ℕ) → answer ≡ status.WorkDamage offset → ⊥
    pub out : answer ≡ status.OutFault → ⊥

  pub answered : (answer : Status) → Says answer → IsAnswer digits cap bytes answer
  answered status.Ok says = ok_answer (says.few (inl refl)) (says.accepted (inl refl))
  answered status.Usage says = absurd (says.usage refl)
  answered (status.BadInput kind place) says = refused_answer (status.BadInput kind place) (says.refused tt)
  answered (status.Extent axis least greatest) says = refused_answer (status.Extent axis least greatest) (says.refused tt)
  answered status.InputFault says = absurd (says.input refl)
  answered status.WorkFault says = absurd (says.work refl)
  answered (status.WorkDamage offset) says = absurd (says.damage offset refl)
  answered status.TooManyRecords says = past_answer (says.too_many refl) (says.accepted (inr (inr refl)))
  answered status.StoreFault says = absurd (says.store tt)
  answered (status.NotEmpty len) says = absurd (says.store tt)
  answered (status.ScriptBad line) says = absurd (says.store tt)
  answered status.ScriptFault says = absurd (says.store tt)
  answered (status.BadStore why) says = absurd (says.store tt)
  answered (status.ReadFault at) says = absurd (says.store tt)
  answered status.OutFault says = absurd (says.out refl)
  answered status.Memory says = (λ rows faces means. (λ fits. inr refl, λ past. inr refl), λ r is. inr refl)

-- reading an input doesn't end as opening a store does
pub unread_own : (answer : Status) → IsUnread answer → IsOfStore answer → ⊥
unread_own status.Ok unread own = own
unread_own status.Usage unread own = own
unread_own (status.BadInput kind place) unread own = own
unread_own (status.Extent axis least greatest) unread own = own
unread_own status.InputFault unread own = own
unread_own status.WorkFault unread own = own
unread_own (status.WorkDamage offset) unread own = own
unread_own status.TooManyRecords unread own = own
unread_own status.StoreFault unread own = unread
unread_own (status.NotEmpty len) unread own = unread
unread_own (status.ScriptBad line) unread own = unread
unread_own status.ScriptFault unread own = unread
unread_own (status.BadStore why) unread own = unread
unread_own (status.ReadFault at) unread own = unread
unread_own status.OutFault unread own = own
unread_own status.Memory unread own = own
