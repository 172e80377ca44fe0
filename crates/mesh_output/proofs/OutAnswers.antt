-- What a command may answer that only writes.
use Rattle.std.proofs.Common.{◌≡◌, ◌⊎◌, inl, inr, sym, ◌∙◌}
use Rattle.run_status.specs.declared.status.Status.{Status}
use Rattle.run_status.specs.declared.status.Status.TheVariants as status

-- an answer that a note which isn't written has not
pub isnt : (answer other : Status) → (answer ≡ status.OutFault) ⊎ (answer ≡ status.Memory) → (status.OutFault ≡ other → ⊥) → (status.Memory ≡ other → ⊥) → answer ≡ other → ⊥
isnt answer other is a b h = elim is [ inl e ↦ a (sym e ∙ h) | inr e ↦ b (sym e ∙ h) ]

abbrev pub IsGenAnswer : Status → Type 0
IsGenAnswer answer = (answer ≡ status.Ok) ⊎ ((answer ≡ status.OutFault) ⊎ (answer ≡ status.Memory))

-- an answer that `gen` has not
pub never : (answer other : Status) → IsGenAnswer answer → (status.Ok ≡ other → ⊥) → (status.OutFault ≡ other → ⊥) → (status.Memory ≡ other → ⊥) → answer ≡ other → ⊥
never answer other is a b c e = elim is [ inl k ↦ a (sym k ∙ e) | inr k ↦ elim k [ inl l ↦ b (sym l ∙ e) | inr l ↦ c (sym l ∙ e) ] ]
