-- What a fault of a split is told as, and that a status of the work file was one.
use Rattle.std.proofs.Common.{◌≡◌, ◌⊎◌, ◌∙◌, ℕ, inl, inr, refl, subst, sym}
use Rattle.split_pass.specs.declared.fault.SplitFault.{SplitFault}
use Rattle.split_pass.specs.declared.fault.SplitFault.TheVariants as split
use Rattle.run_status.specs.declared.status.Status.{Status}
use Rattle.run_status.specs.declared.status.Status.TheVariants as status
use Rattle.run_status.specs.Statuses.{split_status, IsOfStore, IsOfStreams, IsRefused, IsUnbuilt}

pub split_told : (s : Status) (f : SplitFault) → s ≡ split_status f → (s ≡ status.TooManyRecords) ⊎ IsOfStreams s
split_told s split.TooManyRecords is = inl is
split_told s split.WorkFault is = inr (inr (inl is))
split_told s (split.WorkDamage offset) is = inr (inr (inr (offset, is)))
split_told s split.Memory is = inr (inl is)

pub split_was_fault : (s : Status) (f : SplitFault) → s ≡ split_status f → s ≡ status.WorkFault → f ≡ split.WorkFault
split_was_fault s split.TooManyRecords is e = absurd cc
split_was_fault s split.WorkFault is e = refl
split_was_fault s (split.WorkDamage offset) is e = absurd cc
split_was_fault s split.Memory is e = absurd cc

pub split_was_damage : (s : Status) (f : SplitFault) (offset : ℕ) → s ≡ split_status f → s ≡ status.WorkDamage offset → f ≡ split.WorkDamage offset
split_was_damage s split.TooManyRecords offset is e = absurd cc
split_was_damage s split.WorkFault offset is e = absurd cc
split_was_damage s (split.WorkDamage n) offset is e = cc
split_was_damage s split.Memory offset is e = absurd cc

-- what a split in the work file ends with is no other status
pub split_never : {X : Type 0} (s t : Status) → (s ≡ status.TooManyRecords) ⊎ IsOfStreams s → s ≡ t → (status.TooManyRecords ≡ t → ⊥) → (status.Memory ≡ t → ⊥)
    → (status.WorkFault ≡ t → ⊥) → ((offset : ℕ) → status.WorkDamage offset ≡ t → ⊥) → X
split_never s t (inl e) is many memory work damage = absurd (many (sym e ∙ is))
split_never s t (inr (inl e)) is many memory work damage = absurd (memory (sym e ∙ is))
split_never s t (inr (inr (inl e))) is many memory work damage = absurd (work (sym e ∙ is))
split_never s t (inr (inr (inr (offset, e)))) is many memory work damage = absurd (damage offset (sym e ∙ is))

pub split_not_refused : (s : Status) → (s ≡ status.TooManyRecords) ⊎ IsOfStreams s → IsRefused s → ⊥
split_not_refused s (inl e) h = subst (λ x. IsRefused x) e h
split_not_refused s (inr (inl e)) h = subst (λ x. IsRefused x) e h
split_not_refused s (inr (inr (inl e))) h = subst (λ x. IsRefused x) e h
split_not_refused s (inr (inr (inr (offset, e)))) h = subst (λ x. IsRefused x) e h

pub split_not_of_store : (s : Status) → (s ≡ status.TooManyRecords) ⊎ IsOfStreams s → IsOfStore s → ⊥
split_not_of_store s (inl e) h = subst (λ x. IsOfStore x) e h
split_not_of_store s (inr (inl e)) h = subst (λ x. IsOfStore x) e h
split_not_of_store s (inr (inr (inl e))) h = subst (λ x. IsOfStore x) e h
split_not_of_store s (inr (inr (inr (offset, e)))) h = subst (λ x. IsOfStore x) e h

pub split_unbuilt : (s : Status) → (s ≡ status.TooManyRecords) ⊎ IsOfStreams s → IsUnbuilt s
split_unbuilt s (inl e) = subst (λ x. IsUnbuilt x) (sym e) tt
split_unbuilt s (inr (inl e)) = subst (λ x. IsUnbuilt x) (sym e) tt
split_unbuilt s (inr (inr (inl e))) = subst (λ x. IsUnbuilt x) (sym e) tt
split_unbuilt s (inr (inr (inr (offset, e)))) = subst (λ x. IsUnbuilt x) (sym e) tt
