-- Stores that are opened.
use Rattle.std.proofs.Common.{◌≡◌, ℕ, List, ◌++◌, Bool, false, refl, sym, ◌∙◌, ap, append_assoc}
use Rattle.std.specs.Prelude.{Option, Some, None, Err, true, replicate}
use Rattle.std.specs.Option.{ForSome}
use Rattle.patch_file.specs.declared.shape.StoreBad.{StoreBad}
use Rattle.patch_file.specs.declared.fault.OpenFault.{OpenFault}
use Rattle.patch_file.specs.declared.fault.OpenFault.TheVariants as opening
use Rattle.patch_file.specs.Asking.{NotesAll}
use Rattle.patch_file.specs.Reading.{is_spent}
use Rattle.run_status.specs.declared.status.Status.TheVariants as status
use Rattle.run_status.specs.declared.status.ReadAt.TheVariants as read_at
use Rattle.run_status.specs.Statuses.{open_status}

-- outcomes that end in so many failures, behind those from before
pub ends_failed : (tries : ℕ) (answers front : List Bool) (old new : Option (List Bool)) → answers ≡ front ++ replicate tries false → NotesAll answers old new
    → ForSome new (λ all. (before : List Bool) × (all ≡ before ++ replicate tries false))
ends_failed tries answers front old new are noted = λ all told. go old new noted all told
  where
    go : (old new : Option (List Bool)) → NotesAll answers old new → (all : List Bool) → new ≡ Some all → (before : List Bool) × (all ≡ before ++ replicate tries false)
    go old None noted all told = absurd cc
    go None (Some now) noted all told = absurd noted
    go (Some before) (Some now) noted all told =
        let same : now ≡ all = cc in
        (before ++ front, sym same ∙ noted ∙ ap (λ xs. before ++ xs) are ∙ sym (append_assoc before front (replicate tries false)))

-- the fault that a status of opening tells
pub refused_by_open : (f : OpenFault) (bad : StoreBad) → open_status f ≡ status.BadStore bad → f ≡ opening.Bad bad
refused_by_open (opening.Bad b) bad e = let same : b ≡ bad = cc in ap (λ (x : StoreBad). opening.Bad x) same
refused_by_open opening.ReadFault bad e = absurd cc
refused_by_open opening.Memory bad e = absurd cc

pub failed_by_open : (f : OpenFault) → open_status f ≡ status.ReadFault read_at.Head → f ≡ opening.ReadFault
failed_by_open (opening.Bad b) e = absurd cc
failed_by_open opening.ReadFault e = refl
failed_by_open opening.Memory e = absurd cc

pub spent_is : (f : OpenFault) → f ≡ opening.ReadFault → is_spent {T = ℕ} (Err f) ≡ true
spent_is f e = ap (λ (x : OpenFault). is_spent {T = ℕ} (Err x)) e
