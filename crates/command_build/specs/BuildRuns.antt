-- What holds of a run of `build`: by what the devices told before it, by whether one failed in it, and by the parts and notes before and after it.
use Rattle.std.specs.Prelude.{◌≡◌, ◌≤◌, ◌<◌, ◌⊎◌, ℕ, List, [], Option, Some, Ok, Err, length, is_some}
use Rattle.std.specs.Option.{ForSome}
use Rattle.tpz_io.specs.Causes.{one_more, Rose}
use Rattle.tpz_io.specs.Writes.{Wrote, WrotePrefix}
use Rattle.tpz_base.specs.Cubes.{Row}
use Rattle.tpz_base.specs.Texts.{Face}
use Rattle.ply_body.specs.Inputs.{Refusal, mesh_of}
use Rattle.diamond_graph.specs.Adding.{most_centres}
use Rattle.build_pass.specs.Building.{IsBuildable}
use Rattle.build_pass.specs.Building.{IsBuildable}
use Rattle.run_status.specs.declared.status.Status.{Status}
use Rattle.run_status.specs.declared.status.Status.TheVariants as status
use Rattle.mesh_stream.specs.Digits.{digits_of, input_for, IsAccepted}
use Rattle.mesh_stream.specs.Splits.{finest_split}
use Rattle.command_build.specs.Build.{build_items, input_store, params_of, IsLeft, IsLeftOver}
use Rattle.run_status.specs.Statuses.{status_of, IsRefused}
use Rattle.run_record.specs.Seen.{Seen}

-- a run of `build`, by what the devices say before and after it, and by whether the others weren't touched where the store isn't empty
pub record BuildRun (digits : Option ℕ) (cap budget : ℕ) (old new : Seen) (untouched : Type 0) (answer : Status) : Type 0 where
  -- Ok: the note is that of the rows and faces that the input means
  pub ok : answer ≡ status.Ok → ForSome old.input.left (λ bytes. ForSome old.work.held (λ _. (rows : List Row) (faces : List Face) → input_for digits bytes ≡ Ok (record { rows = rows; faces = faces })
      → Wrote (build_items cap budget rows faces) old.out.parts new.out.parts old.out.notes new.out.notes))
  -- and the store is theirs, also where only the note failed
  pub whole : (answer ≡ status.Ok) ⊎ (answer ≡ status.OutFault) → ForSome old.input.left (λ bytes. ForSome old.work.held (λ _. (rows : List Row) (faces : List Face)
      → input_for digits bytes ≡ Ok (record { rows = rows; faces = faces }) → ForSome new.store.held (λ store. store ≡ input_store cap budget (digits_of digits bytes) rows faces)))
  -- it is the store of a mesh and params that every law of builds speaks of
  pub buildable : (answer ≡ status.Ok) ⊎ (answer ≡ status.OutFault) → ForSome old.input.left (λ bytes. ForSome old.work.held (λ _. (rows : List Row) (faces : List Face)
      → input_for digits bytes ≡ Ok (record { rows = rows; faces = faces }) → IsBuildable (mesh_of rows faces) (params_of cap budget (digits_of digits bytes) rows faces)))
  -- an input is refused by its first refusal, with its place, and else it is accepted
  pub refused : IsRefused answer → ForSome old.input.left (λ bytes. (r : Refusal) × (input_for digits bytes ≡ Err r) × (answer ≡ status_of r))
  pub accepted : (answer ≡ status.Ok) ⊎ ((answer ≡ status.OutFault) ⊎ (answer ≡ status.TooManyRecords)) → ForSome old.input.left (IsAccepted digits)
  -- too many diamonds would be split exactly where the answer is so
  pub few : (answer ≡ status.Ok) ⊎ (answer ≡ status.OutFault) → ForSome old.input.left (λ bytes. ForSome old.work.held (λ _. (rows : List Row) (faces : List Face)
      → input_for digits bytes ≡ Ok (record { rows = rows; faces = faces }) → length (finest_split (Some cap) rows faces) ≤ most_centres))
  pub too_many : answer ≡ status.TooManyRecords → ForSome old.input.left (λ bytes. ForSome old.work.held (λ _. (rows : List Row) (faces : List Face)
      → input_for digits bytes ≡ Ok (record { rows = rows; faces = faces }) → most_centres < length (finest_split (Some cap) rows faces)))
  -- a store that isn't empty is refused, and nothing else is touched
  pub not_empty : (len : ℕ) → answer ≡ status.NotEmpty len → (0 < len) × ForSome old.store.held (λ store. length store ≡ len) × untouched
  pub empty : ForSome old.store.held (λ store. 0 < length store → (answer ≡ status.NotEmpty (length store)) ⊎ ((answer ≡ status.StoreFault) ⊎ (answer ≡ status.Memory)))
  -- the store is blamed only where it failed, and is asked at most once
  pub fault : answer ≡ status.StoreFault → Rose old.store.faults new.store.faults
  pub asked : (new.store.reads ≡ old.store.reads) ⊎ (new.store.reads ≡ one_more old.store.reads)
  -- without a failure each input over an empty store has its answer, or memory ran out
  pub complete : ForSome old.input.left (λ bytes. ForSome old.work.held (λ _. ForSome old.store.held (λ store. length store ≡ 0 → ¬ Rose old.input.faults new.input.faults → ¬ Rose old.work.faults new.work.faults → ¬ Rose old.store.faults new.store.faults → ¬ Rose old.out.faults new.out.faults
      → ((rows : List Row) (faces : List Face) → input_for digits bytes ≡ Ok (record { rows = rows; faces = faces })
      → (length (finest_split (Some cap) rows faces) ≤ most_centres → (answer ≡ status.Ok) ⊎ (answer ≡ status.Memory))
      × (most_centres < length (finest_split (Some cap) rows faces) → (answer ≡ status.TooManyRecords) ⊎ (answer ≡ status.Memory)))
      × ((r : Refusal) → input_for digits bytes ≡ Err r → (answer ≡ status_of r) ⊎ (answer ≡ status.Memory)))))
  -- what is left of the store: before it is begun it stays, and then it reads as too short or unfinished, or is whole
  pub before : ¬ (answer ≡ status.Ok) → ¬ (answer ≡ status.OutFault) → ¬ (answer ≡ status.StoreFault) → ¬ (answer ≡ status.Memory)
      → ¬ (answer ≡ status.WorkFault) → ((offset : ℕ) → ¬ (answer ≡ status.WorkDamage offset)) → new.store.held ≡ old.store.held
  pub after : ¬ (answer ≡ status.Ok) → ForSome old.input.left (λ bytes. ForSome old.work.held (λ _. (rows : List Row) (faces : List Face)
      → input_for digits bytes ≡ Ok (record { rows = rows; faces = faces }) → IsLeft old.store.held new.store.held (input_store cap budget (digits_of digits bytes) rows faces)))
  pub left_over : IsLeftOver old.store.held new.store.held
  pub telling : is_some new.store.held ≡ is_some old.store.held
  -- whatever the answer, what is written is a front of what the command writes
  pub front : ForSome old.input.left (λ bytes. ForSome old.work.held (λ _. (rows : List Row) (faces : List Face) → input_for digits bytes ≡ Ok (record { rows = rows; faces = faces })
      → WrotePrefix (build_items cap budget rows faces) old.out.parts new.out.parts old.out.notes new.out.notes))
  pub unaccepted : ForSome old.input.left (λ bytes. ¬ IsAccepted digits bytes → Wrote [] old.out.parts new.out.parts old.out.notes new.out.notes)
  pub unread : ¬ (answer ≡ status.Ok) → Wrote [] old.out.parts new.out.parts old.out.notes new.out.notes
