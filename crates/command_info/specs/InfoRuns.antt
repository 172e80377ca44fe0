-- What holds of a run of `info`: by what the devices told before it, by whether one failed in it, and by the parts and notes before and after it.
use Rattle.std.specs.Prelude.{◌≡◌, ◌⊎◌, ◌++◌, ℕ, Bool, false, List, [], Ok, Err, replicate}
use Rattle.std.specs.Option.{ForSome}
use Rattle.tpz_io.specs.Writes.{Wrote, WrotePrefix}
use Rattle.patch_file.specs.declared.shape.Params.{Params}
use Rattle.patch_file.specs.declared.shape.StoreBad.{StoreBad}
use Rattle.patch_file.specs.Tables.{Table}
use Rattle.patch_file.specs.Stores.{read}
use Rattle.run_status.specs.declared.status.Status.{Status}
use Rattle.run_status.specs.declared.status.Status.TheVariants as status
use Rattle.run_status.specs.declared.status.ReadAt.TheVariants as read_at
use Rattle.command_info.specs.Info.{info_items}
use Rattle.run_record.specs.Seen.{Seen}
use Rattle.tpz_io.specs.Causes.{Rose}
use Rattle.patch_file.specs.Asking.{RoseBy}

-- a run of `info`, by what the devices say before and after it
pub record InfoRun (tries : ℕ) (old new : Seen) (answer : Status) : Type 0 where
  -- Ok: the note is that of the store
  pub ok : answer ≡ status.Ok → ForSome old.store.held (λ bytes. (out : Table × Params) × (read bytes ≡ Ok out) × Wrote (info_items out bytes) old.out.parts new.out.parts old.out.notes new.out.notes)
  -- a store is refused by its first refusal
  pub refused : (bad : StoreBad) → answer ≡ status.BadStore bad → ForSome old.store.held (λ bytes. read bytes ≡ Err bad)
  -- one call of the store failed as often as it was to be tried, the last of all
  pub fault : answer ≡ status.ReadFault read_at.Head → RoseBy tries old.store.faults new.store.faults × ForSome new.store.outcomes (λ all. (front : List Bool) × (all ≡ front ++ replicate tries false))
  -- so far no block is read
  pub head : (rec : ℕ) → ¬ (answer ≡ status.ReadFault (read_at.Record rec))
  -- without such failures each store has its answer, or memory ran out
  pub complete : ForSome old.store.held (λ bytes. ¬ RoseBy tries old.store.faults new.store.faults → ¬ Rose old.out.faults new.out.faults → ((out : Table × Params) → read bytes ≡ Ok out → (answer ≡ status.Ok) ⊎ (answer ≡ status.Memory))
      × ((bad : StoreBad) → read bytes ≡ Err bad → (answer ≡ status.BadStore bad) ⊎ (answer ≡ status.Memory)))
  -- the store stays as it is
  pub same : new.store.held ≡ old.store.held
  -- whatever the answer, what is written is a front of what the command writes
  pub written : ForSome old.store.held (λ bytes. (out : Table × Params) → read bytes ≡ Ok out → WrotePrefix (info_items out bytes) old.out.parts new.out.parts old.out.notes new.out.notes)
  pub unaccepted : ForSome old.store.held (λ bytes. (bad : StoreBad) → read bytes ≡ Err bad → Wrote [] old.out.parts new.out.parts old.out.notes new.out.notes)
  pub unread : ¬ (answer ≡ status.Ok) → Wrote [] old.out.parts new.out.parts old.out.notes new.out.notes
