-- What holds of a run of `finest`: by what the devices told before it, by whether one failed in it, and by the parts and notes before and after it.
use Rattle.std.specs.Prelude.{◌≡◌, ◌≤◌, ◌<◌, ◌⊎◌, ℕ, List, [], Option, Ok, Err, length}
use Rattle.std.specs.Option.{ForSome}
use Rattle.tpz_io.specs.Writes.{Wrote, WrotePrefix}
use Rattle.tpz_base.specs.Cubes.{Row}
use Rattle.tpz_base.specs.Meshes.{SameTriangles}
use Rattle.tpz_base.specs.Texts.{Face}
use Rattle.ply_body.specs.Inputs.{Refusal, mesh_of}
use Rattle.diamond_graph.specs.Adding.{most_centres}
use Rattle.run_status.specs.declared.status.Status.{Status}
use Rattle.run_status.specs.declared.status.Status.TheVariants as status
use Rattle.mesh_stream.specs.Digits.{digits_of, input_for, IsAccepted}
use Rattle.finest_cut.specs.Cuts.{finest_mesh}
use Rattle.command_finest.specs.Finest.{finest_items}
use Rattle.mesh_stream.specs.Splits.{finest_split}
use Rattle.run_status.specs.Statuses.{status_of, IsRefused}
use Rattle.run_record.specs.Seen.{Seen}
use Rattle.tpz_io.specs.Causes.{Rose}

-- a run of `finest`, by what the devices say before and after it
pub record FinestRun (digits cap : Option ℕ) (old new : Seen) (answer : Status) : Type 0 where
  -- Ok: the part and the note are those of the rows and faces that the input means
  pub ok : answer ≡ status.Ok → ForSome old.input.left (λ bytes. ForSome old.work.held (λ _. (rows : List Row) (faces : List Face) → input_for digits bytes ≡ Ok (record { rows = rows; faces = faces })
      → Wrote (finest_items cap (digits_of digits bytes) rows faces) old.out.parts new.out.parts old.out.notes new.out.notes))
  -- the mesh of the part holds the triangles of the input, each once
  pub once : (rows : List Row) (faces : List Face) → SameTriangles (finest_mesh cap rows faces) (mesh_of rows faces)
  -- an input is refused by its first refusal, with its place, and else it is accepted
  pub refused : IsRefused answer → ForSome old.input.left (λ bytes. (r : Refusal) × (input_for digits bytes ≡ Err r) × (answer ≡ status_of r))
  pub accepted : (answer ≡ status.Ok) ⊎ ((answer ≡ status.OutFault) ⊎ (answer ≡ status.TooManyRecords)) → ForSome old.input.left (IsAccepted digits)
  -- too many diamonds would be split exactly where the answer is so
  pub few : (answer ≡ status.Ok) ⊎ (answer ≡ status.OutFault) → ForSome old.input.left (λ bytes. ForSome old.work.held (λ _. (rows : List Row) (faces : List Face)
      → input_for digits bytes ≡ Ok (record { rows = rows; faces = faces }) → length (finest_split cap rows faces) ≤ most_centres))
  pub too_many : answer ≡ status.TooManyRecords → ForSome old.input.left (λ bytes. ForSome old.work.held (λ _. (rows : List Row) (faces : List Face)
      → input_for digits bytes ≡ Ok (record { rows = rows; faces = faces }) → most_centres < length (finest_split cap rows faces)))
  -- without a failure each input has its answer, or memory ran out
  pub complete : ForSome old.input.left (λ bytes. ForSome old.work.held (λ _. ¬ Rose old.input.faults new.input.faults → ¬ Rose old.work.faults new.work.faults → ¬ Rose old.out.faults new.out.faults
      → ((rows : List Row) (faces : List Face) → input_for digits bytes ≡ Ok (record { rows = rows; faces = faces })
      → (length (finest_split cap rows faces) ≤ most_centres → (answer ≡ status.Ok) ⊎ (answer ≡ status.Memory))
      × (most_centres < length (finest_split cap rows faces) → (answer ≡ status.TooManyRecords) ⊎ (answer ≡ status.Memory)))
      × ((r : Refusal) → input_for digits bytes ≡ Err r → (answer ≡ status_of r) ⊎ (answer ≡ status.Memory))))
  -- whatever the answer, what is written is a front of what the command writes
  pub front : ForSome old.input.left (λ bytes. ForSome old.work.held (λ _. (rows : List Row) (faces : List Face) → input_for digits bytes ≡ Ok (record { rows = rows; faces = faces })
      → WrotePrefix (finest_items cap (digits_of digits bytes) rows faces) old.out.parts new.out.parts old.out.notes new.out.notes))
  pub unaccepted : ForSome old.input.left (λ bytes. ¬ IsAccepted digits bytes → Wrote [] old.out.parts new.out.parts old.out.notes new.out.notes)
  pub unread : ¬ (answer ≡ status.Ok) → ¬ (answer ≡ status.OutFault) → ¬ (answer ≡ status.Memory) → Wrote [] old.out.parts new.out.parts old.out.notes new.out.notes
