-- What holds of a run of `replay` and of one of `tour`: by what the devices told before it, by whether one failed in it, and by the parts and notes before and after it.
use Rattle.std.specs.Prelude.{◌≡◌, ◌≤◌, ◌<◌, ◌+◌, ◌*◌, ◌⊎◌, ◌++◌, ◌∷◌, ℕ, None, Contains, Bool, false, List, [], Option, Some, Ok, Err, length, replicate}
use Rattle.std.specs.Option.{ForSome}
use Rattle.tpz_io.specs.Causes.{Rose}
use Rattle.tpz_io.specs.Writes.{Note, Wrote, WrotePrefix}
use Rattle.tpz_base.specs.Cubes.{Row}
use Rattle.tpz_base.specs.Meshes.{Mesh}
use Rattle.tpz_base.specs.Texts.{Bytes, Face}
use Rattle.ply_body.specs.Inputs.{Refusal, mesh_of}
use Rattle.diamond_graph.specs.Adding.{most_centres}
use Rattle.build_pass.specs.Building.{IsBuildable}
use Rattle.patch_file.specs.declared.shape.Params.{Params}
use Rattle.patch_file.specs.declared.shape.StoreBad.{StoreBad}
use Rattle.patch_file.specs.Stores.{read}
use Rattle.patch_file.specs.declared.shape.StoreBad.TheVariants.{BadBlock}
use Rattle.patch_file.specs.Asking.{risen, RoseBy}
use Rattle.patch_file.specs.Patches.{IsTableCut}
use Rattle.view_cut.specs.declared.wanting.View.{View}
use Rattle.run_status.specs.declared.status.ReadAt.{ReadAt}
use Rattle.build_pass.specs.Building.{store_of, IsBuildable}
use Rattle.command_replay.specs.Replay.{IsFaithful}
use Rattle.cut_blocks.specs.WrongBlocks.{Stored, first_wrong, wrong_at}
use Rattle.command_replay.specs.Plays.{cut_of, end_of, lines_of, played, replay_note, tests_of}
use Rattle.run_status.specs.declared.status.Status.{Status}
use Rattle.run_status.specs.declared.status.Status.TheVariants as status
use Rattle.run_status.specs.declared.status.ReadAt.TheVariants as read_at
use Rattle.mesh_stream.specs.Digits.{digits_of, input_for}
use Rattle.mesh_stream.specs.Splits.{finest_split}
use Rattle.command_build.specs.Build.{params_of}
use Rattle.run_status.specs.Statuses.{status_of}
use Rattle.command_build.specs.BuildRuns.{BuildRun}
use Rattle.run_record.specs.Seen.{Seen, Untouched}

-- what a replay that came to its end wrote, and how often it asked the store, its opening included
pub record HasReplayed (out : Stored) (text : Bytes) (reads reads' : ℕ) (p0 p1 : Option (List Bytes)) (n0 n1 : Option Bytes) : Type 0 where
  pub whole : (lines_of text).bad ≡ None
  pub right : first_wrong out.0 (played out text).reads ≡ None
  pub asked : ℕ
  pub counted : reads' ≡ risen asked reads
  pub wrote : Wrote ((played out text).items ++ Note (replay_note (length (played out text).items) (risen asked 0) (tests_of out (played out text))) ∷ []) p0 p1 n0 n1

-- a run of `replay`, by what the devices say before and after it, and by whether script and output weren't touched where the store isn't opened
pub record ReplayRun (tries : ℕ) (old new : Seen) (untouched : Type 0) (answer : Status) : Type 0 where
  -- Ok: the parts are those of the script's lines over the table that the store is read as, and then comes the note
  pub ok : answer ≡ status.Ok → ForSome old.script.left (λ text. ForSome old.store.held (λ bytes. (out : Stored) × (read bytes ≡ Ok out) × HasReplayed out text old.store.reads new.store.reads old.out.parts new.out.parts old.out.notes new.out.notes))
  -- a store is refused by its first refusal, or by the first block that was read and is wrong
  pub refused : (bad : StoreBad) → answer ≡ status.BadStore bad → ForSome old.store.held (λ bytes. (read bytes ≡ Err bad) ⊎ ((out : Stored) × (read bytes ≡ Ok out)
      × (i offset : ℕ) × (bad ≡ BadBlock i offset) × (wrong_at out.0 i ≡ Some (i, offset)) × ForSome old.script.left (λ text. first_wrong out.0 (played out text).reads ≡ Some (i, offset))))
  -- a script is refused by its first line that is outside the grammar, and what stands before it is played
  pub bad_line : (line : ℕ) → answer ≡ status.ScriptBad line → ForSome old.script.left (λ text. ((lines_of text).bad ≡ Some line) × ForSome old.store.held (λ bytes. (out : Stored) × (read bytes ≡ Ok out)
      × (first_wrong out.0 (played out text).reads ≡ None) × Wrote (played out text).items old.out.parts new.out.parts old.out.notes new.out.notes))
  pub script_fault : answer ≡ status.ScriptFault → Rose old.script.faults new.script.faults
  -- one call of the store failed as often as it was to be tried, the last of all: one that opens it, before the script was read, or that of a block
  pub fault : (at : ReadAt) → answer ≡ status.ReadFault at → RoseBy tries old.store.faults new.store.faults × ForSome new.store.outcomes (λ all. (front : List Bool) × (all ≡ front ++ replicate tries false))
  pub head : answer ≡ status.ReadFault read_at.Head → untouched
  pub spent : (i : ℕ) → answer ≡ status.ReadFault (read_at.Record i) → ForSome old.script.left (λ text. ForSome old.store.held (λ bytes. (out : Stored) × (read bytes ≡ Ok out) × Contains (played out text).reads i))
  -- without such failures each script over each store has its answer, or memory ran out
  pub complete : ForSome old.script.left (λ text. ForSome old.store.held (λ bytes. ¬ Rose old.script.faults new.script.faults → ¬ RoseBy tries old.store.faults new.store.faults → ¬ Rose old.out.faults new.out.faults
      → ((bad : StoreBad) → read bytes ≡ Err bad → (answer ≡ status.BadStore bad) ⊎ (answer ≡ status.Memory))
      × ((out : Stored) → read bytes ≡ Ok out → (answer ≡ end_of (lines_of text).bad (first_wrong out.0 (played out text).reads)) ⊎ (answer ≡ status.Memory))))
  -- the store stays as it is, and is asked only so often
  pub same : new.store.held ≡ old.store.held
  pub asked : ForSome old.script.left (λ text. ForSome old.store.held (λ bytes. (out : Stored) → read bytes ≡ Ok out → new.store.reads ≤ old.store.reads + tries * (4 + length (played out text).reads)))
  pub asked_refused : ForSome old.store.held (λ bytes. (bad : StoreBad) → read bytes ≡ Err bad → new.store.reads ≤ old.store.reads + tries * 4)
  -- whatever the answer, what is written is a front of what the command writes
  pub front : ¬ (answer ≡ status.Ok) → ForSome old.script.left (λ text. ForSome old.store.held (λ bytes. (out : Stored) → read bytes ≡ Ok out → WrotePrefix (played out text).items old.out.parts new.out.parts old.out.notes new.out.notes))
  pub unaccepted : ForSome old.store.held (λ bytes. (bad : StoreBad) → read bytes ≡ Err bad → Wrote [] old.out.parts new.out.parts old.out.notes new.out.notes)
  -- a store that was built of a mesh is never refused, and shows that mesh
  pub faithful : (M : Mesh) (params : Params) → IsBuildable M params → ForSome old.store.held (λ bytes. bytes ≡ store_of M params → IsFaithful M params bytes × ((bad : StoreBad) → answer ≡ status.BadStore bad → ⊥))
  -- each cut that is written is a conforming one
  pub conforming : ForSome old.store.held (λ bytes. (out : Stored) → read bytes ≡ Ok out → (view : Option View) → IsTableCut out.0 (cut_of out.0 view))

-- a run of `tour`: a build, and where that is Ok a replay over the store that it left. Between the two stand how the build ended, and what the devices said then.
pub record TourRun (digits : Option ℕ) (cap budget tries : ℕ) (old new : Seen) (untouched : Untouched) (answer : Status) : Type 0 where
  pub built : Status
  pub middle : Seen
  -- the build doesn't touch the script, and the replay neither input nor work file
  pub others : (middle.input ≡ new.input) × (middle.script ≡ old.script) × (middle.work ≡ new.work)
  pub build : BuildRun digits cap budget old middle (untouched.input × untouched.work × untouched.out) built
  -- the build isn't Ok: that is the answer, and nothing else is done
  pub ended : ¬ (built ≡ status.Ok) → (answer ≡ built) × untouched.script × (new.store.held ≡ middle.store.held) × (new.store.reads ≡ middle.store.reads)
      × Wrote [] middle.out.parts new.out.parts middle.out.notes new.out.notes
  pub replay : built ≡ status.Ok → ReplayRun tries middle new untouched.script answer
  -- what the replay shows is the mesh that the input means, and the store that was built is never refused
  pub faithful : built ≡ status.Ok → ForSome old.input.left (λ bytes. ForSome old.work.held (λ _. (rows : List Row) (faces : List Face) → input_for digits bytes ≡ Ok (record { rows = rows; faces = faces })
      → ForSome middle.store.held (λ store. IsFaithful (mesh_of rows faces) (params_of cap budget (digits_of digits bytes) rows faces) store × ((bad : StoreBad) → answer ≡ status.BadStore bad → ⊥))))
  -- without such failures each input and script over an empty store has its answer, or memory ran out
  pub complete : ForSome old.input.left (λ bytes. ForSome old.work.held (λ _. ForSome old.store.held (λ store. ForSome old.script.left (λ text. length store ≡ 0 → ¬ Rose old.input.faults new.input.faults → ¬ Rose old.work.faults new.work.faults → ¬ Rose old.script.faults new.script.faults
      → ¬ Rose old.store.faults middle.store.faults → ¬ RoseBy tries middle.store.faults new.store.faults → ¬ Rose old.out.faults new.out.faults
      → ((rows : List Row) (faces : List Face) → input_for digits bytes ≡ Ok (record { rows = rows; faces = faces })
      → (length (finest_split (Some cap) rows faces) ≤ most_centres → (answer ≡ end_of (lines_of text).bad None) ⊎ (answer ≡ status.Memory))
      × (most_centres < length (finest_split (Some cap) rows faces) → (answer ≡ status.TooManyRecords) ⊎ (answer ≡ status.Memory)))
      × ((r : Refusal) → input_for digits bytes ≡ Err r → (answer ≡ status_of r) ⊎ (answer ≡ status.Memory))))))
