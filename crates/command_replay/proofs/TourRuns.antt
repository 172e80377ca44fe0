-- What holds of a tour, by its build and its replay.
use Rattle.std.proofs.Common.{◌≡◌, ◌⊎◌, ℕ, ◌≤◌, ◌<◌, length, List, [], refl, sym, ◌∙◌, ap, inl, inr, arith, Option, Some, None}
use Rattle.std.specs.Prelude.{Ok, Err}
use Rattle.std.specs.Option.{ForSome}
use Rattle.tpz_base.specs.Cubes.{Row}
use Rattle.ply_head.specs.declared.fault.HeadFault.TheVariants as head
use Rattle.ply_body.specs.declared.fault.BodyFault.TheVariants as body
use Rattle.ply_body.specs.Inputs.{Refusal, InHead, InBody, mesh_of}
use Rattle.diamond_graph.specs.Adding.{most_centres}
use Rattle.patch_file.specs.declared.shape.StoreBad.{StoreBad}
use Rattle.build_pass.specs.Building.{table}
use Rattle.command_build.specs.Build.{params_of}
use Rattle.mesh_stream.specs.Digits.{digits_of, input_for}
use Rattle.mesh_stream.specs.Splits.{finest_split}
use Rattle.cut_blocks.specs.WrongBlocks.{Stored}
use Rattle.command_replay.specs.Plays.{end_of, lines_of, played}
use Rattle.command_replay.specs.Replay.{IsFaithful}
use Rattle.run_status.specs.Statuses.{status_of}
use Rattle.mesh_stream.proofs.ReadLemmas.{told_later}
use Rattle.tpz_io.specs.Causes.{Rose}
use Rattle.tpz_io.specs.Writes.{Wrote}
use Rattle.tpz_base.specs.Texts.{Bytes, Face}
use Rattle.patch_file.specs.Asking.{RoseBy}
use Rattle.run_status.specs.declared.status.Status.{Status}
use Rattle.run_status.specs.declared.status.Status.TheVariants as status
use Rattle.command_build.specs.BuildRuns.{BuildRun}
use Rattle.command_replay.specs.ReplayRuns.{ReplayRun, TourRun}
use Rattle.command_build.proofs.BuildRuns.{build_unstarted}
use Rattle.mesh_output.proofs.Exports.{nothing}
use Rattle.run_record.specs.Seen.{BlobSeen, OutSeen, Seen, Untouched}

-- a build that is Ok, whatever wasn't touched
pub build_other : (digits : Option ℕ) (cap budget : ℕ) (old new : Seen) (u v : Type 0) (answer : Status) → answer ≡ status.Ok → BuildRun digits cap budget old new u answer → BuildRun digits cap budget old new v answer
build_other digits cap budget old new u v answer is h = record {
  ok = h.ok;
  whole = h.whole;
  buildable = h.buildable;
  refused = h.refused;
  accepted = h.accepted;
  few = h.few;
  too_many = h.too_many;
  not_empty = λ len e. absurd (let wrong : status.Ok ≡ status.NotEmpty len = sym is ∙ e in cc);
  empty = h.empty;
  fault = h.fault;
  asked = h.asked;
  complete = h.complete;
  before = h.before;
  after = h.after;
  left_over = h.left_over;
  telling = h.telling;
  front = h.front;
  unaccepted = h.unaccepted;
  unread = h.unread;
}

-- a replay, where less is said to be untouched
pub replay_other : (tries : ℕ) (old new : Seen) (u v : Type 0) (answer : Status) → (u → v) → ReplayRun tries old new u answer → ReplayRun tries old new v answer
replay_other tries old new u v answer less h = record {
  ok = h.ok;
  refused = h.refused;
  bad_line = h.bad_line;
  script_fault = h.script_fault;
  fault = h.fault;
  head = λ e. less (h.head e);
  spent = h.spent;
  complete = h.complete;
  same = h.same;
  asked = h.asked;
  asked_refused = h.asked_refused;
  front = h.front;
  unaccepted = h.unaccepted;
  faithful = h.faithful;
  conforming = h.conforming;
}

-- memory ran out before a device was touched
pub tour_unstarted : (digits : Option ℕ) (cap budget tries : ℕ) (s : Seen) (untouched : Untouched) → untouched.script → TourRun digits cap budget tries s s untouched status.Memory
tour_unstarted digits cap budget tries s untouched still = record {
  built = status.Memory;
  middle = s;
  others = (refl, refl, refl);
  build = build_unstarted digits cap budget s _;
  ended = λ e. (refl, still, refl, refl, nothing _ _ _ _ refl refl);
  replay = λ e. absurd cc;
  faithful = λ e. absurd cc;
  complete = λ bytes at holds keeps store stored text told none a b c d e f. (λ rows faces means. (λ fits. inr refl, λ past. inr refl), λ r is. inr refl);
}

-- a failure before others
pub rose_front : (a b c : ℕ) → Rose a b → b ≤ c → Rose a c
rose_front a b c h k = omega arith

-- .. behind others
pub rose_behind : (a b c : ℕ) → Rose b c → a ≤ b → Rose a c
rose_behind a b c h k = omega arith

-- no refusal of an input is Ok
pub refused_not_ok : (r : Refusal) → status_of r ≡ status.Ok → ⊥
refused_not_ok (InHead (head.NotPly line)) e = cc
refused_not_ok (InHead (head.Format line)) e = cc
refused_not_ok (InHead (head.Line line)) e = cc
refused_not_ok (InHead (head.TypeName line)) e = cc
refused_not_ok (InHead (head.NoVertex line)) e = cc
refused_not_ok (InHead (head.NoFace line)) e = cc
refused_not_ok (InHead (head.FloatBinary line)) e = cc
refused_not_ok (InHead (head.TooMany line)) e = cc
refused_not_ok (InHead head.InputFault) e = cc
refused_not_ok (InHead head.Memory) e = cc
refused_not_ok (InBody (body.Short element row)) e = cc
refused_not_ok (InBody (body.Number element row)) e = cc
refused_not_ok (InBody (body.Range element row)) e = cc
refused_not_ok (InBody (body.BadIndex element row index)) e = cc
refused_not_ok (InBody (body.Extent axis least greatest)) e = cc
refused_not_ok (InBody (body.TooManyTris element row)) e = cc
refused_not_ok (InBody (body.TooLong element row)) e = cc
refused_not_ok (InBody body.InputFault) e = cc
refused_not_ok (InBody body.WorkFault) e = cc
refused_not_ok (InBody (body.WorkDamage offset)) e = cc

-- ---- a build, and where it is Ok a replay

-- what the devices say where a build has ended and a replay begins: it touches neither input nor work file, and the build no script
abbrev between : Seen → Seen → BlobSeen → OutSeen → Seen
between old new store out = record { input = new.input; script = old.script; work = new.work; store = store; out = out }

module _ (digits : Option ℕ) (cap budget tries : ℕ) (old new : Seen) (store : BlobSeen) (out : OutSeen) (untouched : Untouched) (answer built : Status)
    (build : BuildRun digits cap budget old (between old new store out) (untouched.input × untouched.work × untouched.out) built)
    (ended : ¬ (built ≡ status.Ok) → (answer ≡ built) × untouched.script × (new.store.held ≡ store.held) × (new.store.reads ≡ store.reads) × Wrote [] out.parts new.out.parts out.notes new.out.notes)
    (replay : built ≡ status.Ok → ReplayRun tries (between old new store out) new untouched.script answer)
    (first : old.out.faults ≤ out.faults) (second : out.faults ≤ new.out.faults) where
  faithful : built ≡ status.Ok → ForSome old.input.left (λ bytes. ForSome old.work.held (λ _. (rows : List Row) (faces : List Face) → input_for digits bytes ≡ Ok (record { rows = rows; faces = faces })
      → ForSome store.held (λ kept. IsFaithful (mesh_of rows faces) (params_of cap budget (digits_of digits bytes) rows faces) kept × ((bad : StoreBad) → answer ≡ status.BadStore bad → ⊥))))
  faithful ok bytes at holds keeps rows faces means kept told =
      (replay ok).faithful (mesh_of rows faces) (params_of cap budget (digits_of digits bytes) rows faces) (build.buildable (inl ok) bytes at holds keeps rows faces means) kept told
      (build.whole (inl ok) bytes at holds keeps rows faces means kept told)

  -- another answer of the build is that of all
  as_built : (other : Status) → built ≡ other → (other ≡ status.Ok → ⊥) → answer ≡ other
  as_built other is isnt = (ended (λ e. isnt (sym is ∙ e))).0 ∙ is

  module _ (bytes : Bytes) (at : old.input.left ≡ Some bytes) (holds : Bytes) (keeps : old.work.held ≡ Some holds) (empty : Bytes) (told : old.store.held ≡ Some empty) (text : Bytes) (script : old.script.left ≡ Some text)
      (none : length empty ≡ 0) (no_input : ¬ Rose old.input.faults new.input.faults) (no_work : ¬ Rose old.work.faults new.work.faults) (no_script : ¬ Rose old.script.faults new.script.faults) (no_store : ¬ Rose old.store.faults store.faults) (no_read : ¬ RoseBy tries store.faults new.store.faults)
      (no_out : ¬ Rose old.out.faults new.out.faults) where
    built_answers : ((rows : List Row) (faces : List Face) → input_for digits bytes ≡ Ok (record { rows = rows; faces = faces })
        → (length (finest_split (Some cap) rows faces) ≤ most_centres → (built ≡ status.Ok) ⊎ (built ≡ status.Memory))
        × (most_centres < length (finest_split (Some cap) rows faces) → (built ≡ status.TooManyRecords) ⊎ (built ≡ status.Memory)))
        × ((r : Refusal) → input_for digits bytes ≡ Err r → (built ≡ status_of r) ⊎ (built ≡ status.Memory))
    built_answers = build.complete bytes at holds keeps empty told none no_input no_work no_store (λ f. no_out (rose_front old.out.faults out.faults new.out.faults f second))

    replayed : built ≡ status.Ok → (rows : List Row) (faces : List Face) → input_for digits bytes ≡ Ok (record { rows = rows; faces = faces })
        → (answer ≡ end_of (lines_of text).bad None) ⊎ (answer ≡ status.Memory)
    replayed ok rows faces means =
        let (now, is) = told_later old.store.held store.held empty build.telling told in
        let right = (faithful ok bytes at holds keeps rows faces means now is).0 in
        let stored : Stored = (table (mesh_of rows faces) (params_of cap budget (digits_of digits bytes) rows faces), params_of cap budget (digits_of digits bytes) rows faces) in
        elim (((replay ok).complete text script now is no_script no_read (λ f. no_out (rose_behind old.out.faults out.faults new.out.faults f first))).1 stored right.reads) [
          | inl e ↦ inl (e ∙ ap (end_of (lines_of text).bad) (right.right (played stored text).reads))
          | inr e ↦ inr e
        ]

    answers : ((rows : List Row) (faces : List Face) → input_for digits bytes ≡ Ok (record { rows = rows; faces = faces })
        → (length (finest_split (Some cap) rows faces) ≤ most_centres → (answer ≡ end_of (lines_of text).bad None) ⊎ (answer ≡ status.Memory))
        × (most_centres < length (finest_split (Some cap) rows faces) → (answer ≡ status.TooManyRecords) ⊎ (answer ≡ status.Memory)))
        × ((r : Refusal) → input_for digits bytes ≡ Err r → (answer ≡ status_of r) ⊎ (answer ≡ status.Memory))
    answers = (
      λ rows faces means. (
        λ fits. elim ((built_answers.0 rows faces means).0 fits) [ inl e ↦ replayed e rows faces means | inr e ↦ inr (as_built status.Memory e (λ f. cc)) ],
        λ past. elim ((built_answers.0 rows faces means).1 past) [ inl e ↦ inl (as_built status.TooManyRecords e (λ f. cc)) | inr e ↦ inr (as_built status.Memory e (λ f. cc)) ],
      ),
      λ r is. elim (built_answers.1 r is) [ inl e ↦ inl (as_built (status_of r) e (refused_not_ok r)) | inr e ↦ inr (as_built status.Memory e (λ f. cc)) ],
    )

  pub tour_run : TourRun digits cap budget tries old new untouched answer
  tour_run = record {
    built = built;
    middle = between old new store out;
    others = (refl, refl, refl);
    build = build;
    ended = ended;
    replay = replay;
    faithful = faithful;
    complete = answers;
  }
