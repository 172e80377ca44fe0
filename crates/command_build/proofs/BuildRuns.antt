-- What a run of `build` says: where memory ran out before it began, where no store was built, and where only the note was left to write.
use Rattle.std.proofs.Common.{◌≡◌, ◌≤◌, ◌<◌, ℕ, ◌⊎◌, List, [], ◌∷◌, length, refl, sym, ◌∙◌, subst, inl, inr, arith}
use Rattle.std.specs.Prelude.{is_some, Option, Some, None, Ok, Err}
use Rattle.std.specs.Option.{ForSome}
use Rattle.tpz_io.specs.Causes.{one_more, Rose}
use Rattle.tpz_io.specs.Writes.{Note, Wrote}
use Rattle.tpz_base.specs.Texts.{Bytes, Face}
use Rattle.tpz_base.specs.Cubes.{Row}
use Rattle.ply_body.specs.Inputs.{Refusal, mesh_of}
use Rattle.diamond_graph.specs.Adding.{most_centres}
use Rattle.build_pass.specs.Building.{IsBuildable}
use Rattle.command_build.specs.declared.build.Summary.{Summary}
use Rattle.run_status.specs.declared.status.Status.{Status}
use Rattle.run_status.specs.declared.status.Status.TheVariants as status
use Rattle.command_build.specs.Build.{build_items, build_note, input_store, params_of, summary_of, IsLeft, IsLeftOver}
use Rattle.mesh_stream.specs.Digits.{digits_of, input_for, IsAccepted}
use Rattle.mesh_stream.specs.Splits.{finest_split}
use Rattle.command_build.specs.BuildRuns.{BuildRun}
use Rattle.run_status.specs.Statuses.{status_of, IsOfStore, IsRefused, IsUnbuilt}
use Rattle.mesh_stream.proofs.Completing.{answered}
use Rattle.mesh_output.proofs.Exports.{none_yet, nothing}
use Rattle.mesh_output.proofs.OutAnswers.{never, IsGenAnswer}
use Rattle.run_record.specs.Seen.{Seen}

-- memory ran out before a device was touched
pub build_unstarted : (digits : Option ℕ) (cap budget : ℕ) (s : Seen) (untouched : Type 0) → BuildRun digits cap budget s s untouched status.Memory
build_unstarted digits cap budget s untouched = record {
  ok = λ e. absurd cc;
  whole = λ h. absurd (elim h [ inl e ↦ cc | inr e ↦ cc ]);
  buildable = λ h. absurd (elim h [ inl e ↦ cc | inr e ↦ cc ]);
  refused = λ h. absurd h;
  accepted = λ h. absurd (elim h [ inl e ↦ cc | inr k ↦ elim k [ inl e ↦ cc | inr e ↦ cc ] ]);
  few = λ h. absurd (elim h [ inl e ↦ cc | inr e ↦ cc ]);
  too_many = λ e. absurd cc;
  not_empty = λ len e. absurd cc;
  empty = λ store at some. inr (inr refl);
  fault = λ e. absurd cc;
  asked = inl refl;
  complete = λ bytes told h keeps store at none no_input no_work no_store no_out. (λ rows faces means. (λ fits. inr refl, λ past. inr refl), λ r is. inr refl);
  before = λ a b c d e f. refl;
  after = λ a bytes told h keeps rows faces means. inl refl;
  left_over = inl refl;
  telling = refl;
  front = λ bytes told h keeps rows faces means. none_yet _ s.out.parts s.out.parts s.out.notes s.out.notes refl refl;
  unaccepted = λ bytes told not_accepted. nothing s.out.parts s.out.parts s.out.notes s.out.notes refl refl;
  unread = λ a. nothing s.out.parts s.out.parts s.out.notes s.out.notes refl refl;
}

-- a list is as long as nothing, and longer
not_both : (store : Bytes) (len : ℕ) → length store ≡ 0 → length store ≡ len → 0 < len → ⊥
not_both store len none is some = omega (arith, none, is, some)

-- ---- no store was built

module _ (digits : Option ℕ) (cap budget : ℕ) (old new : Seen) (untouched : Type 0) (answer : Status)
    (is : IsUnbuilt answer)
    (refused : IsRefused answer → ForSome old.input.left (λ bytes. (r : Refusal) × (input_for digits bytes ≡ Err r) × (answer ≡ status_of r)))
    (accepted : answer ≡ status.TooManyRecords → ForSome old.input.left (IsAccepted digits))
    (too_many : answer ≡ status.TooManyRecords → ForSome old.input.left (λ bytes. ForSome old.work.held (λ _. (rows : List Row) (faces : List Face)
    → input_for digits bytes ≡ Ok (record { rows = rows; faces = faces }) → most_centres < length (finest_split (Some cap) rows faces))))
    (not_empty : (len : ℕ) → answer ≡ status.NotEmpty len → (0 < len) × ForSome old.store.held (λ store. length store ≡ len) × untouched)
    (empty : ForSome old.store.held (λ store. 0 < length store → (answer ≡ status.NotEmpty (length store)) ⊎ (answer ≡ status.StoreFault)))
    (fault : answer ≡ status.StoreFault → Rose old.store.faults new.store.faults)
    (input_fault : answer ≡ status.InputFault → Rose old.input.faults new.input.faults)
    (work_fault : answer ≡ status.WorkFault → Rose old.work.faults new.work.faults)
    (damage : (offset : ℕ) → answer ≡ status.WorkDamage offset → old.work.held ≡ None)
    (asked : new.store.reads ≡ one_more old.store.reads)
    (before : ¬ (answer ≡ status.StoreFault) → ¬ (answer ≡ status.Memory) → ¬ (answer ≡ status.WorkFault) → ((offset : ℕ) → ¬ (answer ≡ status.WorkDamage offset)) → new.store.held ≡ old.store.held)
    (after : ForSome old.input.left (λ bytes. ForSome old.work.held (λ _. (rows : List Row) (faces : List Face)
    → input_for digits bytes ≡ Ok (record { rows = rows; faces = faces }) → IsLeft old.store.held new.store.held (input_store cap budget (digits_of digits bytes) rows faces))))
    (left_over : IsLeftOver old.store.held new.store.held)
    (telling : is_some new.store.held ≡ is_some old.store.held)
    (parts : new.out.parts ≡ old.out.parts) (notes : new.out.notes ≡ old.out.notes) where
  -- over an empty store that didn't fail no answer is that of a store
  none_of_store : (store : Bytes) → old.store.held ≡ Some store → length store ≡ 0 → ¬ Rose old.store.faults new.store.faults → (answer' : Status) → answer ≡ answer' → IsOfStore answer' → ⊥
  none_of_store store at none no_store status.StoreFault e own = no_store (fault e)
  none_of_store store at none no_store (status.NotEmpty len) e own = let k = not_empty len e in not_both store len none (k.1 store at) k.0
  none_of_store store at none no_store (status.ScriptBad line) e own = subst (λ s. IsUnbuilt s) e is
  none_of_store store at none no_store status.ScriptFault e own = subst (λ s. IsUnbuilt s) e is
  none_of_store store at none no_store (status.BadStore why) e own = subst (λ s. IsUnbuilt s) e is
  none_of_store store at none no_store (status.ReadFault where_at) e own = subst (λ s. IsUnbuilt s) e is
  none_of_store store at none no_store status.Ok e own = own
  none_of_store store at none no_store status.Usage e own = own
  none_of_store store at none no_store (status.BadInput kind place) e own = own
  none_of_store store at none no_store (status.Extent axis least greatest) e own = own
  none_of_store store at none no_store status.InputFault e own = own
  none_of_store store at none no_store status.WorkFault e own = own
  none_of_store store at none no_store (status.WorkDamage offset) e own = own
  none_of_store store at none no_store status.TooManyRecords e own = own
  none_of_store store at none no_store status.OutFault e own = own
  none_of_store store at none no_store status.Memory e own = own

  unbuilt : {X : Type 0} (other : Status) → answer ≡ other → (IsUnbuilt other → ⊥) → X
  unbuilt other e isnt = absurd (isnt (subst (λ s. IsUnbuilt s) e is))

  pub unbuilt_run : BuildRun digits cap budget old new untouched answer
  unbuilt_run = record {
    ok = λ e. unbuilt status.Ok e (λ h. h);
    whole = λ h. elim h [ inl e ↦ unbuilt status.Ok e (λ h. h) | inr e ↦ unbuilt status.OutFault e (λ h. h) ];
    buildable = λ h. elim h [ inl e ↦ unbuilt status.Ok e (λ h. h) | inr e ↦ unbuilt status.OutFault e (λ h. h) ];
    refused = refused;
    accepted = λ h. elim h [ inl e ↦ unbuilt status.Ok e (λ h. h) | inr k ↦ elim k [ inl e ↦ unbuilt status.OutFault e (λ h. h) | inr e ↦ accepted e ] ];
    few = λ h. elim h [ inl e ↦ unbuilt status.Ok e (λ h. h) | inr e ↦ unbuilt status.OutFault e (λ h. h) ];
    too_many = too_many;
    not_empty = not_empty;
    empty = λ store at some. elim (empty store at some) [ inl e ↦ inl e | inr e ↦ inr (inl e) ];
    fault = fault;
    asked = inr asked;
    complete = λ bytes told h keeps store at none no_input no_work no_store no_out.
        answered digits (Some cap) bytes answer (record {
          usage = λ e. unbuilt status.Usage e (λ h. h);
          store = λ own. none_of_store store at none no_store answer refl own;
          refused = λ r. refused r bytes told;
          accepted = λ h. elim h [ inl e ↦ unbuilt status.Ok e (λ h. h) | inr k ↦ elim k [ inl e ↦ unbuilt status.OutFault e (λ h. h) | inr e ↦ accepted e bytes told ] ];
          few = λ h. elim h [ inl e ↦ unbuilt status.Ok e (λ h. h) | inr e ↦ unbuilt status.OutFault e (λ h. h) ];
          too_many = λ e. too_many e bytes told h keeps;
          input = λ e. no_input (input_fault e);
          work = λ e. no_work (work_fault e);
          damage = λ offset e. (let none_told = damage offset e in let not_told = sym none_told ∙ keeps in cc);
          out = λ e. unbuilt status.OutFault e (λ h. h);
        });
    before = λ a b. before;
    after = λ a. after;
    left_over = left_over;
    telling = telling;
    front = λ bytes told h keeps rows faces means. none_yet _ _ _ _ _ parts notes;
    unaccepted = λ bytes told not_accepted. nothing _ _ _ _ parts notes;
    unread = λ a. nothing _ _ _ _ parts notes;
  }

-- ---- the store was built, and the note written or not

module _ (digits : Option ℕ) (cap budget : ℕ) (old new : Seen) (untouched : Type 0) (answer : Status) (summary : Summary)
    (is : IsGenAnswer answer)
    (built : ForSome old.input.left (λ bytes. ForSome old.work.held (λ _. (rows : List Row) (faces : List Face) → input_for digits bytes ≡ Ok (record { rows = rows; faces = faces }) → summary ≡ summary_of cap budget rows faces)))
    (whole : ForSome old.input.left (λ bytes. ForSome old.work.held (λ _. (rows : List Row) (faces : List Face)
    → input_for digits bytes ≡ Ok (record { rows = rows; faces = faces }) → ForSome new.store.held (λ store. store ≡ input_store cap budget (digits_of digits bytes) rows faces))))
    (buildable : ForSome old.input.left (λ bytes. ForSome old.work.held (λ _. (rows : List Row) (faces : List Face)
    → input_for digits bytes ≡ Ok (record { rows = rows; faces = faces }) → IsBuildable (mesh_of rows faces) (params_of cap budget (digits_of digits bytes) rows faces))))
    (accepted : ForSome old.input.left (IsAccepted digits))
    (few : ForSome old.input.left (λ bytes. ForSome old.work.held (λ _. (rows : List Row) (faces : List Face)
    → input_for digits bytes ≡ Ok (record { rows = rows; faces = faces }) → length (finest_split (Some cap) rows faces) ≤ most_centres)))
    (empty : ForSome old.store.held (λ store. 0 < length store → ⊥))
    (asked : new.store.reads ≡ one_more old.store.reads)
    (left_over : IsLeftOver old.store.held new.store.held)
    (telling : is_some new.store.held ≡ is_some old.store.held)
    (written : answer ≡ status.Ok → Wrote (Note (build_note summary budget) ∷ []) old.out.parts new.out.parts old.out.notes new.out.notes)
    (unwritten : ¬ (answer ≡ status.Ok) → Wrote [] old.out.parts new.out.parts old.out.notes new.out.notes)
    (out_fault : answer ≡ status.OutFault → Rose old.out.faults new.out.faults) where
  told : (bytes : Bytes) → old.input.left ≡ Some bytes → (holds : Bytes) → old.work.held ≡ Some holds → (rows : List Row) (faces : List Face) → input_for digits bytes ≡ Ok (record { rows = rows; faces = faces })
      → answer ≡ status.Ok → Wrote (build_items cap budget rows faces) old.out.parts new.out.parts old.out.notes new.out.notes
  told bytes at holds keeps rows faces means e = subst (λ s. Wrote (Note (build_note s budget) ∷ []) old.out.parts new.out.parts old.out.notes new.out.notes) (built bytes at holds keeps rows faces means) (written e)

  other : {X : Type 0} (answer' : Status) → answer ≡ answer' → (status.Ok ≡ answer' → ⊥) → (status.OutFault ≡ answer' → ⊥) → (status.Memory ≡ answer' → ⊥) → X
  other answer' e a b c = absurd (never answer answer' is a b c e)

  not_refused : (answer' : Status) → IsGenAnswer answer' → IsRefused answer' → ⊥
  not_refused answer' is h = elim is [ inl e ↦ subst (λ s. IsRefused s) e h | inr k ↦ elim k [ inl e ↦ subst (λ s. IsRefused s) e h | inr e ↦ subst (λ s. IsRefused s) e h ] ]

  not_of_store : (answer' : Status) → IsGenAnswer answer' → IsOfStore answer' → ⊥
  not_of_store answer' is h = elim is [ inl e ↦ subst (λ s. IsOfStore s) e h | inr k ↦ elim k [ inl e ↦ subst (λ s. IsOfStore s) e h | inr e ↦ subst (λ s. IsOfStore s) e h ] ]

  -- the note is written, or nothing is
  done_or_not : (answer ≡ status.Ok) ⊎ Wrote [] old.out.parts new.out.parts old.out.notes new.out.notes
  done_or_not =
      elim is [
        | inl e ↦ inl e
        | inr k ↦ elim k [
          | inl e ↦ inr (unwritten (λ f. let wrong : status.OutFault ≡ status.Ok = sym e ∙ f in cc))
          | inr e ↦ inr (unwritten (λ f. let wrong : status.Memory ≡ status.Ok = sym e ∙ f in cc))
        ]
      ]

  pub built_run : BuildRun digits cap budget old new untouched answer
  built_run = record {
    ok = λ e bytes at holds keeps rows faces means. told bytes at holds keeps rows faces means e;
    whole = λ h. whole;
    buildable = λ h. buildable;
    refused = λ h. absurd (not_refused answer is h);
    accepted = λ h. accepted;
    few = λ h. few;
    too_many = λ e. other status.TooManyRecords e (λ f. cc) (λ f. cc) (λ f. cc);
    not_empty = λ len e. other (status.NotEmpty len) e (λ f. cc) (λ f. cc) (λ f. cc);
    empty = λ store at some. absurd (empty store at some);
    fault = λ e. other status.StoreFault e (λ f. cc) (λ f. cc) (λ f. cc);
    asked = inr asked;
    complete = λ bytes at holds keeps store stored none no_input no_work no_store no_out.
        answered digits (Some cap) bytes answer (record {
          usage = λ e. other status.Usage e (λ f. cc) (λ f. cc) (λ f. cc);
          store = λ own. not_of_store answer is own;
          refused = λ r. absurd (not_refused answer is r);
          accepted = λ h. accepted bytes at;
          few = λ h. few bytes at holds keeps;
          too_many = λ e. other status.TooManyRecords e (λ f. cc) (λ f. cc) (λ f. cc);
          input = λ e. other status.InputFault e (λ f. cc) (λ f. cc) (λ f. cc);
          work = λ e. other status.WorkFault e (λ f. cc) (λ f. cc) (λ f. cc);
          damage = λ offset e. other (status.WorkDamage offset) e (λ f. cc) (λ f. cc) (λ f. cc);
          out = λ e. no_out (out_fault e);
        });
    before = λ a b c d w o. absurd (elim is [ inl e ↦ a e | inr k ↦ elim k [ inl e ↦ b e | inr e ↦ d e ] ]);
    after = λ a bytes at holds keeps rows faces means. inr (λ store stored. inr (whole bytes at holds keeps rows faces means store stored));
    left_over = left_over;
    telling = telling;
    front = λ bytes at holds keeps rows faces means.
        elim done_or_not [ inl e ↦ (1, told bytes at holds keeps rows faces means e) | inr w ↦ (0, w) ];
    unaccepted = λ bytes at not_accepted. absurd (not_accepted (accepted bytes at));
    unread = unwritten;
  }
