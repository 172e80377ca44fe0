-- What holds of a replay, by what its opening, its lines and its note say.
use Rattle.std.proofs.Common.{◌≡◌, ℕ, zero, suc, ◌+◌, ◌*◌, ◌^◌, ◌≤◌, ◌⊎◌, Bool, true, false, List, [], ◌∷◌, length, slice_get, refl, sym, ◌∙◌, ap, ap₂, subst, inl, inr, arith, Option, Some, None, Result, Ok, Err}
use Rattle.std.specs.Prelude.{◌-◌, Contains, filter, min}
use Rattle.std.proofs.lemmas.List.{append-nil}
use Rattle.diamond_graph.specs.Graphs.{counted_on}
use Rattle.std.specs.Option.{ForSome, option_and_then, option_or}
use Rattle.std.proofs.lemmas.List.Elements.{All-from_recursion}
use Rattle.tpz_base.specs.Meshes.{Mesh}
use Rattle.tpz_base.proofs.CutLaw.{Member}
use Rattle.tetra_name.proofs.OneName.{get_member}
use Rattle.diamond_graph.proofs.CentreFacts.{member_all}
use Rattle.patch_file.specs.declared.shape.Params.{Params}
use Rattle.patch_file.specs.Allowed.{IsAllowedRecord}
use Rattle.patch_file.specs.Tables.{Contents}
use Rattle.build_pass.specs.Building.{store_of, table, IsBuildable}
use Rattle.build_pass.proofs.RepresentativeLaw.{table_finest, table_keeps_border, table_represents}
use Rattle.build_pass.proofs.StoreTrip.{store_trip, table_allowed}
use Rattle.command_replay.specs.Replay.{IsFaithful}
use Rattle.std.proofs.Math.Nat.{mul-le-mul_right}
use Rattle.tpz_io.specs.Writes.{Note, Wrote, WrotePrefix}
use Rattle.tpz_base.specs.declared.shape.Point.{Point}
use Rattle.tpz_base.specs.Texts.{Bytes}
use Rattle.tpz_base.specs.Cuts.{has_diamond}
use Rattle.diamond_graph.specs.Closed.{IsConforming}
use Rattle.diamond_graph.specs.Graphs.{GraphState}
use Rattle.view_cut.specs.declared.wanting.View.{View}
use Rattle.view_cut.specs.Views.{counted_by, wanted_centres}
use Rattle.view_cut.proofs.ViewLaw.{wanted_cut}
use Rattle.patch_file.specs.declared.shape.StoreBad.{StoreBad}
use Rattle.patch_file.specs.declared.shape.StoreBad.TheVariants.{BadBlock}
use Rattle.patch_file.specs.declared.fault.OpenFault.{OpenFault}
use Rattle.patch_file.specs.declared.fault.OpenFault.TheVariants as opening
use Rattle.patch_file.specs.Asking.{risen, HasAsked, HasCounted, RoseBy}
use Rattle.patch_file.specs.Patches.{diamonds_of, IsTableCut}
use Rattle.patch_file.specs.Reading.{ReaderState, is_spent, IsOpened}
use Rattle.patch_file.specs.Stores.{read}
use Rattle.patch_file.specs.Tables.{Table, TableRecord, entries_of}
use Rattle.patch_file.proofs.AskingLaw.{asked_both, rose_by}
use Rattle.patch_file.proofs.LookUp.{diamonds_are}
use Rattle.patch_file.proofs.SoundLaw.{sound}
use Rattle.command_replay.specs.declared.replay.Player.{Player}
use Rattle.run_status.specs.declared.status.Status.{Status}
use Rattle.run_status.specs.declared.status.Status.TheVariants as status
use Rattle.run_status.specs.declared.status.ReadAt.{ReadAt}
use Rattle.run_status.specs.declared.status.ReadAt.TheVariants as read_at
use Rattle.cut_blocks.specs.WrongBlocks.{Stored, first_wrong, wrong_at, wrong_block}
use Rattle.command_replay.specs.Plays.{cut_of, end_of, lines_of, played, replay_note, tests_of}
use Rattle.command_replay.specs.Playing.{HasPlayed}
use Rattle.command_replay.specs.ReplayRuns.{HasReplayed, ReplayRun}
use Rattle.cut_blocks.specs.Shown.{is_read_fault, stored_in, AreCounted, IsOpen}
use Rattle.run_status.specs.Statuses.{open_status, IsOfLines, IsOfReplay}
use Rattle.mesh_output.proofs.Exports.{none_yet, nothing}
use Rattle.cut_blocks.proofs.Opening.{ends_failed, refused_by_open}
use Rattle.mesh_output.proofs.OutAnswers.{IsGenAnswer, never}
use Rattle.cut_blocks.proofs.OpenLaw.{never_wrong, of_table}
use Rattle.command_replay.proofs.Progress.{wrote_both, wrote_front, wrote_none}
use Rattle.run_record.specs.Seen.{Seen}
use Rattle.tpz_io.specs.Causes.{Rose}

-- ---- a store is read as one table

pub read_alike : (bytes : Bytes) (a b : Stored) → read bytes ≡ Ok a → read bytes ≡ Ok b → a ≡ b
read_alike bytes a b h k = let both : ◌≡◌ {A = Result Stored StoreBad} (Ok a) (Ok b) = sym h ∙ k in cc

pub read_once : (bytes : Bytes) (out : Stored) (bad : StoreBad) → read bytes ≡ Ok out → read bytes ≡ Err bad → ⊥
read_once bytes out bad h k = let both : ◌≡◌ {A = Result Stored StoreBad} (Ok out) (Err bad) = sym h ∙ k in cc

pub refused_once : (bytes : Bytes) (a b : StoreBad) → read bytes ≡ Err a → read bytes ≡ Err b → a ≡ b
refused_once bytes a b h k = let both : ◌≡◌ {A = Result Stored StoreBad} (Err a) (Err b) = sym h ∙ k in cc

-- ---- cuts

none_of : (ds : List Point) → filter (has_diamond []) ds ≡ []
none_of [] = refl
none_of (d ∷ ds) = none_of ds

empty_cut : (L : ℕ) → IsConforming L []
unfolding IsConforming
empty_cut L = refl

pub cuts_conform : (bytes : Bytes) (out : Stored) → read bytes ≡ Ok out → (view : Option View) → IsTableCut out.0 (cut_of out.0 view)
cuts_conform bytes out is None = (none_of (diamonds_of out.0), empty_cut out.0.l)
cuts_conform bytes out is (Some v) =
    let s = sound bytes out is in
    let c = wanted_cut out.0.l (entries_of out.0) v s.in_order s.closed s.saturated in
    (ap (filter (has_diamond (wanted_centres v (entries_of out.0)))) (sym (diamonds_are out.0)) ∙ c.0, c.1)

-- ---- a store that was built

all_right : (tb : Table) → ((r : TableRecord) → Member tb.records r → (c : Contents) × (r.block ≡ Ok c)) → (numbers : List ℕ) → first_wrong tb numbers ≡ None
unfolding first_wrong
all_right t right [] = refl
all_right t right (i ∷ numbers) = ap (λ q. option_or q (first_wrong t numbers)) (at (slice_get t.records i) refl) ∙ all_right t right numbers where
  at : (o : Option TableRecord) → slice_get t.records i ≡ o → option_and_then (λ (r : TableRecord). wrong_block i r.block) o ≡ None
  at None e = refl
  at (Some r) e = let c = right r (get_member t.records i r e) in ap (wrong_block i) c.1

pub faithful : (M : Mesh) (params : Params) → IsBuildable M params → (bytes : Bytes) → bytes ≡ store_of M params → IsFaithful M params bytes
faithful M params b bytes is =
    let reads : read bytes ≡ Ok (table M params, params) = ap read is ∙ store_trip M params b in
    record {
      reads = reads;
      right = all_right (table M params) (λ r m. let a = member_all (IsAllowedRecord params.l) (table M params).records r (All-from_recursion (IsAllowedRecord params.l) (table M params).records (table_allowed M params b).records) m in (a.contents, a.block));
      border = λ view. table_keeps_border M params (cut_of (table M params) view) (cuts_conform bytes (table M params, params) reads view);
      represented = λ view v has. table_represents M params (cut_of (table M params) view) (cuts_conform bytes (table M params, params) reads view) v has;
      finest = table_finest M params;
    }

-- ---- how often the store was asked

pub asked_most : (tries calls n : ℕ) (ok s : Bool) (f f' r r' : ℕ) (o o' : Option (List Bool)) → calls ≤ n → HasAsked tries calls ok s f f' r r' o o' → r' ≤ r + tries * n
asked_most tries calls n ok s f f' r r' o o' few h =
    let e = h.asked.counted in
    let a = h.few in
    let b : calls * tries ≤ n * tries = mul-le-mul_right tries few in
    let turned : n * tries ≡ tries * n = omega arith in
    omega (arith, e, a, b, turned)

-- ---- an opening that was refused

open_fault : (f : OpenFault) (at : ReadAt) → open_status f ≡ status.ReadFault at → f ≡ opening.ReadFault
open_fault (opening.Bad b) at e = absurd cc
open_fault opening.ReadFault at e = refl
open_fault opening.Memory at e = absurd cc

open_not : (f : OpenFault) (other : Status) → ((b : StoreBad) → status.BadStore b ≡ other → ⊥) → (status.ReadFault read_at.Head ≡ other → ⊥) → (status.Memory ≡ other → ⊥) → open_status f ≡ other → ⊥
open_not (opening.Bad b) other x y z e = x b e
open_not opening.ReadFault other x y z e = y e
open_not opening.Memory other x y z e = z e

spent_is : (f : OpenFault) → f ≡ opening.ReadFault → is_spent {T = ℕ} (Err f) ≡ true
spent_is f e = ap (λ (x : OpenFault). is_spent {T = ℕ} (Err x)) e

module _ (tries : ℕ) (old new : Seen) (untouched : Type 0) (fault : OpenFault) (answer : Status)
    (is : answer ≡ open_status fault)
    (bad : (b : StoreBad) → fault ≡ opening.Bad b → ForSome old.store.held (λ bs. read bs ≡ Err b))
    (asked : HasAsked tries 4 false (is_spent {T = ℕ} (Err fault)) old.store.faults new.store.faults old.store.reads new.store.reads old.store.outcomes new.store.outcomes) where
  not_so : (other : Status) → ((b : StoreBad) → status.BadStore b ≡ other → ⊥) → (status.ReadFault read_at.Head ≡ other → ⊥) → (status.Memory ≡ other → ⊥) → answer ≡ other → ⊥
  not_so other x y z e = open_not fault other x y z (sym is ∙ e)

  failed : fault ≡ opening.ReadFault → RoseBy tries old.store.faults new.store.faults
  failed e = rose_by tries 4 false old.store.faults new.store.faults old.store.reads new.store.reads old.store.outcomes new.store.outcomes (subst (λ b. HasAsked tries 4 false b old.store.faults new.store.faults old.store.reads new.store.reads old.store.outcomes new.store.outcomes) (spent_is fault e) asked)

  answered : (bs : Bytes) → old.store.held ≡ Some bs → ¬ (RoseBy tries old.store.faults new.store.faults) → (g : OpenFault) → fault ≡ g
      → ((b : StoreBad) → read bs ≡ Err b → (open_status g ≡ status.BadStore b) ⊎ (open_status g ≡ status.Memory)) × ((out : Stored) → read bs ≡ Ok out → open_status g ≡ status.Memory)
  answered bs told fine (opening.Bad b') e =
      (λ b h. inl (ap (λ x. status.BadStore x) (refused_once bs b' b (bad b' e bs told) h)), λ out h. absurd (read_once bs out b' h (bad b' e bs told)))
  answered bs told fine opening.ReadFault e = absurd (fine (failed e))
  answered bs told fine opening.Memory e = (λ b h. inr refl, λ out h. refl)

  pub unopened_run : new.store.held ≡ old.store.held → untouched → new.out.parts ≡ old.out.parts → new.out.notes ≡ old.out.notes → ReplayRun tries old new untouched answer
  unopened_run same still parts notes = record {
    ok = λ e. absurd (not_so status.Ok (λ b h. cc) (λ h. cc) (λ h. cc) e);
    refused = λ b e bs told. inl (bad b (refused_by_open fault b (sym is ∙ e)) bs told);
    bad_line = λ l e. absurd (not_so (status.ScriptBad l) (λ b h. cc) (λ h. cc) (λ h. cc) e);
    script_fault = λ e. absurd (not_so status.ScriptFault (λ b h. cc) (λ h. cc) (λ h. cc) e);
    fault = λ at e.
        let is_fault = open_fault fault at (sym is ∙ e) in
        let all = asked.all_failed (spent_is fault is_fault) in
        (failed is_fault, ends_failed tries asked.answers all.0 _ _ all.1 asked.asked.noted);
    head = λ e. still;
    spent = λ i e. absurd (not_so (status.ReadFault (read_at.Record i)) (λ b h. cc) (λ h. cc) (λ h. cc) e);
    complete = λ text _ bs told ns nr na.
        let a = answered bs told nr fault refl in
        (λ b h. elim (a.0 b h) [ inl e ↦ inl (is ∙ e) | inr e ↦ inr (is ∙ e) ], λ out h. inr (is ∙ a.1 out h));
    same = same;
    asked = λ text _ bs told out h.
        asked_most tries 4 (4 + length (played out text).reads) _ _ old.store.faults new.store.faults old.store.reads new.store.reads old.store.outcomes new.store.outcomes (omega arith) asked;
    asked_refused = λ bs told b h. asked_most tries 4 4 _ _ old.store.faults new.store.faults old.store.reads new.store.reads old.store.outcomes new.store.outcomes (omega arith) asked;
    front = λ not_ok text _ bs told out h. none_yet _ _ _ _ _ parts notes;
    unaccepted = λ bs told b h. nothing _ _ _ _ parts notes;
    faithful = λ M params b bs told e. (let k = faithful M params b bs e in (k, λ x at. read_once bs (table M params, params) x k.reads (bad x (refused_by_open fault x (sym is ∙ at)) bs told)));
    conforming = λ bs told out h. cuts_conform bs out h;
  }

pub open_of_replay : (f : OpenFault) → IsOfReplay (open_status f)
open_of_replay (opening.Bad b) = tt
open_of_replay opening.ReadFault = tt
open_of_replay opening.Memory = tt

pub lines_of_replay : (s : Status) → IsOfLines s → IsOfReplay s
lines_of_replay status.Ok h = tt
lines_of_replay (status.ScriptBad line) h = tt
lines_of_replay status.ScriptFault h = tt
lines_of_replay (status.BadStore why) h = tt
lines_of_replay (status.ReadFault at) h = tt
lines_of_replay status.OutFault h = tt
lines_of_replay status.Memory h = tt
lines_of_replay status.Usage h = h
lines_of_replay (status.BadInput kind place) h = h
lines_of_replay (status.Extent axis least greatest) h = h
lines_of_replay status.InputFault h = h
lines_of_replay status.WorkFault h = h
lines_of_replay (status.WorkDamage offset) h = h
lines_of_replay status.StoreFault h = h
lines_of_replay (status.NotEmpty len) h = h
lines_of_replay status.TooManyRecords h = h

-- ---- lines that ended before the last

module _ (tries : ℕ) (old new : Seen) (untouched : Type 0) (reader : ReaderState) (graph : GraphState) (o1 : IsOpen old.store.held reader graph) (f1 r1 : ℕ) (o' : Option (List Bool)) (answer : Status) (player : Player)
    (is : IsOfLines answer)
    (bad_line : (l : ℕ) → answer ≡ status.ScriptBad l → ForSome old.script.left (λ text. ((lines_of text).bad ≡ Some l) × ForSome old.store.held (λ bs. HasPlayed (stored_in reader bs) (played (stored_in reader bs) text) player old.out.parts new.out.parts old.out.notes new.out.notes)))
    (bad : (b : StoreBad) → answer ≡ status.BadStore b → (i offset : ℕ) × (b ≡ BadBlock i offset)
    × ForSome old.store.held (λ bs. wrong_at (stored_in reader bs).0 i ≡ Some (i, offset))
    × ForSome old.script.left (λ text. ForSome old.store.held (λ bs. first_wrong (stored_in reader bs).0 (played (stored_in reader bs) text).reads ≡ Some (i, offset))))
    (spent : (i : ℕ) → answer ≡ status.ReadFault (read_at.Record i) → ForSome old.script.left (λ text. ForSome old.store.held (λ bs. Contains (played (stored_in reader bs) text).reads i)))
    (front : ForSome old.script.left (λ text. ForSome old.store.held (λ bs. WrotePrefix (played (stored_in reader bs) text).items old.out.parts new.out.parts old.out.notes new.out.notes)))
    (opened : HasAsked tries 4 true false old.store.faults f1 old.store.reads r1 old.store.outcomes o')
    (asked : (calls : ℕ) × HasAsked tries calls false (is_read_fault answer) f1 new.store.faults r1 new.store.reads o' new.store.outcomes × ForSome old.script.left (λ text. ForSome old.store.held (λ bs. calls ≤ length (played (stored_in reader bs) text).reads)))
    (script_fault : answer ≡ status.ScriptFault → Rose old.script.faults new.script.faults)
    (out_fault : answer ≡ status.OutFault → Rose old.out.faults new.out.faults) where
  is_read : (bs : Bytes) → old.store.held ≡ Some bs → read bs ≡ Ok (stored_in reader bs)
  is_read bs told = (of_table old.store.held reader graph o1 bs told).reader_is.read

  all_asked : HasAsked tries (4 + asked.0) false (is_read_fault answer) old.store.faults new.store.faults old.store.reads new.store.reads old.store.outcomes new.store.outcomes
  all_asked = asked_both tries 4 asked.0 false false (is_read_fault answer) old.store.faults f1 new.store.faults old.store.reads r1 new.store.reads old.store.outcomes o' new.store.outcomes opened asked.1

  spent_asked : (at : ReadAt) → answer ≡ status.ReadFault at → HasAsked tries (4 + asked.0) false true old.store.faults new.store.faults old.store.reads new.store.reads old.store.outcomes new.store.outcomes
  spent_asked at e = subst (λ b. HasAsked tries (4 + asked.0) false b old.store.faults new.store.faults old.store.reads new.store.reads old.store.outcomes new.store.outcomes) (ap is_read_fault e) all_asked

  rose : (at : ReadAt) → answer ≡ status.ReadFault at → RoseBy tries old.store.faults new.store.faults
  rose at e = rose_by tries (4 + asked.0) false old.store.faults new.store.faults old.store.reads new.store.reads old.store.outcomes new.store.outcomes (spent_asked at e)

  ends : (text bs : Bytes) → old.script.left ≡ Some text → old.store.held ≡ Some bs → ¬ Rose old.script.faults new.script.faults → ¬ (RoseBy tries old.store.faults new.store.faults) → ¬ Rose old.out.faults new.out.faults → (s : Status) → answer ≡ s → IsOfLines s
      → (s ≡ end_of (lines_of text).bad (first_wrong (stored_in reader bs).0 (played (stored_in reader bs) text).reads)) ⊎ (s ≡ status.Memory)
  ends text bs lt told ns nr na (status.ScriptBad l) e h =
      let b = bad_line l e text lt in
      inl (sym (ap₂ end_of b.0 (b.1 bs told).right))
  ends text bs lt told ns nr na status.ScriptFault e h = absurd (ns (script_fault e))
  ends text bs lt told ns nr na (status.BadStore b) e h =
      let w = bad b e in
      inl (ap (λ x. status.BadStore x) w.2 ∙ sym (ap (end_of (lines_of text).bad) (w.4 text lt bs told)))
  ends text bs lt told ns nr na (status.ReadFault at) e h = absurd (nr (rose at e))
  ends text bs lt told ns nr na status.OutFault e h = absurd (na (out_fault e))
  ends text bs lt told ns nr na status.Memory e h = inr refl
  ends text bs lt told ns nr na status.Ok e h = absurd h
  ends text bs lt told ns nr na status.Usage e h = absurd h
  ends text bs lt told ns nr na (status.BadInput kind place) e h = absurd h
  ends text bs lt told ns nr na (status.Extent axis least greatest) e h = absurd h
  ends text bs lt told ns nr na status.InputFault e h = absurd h
  ends text bs lt told ns nr na status.WorkFault e h = absurd h
  ends text bs lt told ns nr na (status.WorkDamage offset) e h = absurd h
  ends text bs lt told ns nr na status.StoreFault e h = absurd h
  ends text bs lt told ns nr na (status.NotEmpty len) e h = absurd h
  ends text bs lt told ns nr na status.TooManyRecords e h = absurd h

  no_head : answer ≡ status.ReadFault read_at.Head → ⊥
  no_head e = subst IsOfLines e is

  pub unfinished_run : new.store.held ≡ old.store.held → ReplayRun tries old new untouched answer
  unfinished_run same = record {
    ok = λ e. absurd (subst IsOfLines e is);
    refused = λ b e bs told. (let w = bad b e in inr (stored_in reader bs, is_read bs told, w.0, w.1, w.2, w.3 bs told, λ text lt. w.4 text lt bs told));
    bad_line = λ l e text lt. (let b = bad_line l e text lt in (b.0, λ bs told. (stored_in reader bs, is_read bs told, (b.1 bs told).right, (b.1 bs told).wrote)));
    script_fault = script_fault;
    fault = λ at e.
        let h = spent_asked at e in
        let all = h.all_failed refl in
        (rose at e, ends_failed tries h.answers all.0 _ _ all.1 h.asked.noted);
    head = λ e. absurd (no_head e);
    spent = λ i e text lt bs told. (stored_in reader bs, is_read bs told, spent i e text lt bs told);
    complete = λ text lt bs told ns nr na. (
      λ b h. absurd (read_once bs (stored_in reader bs) b (is_read bs told) h),
      λ out h.
          subst (λ (x : Stored). (answer ≡ end_of (lines_of text).bad (first_wrong x.0 (played x text).reads)) ⊎ (answer ≡ status.Memory)) (read_alike bs (stored_in reader bs) out (is_read bs told) h)
          (ends text bs lt told ns nr na answer refl is),
    );
    same = same;
    asked = λ text lt bs told out h.
        subst (λ (x : Stored). new.store.reads ≤ old.store.reads + tries * (4 + length (played x text).reads)) (read_alike bs (stored_in reader bs) out (is_read bs told) h)
        (asked_most tries (4 + asked.0) (4 + length (played (stored_in reader bs) text).reads) _ _ old.store.faults new.store.faults old.store.reads new.store.reads old.store.outcomes new.store.outcomes (more asked.0 (length (played (stored_in reader bs) text).reads) (asked.2 text lt bs told)) all_asked);
    asked_refused = λ bs told b h. absurd (read_once bs (stored_in reader bs) b (is_read bs told) h);
    front = λ not_ok text lt bs told out h.
        subst (λ (x : Stored). WrotePrefix (played x text).items old.out.parts new.out.parts old.out.notes new.out.notes) (read_alike bs (stored_in reader bs) out (is_read bs told) h) (front text lt bs told);
    unaccepted = λ bs told b h. absurd (read_once bs (stored_in reader bs) b (is_read bs told) h);
    faithful = λ M params b bs told e.
        let k = faithful M params b bs e in
        let one = read_alike bs (stored_in reader bs) (table M params, params) (is_read bs told) k.reads in
        (k, λ x at. (let w = bad x at in never_wrong (table M params) w.0 (w.0, w.1) (k.right (w.0 ∷ [])) (subst (λ (q : Stored). wrong_at q.0 w.0 ≡ Some (w.0, w.1)) one (w.3 bs told))));
    conforming = λ bs told out h. cuts_conform bs out h;
  }
    where
      more : (a b : ℕ) → a ≤ b → 4 + a ≤ 4 + b
      more a b h = omega arith

-- ---- all lines were played, and the note written or not

counted_is : (n a : ℕ) → a ≤ 2 ^ 64 - 1 → counted_by n a ≡ min (a + n) (2 ^ 64 - 1)
counted_is zero a few = omega arith
counted_is (suc n) a few =
    let rest = counted_is n a few in
    ap counted_on rest ∙ next (a + n) ∙ ap (λ m. min m (2 ^ 64 - 1)) (one_more a n)
  where
    next : (m : ℕ) → counted_on (min m (2 ^ 64 - 1)) ≡ min (m + 1) (2 ^ 64 - 1)
    next m = omega arith

    one_more : (a n : ℕ) → a + n + 1 ≡ a + suc n
    one_more a n = omega arith

count_told : (n a : ℕ) → a ≤ 2 ^ 64 - 1 → counted_by n a ≡ risen (a + n) 0
count_told n a few = counted_is n a few ∙ from_none (a + n) where
  from_none : (m : ℕ) → min m (2 ^ 64 - 1) ≡ risen m 0
  from_none m = omega arith

module _ (tries : ℕ) (old new : Seen) (untouched : Type 0) (reader : ReaderState) (graph : GraphState) (o1 : IsOpen old.store.held reader graph) (f1 r1 : ℕ) (o' : Option (List Bool)) (p1 : Option (List Bytes)) (n1 : Option Bytes)
    (answer : Status) (player : Player)
    (is : IsGenAnswer answer)
    (few_tries : tries ≤ 100)
    (whole : ForSome old.script.left (λ text. (lines_of text).bad ≡ None))
    (all : ForSome old.script.left (λ text. ForSome old.store.held (λ bs. HasPlayed (stored_in reader bs) (played (stored_in reader bs) text) player old.out.parts p1 old.out.notes n1)))
    (opened : HasCounted tries 4 reader.asked old.store.faults f1 old.store.reads r1 old.store.outcomes o')
    (counted : AreCounted reader.asked player.reads r1 new.store.reads)
    (asked : (calls : ℕ) × HasAsked tries calls true false f1 new.store.faults r1 new.store.reads o' new.store.outcomes × ForSome old.script.left (λ text. ForSome old.store.held (λ bs. calls ≤ length (played (stored_in reader bs) text).reads)))
    (noted : answer ≡ status.Ok → Wrote (Note (replay_note player.parts player.reads player.graph.tests) ∷ []) p1 new.out.parts n1 new.out.notes)
    (not_noted : ¬ (answer ≡ status.Ok) → Wrote [] p1 new.out.parts n1 new.out.notes)
    (out_fault : answer ≡ status.OutFault → Rose old.out.faults new.out.faults) where
  reads_as : (bs : Bytes) → old.store.held ≡ Some bs → read bs ≡ Ok (stored_in reader bs)
  reads_as bs told = (of_table old.store.held reader graph o1 bs told).reader_is.read

  other_than : (other : Status) → (status.Ok ≡ other → ⊥) → (status.OutFault ≡ other → ⊥) → (status.Memory ≡ other → ⊥) → answer ≡ other → ⊥
  other_than other x y z e = never answer other is x y z e

  opened_asked : HasAsked tries 4 true false old.store.faults f1 old.store.reads r1 old.store.outcomes o'
  opened_asked = record {
    answers = opened.answers;
    asked = opened.asked;
    few = (let a = opened.few in let b = opened.count in omega (arith, a, b));
    all_answered = λ e. opened.count ∙ opened.all_answered;
    all_failed = λ e. absurd (apart e);
  }
    where
      apart : ◌≡◌ {A = Bool} false true → ⊥
      apart e = cc

  whole_asked : HasAsked tries (4 + asked.0) true false old.store.faults new.store.faults old.store.reads new.store.reads old.store.outcomes new.store.outcomes
  whole_asked = asked_both tries 4 asked.0 false true false old.store.faults f1 new.store.faults old.store.reads r1 new.store.reads old.store.outcomes o' new.store.outcomes opened_asked asked.1

  replayed : answer ≡ status.Ok → (text : Bytes) → old.script.left ≡ Some text → (bs : Bytes) → old.store.held ≡ Some bs → HasReplayed (stored_in reader bs) text old.store.reads new.store.reads old.out.parts new.out.parts old.out.notes new.out.notes
  replayed e text lt bs told =
      let out = stored_in reader bs in
      let h = all text lt bs told in
      let a = opened.asked.counted in
      let b = opened.count in
      let c = counted.read in
      let few = opened.few in
      let small : reader.asked ≤ 2 ^ 64 - 1 = omega (arith, few, few_tries) in
      let told_reads : player.reads ≡ risen (reader.asked + counted.number) 0 = counted.counted ∙ count_told counted.number reader.asked small in
      record {
        whole = whole text lt;
        right = h.right;
        asked = reader.asked + counted.number;
        counted = omega (arith, a, b, c);
        wrote = wrote_both (played out text).items (Note (replay_note (length (played out text).items) (risen (reader.asked + counted.number) 0) (tests_of out (played out text))) ∷ []) old.out.parts p1 new.out.parts old.out.notes n1 new.out.notes h.wrote
            (subst (λ x. Wrote (Note (replay_note (length (played out text).items) x (tests_of out (played out text))) ∷ []) p1 new.out.parts n1 new.out.notes) told_reads
            (subst (λ x. Wrote (Note (replay_note x player.reads (tests_of out (played out text))) ∷ []) p1 new.out.parts n1 new.out.notes) h.playing.parts
            (subst (λ x. Wrote (Note (replay_note player.parts player.reads x) ∷ []) p1 new.out.parts n1 new.out.notes) h.playing.tests (noted e))));
      }

  pub finished_run : new.store.held ≡ old.store.held → ReplayRun tries old new untouched answer
  finished_run same = record {
    ok = λ e text lt bs told. (stored_in reader bs, reads_as bs told, replayed e text lt bs told);
    refused = λ b e. absurd (other_than (status.BadStore b) (λ h. cc) (λ h. cc) (λ h. cc) e);
    bad_line = λ l e. absurd (other_than (status.ScriptBad l) (λ h. cc) (λ h. cc) (λ h. cc) e);
    script_fault = λ e. absurd (other_than status.ScriptFault (λ h. cc) (λ h. cc) (λ h. cc) e);
    fault = λ at e. absurd (other_than (status.ReadFault at) (λ h. cc) (λ h. cc) (λ h. cc) e);
    head = λ e. absurd (other_than (status.ReadFault read_at.Head) (λ h. cc) (λ h. cc) (λ h. cc) e);
    spent = λ i e. absurd (other_than (status.ReadFault (read_at.Record i)) (λ h. cc) (λ h. cc) (λ h. cc) e);
    complete = λ text lt bs told ns nr na. (
      λ b h. absurd (read_once bs (stored_in reader bs) b (reads_as bs told) h),
      λ out h.
          subst (λ (x : Stored). (answer ≡ end_of (lines_of text).bad (first_wrong x.0 (played x text).reads)) ⊎ (answer ≡ status.Memory)) (read_alike bs (stored_in reader bs) out (reads_as bs told) h)
          (elim is [
            | inl e ↦ inl (e ∙ sym (ap₂ end_of (whole text lt) (all text lt bs told).right))
            | inr k ↦ elim k [ inl e ↦ absurd (na (out_fault e)) | inr e ↦ inr e ]
          ]),
    );
    same = same;
    asked = λ text lt bs told out h.
        subst (λ (x : Stored). new.store.reads ≤ old.store.reads + tries * (4 + length (played x text).reads)) (read_alike bs (stored_in reader bs) out (reads_as bs told) h)
        (asked_most tries (4 + asked.0) (4 + length (played (stored_in reader bs) text).reads) _ _ old.store.faults new.store.faults old.store.reads new.store.reads old.store.outcomes new.store.outcomes (four_more asked.0 (length (played (stored_in reader bs) text).reads) (asked.2 text lt bs told)) whole_asked);
    asked_refused = λ bs told b h. absurd (read_once bs (stored_in reader bs) b (reads_as bs told) h);
    front = λ not_ok text lt bs told out h.
        subst (λ (x : Stored). WrotePrefix (played x text).items old.out.parts new.out.parts old.out.notes new.out.notes) (read_alike bs (stored_in reader bs) out (reads_as bs told) h)
        (wrote_front (played (stored_in reader bs) text).items [] (played (stored_in reader bs) text).items old.out.parts new.out.parts old.out.notes new.out.notes (sym (append-nil (played (stored_in reader bs) text).items))
        (wrote_none (played (stored_in reader bs) text).items old.out.parts p1 new.out.parts old.out.notes n1 new.out.notes (all text lt bs told).wrote (not_noted not_ok)));
    unaccepted = λ bs told b h. absurd (read_once bs (stored_in reader bs) b (reads_as bs told) h);
    faithful = λ M params b bs told e. (faithful M params b bs e, λ x at. other_than (status.BadStore x) (λ h. cc) (λ h. cc) (λ h. cc) at);
    conforming = λ bs told out h. cuts_conform bs out h;
  }
    where
      four_more : (a b : ℕ) → a ≤ b → 4 + a ≤ 4 + b
      four_more a b h = omega arith

-- what was opened, before a record was looked at
pub open_start : (told told' : Option Bytes) (reader : ReaderState) (graph : GraphState) → told' ≡ told → IsOpened told reader graph → IsOpen told' reader graph
open_start told told' reader graph same o = record {
  bytes = o.bytes;
  held = subst (λ t. ForSome t (λ bs. bs ≡ o.bytes)) (sym same) o.held;
  read = o.read;
  reader = o.reader;
  graph = ap (λ (g : GraphState). record { l = g.l; records = g.records; tests = 0 }) o.graph;
}

-- calls that were all answered, by how many
pub counted_asked : (tries n : ℕ) (f f' r r' : ℕ) (o o' : Option (List Bool)) → HasCounted tries 4 n f f' r r' o o' → HasAsked tries 4 true false f f' r r' o o'
counted_asked tries n f f' r r' o o' h = record {
  answers = h.answers;
  asked = h.asked;
  few = (let a = h.few in let b = h.count in omega (arith, a, b));
  all_answered = λ e. h.count ∙ h.all_answered;
  all_failed = λ e. absurd (apart e);
}
  where
    apart : ◌≡◌ {A = Bool} false true → ⊥
    apart e = cc

pub note_of_replay : (s : Status) → (s ≡ status.OutFault) ⊎ (s ≡ status.Memory) → IsOfReplay s
note_of_replay s is = elim is [ inl e ↦ subst IsOfReplay (sym e) tt | inr e ↦ subst IsOfReplay (sym e) tt ]

-- memory ran out before a device was touched
pub replay_unstarted : (tries : ℕ) (s : Seen) (untouched : Type 0) → untouched → ReplayRun tries s s untouched status.Memory
replay_unstarted tries s untouched still = record {
  ok = λ e. absurd cc;
  refused = λ b e. absurd cc;
  bad_line = λ l e. absurd cc;
  script_fault = λ e. absurd cc;
  fault = λ at e. absurd cc;
  head = λ e. still;
  spent = λ i e. absurd cc;
  complete = λ text _ bs told ns nr na. (λ b h. inr refl, λ out h. inr refl);
  same = refl;
  asked = λ text _ bs told out h. omega arith;
  asked_refused = λ bs told b h. omega arith;
  front = λ not_ok text _ bs told out h. none_yet _ s.out.parts s.out.parts s.out.notes s.out.notes refl refl;
  unaccepted = λ bs told b h. nothing s.out.parts s.out.parts s.out.notes s.out.notes refl refl;
  faithful = λ M params b bs told e. (faithful M params b bs e, λ x at. cc);
  conforming = λ bs told out h. cuts_conform bs out h;
}

-- an answer that `replay` has not
pub not_replayed : (answer other : Status) → IsOfReplay answer → (IsOfReplay other → ⊥) → answer ≡ other → ⊥
not_replayed answer other is isnt_so e = isnt_so (subst IsOfReplay e is)
