-- A script on its way: the lines that were played, and what is left.
use Rattle.std.proofs.Common.{◌≡◌, ℕ, zero, suc, ◌+◌, ◌*◌, ◌≤◌, Bool, true, false, List, [], ◌∷◌, ◌++◌, take, length, refl, sym, ◌∙◌, ap, subst, inl, inr, arith, length-append, append_assoc, Option, Some, None}
use Rattle.std.specs.Prelude.{Contains}
use Rattle.std.specs.Option.{ForSome, option_map, option_or}
use Rattle.std.proofs.lemmas.List.{append-nil}
use Rattle.tpz_io.specs.Told.{followed_by}
use Rattle.tpz_io.specs.Writes.{Item, Note, Part, Wrote, WrotePrefix, notes_of, parts_of}
use Rattle.tpz_base.specs.Texts.{Bytes}
use Rattle.tetra_name.proofs.NameFacts.{contains-member, member-contains}
use Rattle.tpz_base.proofs.CutLaw.{Member}
use Rattle.cut_export.proofs.Pieces.{followed_by-append}
use Rattle.script_text.specs.declared.line.Line.{Line}
use Rattle.script_text.specs.declared.line.Line.TheVariants.{Look, Write}
use Rattle.script_text.specs.Commands.{read_line}
use Rattle.script_text.specs.Scripts.{Place, ScriptLines, passed_over, script, script_left, with_lines}
use Rattle.script_text.specs.declared.script.ScriptFault.{ScriptFault}
use Rattle.script_text.specs.declared.script.ScriptFault.TheVariants as scripts
use Rattle.script_text.proofs.ScriptLemmas.{whole_left}
use Rattle.tpz_io.specs.Causes.{Rose}
use Rattle.patch_file.specs.declared.shape.StoreBad.{StoreBad}
use Rattle.run_status.specs.declared.status.Status.{Status}
use Rattle.run_status.specs.declared.status.Status.TheVariants as status
use Rattle.run_status.specs.declared.status.ReadAt.{ReadAt}
use Rattle.run_status.specs.Statuses.{script_status, IsOfLines}
use Rattle.patch_file.specs.Asking.{HasAsked}
use Rattle.patch_file.proofs.AskingLaw.{asked_both, asked_none, asked_refused}
use Rattle.view_cut.specs.Views.{counted_by}
use Rattle.mesh_output.proofs.Exports.{nothing}
use Rattle.patch_file.specs.Reading.{ReaderState}
use Rattle.command_replay.specs.declared.replay.Player.{Player}
use Rattle.command_replay.specs.Plays.{Play, asks, lines_of, play, played_on, shows, start, step}
use Rattle.cut_blocks.specs.WrongBlocks.{Stored, first_wrong}
use Rattle.command_replay.specs.Playing.{HasPlayed, IsPlaying}
use Rattle.cut_blocks.specs.Shown.{is_read_fault, stored_in}
use Rattle.cut_blocks.proofs.OpenLaw.{first_wrong_both}

-- ---- what is written, one after another

parts_both : (a b : List Item) → parts_of (a ++ b) ≡ parts_of a ++ parts_of b
parts_both [] b = refl
parts_both (Part bytes ∷ a) b = ap (λ xs. bytes ∷ xs) (parts_both a b)
parts_both (Note line ∷ a) b = parts_both a b

notes_both : (a b : List Item) → notes_of (a ++ b) ≡ notes_of a ++ notes_of b
notes_both [] b = refl
notes_both (Part bytes ∷ a) b = notes_both a b
notes_both (Note line ∷ a) b = ap (λ xs. (line ++ 10 ∷ []) ++ xs) (notes_both a b) ∙ sym (append_assoc (line ++ 10 ∷ []) (notes_of a) (notes_of b))

pub wrote_both : (a b : List Item) (p0 p1 p2 : Option (List Bytes)) (n0 n1 n2 : Option Bytes) → Wrote a p0 p1 n0 n1 → Wrote b p1 p2 n1 n2 → Wrote (a ++ b) p0 p2 n0 n2
wrote_both a b p0 p1 p2 n0 n1 n2 h k = record {
  parts = k.parts ∙ ap (λ p. followed_by p (parts_of b)) h.parts ∙ followed_by-append p0 (parts_of a) (parts_of b) ∙ ap (followed_by p0) (sym (parts_both a b));
  notes = k.notes ∙ ap (λ n. followed_by n (notes_of b)) h.notes ∙ followed_by-append n0 (notes_of a) (notes_of b) ∙ ap (followed_by n0) (sym (notes_both a b));
}

pub wrote_none : (a : List Item) (p0 p1 p2 : Option (List Bytes)) (n0 n1 n2 : Option Bytes) → Wrote a p0 p1 n0 n1 → Wrote [] p1 p2 n1 n2 → Wrote a p0 p2 n0 n2
wrote_none a p0 p1 p2 n0 n1 n2 h k = subst (λ xs. Wrote xs p0 p2 n0 n2) (append-nil a) (wrote_both a [] p0 p1 p2 n0 n1 n2 h k)

take_front : {X : Type 0} (a b : List X) → take (length a) (a ++ b) ≡ a
take_front [] b = refl
take_front (x ∷ a) b = ap (λ xs. x ∷ xs) (take_front a b)

pub wrote_front : (a b all : List Item) (p0 p1 : Option (List Bytes)) (n0 n1 : Option Bytes) → all ≡ a ++ b → Wrote a p0 p1 n0 n1 → WrotePrefix all p0 p1 n0 n1
wrote_front a b all p0 p1 n0 n1 e h = (length a, subst (λ xs. Wrote xs p0 p1 n0 n1) (sym (ap (take (length a)) e ∙ take_front a b)) h)

-- ---- plays

module _ (out : Stored) where
  pub played_both : (p : Play) (a b : List (Option Line)) → played_on out p (a ++ b) ≡ played_on out (played_on out p a) b
  unfolding played_on
  played_both p [] b = refl
  played_both p (line ∷ a) b = played_both (step out p line) a b

  pub played_passed : (p : Play) (k : ℕ) → played_on out p (passed_over k) ≡ p
  unfolding played_on
  played_passed p zero = refl
  played_passed p (suc k) = played_passed p k

  played_one : (p : Play) (line : Line) → played_on out p (Some line ∷ []) ≡ step out p (Some line)
  unfolding played_on
  played_one p line = refl

  played_nothing : (p : Play) → played_on out p [] ≡ p
  unfolding played_on
  played_nothing p = refl

  -- behind lines that are passed over
  pub play_passed : (done : List (Option Line)) (k : ℕ) → play out (done ++ passed_over k) ≡ play out done
  play_passed done k = played_both start done (passed_over k) ∙ played_passed (play out done) k

  pub play_next : (done : List (Option Line)) (k : ℕ) (line : Line) → play out (done ++ (passed_over k ++ Some line ∷ [])) ≡ step out (play out done) (Some line)
  play_next done k line =
      played_both start done (passed_over k ++ Some line ∷ []) ∙ played_both (play out done) (passed_over k) (Some line ∷ [])
      ∙ ap (λ p. played_on out p (Some line ∷ [])) (played_passed (play out done) k) ∙ played_one (play out done) line

  pub step_items : (p : Play) (line : Line) → (step out p (Some line)).items ≡ p.items ++ shows out p line
  step_items p (Look x y z tol) = sym (append-nil p.items)
  step_items p Write = refl

  pub step_reads : (p : Play) (line : Line) → (step out p (Some line)).reads ≡ p.reads ++ asks out p line
  step_reads p (Look x y z tol) = sym (append-nil p.reads)
  step_reads p Write = refl

  -- further lines add to what is written and read
  pub more_items : (p : Play) (lines : List (Option Line)) → (rest : List Item) × ((played_on out p lines).items ≡ p.items ++ rest)
  unfolding played_on
  more_items p [] = ([], sym (append-nil p.items))
  more_items p (None ∷ lines) = more_items p lines
  more_items p (Some line ∷ lines) =
      let r = more_items (step out p (Some line)) lines in
      (shows out p line ++ r.0, r.1 ∙ ap (λ xs. xs ++ r.0) (step_items p line) ∙ append_assoc p.items (shows out p line) r.0)

  pub more_reads : (p : Play) (lines : List (Option Line)) → (rest : List ℕ) × ((played_on out p lines).reads ≡ p.reads ++ rest)
  unfolding played_on
  more_reads p [] = ([], sym (append-nil p.reads))
  more_reads p (None ∷ lines) = more_reads p lines
  more_reads p (Some line ∷ lines) =
      let r = more_reads (step out p (Some line)) lines in
      (asks out p line ++ r.0, r.1 ∙ ap (λ xs. xs ++ r.0) (step_reads p line) ∙ append_assoc p.reads (asks out p line) r.0)

-- ---- what is left

abbrev pub Lines : Type 0
Lines = ScriptLines Line

same_some : {X : Type 0} (x y : X) → Some x ≡ Some y → x ≡ y
same_some x y e = cc

pub left_there : (script script' : Option Lines) (S : Lines) (done : List (Option Line)) → script ≡ Some S → script ≡ option_map (with_lines done) script' → (s : Lines) × (script' ≡ Some s) × (S ≡ with_lines done s)
left_there script None S done h e = absurd cc
left_there script (Some s) S done h e = (s, refl, same_some S (with_lines done s) (sym h ∙ e))

pub left_next : (script script' script'' : Option Lines) (done more : List (Option Line)) → script ≡ option_map (with_lines done) script' → script' ≡ option_map (with_lines more) script''
    → script ≡ option_map (with_lines (done ++ more)) script''
left_next script script' script'' done more h k = h ∙ ap (option_map (with_lines done)) k ∙ both script'' where
  both : (s : Option Lines) → option_map (with_lines done) (option_map (with_lines more) s) ≡ option_map (with_lines (done ++ more)) s
  both None = refl
  both (Some s) = ap (λ xs. Some (record { lines = xs; bad = s.bad })) (sym (append_assoc done more s.lines))

pub left_none : (script : Option Lines) → script ≡ option_map (with_lines []) script
left_none None = refl
left_none (Some s) = refl

-- ---- what was done

pub record Progress (script script' : Option Lines) (told : Option Bytes) (reader : ReaderState) (player : Player) (tries f f' r r' : ℕ) (o o' : Option (List Bool)) (p0 p1 : Option (List Bytes)) (n0 n1 : Option Bytes) : Type 0 where
  pub done : List (Option Line)
  pub calls : ℕ
  pub left : script ≡ option_map (with_lines done) script'
  pub played : ForSome told (λ bs. HasPlayed (stored_in reader bs) (play (stored_in reader bs) done) player p0 p1 n0 n1)
  pub few : ForSome told (λ bs. calls ≡ length (play (stored_in reader bs) done).reads)
  pub asked : HasAsked tries calls true false f f' r r' o o'

abbrev pub ran : Stored → Lines → Play
ran out S = play out S.lines

module _ (script script' : Option Lines) (told : Option Bytes) (reader : ReaderState) (player : Player) (tries f f' r r' : ℕ) (o o' : Option (List Bool)) (p0 p1 : Option (List Bytes)) (n0 n1 : Option Bytes)
    (pr : Progress script script' told reader player tries f f' r r' o o' p0 p1 n0 n1) where
  -- only lines that are passed over are left
  pub ended : (S : Lines) (k : ℕ) (bad : Option ℕ) → script ≡ Some S → ForSome script' (λ s. s ≡ record { lines = passed_over k; bad = bad })
      → (S.bad ≡ bad) × ((out : Stored) → ran out S ≡ play out pr.done)
  ended S k bad is rest =
      let l = left_there script script' S pr.done is pr.left in
      let all : S ≡ record { lines = pr.done ++ passed_over k; bad = bad } = l.2 ∙ ap (with_lines pr.done) (rest l.0 l.1) in
      (ap (λ (q : Lines). q.bad) all, λ out. ap (λ (q : Lines). play out q.lines) all ∙ play_passed out pr.done k)

  pub ended_well : (S : Lines) (k : ℕ) (bad : Option ℕ) → script ≡ Some S → ForSome script' (λ s. s ≡ record { lines = passed_over k; bad = bad }) → (bs : Bytes) → told ≡ Some bs
      → HasPlayed (stored_in reader bs) (ran (stored_in reader bs) S) player p0 p1 n0 n1
  ended_well S k bad is rest bs tells =
      subst (λ p. HasPlayed (stored_in reader bs) p player p0 p1 n0 n1) (sym ((ended S k bad is rest).1 (stored_in reader bs))) (pr.played bs tells)

  further : (S : Lines) (out : Stored) → script ≡ Some S → (lines : List (Option Line)) × (ran out S ≡ played_on out (play out pr.done) lines)
  further S out is =
      let l = left_there script script' S pr.done is pr.left in
      (l.0.lines, ap (λ (q : Lines). play out q.lines) l.2 ∙ played_both out start pr.done l.0.lines)

  -- what was written is a front of all
  pub front_so_far : (S : Lines) → script ≡ Some S → (bs : Bytes) → told ≡ Some bs → WrotePrefix (ran (stored_in reader bs) S).items p0 p1 n0 n1
  front_so_far S is bs tells =
      let out = stored_in reader bs in
      let m = further S out is in
      let rest = more_items out (play out pr.done) m.0 in
      wrote_front (play out pr.done).items rest.0 (ran out S).items p0 p1 n0 n1 (ap (λ (q : Play). q.items) m.1 ∙ rest.1) (pr.played bs tells).wrote

  pub calls_so_far : (S : Lines) → script ≡ Some S → (bs : Bytes) → told ≡ Some bs → pr.calls ≤ length (ran (stored_in reader bs) S).reads
  calls_so_far S is bs tells =
      let out = stored_in reader bs in
      let m = further S out is in
      let rest = more_reads out (play out pr.done) m.0 in
      let long = ap (λ (q : Play). length q.reads) m.1 ∙ ap length rest.1 ∙ length-append (play out pr.done).reads rest.0 in
      let few = pr.few bs tells in
      omega (arith, long, few)

  -- a line that is played next
  module _ (k : ℕ) (line : Line) (script'' : Option Lines) (taken : script' ≡ option_map (with_lines (passed_over k ++ Some line ∷ [])) script'') where
    pub reads_with : (S : Lines) → script ≡ Some S → (out : Stored) → (rest : List ℕ) × ((ran out S).reads ≡ (play out pr.done).reads ++ (asks out (play out pr.done) line ++ rest))
    reads_with S is out =
        let more = passed_over k ++ Some line ∷ [] in
        let l = left_there script script'' S (pr.done ++ more) is (left_next script script' script'' pr.done more pr.left taken) in
        let all : ran out S ≡ played_on out (step out (play out pr.done) (Some line)) l.0.lines
        = ap (λ (q : Lines). play out q.lines) l.2 ∙ played_both out start (pr.done ++ more) l.0.lines ∙ ap (λ p. played_on out p l.0.lines) (play_next out pr.done k line) in
        let rest = more_reads out (step out (play out pr.done) (Some line)) l.0.lines in (
          rest.0,
          ap (λ (q : Play). q.reads) all ∙ rest.1 ∙ ap (λ xs. xs ++ rest.0) (step_reads out (play out pr.done) line) ∙ append_assoc (play out pr.done).reads (asks out (play out pr.done) line) rest.0,
        )

    pub wrong_with : (S : Lines) → script ≡ Some S → (bs : Bytes) → told ≡ Some bs → (w : ℕ × ℕ) → first_wrong (stored_in reader bs).0 (asks (stored_in reader bs) (play (stored_in reader bs) pr.done) line) ≡ Some w
        → first_wrong (stored_in reader bs).0 (ran (stored_in reader bs) S).reads ≡ Some w
    wrong_with S is bs tells w wrong =
        let out = stored_in reader bs in
        let p = play out pr.done in
        let e = reads_with S is out in
        ap (first_wrong out.0) e.1 ∙ first_wrong_both out.0 p.reads (asks out p line ++ e.0) ∙ ap (λ q. option_or q (first_wrong out.0 (asks out p line ++ e.0))) (pr.played bs tells).right
        ∙ first_wrong_both out.0 (asks out p line) e.0 ∙ ap (λ q. option_or q (first_wrong out.0 e.0)) wrong

    pub spent_with : (S : Lines) → script ≡ Some S → (bs : Bytes) → told ≡ Some bs → (i : ℕ) → Contains (asks (stored_in reader bs) (play (stored_in reader bs) pr.done) line) i
        → Contains (ran (stored_in reader bs) S).reads i
    spent_with S is bs tells i m =
        let out = stored_in reader bs in
        let p = play out pr.done in
        let e = reads_with S is out in
        member-contains (ran out S).reads i
        (subst (λ xs. Member xs i) (sym e.1) (right_of p.reads (asks out p line ++ e.0) i (left_of (asks out p line) e.0 i (contains-member (asks out p line) i m))))
      where
        left_of : (xs ys : List ℕ) (i : ℕ) → Member xs i → Member (xs ++ ys) i
        left_of [] ys i m = absurd m
        left_of (x ∷ xs) ys i m = elim m [ inl e ↦ inl e | inr n ↦ inr (left_of xs ys i n) ]

        right_of : (xs ys : List ℕ) (i : ℕ) → Member ys i → Member (xs ++ ys) i
        right_of [] ys i m = m
        right_of (x ∷ xs) ys i m = inr (right_of xs ys i m)

    pub calls_with : (S : Lines) → script ≡ Some S → (bs : Bytes) → told ≡ Some bs → (n : ℕ) → n ≡ length (asks (stored_in reader bs) (play (stored_in reader bs) pr.done) line)
        → pr.calls + n ≤ length (ran (stored_in reader bs) S).reads
    calls_with S is bs tells n few =
        let out = stored_in reader bs in
        let p = play out pr.done in
        let e = reads_with S is out in
        let long = ap length e.1 ∙ length-append p.reads (asks out p line ++ e.0) in
        let long' = length-append (asks out p line) e.0 in
        let so_far = pr.few bs tells in
        omega (arith, long, long', so_far, few)

    -- it was played
    pub progressed : (player' : Player) (f'' r'' n : ℕ) (o'' : Option (List Bool)) (p2 : Option (List Bytes)) (n2 : Option Bytes)
        → ForSome told (λ bs. (p : Play) → IsPlaying (stored_in reader bs) p player → IsPlaying (stored_in reader bs) (step (stored_in reader bs) p (Some line)) player')
        → ForSome told (λ bs. (p : Play) → IsPlaying (stored_in reader bs) p player → Wrote (shows (stored_in reader bs) p line) p1 p2 n1 n2)
        → ForSome told (λ bs. (p : Play) → IsPlaying (stored_in reader bs) p player → first_wrong (stored_in reader bs).0 (asks (stored_in reader bs) p line) ≡ None)
        → HasAsked tries n true false f' f'' r' r'' o' o''
        → ForSome told (λ bs. (p : Play) → IsPlaying (stored_in reader bs) p player → n ≡ length (asks (stored_in reader bs) p line))
        → Progress script script'' told reader player' tries f f'' r r'' o o'' p0 p2 n0 n2
    progressed player' f'' r'' n o'' p2 n2 steps wrote right asked few =
        let more = passed_over k ++ Some line ∷ [] in
        record {
          done = pr.done ++ more;
          calls = pr.calls + n;
          left = left_next script script' script'' pr.done more pr.left taken;
          played = λ bs tells.
              let out = stored_in reader bs in
              let p = play out pr.done in
              let before = pr.played bs tells in
              subst (λ q. HasPlayed out q player' p0 p2 n0 n2) (sym (play_next out pr.done k line)) (record {
                playing = steps bs tells p before.playing;
                right = ap (first_wrong out.0) (step_reads out p line) ∙ first_wrong_both out.0 p.reads (asks out p line) ∙ ap (λ q. option_or q (first_wrong out.0 (asks out p line))) before.right
                    ∙ right bs tells p before.playing;
                wrote = subst (λ xs. Wrote xs p0 p2 n0 n2) (sym (step_items out p line)) (wrote_both p.items (shows out p line) p0 p1 p2 n0 n1 n2 before.wrote (wrote bs tells p before.playing));
              });
          few = λ bs tells.
              let out = stored_in reader bs in
              let p = play out pr.done in
              let before = pr.played bs tells in
              let long = ap (λ (q : Play). length q.reads) (play_next out pr.done k line) ∙ ap length (step_reads out p line) ∙ length-append p.reads (asks out p line) in
              let so_far = pr.few bs tells in
              let one = few bs tells p before.playing in
              omega (arith, long, so_far, one);
          asked = asked_both tries pr.calls n false true false f f' f'' r r' r'' o o' o'' pr.asked asked;
        }

-- before the first line
pub begun : (script : Option Lines) (told : Option Bytes) (reader : ReaderState) (player : Player) (tries f r : ℕ) (o : Option (List Bool)) (p : Option (List Bytes)) (n : Option Bytes)
    → player.front ≡ [] → player.parts ≡ 0 → player.graph.tests ≡ 0 → Progress script script told reader player tries f f r r o o p p n n
unfolding played_on first_wrong
begun script told reader player tries f r o p n front parts tests = record {
  done = [];
  calls = 0;
  left = left_none script;
  played = λ bs tells. at (stored_in reader bs);
  few = λ bs tells. sym (none_read (stored_in reader bs));
  asked = asked_none tries f r o;
}
  where
    none_read : (out : Stored) → length (play out []).reads ≡ 0
    none_read out = refl

    no_looks : (m : ℕ) → 0 ≡ counted_by (0 * m) 0
    no_looks m = let e : 0 ≡ 0 * m = omega arith in ap (λ k. counted_by k 0) e

    at : (out : Stored) → HasPlayed out (play out []) player p p n n
    at out = record {
      playing = record { places = front; parts = parts; tests = tests ∙ no_looks (length out.0.records) };
      right = refl;
      wrote = nothing p p n n refl refl;
    }

pub lines_told : (place : Place) (told : Option Bytes) (bytes : Bytes) → place ≡ record { held = []; number = 0 } → told ≡ Some bytes → script_left read_line place told ≡ Some (lines_of bytes)
lines_told place told bytes new is = ap (λ (q : Place). script_left read_line q told) new ∙ whole_left read_line told ∙ ap (option_map (script read_line)) is

-- ---- the status of a script that isn't read further

pub script_bad : (f : ScriptFault) (n : ℕ) → script_status f ≡ status.ScriptBad n → f ≡ scripts.Bad n
script_bad (scripts.Bad m) n e = let same : m ≡ n = cc in ap (λ k. scripts.Bad k) same
script_bad scripts.Input n e = absurd cc

pub script_input : (f : ScriptFault) → script_status f ≡ status.ScriptFault → f ≡ scripts.Input
script_input (scripts.Bad m) e = absurd cc
script_input scripts.Input e = refl

pub script_no_bad : (f : ScriptFault) (bad : StoreBad) → script_status f ≡ status.BadStore bad → ⊥
script_no_bad (scripts.Bad m) bad e = cc
script_no_bad scripts.Input bad e = cc

pub script_no_read : (f : ScriptFault) (at : ReadAt) → script_status f ≡ status.ReadFault at → ⊥
script_no_read (scripts.Bad m) at e = cc
script_no_read scripts.Input at e = cc

pub script_no_out : (f : ScriptFault) → script_status f ≡ status.OutFault → ⊥
script_no_out (scripts.Bad m) e = cc
script_no_out scripts.Input e = cc

pub script_of_lines : (f : ScriptFault) → IsOfLines (script_status f)
script_of_lines (scripts.Bad m) = tt
script_of_lines scripts.Input = tt

pub script_unread : (f : ScriptFault) → is_read_fault (script_status f) ≡ false
script_unread (scripts.Bad m) = refl
script_unread scripts.Input = refl

-- reads were made, and then the script wasn't read further
pub asked_script : (tries n : ℕ) (s : Bool) (fault : ScriptFault) (answer : Status) (f f' r r' : ℕ) (o o' : Option (List Bool)) → answer ≡ script_status fault
    → HasAsked tries n true s f f' r r' o o' → HasAsked tries n false (is_read_fault answer) f f' r r' o o'
asked_script tries n s fault answer f f' r r' o o' is h =
    subst (λ b. HasAsked tries n false b f f' r r' o o') (sym (ap is_read_fault is ∙ script_unread fault)) (asked_refused tries n n true s f f' r r' o o' (omega arith) h)

-- a front that was written, and then nothing
pub front_none : (all : List Item) (p0 p1 p2 : Option (List Bytes)) (n0 n1 n2 : Option Bytes) → WrotePrefix all p0 p1 n0 n1 → Wrote [] p1 p2 n1 n2 → WrotePrefix all p0 p2 n0 n2
front_none all p0 p1 p2 n0 n1 n2 h k = (h.0, wrote_none (take h.0 all) p0 p1 p2 n0 n1 n2 h.1 k)

-- a failure behind others
pub rose_later : (a b c : ℕ) → a ≤ b → Rose b c → Rose a c
rose_later a b c h k = omega arith
