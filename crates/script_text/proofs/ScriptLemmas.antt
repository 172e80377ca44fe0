-- The lines of a script, line by line, and what is made of their texts.
use Rattle.std.proofs.Common.{◌≡◌, ℕ, zero, suc, ◌+◌, ◌-◌, ◌<◌, ◌≤◌, List, [], ◌∷◌, ◌++◌, refl, sym, ◌∙◌, ap, arith, Bool, true, false, cond, Option, Some, None, append_assoc}
use Rattle.std.specs.Option.{option_map}
use Rattle.std.specs.Str.Lines.{lines}
use Rattle.std.proofs.lemmas.List.{append-nil}
use Rattle.tpz_io.specs.Told.{ahead}
use Rattle.tpz_base.specs.Texts.{Bytes}
use Rattle.script_text.specs.Scripts.{BeginsOutside, Place, ScriptLines, is_passed_over, is_within, lines_told, meaning, passed_over, script, script_from, script_left, with_lines, with_meaning, with_text}

-- what is left, by its texts
module _ {T : Type 0} (read : Bytes → Option T) where
  of_texts : (place : Place) (told : Option Bytes)
      → script_left read place told ≡ option_map (script_from read (place.number + 1)) (lines_told (ahead place.held told))
  unfolding script_left
  of_texts place told = go (ahead place.held told) where
    go : (bytes : Option Bytes) → option_map (λ bs. script_from read (place.number + 1) (lines bs)) bytes
        ≡ option_map (script_from read (place.number + 1)) (lines_told bytes)
    go None = refl
    go (Some bs) = refl

  -- of a script that isn't begun, all is left
  pub whole_left : (told : Option Bytes) → script_left read (record { held = []; number = 0 }) told ≡ option_map (script read) told
  unfolding script_left
  whole_left None = refl
  whole_left (Some bytes) = refl

  one_of : (number : ℕ) (text : Bytes) (texts : Option (List Bytes))
      → option_map (script_from read number) (with_text text texts)
      ≡ option_map (with_meaning number (meaning read number text)) (option_map (script_from read (number + 1)) texts)
  one_of number text None = refl
  one_of number text (Some ts) = refl

  -- a line that was taken
  pub one_line : (old new : Place) (told told' : Option Bytes) (text : Bytes)
      → lines_told (ahead old.held told) ≡ with_text text (lines_told (ahead new.held told')) → new.number ≡ old.number + 1
      → script_left read old told ≡ option_map (with_meaning new.number (meaning read new.number text)) (script_left read new told')
  one_line old new told told' text taken next =
      of_texts old told ∙ ap (option_map (script_from read (old.number + 1))) taken
      ∙ ap (λ (n : ℕ). option_map (script_from read n) (with_text text (lines_told (ahead new.held told')))) (sym next)
      ∙ one_of new.number text (lines_told (ahead new.held told'))
      ∙ ap (option_map (with_meaning new.number (meaning read new.number text))) (sym (of_texts new told'))

  pub left_end : (place : Place) (told : Option Bytes) → ((texts : List Bytes) → lines_told (ahead place.held told) ≡ Some texts → texts ≡ [])
      → (s : ScriptLines T) → script_left read place told ≡ Some s → s ≡ record { lines = []; bad = None }
  left_end place told end s is = go (lines_told (ahead place.held told)) end (sym (of_texts place told) ∙ is) where
    go : (texts : Option (List Bytes)) → ((ts : List Bytes) → texts ≡ Some ts → ts ≡ []) → option_map (script_from read (place.number + 1)) texts ≡ Some s
        → s ≡ record { lines = []; bad = None }
    go None end is = absurd cc
    go (Some ts) end is = let same : script_from read (place.number + 1) ts ≡ s = cc in
        sym same ∙ ap (script_from read (place.number + 1)) (end ts refl)

  outside_first : (number : ℕ) (texts : List Bytes) → BeginsOutside number texts → script_from read number texts ≡ record { lines = []; bad = Some number }
  outside_first number [] h = absurd h
  outside_first number (text ∷ texts) h = rw h refl

  pub left_bad : (place : Place) (told : Option Bytes) (number : ℕ) → number ≡ place.number + 1
      → ((texts : List Bytes) → lines_told (ahead place.held told) ≡ Some texts → BeginsOutside number texts)
      → (s : ScriptLines T) → script_left read place told ≡ Some s → s ≡ record { lines = []; bad = Some number }
  left_bad place told number next out s is =
      go (lines_told (ahead place.held told)) out
      (ap (λ (n : ℕ). option_map (script_from read n) (lines_told (ahead place.held told))) next ∙ sym (of_texts place told) ∙ is)
    where
      go : (texts : Option (List Bytes)) → ((ts : List Bytes) → texts ≡ Some ts → BeginsOutside number ts) → option_map (script_from read number) texts ≡ Some s
          → s ≡ record { lines = []; bad = Some number }
      go None out is = absurd cc
      go (Some ts) out is = let same : script_from read number ts ≡ s = cc in sym same ∙ outside_first number ts (out ts refl)

-- lines in front of lines
module _ {T : Type 0} where
  front_of_front : (a b : List (Option T)) (s : Option (ScriptLines T))
      → option_map (with_lines a) (option_map (with_lines b) s) ≡ option_map (with_lines (a ++ b)) s
  front_of_front a b None = refl
  front_of_front a b (Some s) =
      ap (λ (ls : List (Option T)). Some (record { lines = ls; bad = s.bad })) (sym (append_assoc a b s.lines))

  pub one_more_passed : (k : ℕ) → passed_over {T = T} k ++ None ∷ [] ≡ passed_over (suc k)
  one_more_passed zero = refl
  one_more_passed (suc k) = ap (λ (ls : List (Option T)). None ∷ ls) (one_more_passed k)

  -- more lines in front of what is left
  pub in_front : (a b : List (Option T)) (old mid new : Option (ScriptLines T)) → old ≡ option_map (with_lines a) mid
      → mid ≡ option_map (with_lines b) new → old ≡ option_map (with_lines (a ++ b)) new
  in_front a b old mid new first second = first ∙ ap (option_map (with_lines a)) second ∙ front_of_front a b new

  none_in_front : (s : Option (ScriptLines T)) → s ≡ option_map (with_lines []) s
  none_in_front None = refl
  none_in_front (Some s) = refl

  pub none_passed : (n : ℕ) (s : Option (ScriptLines T)) → s ≡ option_map (with_lines (passed_over (n - n))) s
  none_passed n s = let nothing : 0 ≡ n - n = omega arith in
      none_in_front s ∙ ap (λ (k : ℕ). option_map (with_lines (passed_over k)) s) nothing

  -- all lines that are left
  pub all_left : (front : List (Option T)) (bad : Option ℕ) (first left : Option (ScriptLines T)) → first ≡ option_map (with_lines front) left
      → ((s : ScriptLines T) → left ≡ Some s → s ≡ record { lines = []; bad = bad })
      → (s : ScriptLines T) → first ≡ Some s → s ≡ record { lines = front; bad = bad }
  all_left front bad first None is rest s told = absurd cc
  all_left front bad first (Some more) is rest s told =
      let same : with_lines front more ≡ s = cc in
      sym same ∙ ap (with_lines front) (rest more refl) ∙ ap (λ (ls : List (Option T)). record { lines = ls; bad = bad }) (append-nil front)

-- what a line within the limits means
module _ {T : Type 0} (read : Bytes → Option T) (number : ℕ) (text : Bytes) (within : is_within number text ≡ true) where
  meaning_passed : is_passed_over text ≡ true → meaning read number text ≡ Some None
  meaning_passed over = rw (within, over) refl

  meaning_read : is_passed_over text ≡ false → meaning read number text ≡ option_map (λ x. Some x) (read text)
  meaning_read over = rw (within, over) refl

-- a line that was taken behind lines that were passed over
pub record Taken (old new : Place) (told told' : Option Bytes) (text : Bytes) : Type 0 where
  pub texts : lines_told (ahead old.held told) ≡ with_text text (lines_told (ahead new.held told'))
  pub next : new.number ≡ old.number + 1
  pub within : is_within new.number text ≡ true

module _ {T : Type 0} (read : Bytes → Option T) (first old new : Place) (start told told' : Option Bytes) (text : Bytes) (taken : Taken old new told told' text)
    (passed : script_left read first start ≡ option_map (with_lines (passed_over (old.number - first.number))) (script_left read old told))
    (stays : first.number ≤ old.number) where
  step : (line : Option T) → meaning read new.number text ≡ Some line
      → script_left read first start ≡ option_map (with_lines (passed_over (old.number - first.number) ++ line ∷ [])) (script_left read new told')
  step line means =
      in_front (passed_over (old.number - first.number)) (line ∷ []) _ _ _ passed
      (one_line read old new told told' text taken.texts taken.next
      ∙ ap (λ (m : Option (Option T)). option_map (with_meaning new.number m) (script_left read new told')) means)

  pub passed_more : is_passed_over text ≡ true
      → script_left read first start ≡ option_map (with_lines (passed_over (new.number - first.number))) (script_left read new told')
  passed_more over =
      let count : suc (old.number - first.number) ≡ new.number - first.number = omega (arith, taken.next) in
      step None (meaning_passed read new.number text taken.within over)
      ∙ ap (λ (ls : List (Option T)). option_map (with_lines ls) (script_left read new told'))
      (one_more_passed (old.number - first.number) ∙ ap (λ (k : ℕ). passed_over k) count)

  pub line_found : is_passed_over text ≡ false → (x : T) → read text ≡ Some x
      → script_left read first start ≡ option_map (with_lines (passed_over (new.number - first.number - 1) ++ Some x ∷ [])) (script_left read new told')
  line_found over x is =
      let count : old.number - first.number ≡ new.number - first.number - 1 = omega (arith, taken.next) in
      step (Some x) (meaning_read read new.number text taken.within over ∙ ap (option_map (λ (y : T). Some y)) is)
      ∙ ap (λ (k : ℕ). option_map (with_lines (passed_over k ++ Some x ∷ [])) (script_left read new told')) count

-- What is read of the texts of a script is what is read of the script.
abbrev again : {T : Type 0} → (Bytes → Option T) → ℕ → List (Option Bytes) → Option ℕ → ScriptLines T
again read number [] bad = record { lines = []; bad = bad }
again read number (None ∷ texts) bad = with_lines (None ∷ []) (again read (number + 1) texts bad)
again read number (Some text ∷ texts) bad = with_meaning number (option_map (λ x. Some x) (read text)) (again read (number + 1) texts bad)

module _ {T : Type 0} (read : Bytes → Option T) where
  again_is : (number : ℕ) (texts : List Bytes) → script_from read number texts
      ≡ again read number (script_from (λ t. Some t) number texts).lines (script_from (λ t. Some t) number texts).bad
  again_is number [] = refl
  again_is number (text ∷ texts) = go (is_within number text) (is_passed_over text) (again_is (number + 1) texts) where
    go : (within over : Bool) → script_from read (number + 1) texts
        ≡ again read (number + 1) (script_from (λ t. Some t) (number + 1) texts).lines (script_from (λ t. Some t) (number + 1) texts).bad
        → with_meaning number (cond within (cond over (Some None) (option_map (λ x. Some x) (read text))) None) (script_from read (number + 1) texts)
        ≡ again read number (with_meaning number (cond within (cond over (Some None) (Some (Some text))) None) (script_from (λ t. Some t) (number + 1) texts)).lines
        (with_meaning number (cond within (cond over (Some None) (Some (Some text))) None) (script_from (λ t. Some t) (number + 1) texts)).bad
    go false over rest = refl
    go true true rest = ap (with_lines (None ∷ [])) rest
    go true false rest = ap (with_meaning number (option_map (λ x. Some x) (read text))) rest

  left_again : (place : Place) (told : Option Bytes) → script_left read place told
      ≡ option_map (λ s. again read (place.number + 1) s.lines s.bad) (script_left (λ t. Some t) place told)
  unfolding script_left
  left_again place told = go (ahead place.held told) where
    go : (bytes : Option Bytes) → option_map (λ bs. script_from read (place.number + 1) (lines bs)) bytes
        ≡ option_map (λ s. again read (place.number + 1) s.lines s.bad) (option_map (λ bs. script_from (λ t. Some t) (place.number + 1) (lines bs)) bytes)
    go None = refl
    go (Some bs) = ap Some (again_is (place.number + 1) (lines bs))

  again_passed : (number k : ℕ) (texts : List (Option Bytes)) (bad : Option ℕ)
      → again read number (passed_over k ++ texts) bad ≡ with_lines (passed_over k) (again read (number + k) texts bad)
  again_passed number zero texts bad = ap (λ (n : ℕ). again read n texts bad) (omega arith)
  again_passed number (suc k) texts bad =
      let count : number + 1 + k ≡ number + suc k = omega arith in
      ap (with_lines (None ∷ [])) (again_passed (number + 1) k texts bad)
      ∙ ap (λ (n : ℕ). with_lines (None ∷ passed_over k) (again read n texts bad)) count

  again_text : (number k : ℕ) (text : Bytes) (x : T) (texts : List (Option Bytes)) (bad : Option ℕ) → read text ≡ Some x
      → again read number ((passed_over k ++ Some text ∷ []) ++ texts) bad
      ≡ with_lines (passed_over k ++ Some x ∷ []) (again read (number + k + 1) texts bad)
  again_text number k text x texts bad is =
      ap (λ (ls : List (Option Bytes)). again read number ls bad) (append_assoc (passed_over k) (Some text ∷ []) texts)
      ∙ again_passed number k (Some text ∷ texts) bad
      ∙ ap (λ (y : Option T). with_lines (passed_over k) (with_meaning (number + k) (option_map (λ z. Some z) y) (again read (number + k + 1) texts bad))) is
      ∙ ap (λ (ls : List (Option T)). record { lines = ls; bad = (again read (number + k + 1) texts bad).bad })
      (sym (append_assoc (passed_over k) (Some x ∷ []) (again read (number + k + 1) texts bad).lines))

  again_refused : (number k : ℕ) (text : Bytes) (texts : List (Option Bytes)) (bad : Option ℕ) → read text ≡ None
      → again read number ((passed_over k ++ Some text ∷ []) ++ texts) bad ≡ record { lines = passed_over k; bad = Some (number + k) }
  again_refused number k text texts bad is =
      ap (λ (ls : List (Option Bytes)). again read number ls bad) (append_assoc (passed_over k) (Some text ∷ []) texts)
      ∙ again_passed number k (Some text ∷ texts) bad
      ∙ ap (λ (y : Option T). with_lines (passed_over k) (with_meaning (number + k) (option_map (λ z. Some z) y) (again read (number + k + 1) texts bad))) is
      ∙ ap (λ (ls : List (Option T)). record { lines = ls; bad = Some (number + k) }) (append-nil (passed_over k))

  again_none : (number k : ℕ) (bad : Option ℕ) → again read number (passed_over k) bad ≡ record { lines = passed_over k; bad = bad }
  again_none number k bad =
      ap (λ (ls : List (Option Bytes)). again read number ls bad) (sym (append-nil (passed_over k)))
      ∙ again_passed number k [] bad ∙ ap (λ (ls : List (Option T)). record { lines = ls; bad = bad }) (append-nil (passed_over k))

  -- The same of what is left.
  pub command_found : (old new : Place) (told told' : Option Bytes) (text : Bytes) (x : T) → old.number < new.number → read text ≡ Some x
      → script_left (λ t. Some t) old told
      ≡ option_map (with_lines (passed_over (new.number - old.number - 1) ++ Some text ∷ [])) (script_left (λ t. Some t) new told')
      → script_left read old told ≡ option_map (with_lines (passed_over (new.number - old.number - 1) ++ Some x ∷ [])) (script_left read new told')
  command_found old new told told' text x rose is taken =
      left_again old told ∙ ap (option_map (λ s. again read (old.number + 1) s.lines s.bad)) taken
      ∙ go (script_left (λ t. Some t) new told')
      ∙ ap (option_map (with_lines (passed_over (new.number - old.number - 1) ++ Some x ∷ []))) (sym (left_again new told'))
    where
      count : old.number + 1 + (new.number - old.number - 1) + 1 ≡ new.number + 1
      count = omega arith

      go : (s : Option (ScriptLines Bytes)) → option_map (λ s. again read (old.number + 1) s.lines s.bad)
          (option_map (with_lines (passed_over (new.number - old.number - 1) ++ Some text ∷ [])) s)
          ≡ option_map (with_lines (passed_over (new.number - old.number - 1) ++ Some x ∷ [])) (option_map (λ s. again read (new.number + 1) s.lines s.bad) s)
      go None = refl
      go (Some s) = ap Some (again_text (old.number + 1) (new.number - old.number - 1) text x s.lines s.bad is
          ∙ ap (λ (n : ℕ). with_lines (passed_over (new.number - old.number - 1) ++ Some x ∷ []) (again read n s.lines s.bad)) count)

  pub command_refused : (old new : Place) (told told' : Option Bytes) (text : Bytes) → old.number < new.number → read text ≡ None
      → script_left (λ t. Some t) old told
      ≡ option_map (with_lines (passed_over (new.number - old.number - 1) ++ Some text ∷ [])) (script_left (λ t. Some t) new told')
      → (s : ScriptLines T) → script_left read old told ≡ Some s
      → s ≡ record { lines = passed_over (new.number - old.number - 1); bad = Some new.number }
  command_refused old new told told' text rose is taken s here =
      go (script_left (λ t. Some t) new told')
      (sym (left_again old told ∙ ap (option_map (λ s. again read (old.number + 1) s.lines s.bad)) taken) ∙ here)
    where
      count : old.number + 1 + (new.number - old.number - 1) ≡ new.number
      count = omega arith

      go : (more : Option (ScriptLines Bytes)) → option_map (λ s. again read (old.number + 1) s.lines s.bad)
          (option_map (with_lines (passed_over (new.number - old.number - 1) ++ Some text ∷ [])) more) ≡ Some s
          → s ≡ record { lines = passed_over (new.number - old.number - 1); bad = Some new.number }
      go None e = absurd cc
      go (Some more) e =
          let same : again read (old.number + 1) ((passed_over (new.number - old.number - 1) ++ Some text ∷ []) ++ more.lines) more.bad ≡ s = cc in
          sym same ∙ again_refused (old.number + 1) (new.number - old.number - 1) text more.lines more.bad is
          ∙ ap (λ (n : ℕ). record { lines = passed_over (new.number - old.number - 1); bad = Some n }) count

  pub all_passed : (old : Place) (told : Option Bytes) (k : ℕ) (bad : Option ℕ)
      → ((s : ScriptLines Bytes) → script_left (λ t. Some t) old told ≡ Some s → s ≡ record { lines = passed_over k; bad = bad })
      → (s : ScriptLines T) → script_left read old told ≡ Some s → s ≡ record { lines = passed_over k; bad = bad }
  all_passed old told k bad texts s here = go (script_left (λ t. Some t) old told) texts (sym (left_again old told) ∙ here) where
    go : (left : Option (ScriptLines Bytes)) → ((s : ScriptLines Bytes) → left ≡ Some s → s ≡ record { lines = passed_over k; bad = bad })
        → option_map (λ s. again read (old.number + 1) s.lines s.bad) left ≡ Some s → s ≡ record { lines = passed_over k; bad = bad }
    go None texts e = absurd cc
    go (Some more) texts e =
        let same : again read (old.number + 1) more.lines more.bad ≡ s = cc in
        sym same ∙ ap (λ (m : ScriptLines Bytes). again read (old.number + 1) m.lines m.bad) (texts more refl) ∙ again_none (old.number + 1) k bad
