-- What `clap` takes of the words of options, and what it refuses, by the options that the words spell.
use Rattle.std.proofs.Common.{◌≡◌, ◌∙◌, Bool, true, false, cond, not, ◌&&◌, refl, sym, ap, ap₂, subst, List, [], ◌∷◌, ◌++◌, map, Option, Some, None, true≢false, append-nil, append_assoc, suc, ◌==◌, arith}
use Rattle.std.specs.List.{fold, list_all, list_any}
use Rattle.std.specs.Str.{bytes_eq}
use Rattle.clap.specs.Simple.{Shape}
use Rattle.clap.specs.Walk.{Held, Rule, Text, Walk, settled, walked}
use Rattle.clap.specs.Lexer.{long_of, short_of}
use Rattle.clap.specs.Faults.{turn_fault, walk_fault}
use Rattle.clap.specs.Kinds.{Kinds, or_else}
use Rattle.clap.proofs.CutLemmas.{Lacks}
use Rattle.clap.proofs.SimpleLemmas.{is_false}
use Rattle.clap.proofs.WalkLemmas.{both}
use Rattle.clap.proofs.LexerLemmas.{name_and_value-at, name_and_value-without}
use Rattle.command_words.specs.Words.{Given, is_named, and_then, given_in, is_equals, parts_of}
use Rattle.command_words.proofs.Givens.{attached, bare, other, by_equals, cut_at, form_of, given_alone, given_joined, given_paired, lacks_equals, parts_at}
use Rattle.command_words.proofs.Parses.{IsKnown, Use, attached_next, attached_turn, fails_not, fault_from, flag_next, flag_turn, held, is_known, is_new, is_seen, joined, next_word, option_fails, or_second, passes_on, ready, ready_shape, settled_is, settles, stands, stray_fails, twice, unknown_fails, value_passes, value_turn, waits_for, waits_in_vain}

-- ---- options without their dashes

abbrev pub dashed : Use → Given
dashed u = (45 ∷ 45 ∷ u.0, u.1)

-- each is new behind those that were read
abbrev pub are_new : List Use → List Use → Bool
are_new us [] = true
are_new us (u ∷ more) = not (is_seen u.0 us) && are_new (us ++ u ∷ []) more

abbrev pub are_known : List Text → List Use → Bool
are_known options = list_all (λ u. is_known options u.0)

abbrev pub is_word : Text → Bool
is_word word = not (bytes_eq word (45 ∷ 45 ∷ []))

new_by : (b : Bool) (k : Kinds) → or_else (cond b [] twice) k ≡ [] → b ≡ true
new_by true k e = refl
new_by false k e = absurd (fails_not _ _ e)

unseen_by : (b : Bool) → cond b twice [] ≡ [] → b ≡ false
unseen_by true e = absurd (fails_not _ _ e)
unseen_by false e = refl

unless_new : (b : Bool) → cond b [] twice ≡ [] → b ≡ true
unless_new true e = refl
unless_new false e = absurd (fails_not _ _ e)

-- ---- what passes is a list of options

-- from a walk that stands, the words spell these options
pub record Reads (options : List Text) (us : List Use) (p : Option Use) (words : List Text) (end : Held) : Type 0 where
  pub more : List Use
  pub spelt : given_in words ≡ Some (map dashed more)
  pub known : are_known options more ≡ true
  pub last : is_new us p ≡ true
  pub new : are_new (joined us p) more ≡ true
  pub rows : settled (map ready options) end ≡ held (joined us p ++ more) None

-- the words begin with a value that is waited for
pub record ReadsValue (name : Text) (options : List Text) (us : List Use) (n : Text) (words : List Text) : Type 0 where
  pub value : Text
  pub rest : List Text
  pub are : words ≡ value ∷ rest
  pub reads : Reads options us (Some (n, value)) rest (fold (walked (map ready options) []) (waits_for us n) words).held

module _ (name : Text) (options : List Text) where
  abbrev shape : Shape
  shape = ready_shape name options

  abbrev rules : List Rule
  rules = map ready options

  abbrev end_of : Walk → List Text → Held
  end_of w words = (fold (walked rules []) w words).held

  reads_attached : (us : List Use) (p : Option Use) (word n v : Text) (words : List Text) → IsKnown options p → is_word word ≡ true → long_of word ≡ Some (n, Some v)
      → list_any is_equals word ≡ true → parts_of word ≡ (45 ∷ 45 ∷ n, v)
      → ((us : List Use) (p : Option Use) → IsKnown options p → fault_from shape (stands us p) words ≡ [] → Reads options us p words (end_of (stands us p) words))
      → fault_from shape (stands us p) (word ∷ words) ≡ [] → (b : Bool) → is_known options n ≡ b → Reads options us p (word ∷ words) (end_of (stands us p) (word ∷ words))
  reads_attached us p word n v words known word_is long equals parts rest e false own =
      absurd (unknown_fails name options us p word n (Some v) (is_false _ word_is) long own (passes_on name options (stands us p) word words e).0)
  reads_attached us p word n v words known word_is long equals parts rest e true own =
      let dashes = is_false _ word_is in
      let on = passes_on name options (stands us p) word words e in
      let turn = sym (attached_turn name options us p word n v known dashes long own) ∙ on.0 in
      let new = new_by (is_new us p) _ turn in
      let fresh = unseen_by (is_seen n (joined us p)) (or_second (cond (is_new us p) [] twice) _ turn) in
      let next = attached_next name options us p word n v known dashes long own new fresh in
      let tail = rest (joined us p ++ (n, v) ∷ []) None tt (ap (λ w. fault_from shape w words) (sym next) ∙ on.1) in
      record {
        more = (n, v) ∷ tail.more;
        spelt = given_joined word words equals ∙ ap₂ (λ g gs. and_then g gs) parts tail.spelt;
        known = ap₂ (λ a b. a && b) own tail.known;
        last = new;
        new = ap₂ (λ a b. not a && b) fresh tail.new;
        rows = ap (λ w. settled rules (fold (walked rules []) w words).held) next ∙ tail.rows
            ∙ ap (λ us. held us None) (append_assoc (joined us p) ((n, v) ∷ []) tail.more);
      }

  reads_bare : (us : List Use) (p : Option Use) (word n : Text) (words : List Text) → IsKnown options p → is_word word ≡ true → long_of word ≡ Some (n, None)
      → list_any is_equals word ≡ false → word ≡ 45 ∷ 45 ∷ n
      → ((us : List Use) (n : Text) → is_known options n ≡ true → fault_from shape (waits_for us n) words ≡ [] → ReadsValue name options us n words)
      → fault_from shape (stands us p) (word ∷ words) ≡ [] → (b : Bool) → is_known options n ≡ b → Reads options us p (word ∷ words) (end_of (stands us p) (word ∷ words))
  reads_bare us p word n words known word_is long equals is rest e false own =
      absurd (unknown_fails name options us p word n None (is_false _ word_is) long own (passes_on name options (stands us p) word words e).0)
  reads_bare us p word n words known word_is long equals is rest e true own =
      let dashes = is_false _ word_is in
      let on = passes_on name options (stands us p) word words e in
      let new = unless_new (is_new us p) (sym (flag_turn name options us p word n known dashes long own) ∙ on.0) in
      let next = flag_next name options us p word n known dashes long own new in
      let value = rest (joined us p) n own (ap (λ w. fault_from shape w words) (sym next) ∙ on.1) in
      let tail = value.reads in
      record {
        more = (n, value.value) ∷ tail.more;
        spelt = ap (λ ws. given_in (word ∷ ws)) value.are ∙ given_paired word value.value value.rest equals
            ∙ ap₂ (λ (w : Text) gs. and_then (w, value.value) gs) is tail.spelt;
        known = ap₂ (λ a b. a && b) own tail.known;
        last = new;
        new = ap₂ (λ a b. a && b) tail.last tail.new;
        rows = ap (λ w. settled rules (fold (walked rules []) w words).held) next ∙ tail.rows
            ∙ ap (λ us. held us None) (append_assoc (joined us p) ((n, value.value) ∷ []) tail.more);
      }

  reads_word : (us : List Use) (p : Option Use) (word : Text) (words : List Text) → IsKnown options p → is_word word ≡ true
      → ((us : List Use) (p : Option Use) → IsKnown options p → fault_from shape (stands us p) words ≡ [] → Reads options us p words (end_of (stands us p) words))
      → ((us : List Use) (n : Text) → is_known options n ≡ true → fault_from shape (waits_for us n) words ≡ [] → ReadsValue name options us n words)
      → fault_from shape (stands us p) (word ∷ words) ≡ [] → Reads options us p (word ∷ words) (end_of (stands us p) (word ∷ words))
  reads_word us p word words known word_is rest value e = elim (form_of word (is_false _ word_is)) [
    | attached n v long equals parts ↦ reads_attached us p word n v words known word_is long equals parts rest e (is_known options n) refl
    | bare n long equals is ↦ reads_bare us p word n words known word_is long equals is value e (is_known options n) refl
    | other long ↦ absurd (stray_fails name options us p word (is_false _ word_is) long (passes_on name options (stands us p) word words e).0)
  ]

  reads_value : (us : List Use) (n v : Text) (words : List Text) → is_known options n ≡ true → is_word v ≡ true
      → ((us : List Use) (p : Option Use) → IsKnown options p → fault_from shape (stands us p) words ≡ [] → Reads options us p words (end_of (stands us p) words))
      → fault_from shape (waits_for us n) (v ∷ words) ≡ [] → ReadsValue name options us n (v ∷ words)
  reads_value us n v words own word_is rest e = go (long_of v) refl
    where
      go : (o : Option (Text × Option Text)) → long_of v ≡ o → ReadsValue name options us n (v ∷ words)
      go (Some q) long = absurd (option_fails name options us n v q.0 q.1 own (is_false _ word_is) long (passes_on name options (waits_for us n) v words e).0)
      go None long =
          let on = passes_on name options (waits_for us n) v words e in
          let next = value_turn name options us n v own (is_false _ word_is) long on.0 in
          let tail = rest us (Some (n, v)) own (ap (λ w. fault_from shape w words) (sym next) ∙ on.1) in
          record {
            value = v;
            rest = words;
            are = refl;
            reads = record {
              more = tail.more;
              spelt = tail.spelt;
              known = tail.known;
              last = tail.last;
              new = tail.new;
              rows = ap (λ w. settled rules (fold (walked rules []) w words).held) next ∙ tail.rows;
            };
          }

  pub what_passes : (us : List Use) (p : Option Use) (words : List Text) → IsKnown options p → list_all is_word words ≡ true
      → fault_from shape (stands us p) words ≡ [] → Reads options us p words (end_of (stands us p) words)
  unfolding walk_fault given_in
  what_passes us p [] known words_are e =
      let new = unless_new (is_new us p) (sym (settles options us p known) ∙ e) in
      record {
        more = [];
        spelt = refl;
        known = refl;
        last = new;
        new = refl;
        rows = settled_is options us p known new ∙ ap (λ us. held us None) (sym (append-nil (joined us p)));
      }
  what_passes us p (word ∷ []) known words_are e =
      reads_word us p word [] known (both (is_word word) _ words_are).0 (λ us p k f. what_passes us p [] k refl f)
      (λ us n k f. absurd (waits_in_vain name options us n k f)) e
  what_passes us p (word ∷ v ∷ words) known words_are e =
      let here = both (is_word word) _ words_are in
      let next = both (is_word v) _ here.1 in
      reads_word us p word (v ∷ words) known here.0 (λ us p k f. what_passes us p (v ∷ words) k here.1 f)
      (λ us n k f. reads_value us n v words k next.0 (λ us p k f. what_passes us p words k next.1 f) f) e

-- ---- a list of options passes

-- no dash stands first
abbrev pub is_plain : Text → Bool
is_plain [] = true
is_plain (c ∷ cs) = not (c == 45)

abbrev pub are_plain : List Use → Bool
are_plain = list_all (λ u. is_plain u.1)

plain_word : (v : Text) → is_plain v ≡ true → (is_word v ≡ true) × (long_of v ≡ None) × (short_of v ≡ None)
plain_word [] e = (refl, refl, refl)
plain_word (c ∷ cs) e = let no : (c == 45) ≡ false = is_false _ e in rw no (refl, refl, refl)

unnamed : (options : List Text) → list_all is_named options ≡ true → is_known options [] ≡ true → ⊥
unnamed [] named e = true≢false (sym e)
unnamed ([] ∷ os) named e = true≢false (sym named)
unnamed ((c ∷ cs) ∷ os) named e = unnamed os named e

-- an option of a list of options
pub record First (g : Given) (others : Option (List Given)) (more : List Use) : Type 0 where
  pub use_of : Use
  pub rest : List Use
  pub are : more ≡ use_of ∷ rest
  pub is : g ≡ dashed use_of
  pub others_are : others ≡ Some (map dashed rest)

first_of : (g : Given) (others : Option (List Given)) (more : List Use) → and_then g others ≡ Some (map dashed more) → First g others more
first_of g None more e = absurd cc
first_of g (Some gs) [] e = absurd cc
first_of g (Some gs) (u ∷ rest) e = record { use_of = u; rest = rest; are = refl; is = cc; others_are = cc }

no_options : (more : List Use) → None ≡ Some (map dashed more) → ⊥
no_options more e = absurd cc

attached_form : (word : Text) (u : Use) → list_any is_equals word ≡ true → parts_of word ≡ dashed u → (is_word word ≡ true) × (long_of word ≡ Some (u.0, Some u.1))
attached_form word u equals is =
    let c = cut_at word equals in
    let same : (c.0, c.1) ≡ dashed u = sym (ap parts_of c.2 ∙ parts_at c.0 c.1 c.3) ∙ is in
    let name_is : c.0 ≡ 45 ∷ 45 ∷ u.0 = ap (λ (p : Given). p.0) same in
    let value_is : c.1 ≡ u.1 = ap (λ (p : Given). p.1) same in
    let word_is : word ≡ 45 ∷ 45 ∷ (u.0 ++ 61 ∷ u.1) = c.2 ∙ ap₂ (λ (n v : Text). n ++ 61 ∷ v) name_is value_is in
    let lacks : Lacks 61 (45 ∷ 45 ∷ u.0) = subst (Lacks 61) name_is c.3 in
    subst (λ (w : Text). (is_word w ≡ true) × (long_of w ≡ Some (u.0, Some u.1))) (sym word_is) (go u.0 (λ i lt. lacks (suc (suc i)) (omega arith)))
  where
    go : (n : Text) → Lacks 61 n → (is_word (45 ∷ 45 ∷ (n ++ 61 ∷ u.1)) ≡ true) × (long_of (45 ∷ 45 ∷ (n ++ 61 ∷ u.1)) ≡ Some (n, Some u.1))
    go [] lacks = (refl, ap (λ p. Some p) (name_and_value-at [] u.1 lacks))
    go (x ∷ xs) lacks = (refl, ap (λ p. Some p) (name_and_value-at (x ∷ xs) u.1 lacks))

bare_form : (n : Text) → list_any is_equals (45 ∷ 45 ∷ n) ≡ false → (n ≡ [] → ⊥) → (is_word (45 ∷ 45 ∷ n) ≡ true) × (long_of (45 ∷ 45 ∷ n) ≡ Some (n, None))
bare_form [] equals some = absurd (some refl)
bare_form (x ∷ xs) equals some = (refl, ap (λ p. Some p) (name_and_value-without (x ∷ xs) (lacks_equals (x ∷ xs) equals)))

module _ (name : Text) (options : List Text) (named : list_all is_named options ≡ true) where
  abbrev shape_of : Shape
  shape_of = ready_shape name options

  abbrev Passes : List Use → Option Use → List Text → Type 0
  Passes us p words = (fault_from shape_of (stands us p) words ≡ []) × (list_all is_word words ≡ true)

  goes_on : (w after : Walk) (word : Text) (words : List Text) → turn_fault shape_of [] w word ≡ [] → walked (map ready options) [] w word ≡ after
      → fault_from shape_of after words ≡ [] → fault_from shape_of w (word ∷ words) ≡ []
  goes_on w after word words turn next e =
      next_word name options w word words ∙ ap₂ or_else turn (ap (λ v. fault_from shape_of v words) next ∙ e)

  passes_attached : (us : List Use) (p : Option Use) (word : Text) (words : List Text) (u : Use) (more : List Use) → IsKnown options p → list_any is_equals word ≡ true
      → parts_of word ≡ dashed u → is_new us p ≡ true → are_known options (u ∷ more) ≡ true → are_new (joined us p) (u ∷ more) ≡ true
      → Passes (joined us p ++ u ∷ []) None words → Passes us p (word ∷ words)
  passes_attached us p word words u more known equals is new own fresh rest =
      let form = attached_form word u equals is in
      let dashes = is_false _ form.0 in
      let known_here = (both (is_known options u.0) _ own).0 in
      let unseen = is_false _ (both (not (is_seen u.0 (joined us p))) _ fresh).0 in
      let turn = attached_turn name options us p word u.0 u.1 known dashes form.1 known_here
      ∙ ap₂ (λ a b. or_else (cond a [] twice) (cond b twice [])) new unseen in (
        goes_on (stands us p) _ word words turn (attached_next name options us p word u.0 u.1 known dashes form.1 known_here new unseen) rest.0,
        ap₂ (λ a b. a && b) form.0 rest.1,
      )

  passes_bare : (us : List Use) (p : Option Use) (n v : Text) (words : List Text) (more : List Use) → IsKnown options p → list_any is_equals (45 ∷ 45 ∷ n) ≡ false
      → is_new us p ≡ true → are_known options ((n, v) ∷ more) ≡ true → is_plain v ≡ true
      → Passes (joined us p) (Some (n, v)) words → Passes us p ((45 ∷ 45 ∷ n) ∷ v ∷ words)
  passes_bare us p n v words more known equals new own plain rest =
      let known_here = (both (is_known options n) _ own).0 in
      let form = bare_form n equals (λ e. unnamed options named (ap (is_known options) (sym e) ∙ known_here)) in
      let dashes = is_false _ form.0 in
      let value = plain_word v plain in
      let value_dashes = is_false _ value.0 in
      let turn = flag_turn name options us p (45 ∷ 45 ∷ n) n known dashes form.1 known_here ∙ ap (λ b. cond b [] twice) new in
      let passes = value_passes name options (joined us p) n v known_here value_dashes value.1 value.2 in
      let tail = goes_on (waits_for (joined us p) n) _ v words passes (value_turn name options (joined us p) n v known_here value_dashes value.1 passes) rest.0 in (
        goes_on (stands us p) _ (45 ∷ 45 ∷ n) (v ∷ words) turn (flag_next name options us p (45 ∷ 45 ∷ n) n known dashes form.1 known_here new) tail,
        (λ i. form.0 i && (value.0 i && rest.1 i)),
      )

  -- what is asked of the options that words spell
  abbrev Fine : List Use → List Use → Type 0
  Fine us more = (are_known options more ≡ true) × (are_new us more ≡ true) × (are_plain more ≡ true)

  pass_attached_word : (us : List Use) (p : Option Use) (word : Text) (words : List Text) (more : List Use) → IsKnown options p → list_any is_equals word ≡ true
      → given_in (word ∷ words) ≡ Some (map dashed more) → is_new us p ≡ true → Fine (joined us p) more
      → ((us more : List Use) → given_in words ≡ Some (map dashed more) → Fine us more → Passes us None words) → Passes us p (word ∷ words)
  pass_attached_word us p word words more known equals spelt new fine rest =
      let f = first_of (parts_of word) (given_in words) more (sym (given_joined word words equals) ∙ spelt) in
      let here = subst (Fine (joined us p)) f.are fine in
      passes_attached us p word words f.use_of f.rest known equals f.is new here.0 here.1
      (rest (joined us p ++ f.use_of ∷ []) f.rest f.others_are ((both (is_known options f.use_of.0) _ here.0).1, (both (not (is_seen f.use_of.0 (joined us p))) _ here.1).1, (both (is_plain f.use_of.1) _ here.2).1))

  pass_bare_word : (us : List Use) (p : Option Use) (word v : Text) (words : List Text) (more : List Use) → IsKnown options p → list_any is_equals word ≡ false
      → given_in (word ∷ v ∷ words) ≡ Some (map dashed more) → is_new us p ≡ true → Fine (joined us p) more
      → ((us : List Use) (u : Use) (more : List Use) → is_known options u.0 ≡ true → given_in words ≡ Some (map dashed more) → is_new us (Some u) ≡ true → Fine (us ++ u ∷ []) more
      → Passes us (Some u) words) → Passes us p (word ∷ v ∷ words)
  pass_bare_word us p word v words more known equals spelt new fine rest =
      let f = first_of (word, v) (given_in words) more (sym (given_paired word v words equals) ∙ spelt) in
      let here = subst (Fine (joined us p)) f.are fine in
      let word_is : word ≡ 45 ∷ 45 ∷ f.use_of.0 = ap (λ (g : Given). g.0) f.is in
      let value_is : v ≡ f.use_of.1 = ap (λ (g : Given). g.1) f.is in
      let known_here = (both (is_known options f.use_of.0) _ here.0).0 in
      let fresh = both (not (is_seen f.use_of.0 (joined us p))) _ here.1 in
      let plain = both (is_plain f.use_of.1) _ here.2 in
      let done = passes_bare us p f.use_of.0 f.use_of.1 words f.rest known (ap (list_any is_equals) (sym word_is) ∙ equals) new here.0 plain.0
      (rest (joined us p) f.use_of f.rest known_here f.others_are fresh.0 ((both (is_known options f.use_of.0) _ here.0).1, fresh.1, plain.1)) in
      subst (λ (g : Given). Passes us p (g.0 ∷ g.1 ∷ words)) (sym f.is) done

  -- words that spell options of these names, each once, and values without a dash, pass
  pub options_pass : (us : List Use) (p : Option Use) (words : List Text) (more : List Use) → IsKnown options p → given_in words ≡ Some (map dashed more)
      → is_new us p ≡ true → Fine (joined us p) more → Passes us p words
  unfolding walk_fault
  options_pass us p [] more known spelt new fine = (settles options us p known ∙ ap (λ b. cond b [] twice) new, refl)
  options_pass us p (word ∷ []) more known spelt new fine =
      by_equals word
      (λ equals. pass_attached_word us p word [] more known equals spelt new fine (λ us more spelt fine. options_pass us None [] more tt spelt refl fine))
      (λ none. absurd (no_options more (sym (given_alone word none) ∙ spelt)))
  options_pass us p (word ∷ v ∷ words) more known spelt new fine =
      by_equals word
      (λ equals. pass_attached_word us p word (v ∷ words) more known equals spelt new fine (λ us more spelt fine. options_pass us None (v ∷ words) more tt spelt refl fine))
      (λ none. pass_bare_word us p word v words more known none spelt new fine (λ us u more own spelt new fine. options_pass us (Some u) words more own spelt new fine))
