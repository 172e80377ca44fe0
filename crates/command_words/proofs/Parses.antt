-- What `clap` makes of the words of options, one word after the other.
use Rattle.std.proofs.Common.{◌≡◌, ◌∙◌, ℕ, Bool, true, false, cond, not, ◌&&◌, ◌||◌, refl, sym, ap, ap₂, List, [], ◌∷◌, ◌++◌, map, length, Option, Some, None, is_some, true≢false, append-nil, ◌⊎◌, inl, inr}
use Rattle.std.proofs.lemmas.List.{map-append}
use Rattle.std.specs.List.{fold, find, list_all, list_any}
use Rattle.std.specs.Str.{bytes_eq, chars}
use Rattle.std.proofs.lemmas.Slice.Eq.{bytes_eq-Decides}
use Rattle.clap.specs.Simple.{Shape, built, filled_from, is_buildable, is_ready, is_ready_leaf, is_simple, new_rule, new_shape}
use Rattle.clap.specs.Walk.{Held, Row, is_early_multiple, Rule, Step, Text, Walk, arg_by_id, arg_by_index, arg_by_long, arg_by_short, after_step, at_row, bundle_met, long_word, next, plain, plain_word, short_or_plain, more_values, has_row, idle, used, option, settled, walked, with_values}
use Rattle.clap.specs.Walk.{finished, nothing_held, walk, walk_from, with_default}
use Rattle.clap.specs.Faults.{built_fault, bundle_fault, flags_fault, long_fault, step_fault, react_fault, turn_fault, use_fault, fault_of, has_free_rules, is_simple_and_free, walk_fault, settle_fault, default_fault, defaults_fault}
use Rattle.clap.proofs.FaultLemmas.{leaf_fault}
use Rattle.clap.proofs.SimpleLemmas.{is_false}
use Rattle.std.specs.Prelude.{count_by, slice_get}
use Rattle.std.specs.Option.{option_map_or}
use Rattle.clap.specs.Lexer.{long_of, short_of}
use Rattle.clap.specs.Kinds.{Kinds, check_kinds, or_else}
use Rattle.clap.specs.Takes.{is_given}
use Rattle.clap.specs.declared.builder.action.ArgAction.TheVariants.{Set}
use Rattle.clap.specs.declared.builder.value_parser.ValueParser.TheVariants as vp
use Rattle.clap.specs.declared.builder.value_parser.Reading.TheVariants.{AsWritten}
use Rattle.clap.specs.declared.parser.matches.ValueSource.TheVariants.{CommandLine}
use Rattle.clap.specs.declared.error.kind.ErrorKind.TheVariants.{ArgumentConflict, UnknownArgument, InvalidValue}
use Rattle.clap.specs.declared.error.kind.ErrorKind.{ErrorKind}
use Rattle.command_words.specs.Parses.{option_rule, options_app}

-- ---- the command as it is built

-- an option as building leaves it
abbrev pub ready : Text → Rule
ready name = record (new_rule name) {
  long = Some name;
  action = Some Set;
  parser = Some vp.String;
  range = Some (record { start_inclusive = 1; end_inclusive = 1 });
}

abbrev pub ready_shape : Text → List Text → Shape
ready_shape name options = record (new_shape name) {
  rules = map ready options;
  no_binary_name = true;
  disable_help_flag = true;
  disable_version_flag = true;
  disable_help_subcommand = true;
  is_built = true;
}

pub filled_ready : (options : List Text) → filled_from 1 (map option_rule options) ≡ map ready options
filled_ready [] = refl
filled_ready (o ∷ os) = ap (λ rs. ready o ∷ rs) (filled_ready os)

pub built_is : (name : Text) (options : List Text) → built (options_app name options) ≡ record { top = ready_shape name options; subs = [] }
built_is name options = ap (λ rs. record { top = record (ready_shape name []) { rules = rs }; subs = [] }) (filled_ready options)

-- ---- the names

find_ready : (p : Rule → Bool) (f : Text → Text → Bool) (n : Text) → ((o : Text) → p (ready o) ≡ f o n) → ((o : Text) → f o n ≡ true → o ≡ n) → (options : List Text)
    → (list_any (λ o. f o n) options ≡ true → find p (map ready options) ≡ Some (ready n)) × (list_any (λ o. f o n) options ≡ false → find p (map ready options) ≡ None)
find_ready p f n same is [] = (λ e. absurd (true≢false (sym e)), λ e. refl)
find_ready p f n same is (o ∷ os) = go (f o n) refl (find_ready p f n same is os)
  where
    go : (b : Bool) → f o n ≡ b
        → (list_any (λ q. f q n) os ≡ true → find p (map ready os) ≡ Some (ready n)) × (list_any (λ q. f q n) os ≡ false → find p (map ready os) ≡ None)
        → ((f o n || list_any (λ q. f q n) os) ≡ true → find p (map ready (o ∷ os)) ≡ Some (ready n))
        × ((f o n || list_any (λ q. f q n) os) ≡ false → find p (map ready (o ∷ os)) ≡ None)
    go true hit rest = rw (same o, hit) (λ e. ap (λ q. Some (ready q)) (is o hit), λ e. absurd (true≢false e))
    go false miss rest = rw (same o, miss) rest

id_left : (b : Bool) → (b || false) ≡ b
id_left true = refl
id_left false = refl

pub by_long : (n : Text) (options : List Text)
    → (list_any (λ o. bytes_eq o n) options ≡ true → arg_by_long (map ready options) n ≡ Some (ready n)) × (list_any (λ o. bytes_eq o n) options ≡ false → arg_by_long (map ready options) n ≡ None)
by_long n = find_ready _ bytes_eq n (λ o. id_left (bytes_eq o n)) (λ o. (bytes_eq-Decides o n).0)

pub by_id : (n : Text) (options : List Text)
    → (list_any (λ o. bytes_eq o n) options ≡ true → arg_by_id (map ready options) n ≡ Some (ready n)) × (list_any (λ o. bytes_eq o n) options ≡ false → arg_by_id (map ready options) n ≡ None)
by_id n = find_ready _ bytes_eq n (λ o. refl) (λ o. (bytes_eq-Decides o n).0)

pub no_short : (options : List Text) (x : ℕ) → arg_by_short (map ready options) x ≡ None
no_short [] x = refl
no_short (o ∷ os) x = no_short os x

pub no_index : (options : List Text) (i : ℕ) → arg_by_index (map ready options) i ≡ None
no_index [] i = refl
no_index (o ∷ os) i = no_index os i

-- ---- the command is simple, and no option has a rule on another

all_map : (p : Rule → Bool) (f : Text → Rule) → ((o : Text) → p (f o) ≡ true) → (options : List Text) → list_all p (map f options) ≡ true
all_map p f each [] = refl
all_map p f each (o ∷ os) = ap₂ (λ x y. x && y) (each o) (all_map p f each os)

none_map : (p : Rule → Bool) (f : Text → Rule) → ((o : Text) → p (f o) ≡ false) → (options : List Text) → list_any p (map f options) ≡ false
none_map p f each [] = refl
none_map p f each (o ∷ os) = ap₂ (λ x y. x || y) (each o) (none_map p f each os)

pub simple_options : (name : Text) (options : List Text) → is_simple (options_app name options) ≡ true
simple_options name options =
    ap (λ b. is_buildable (options_app name options) && (is_ready b.top && list_all is_ready_leaf b.subs)) (built_is name options)
    ∙ (λ i. ((true && all_map (λ a. a.is_simple) option_rule (λ o. refl) options i) && true)
    && (((true && all_map (λ a. a.is_simple) ready (λ o. refl) options i)
    && not (none_map (is_early_multiple (count_by (λ a. is_some a.index) (map ready options))) ready (λ o. refl) options i)) && true))

pub free_options : (name : Text) (options : List Text) → is_simple_and_free (options_app name options) ≡ true
free_options name options =
    ap₂ (λ x y. x && y) (simple_options name options)
    (ap (λ b. has_free_rules b.top && list_all has_free_rules b.subs) (built_is name options) ∙ (λ i. all_map (λ a. a.is_free) ready (λ o. refl) options i && true))

-- ---- after the walk, nothing more can fail

default_stays : (rows : List Row) (o : Text) → (default_fault rows (ready o) ≡ []) × (with_default rows (ready o) ≡ rows)
default_stays rows o = go (has_row o rows) refl
  where
    go : (b : Bool) → has_row o rows ≡ b → (default_fault rows (ready o) ≡ []) × (with_default rows (ready o) ≡ rows)
    go true e = rw e (refl, refl)
    go false e = rw e (refl, refl)

no_defaults : (rows : List Row) (options : List Text) → defaults_fault rows (map ready options) ≡ []
unfolding defaults_fault
no_defaults rows [] = refl
no_defaults rows (o ∷ os) =
    let stays = default_stays rows o in
    ap₂ (λ k r. or_else k (defaults_fault r (map ready os))) stays.0 stays.1 ∙ no_defaults rows os

pub finished_is : (options : List Text) (rows : List Row) → fold with_default rows (map ready options) ≡ rows
finished_is [] rows = refl
finished_is (o ∷ os) rows = ap (λ r. fold with_default r (map ready os)) (default_stays rows o).1 ∙ finished_is os rows

-- what fails from here on, the use of what is pending at the end included
abbrev pub fault_from : Shape → Walk → List Text → Kinds
fault_from s w words = or_else (walk_fault s [] w words) (settle_fault s.rules false (fold (walked s.rules []) w words).held)

or_none : (k : Kinds) → or_else k [] ≡ k
or_none [] = refl
or_none (k ∷ ks) = refl

pub fault_is : (name : Text) (options : List Text) (words : List Text)
    → fault_of (options_app name options) words ≡ fault_from (ready_shape name options) (walk_from nothing_held) words
fault_is name options words =
    let s = ready_shape name options in
    let end = (walk s.rules [] nothing_held words).held in
    ap (λ b. built_fault b nothing_held words) (built_is name options)
    ∙ leaf_fault (record { top = s; subs = [] }) nothing_held words refl
    ∙ (λ i. or_else (walk_fault s [] (walk_from nothing_held) words) (or_else (settle_fault s.rules false end)
    (or_else (no_defaults (settled s.rules end).rows options i)
    (check_kinds false false (true && none_map (λ a. a.required && not (is_given a.id (finished s.rules end))) ready (λ o. refl) options i)))))
    ∙ ap (or_else (walk_fault s [] (walk_from nothing_held) words)) (or_none (settle_fault s.rules false end))

-- ---- the rows of options that were read

-- an option that was read, with its value
abbrev pub Use : Type 0
Use = Text × Text

abbrev pub row : Use → Row
row u = record { id = u.0; values = u.1 ∷ []; count = None; source = Some CommandLine; reading = AsWritten }

-- the name is among those that were read
abbrev pub is_seen : Text → List Use → Bool
is_seen n us = has_row n (map row us)

at_missing : (n : Text) (change : Row → List Row) (missing : List Row) (rs : List Row) → has_row n rs ≡ false → at_row n change missing rs ≡ rs ++ missing
at_missing n change missing [] e = refl
at_missing n change missing (r ∷ rs) e = go (bytes_eq r.id n) refl e (at_missing n change missing rs)
  where
    go : (b : Bool) → bytes_eq r.id n ≡ b → (b || has_row n rs) ≡ false → (has_row n rs ≡ false → at_row n change missing rs ≡ rs ++ missing)
        → at_row n change missing (r ∷ rs) ≡ r ∷ (rs ++ missing)
    go true is e rest = absurd (true≢false e)
    go false is e rest = rw is (ap (λ xs. r ∷ xs) (rest e))

-- a new option goes to the end of the rows
pub new_row : (n v : Text) (us : List Use) → is_seen n us ≡ false → used (ready n) (v ∷ []) (map row us) ≡ map row (us ++ (n, v) ∷ [])
new_row n v us e =
    ap (λ rs. with_values n AsWritten CommandLine (v ∷ []) rs) (at_missing n (λ _. []) [] (map row us) e ∙ append-nil (map row us))
    ∙ at_missing n (more_values CommandLine (v ∷ [])) (row (n, v) ∷ []) (map row us) e ∙ sym (map-append row us ((n, v) ∷ []))

-- ---- where the walk stands between two options

-- the last option may not be a row yet
abbrev pub held : List Use → Option Use → Held
held us None = record { rows = map row us; pending = None; skip = 0 }
held us (Some u) = record { rows = map row us; pending = Some (u.0, u.1 ∷ []); skip = 0 }

abbrev pub is_new : List Use → Option Use → Bool
is_new us None = true
is_new us (Some u) = not (is_seen u.0 us)

abbrev pub joined : List Use → Option Use → List Use
joined us None = us
joined us (Some u) = us ++ u ∷ []

abbrev pub is_known : List Text → Text → Bool
is_known options n = list_any (λ o. bytes_eq o n) options

abbrev pub IsKnown : List Text → Option Use → Type 0
IsKnown options None = Unit {0}
IsKnown options (Some u) = is_known options u.0 ≡ true

abbrev pub twice : Kinds
twice = ArgumentConflict ∷ []

abbrev pub stands : List Use → Option Use → Walk
stands us p = record { held = held us p; waiting = idle; position = 1; is_trailing = false; stopped = None }

abbrev pub waits_for : List Use → Text → Walk
waits_for us n = record {
  held = record { rows = map row us; pending = Some (n, []); skip = 0 };
  waiting = option n;
  position = 1;
  is_trailing = false;
  stopped = None;
}

-- a use fails exactly where the option was read before
pub use_of : (n v : Text) (us : List Use) → use_fault false (ready n) (v ∷ []) (map row us) ≡ cond (is_seen n us) twice []
use_of n v us = go (is_seen n us) refl
  where
    go : (b : Bool) → is_seen n us ≡ b → use_fault false (ready n) (v ∷ []) (map row us) ≡ cond (is_seen n us) twice []
    go true e = rw e refl
    go false e = rw e refl

cond_not : (b : Bool) → cond b twice [] ≡ cond (not b) [] twice
cond_not true = refl
cond_not false = refl

pub settles : (options : List Text) (us : List Use) (p : Option Use) → IsKnown options p
    → settle_fault (map ready options) false (held us p) ≡ cond (is_new us p) [] twice
settles options us None known = refl
settles options us (Some u) known = rw ((by_id u.0 options).0 known) (use_of u.0 u.1 us ∙ cond_not (is_seen u.0 us))

pub settled_is : (options : List Text) (us : List Use) (p : Option Use) → IsKnown options p → is_new us p ≡ true
    → settled (map ready options) (held us p) ≡ held (joined us p) None
settled_is options us None known new = refl
settled_is options us (Some u) known new =
    rw ((by_id u.0 options).0 known) (ap (λ rs. record { rows = rs; pending = None; skip = 0 }) (new_row u.0 u.1 us (is_false _ new)))

-- ---- the steps of the walk

has_fault : Kinds → Bool
has_fault [] = false
has_fault (k ∷ ks) = true

pub fails_not : (k : ErrorKind) (ks : Kinds) → k ∷ ks ≡ [] → ⊥
unfolding has_fault
fails_not k ks e = true≢false (ap has_fault e)

pub or_first : (a b : Kinds) → or_else a b ≡ [] → a ≡ []
or_first [] b e = refl
or_first (k ∷ ks) b e = e

pub or_second : (a b : Kinds) → or_else a b ≡ [] → b ≡ []
or_second [] b e = e
or_second (k ∷ ks) b e = absurd (fails_not k ks e)

or_joined : (a b c : Kinds) → or_else (or_else a b) c ≡ or_else a (or_else b c)
or_joined [] b c = refl
or_joined (k ∷ ks) b c = refl

module _ (name : Text) (options : List Text) where
  abbrev shape : Shape
  shape = ready_shape name options

  abbrev rules : List Rule
  rules = map ready options

  pub next_word : (w : Walk) (word : Text) (words : List Text)
      → fault_from shape w (word ∷ words) ≡ or_else (turn_fault shape [] w word) (fault_from shape (walked rules [] w word) words)
  unfolding walk_fault
  next_word w word words = or_joined (turn_fault shape [] w word) _ _

  -- the first word passes, and so do those behind it
  pub passes_on : (w : Walk) (word : Text) (words : List Text) → fault_from shape w (word ∷ words) ≡ []
      → (turn_fault shape [] w word ≡ []) × (fault_from shape (walked rules [] w word) words ≡ [])
  passes_on w word words e =
      let f = sym (next_word w word words) ∙ e in
      (or_first _ _ f, or_second (turn_fault shape [] w word) _ f)

  -- `--NAME=VALUE`
  pub attached_turn : (us : List Use) (p : Option Use) (word n v : Text) → IsKnown options p → bytes_eq word (45 ∷ 45 ∷ []) ≡ false → long_of word ≡ Some (n, Some v)
      → is_known options n ≡ true
      → turn_fault shape [] (stands us p) word ≡ or_else (cond (is_new us p) [] twice) (cond (is_seen n (joined us p)) twice [])
  attached_turn us p word n v known dashes long own =
      rw (dashes, long, (by_long n options).0 own) (or_none (react_fault rules false (ready n) (v ∷ []) (held us p)) ∙ go (is_new us p) refl)
    where
      go : (b : Bool) → is_new us p ≡ b
          → react_fault rules false (ready n) (v ∷ []) (held us p) ≡ or_else (cond (is_new us p) [] twice) (cond (is_seen n (joined us p)) twice [])
      go true e =
          ap₂ (λ (k : Kinds) (h : Held). or_else k (use_fault false (ready n) (v ∷ []) h.rows)) (settles options us p known ∙ ap (λ b. cond b [] twice) e) (settled_is options us p known e)
          ∙ use_of n v (joined us p) ∙ ap (λ b. or_else (cond b [] twice) (cond (is_seen n (joined us p)) twice [])) (sym e)
      go false e =
          ap (λ k. or_else k (use_fault false (ready n) (v ∷ []) (settled rules (held us p)).rows)) (settles options us p known ∙ ap (λ b. cond b [] twice) e)
          ∙ ap (λ b. or_else (cond b [] twice) (cond (is_seen n (joined us p)) twice [])) (sym e)

  pub attached_next : (us : List Use) (p : Option Use) (word n v : Text) → IsKnown options p → bytes_eq word (45 ∷ 45 ∷ []) ≡ false → long_of word ≡ Some (n, Some v)
      → is_known options n ≡ true → is_new us p ≡ true → is_seen n (joined us p) ≡ false
      → walked rules [] (stands us p) word ≡ stands (joined us p ++ (n, v) ∷ []) None
  unfolding walked
  attached_next us p word n v known dashes long own new fresh =
      rw (dashes, long, (by_long n options).0 own)
      (ap (λ (h : Held). record (stands us None) { held = record h { rows = used (ready n) (v ∷ []) h.rows; pending = None } }) (settled_is options us p known new)
      ∙ ap (λ rs. record (stands us None) { held = record { rows = rs; pending = None; skip = 0 } }) (new_row n v (joined us p) fresh))

  -- `--NAME`, which waits for its value
  pub flag_turn : (us : List Use) (p : Option Use) (word n : Text) → IsKnown options p → bytes_eq word (45 ∷ 45 ∷ []) ≡ false → long_of word ≡ Some (n, None)
      → is_known options n ≡ true → turn_fault shape [] (stands us p) word ≡ cond (is_new us p) [] twice
  flag_turn us p word n known dashes long own =
      rw (dashes, long, (by_long n options).0 own) (or_none (settle_fault rules false (held us p)) ∙ settles options us p known)

  pub flag_next : (us : List Use) (p : Option Use) (word n : Text) → IsKnown options p → bytes_eq word (45 ∷ 45 ∷ []) ≡ false → long_of word ≡ Some (n, None)
      → is_known options n ≡ true → is_new us p ≡ true → walked rules [] (stands us p) word ≡ waits_for (joined us p) n
  unfolding walked
  flag_next us p word n known dashes long own new =
      rw (dashes, long, (by_long n options).0 own)
      (ap (λ (h : Held). record (waits_for us n) { held = record h { pending = Some (n, []) } }) (settled_is options us p known new))

  -- an option of another name
  pub unknown_fails : (us : List Use) (p : Option Use) (word n : Text) (v : Option Text) → bytes_eq word (45 ∷ 45 ∷ []) ≡ false → long_of word ≡ Some (n, v)
      → is_known options n ≡ false → turn_fault shape [] (stands us p) word ≡ [] → ⊥
  unknown_fails us p word n v dashes long other e = fails_not UnknownArgument [] (rw (dashes, long, (by_long n options).1 other) at e)

  -- a word of one dash is refused, or is read as if it had none
  bundle_is : (flags : Text) (h : Held)
      → (flags_fault rules false (length flags) flags 0 h ≡ UnknownArgument ∷ [])
      ⊎ ((flags_fault rules false (length flags) flags 0 h ≡ []) × (bundle_met rules (length flags) flags 0 plain h ≡ (h, plain)))
  unfolding flags_fault bundle_met
  bundle_is [] h = inr (refl, refl)
  bundle_is (c ∷ cs) h = go (slice_get (chars (c ∷ cs)) 0) refl
    where
      go : (o : Option ℕ) → slice_get (chars (c ∷ cs)) 0 ≡ o
          → (flags_fault rules false (length (c ∷ cs)) (c ∷ cs) 0 h ≡ UnknownArgument ∷ [])
          ⊎ ((flags_fault rules false (length (c ∷ cs)) (c ∷ cs) 0 h ≡ []) × (bundle_met rules (length (c ∷ cs)) (c ∷ cs) 0 plain h ≡ (h, plain)))
      go None e = inr (rw e refl, rw e refl)
      go (Some x) e = inl (rw (e, no_short options x) refl)

  -- a word that is no option
  stray_turn : (rs : List Row) (q : Option (Text × List Text)) (word : Text) → bytes_eq word (45 ∷ 45 ∷ []) ≡ false → long_of word ≡ None
      → turn_fault shape [] (record { held = record { rows = rs; pending = q; skip = 0 }; waiting = idle; position = 1; is_trailing = false; stopped = None }) word ≡ UnknownArgument ∷ []
  stray_turn rs q word dashes long = rw (dashes, long) (go (short_of word))
    where
      go : (o : Option Text)
          → or_else (option_map_or (λ flags. bundle_fault rules false flags (record { rows = rs; pending = q; skip = 0 })) o [])
          (step_fault shape 1 (short_or_plain rules idle word o (record { rows = rs; pending = q; skip = 0 })).0 (short_or_plain rules idle word o (record { rows = rs; pending = q; skip = 0 })).1)
          ≡ UnknownArgument ∷ []
      go None = rw (no_index options 1) refl
      go (Some flags) = elim (bundle_is flags (record { rows = rs; pending = q; skip = 0 })) [
        | inl bad ↦ rw bad refl
        | inr fine ↦ rw (fine.0, fine.1, no_index options 1) refl
      ]

  pub stray_fails : (us : List Use) (p : Option Use) (word : Text) → bytes_eq word (45 ∷ 45 ∷ []) ≡ false → long_of word ≡ None
      → turn_fault shape [] (stands us p) word ≡ [] → ⊥
  stray_fails us None word dashes long e = fails_not UnknownArgument [] (sym (stray_turn (map row us) None word dashes long) ∙ e)
  stray_fails us (Some u) word dashes long e = fails_not UnknownArgument [] (sym (stray_turn (map row us) (Some (u.0, u.1 ∷ [])) word dashes long) ∙ e)

  -- ---- a value that is waited for

  -- no value comes
  pub waits_in_vain : (us : List Use) (n : Text) → is_known options n ≡ true → fault_from shape (waits_for us n) [] ≡ [] → ⊥
  unfolding walk_fault
  waits_in_vain us n own e = fails_not InvalidValue [] (rw ((by_id n options).0 own) at e)

  -- the next option comes first
  pub option_fails : (us : List Use) (n word m : Text) (v : Option Text) → is_known options n ≡ true → bytes_eq word (45 ∷ 45 ∷ []) ≡ false → long_of word ≡ Some (m, v)
      → turn_fault shape [] (waits_for us n) word ≡ [] → ⊥
  option_fails us n word m v own dashes long = rw (dashes, long) (go (is_known options m) refl v)
    where
      go : (b : Bool) → is_known options m ≡ b → (o : Option Text)
          → or_else (long_fault rules false (arg_by_long rules m) o (waits_for us n).held)
          (step_fault shape 1 (long_word rules (option n) word m o (waits_for us n).held).0 (long_word rules (option n) word m o (waits_for us n).held).1) ≡ [] → ⊥
      go true e None bad = fails_not InvalidValue [] (rw ((by_long m options).0 e, (by_id n options).0 own) at bad)
      go true e (Some x) bad = fails_not InvalidValue [] (rw ((by_long m options).0 e, (by_id n options).0 own) at bad)
      go false e o bad = fails_not UnknownArgument [] (rw ((by_long m options).1 e) at bad)

  -- a word that is taken as the value
  pub taken : (us : List Use) (n v : Text) → is_known options n ≡ true
      → plain_word rules (option n) v (waits_for us n).held ≡ (held us (Some (n, v)), next idle)
  taken us n v own =
      let same : bytes_eq n n ≡ true = (bytes_eq-Decides n n).1 refl in
      rw ((by_id n options).0 own, same) refl

  pub value_turn : (us : List Use) (n v : Text) → is_known options n ≡ true → bytes_eq v (45 ∷ 45 ∷ []) ≡ false → long_of v ≡ None
      → turn_fault shape [] (waits_for us n) v ≡ [] → walked rules [] (waits_for us n) v ≡ stands us (Some (n, v))
  unfolding walked
  value_turn us n v own dashes long = rw (dashes, long) (go (short_of v))
    where
      go : (o : Option Text)
          → or_else (option_map_or (λ flags. bundle_fault rules false flags (waits_for us n).held) o [])
          (step_fault shape 1 (short_or_plain rules (option n) v o (waits_for us n).held).0 (short_or_plain rules (option n) v o (waits_for us n).held).1) ≡ []
          → after_step rules v (waits_for us n) (short_or_plain rules (option n) v o (waits_for us n).held).0 (short_or_plain rules (option n) v o (waits_for us n).held).1
          ≡ stands us (Some (n, v))
      go None e = ap (λ (m : Held × Step). after_step rules v (waits_for us n) m.0 m.1) (taken us n v own)
      go (Some flags) e = elim (bundle_is flags (waits_for us n).held) [
        | inl bad ↦ absurd (fails_not UnknownArgument [] (rw bad at e))
        | inr fine ↦ rw fine.1 (ap (λ (m : Held × Step). after_step rules v (waits_for us n) m.0 m.1) (taken us n v own))
      ]

  -- and one without a dash passes
  pub value_passes : (us : List Use) (n v : Text) → is_known options n ≡ true → bytes_eq v (45 ∷ 45 ∷ []) ≡ false → long_of v ≡ None → short_of v ≡ None
      → turn_fault shape [] (waits_for us n) v ≡ []
  value_passes us n v own dashes long short = rw (dashes, long, short) (ap (λ (m : Held × Step). step_fault shape 1 m.0 m.1) (taken us n v own))
