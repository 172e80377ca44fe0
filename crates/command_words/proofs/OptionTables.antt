-- From what `clap` takes to the options of a command, and back.
use Rattle.std.proofs.Common.{◌≡◌, ◌∙◌, ℕ, ◌≤◌, Bool, true, false, not, ◌&&◌, ◌||◌, refl, sym, ap, ap₂, List, [], ◌∷◌, ◌++◌, ◌+◌, ◌-◌, ◌<◌, map, length, get_or, take, drop, Option, Some, None, true≢false, arith}
use Rattle.std.specs.List.{find, list_all, list_any, AllByRecursion}
use Rattle.std.specs.Prelude.{nat_le, option_and_then}
use Rattle.std.specs.Bool.{one_answer}
use Rattle.std.specs.Option.{option_map_or}
use Rattle.std.specs.Borrow.{Bor}
use Rattle.std.specs.Str.{bytes_eq}
use Rattle.std.proofs.lemmas.Bool.Decides.{nat_tests}
use Rattle.std.proofs.lemmas.List.{map-append, take_all, take_more}
use Rattle.std.proofs.lemmas.Slice.Eq.{bytes_eq-Decides}
use Rattle.ply_head.specs.Numbers.{is_digit, are_digits}
use Rattle.clap.specs.Words.{App, Rule, with_rule, HasMatchesOf, found_of, matches_of}
use Rattle.clap.specs.Faults.{fault_of}
use Rattle.clap.specs.Simple.{names_of}
use Rattle.clap.specs.Walk.{Row, Text, first_of, nothing_held, rows_after, settled, walk}
use Rattle.clap.specs.declared.parser.matches.ArgMatches.{ArgMatches}
use Rattle.clap.proofs.SimpleLemmas.{is_false}
use Rattle.clap.proofs.WalkLemmas.{both, first_value-rows, list_any-map}
use Rattle.command_words.specs.Words.{Command, Given, Setting, asked, commands, job_with, are_different, are_options, flag, given_in, is_met, is_named, is_of, is_value, text_for}
use Rattle.command_words.specs.declared.options.Setting.{Setting as StoredSetting}
use Rattle.command_words.specs.Parses.{TellsOptions, option_rule, options_app, setting_of}
use Rattle.command_words.proofs.Parses.{Use, built_is, fault_is, finished_is, is_known, is_seen, ready, row, simple_options}
use Rattle.command_words.proofs.OptionWalks.{are_known, are_new, are_plain, dashed, is_plain, is_word, options_pass, what_passes}

abbrev pub names : List Setting → List Text
names = map (λ s. s.name)

-- ---- lists of tests

all_weaker : {X : Type 0} (p q : X → Bool) → ((x : X) → p x ≡ true → q x ≡ true) → (xs : List X) → list_all p xs ≡ true → list_all q xs ≡ true
all_weaker p q weaker [] e = refl
all_weaker p q weaker (x ∷ xs) e =
    let parts = both (p x) _ e in
    ap₂ (λ a b. a && b) (weaker x parts.0) (all_weaker p q weaker xs parts.1)

find_none : {X : Type 0} (p : X → Bool) (xs : List X) → list_any p xs ≡ false → find p xs ≡ None
find_none p [] e = refl
find_none p (x ∷ xs) e = go (p x) refl e (find_none p xs)
  where
    go : (b : Bool) → p x ≡ b → (b || list_any p xs) ≡ false → (list_any p xs ≡ false → find p xs ≡ None) → find p (x ∷ xs) ≡ None
    go true is e rest = absurd (true≢false e)
    go false is e rest = rw is (rest e)

or_last : (a b : Bool) → b ≡ true → (a || b) ≡ true
or_last true b e = refl
or_last false b e = e

neither : (a b : Bool) → (a || b) ≡ false → (a ≡ false) × (b ≡ false)
neither true b e = absurd (true≢false e)
neither false b e = (refl, e)

eq_sym : (a b : Text) → bytes_eq a b ≡ bytes_eq b a
eq_sym a b =
    let d = bytes_eq-Decides b a in
    one_answer {P = a ≡ b} (bytes_eq a b) (bytes_eq b a) (bytes_eq-Decides a b) (λ e. sym (d.0 e), λ e. d.1 (sym e))

same_name : (a : Text) → bytes_eq a a ≡ true
same_name a = (bytes_eq-Decides a a).1 refl

-- ---- names

named_use : (settings : List Setting) (g : Given) → is_of settings g ≡ true → (n : Text) × (g.0 ≡ 45 ∷ 45 ∷ n) × (is_known (names settings) n ≡ true)
named_use [] g e = absurd (true≢false (sym e))
named_use (s ∷ ss) g e = go (bytes_eq (flag s) g.0) refl e (named_use ss g)
  where
    go : (b : Bool) → bytes_eq (flag s) g.0 ≡ b → (b || is_of ss g) ≡ true
        → (is_of ss g ≡ true → (n : Text) × (g.0 ≡ 45 ∷ 45 ∷ n) × (is_known (names ss) n ≡ true))
        → (n : Text) × (g.0 ≡ 45 ∷ 45 ∷ n) × (is_known (names (s ∷ ss)) n ≡ true)
    go true is e rest = (s.name, sym ((bytes_eq-Decides (flag s) g.0).0 is), ap (λ b. b || is_known (names ss) s.name) (same_name s.name))
    go false is e rest = let r = rest e in (r.0, r.1, or_last (bytes_eq s.name r.0) _ r.2)

pub record OwnUses (settings : List Setting) (gs : List Given) : Type 0 where
  pub uses : List Use
  pub are : gs ≡ map dashed uses
  pub known : are_known (names settings) uses ≡ true

own_uses : (settings : List Setting) (gs : List Given) → list_all (is_of settings) gs ≡ true → OwnUses settings gs
own_uses settings [] e = record { uses = []; are = refl; known = refl }
own_uses settings (g ∷ gs) e =
    let parts = both (is_of settings g) _ e in
    let one = named_use settings g parts.0 in
    let rest = own_uses settings gs parts.1 in
    record {
      uses = (one.0, g.1) ∷ rest.uses;
      are = ap₂ (λ (n : Text) hs. (n, g.1) ∷ hs) one.1 rest.are;
      known = ap₂ (λ a b. a && b) one.2 rest.known;
    }

own_dashed : (settings : List Setting) (us : List Use) → are_known (names settings) us ≡ true → list_all (is_of settings) (map dashed us) ≡ true
own_dashed settings [] e = refl
own_dashed settings (u ∷ us) e =
    let parts = both (is_known (names settings) u.0) _ e in
    ap₂ (λ a b. a && b) (list_any-map (λ o. bytes_eq o u.0) (λ (s : Setting). s.name) settings ∙ parts.0) (own_dashed settings us parts.1)

-- ---- different names

seen_by : (n : Text) (us : List Use) → is_seen n us ≡ list_any (λ (u : Use). bytes_eq u.0 n) us
seen_by n us = sym (list_any-map (λ (r : Row). bytes_eq r.id n) row us)

seen_dashed : (n : Text) (us : List Use) → list_any (λ (g : Given). bytes_eq g.0 (45 ∷ 45 ∷ n)) (map dashed us) ≡ is_seen n us
seen_dashed n us = sym (list_any-map (λ (g : Given). bytes_eq g.0 (45 ∷ 45 ∷ n)) dashed us) ∙ sym (seen_by n us)

seen_push : (n : Text) (us : List Use) (u : Use) → is_seen n (us ++ u ∷ []) ≡ (is_seen n us || (bytes_eq u.0 n || false))
seen_push n [] u = refl
seen_push n (v ∷ us) u = ap (λ b. bytes_eq v.0 n || b) (seen_push n us u) ∙ or_assoc (bytes_eq v.0 n) _ _
  where
    or_assoc : (a b c : Bool) → (a || (b || c)) ≡ ((a || b) || c)
    or_assoc true b c = refl
    or_assoc false b c = refl

abbrev pub all_unseen : List Use → List Use → Bool
all_unseen us = list_all (λ u. not (is_seen u.0 us))

none_seen : (us : List Use) → all_unseen [] us ≡ true
none_seen [] = refl
none_seen (u ∷ us) = none_seen us

unseen_more : (us : List Use) (u : Use) (more : List Use) → all_unseen us more ≡ true → is_seen u.0 more ≡ false → all_unseen (us ++ u ∷ []) more ≡ true
unseen_more us u [] e fresh = refl
unseen_more us u (v ∷ more) e fresh =
    let parts = both (not (is_seen v.0 us)) _ e in
    let apart = neither (bytes_eq v.0 u.0) _ fresh in
    let unseen : is_seen v.0 (us ++ u ∷ []) ≡ false =
    seen_push v.0 us u ∙ (λ i. is_false _ parts.0 i || ((eq_sym u.0 v.0 ∙ apart.0) i || false)) in
    ap₂ (λ a b. not a && b) unseen (unseen_more us u more parts.1 apart.1)

unseen_less : (us : List Use) (u : Use) (more : List Use) → all_unseen (us ++ u ∷ []) more ≡ true → (all_unseen us more ≡ true) × (is_seen u.0 more ≡ false)
unseen_less us u [] e = (refl, refl)
unseen_less us u (v ∷ more) e =
    let parts = both (not (is_seen v.0 (us ++ u ∷ []))) _ e in
    let apart = neither (is_seen v.0 us) _ (sym (seen_push v.0 us u) ∙ is_false _ parts.0) in
    let rest = unseen_less us u more parts.1 in (
      ap₂ (λ a b. not a && b) apart.0 rest.0,
      ap₂ (λ a b. a || b) (eq_sym v.0 u.0 ∙ (neither (bytes_eq u.0 v.0) _ apart.1).0) rest.1,
    )

new_from : (us more : List Use) → all_unseen us more ≡ true → are_different (map dashed more) ≡ true → are_new us more ≡ true
new_from us [] e different = refl
new_from us (u ∷ more) e different =
    let parts = both (not (is_seen u.0 us)) _ e in
    let apart = both _ _ different in
    ap₂ (λ a b. a && b) parts.0 (new_from (us ++ u ∷ []) more (unseen_more us u more parts.1 (sym (seen_dashed u.0 more) ∙ is_false _ apart.0)) apart.1)

different_from : (us more : List Use) → are_new us more ≡ true → (all_unseen us more ≡ true) × (are_different (map dashed more) ≡ true)
different_from us [] e = (refl, refl)
different_from us (u ∷ more) e =
    let parts = both (not (is_seen u.0 us)) _ e in
    let rest = different_from (us ++ u ∷ []) more parts.1 in
    let less = unseen_less us u more rest.0 in
    (ap₂ (λ a b. a && b) parts.0 less.0, ap₂ (λ a b. not a && b) (seen_dashed u.0 more ∙ less.1) rest.1)

-- ---- values

pub text_by_rows : (s : Setting) (us : List Use) → first_of s.name (map row us) ≡ text_for s (map dashed us)
text_by_rows s [] = refl
text_by_rows s (u ∷ us) = go (bytes_eq u.0 s.name) refl (text_by_rows s us)
  where
    go : (b : Bool) → bytes_eq u.0 s.name ≡ b → first_of s.name (map row us) ≡ text_for s (map dashed us)
        → first_of s.name (map row (u ∷ us)) ≡ text_for s (map dashed (u ∷ us))
    go true is rest = rw is refl
    go false is rest = rw is rest

abbrev fits : List Given → Setting → Bool
fits gs s = option_map_or (is_value s) (text_for s gs) true

met_fits : (gs : List Given) (s : Setting) → is_met gs s ≡ true → fits gs s ≡ true
met_fits gs s = go (text_for s gs)
  where
    go : (o : Option Text) → option_map_or (is_value s) o (not s.is_required) ≡ true → option_map_or (is_value s) o true ≡ true
    go None e = refl
    go (Some t) e = e

setting_named : (settings : List Setting) (n : Text) (p : Setting → Bool) → is_known (names settings) n ≡ true → list_all p settings ≡ true
    → (s : Setting) × (n ≡ s.name) × (p s ≡ true)
setting_named [] n p e all = absurd (true≢false (sym e))
setting_named (s ∷ ss) n p e all = go (bytes_eq s.name n) refl e (λ e. setting_named ss n p e (both (p s) _ all).1)
  where
    go : (b : Bool) → bytes_eq s.name n ≡ b → (b || is_known (names ss) n) ≡ true → (is_known (names ss) n ≡ true → (s : Setting) × (n ≡ s.name) × (p s ≡ true))
        → (s : Setting) × (n ≡ s.name) × (p s ≡ true)
    go true is e rest = (s, sym ((bytes_eq-Decides s.name n).0 is), (both (p s) _ all).0)
    go false is e rest = rest e

value_plain : (s : Setting) (text : Text) → is_value s text ≡ true → is_plain text ≡ true
value_plain s [] e = refl
value_plain s (c ∷ cs) e =
    let digits = (both (are_digits 1 10 (c ∷ cs)) _ e).0 in
    let some = (both (list_all is_digit (c ∷ cs) && nat_le 1 (length (c ∷ cs))) _ digits).0 in
    let first = (both (is_digit c) _ (both (list_all is_digit (c ∷ cs)) _ some).0).0 in
    let least : nat_le 48 c ≡ true = (both (nat_le 48 c) _ first).0 in
    grind (arith, nat_tests, least)

values_plain : (settings : List Setting) (us : List Use) → are_known (names settings) us ≡ true → are_different (map dashed us) ≡ true
    → list_all (fits (map dashed us)) settings ≡ true → are_plain us ≡ true
values_plain settings [] known different all = refl
values_plain settings (u ∷ us) known different all =
    let parts = both (is_known (names settings) u.0) _ known in
    let apart = both _ _ different in
    let unseen = sym (seen_dashed u.0 us) ∙ is_false _ apart.0 in
    let one = setting_named settings u.0 (fits (map dashed (u ∷ us))) parts.0 all in
    ap₂ (λ a b. a && b) (value_plain one.0 u.1 (here one.0 one.1 one.2))
    (values_plain settings us parts.1 apart.1 (all_weaker (fits (map dashed (u ∷ us))) (fits (map dashed us)) (later unseen) settings all))
  where
    here : (s : Setting) → u.0 ≡ s.name → fits (map dashed (u ∷ us)) s ≡ true → is_value s u.1 ≡ true
    here s is e =
        let same : bytes_eq u.0 s.name ≡ true = (bytes_eq-Decides u.0 s.name).1 is in
        rw same at e

    later : is_seen u.0 us ≡ false → (s : Setting) → fits (map dashed (u ∷ us)) s ≡ true → fits (map dashed us) s ≡ true
    later unseen s e = go (bytes_eq u.0 s.name) refl
      where
        go : (b : Bool) → bytes_eq u.0 s.name ≡ b → fits (map dashed us) s ≡ true
        go true is =
            let name_is = (bytes_eq-Decides u.0 s.name).0 is in
            let none = find_none (λ (g : Given). bytes_eq g.0 (flag s)) (map dashed us) (ap (λ (n : Text). list_any (λ (g : Given). bytes_eq g.0 (45 ∷ 45 ∷ n)) (map dashed us)) (sym name_is) ∙ seen_dashed u.0 us ∙ unseen) in
            rw none refl
        go false is = rw is at e

-- ---- both ways

-- what `clap` takes, where no word is `--` alone, is a list of options of these settings, and its matches tell them
pub tells_options : (name : Text) (settings : List Setting) (words : List Text) (m : ArgMatches) → list_all is_word words ≡ true
    → fault_of (options_app name (names settings)) words ≡ [] → HasMatchesOf (options_app name (names settings)) words m → TellsOptions settings words m
tells_options name settings words m words_are none has =
    let options = names settings in
    let reads = what_passes name options [] None words tt words_are (sym (fault_is name options words) ∙ none) in
    let found : matches_of (options_app name options) words ≡ map row reads.more =
    ap (λ b. rows_after b.top.rules (names_of b) words) (built_is name options)
    ∙ finished_is options (settled (map ready options) (walk (map ready options) [] nothing_held words).held).rows ∙ ap (λ h. h.rows) reads.rows in
    record {
      given = map dashed reads.more;
      spelt = reads.spelt;
      own = own_dashed settings reads.more reads.known;
      different = (different_from [] reads.more reads.new).1;
      texts = λ s. first_value-rows (found_of m) s.name ∙ ap (first_of s.name) ((has (simple_options name options)).0 ∙ found) ∙ text_by_rows s reads.more;
    }

-- words that spell options of these settings are taken
pub takes_options : (name : Text) (settings : List Setting) (words : List Text) (gs : List Given) → list_all is_named (names settings) ≡ true
    → given_in words ≡ Some gs → are_options settings gs ≡ true
    → (fault_of (options_app name (names settings)) words ≡ []) × (list_all is_word words ≡ true)
takes_options name settings words gs named spelt fine =
    let options = names settings in
    let own = both (list_all (is_of settings) gs) _ fine in
    let different = both (are_different gs) _ own.1 in
    let uses = own_uses settings gs own.0 in
    let apart = ap are_different (sym uses.are) ∙ different.0 in
    let all = all_weaker (is_met gs) (fits gs) (met_fits gs) settings different.1 in
    let plain = values_plain settings uses.uses uses.known apart (ap (λ hs. list_all (fits hs) settings) (sym uses.are) ∙ all) in
    let passes = options_pass name options named [] None words uses.uses tt (spelt ∙ ap (λ hs. Some hs) uses.are) refl
    (uses.known, new_from [] uses.uses (none_seen uses.uses) apart, plain) in
    (fault_is name options words ∙ passes.0, passes.1)

-- ---- as the code has them

pub names_stored : (settings : List StoredSetting) → map (λ s. s.name.now) settings ≡ names (map setting_of settings)
names_stored [] = refl
names_stored (s ∷ ss) = ap (λ ns. s.name.now ∷ ns) (names_stored ss)

pub lone_dashes : {X : Type 0} (f : X → Text) (xs : List X) → list_any (λ x. bytes_eq (f x) (45 ∷ 45 ∷ [])) xs ≡ not (list_all is_word (map f xs))
lone_dashes f [] = refl
lone_dashes f (x ∷ xs) = go (bytes_eq (f x) (45 ∷ 45 ∷ [])) (lone_dashes f xs)
  where
    go : (b : Bool) → list_any (λ x. bytes_eq (f x) (45 ∷ 45 ∷ [])) xs ≡ not (list_all is_word (map f xs))
        → (b || list_any (λ x. bytes_eq (f x) (45 ∷ 45 ∷ [])) xs) ≡ not (not b && list_all is_word (map f xs))
    go true e = refl
    go false e = e

pub first_and_rest : {X : Type 0} (f : X → Text) (xs : List X) (x : X) → 1 ≤ length xs → x ≡ get_or xs 0 x → map f xs ≡ f x ∷ map f (take (length xs - 1) (drop 1 xs))
first_and_rest f [] x some is = absurd (omega arith)
first_and_rest f (y ∷ ys) x some is = ap₂ (λ z zs. f z ∷ map f zs) (sym is) (sym (take_all (length (y ∷ ys) - 1) ys (omega arith)))

pub none_given : {X : Type 0} (f : X → Text) (xs : List X) → length xs < 1 → map f xs ≡ []
none_given f [] none = refl
none_given f (x ∷ xs) none = absurd (omega arith)

-- the first word names a command
pub asked_named : (c : Command) (word : Text) (words : List Text) → find (λ d. bytes_eq d.name c.name) commands ≡ Some c → word ≡ c.name → asked (word ∷ words) ≡ job_with words c
unfolding asked
asked_named c word words found is =
    ap (λ (w : Text). option_and_then (job_with words) (find (λ d. bytes_eq d.name w) commands)) is ∙ ap (option_and_then (job_with words)) found

none_named : (word : Text) (cs : List Command) → AllByRecursion (λ (c : Command). word ≡ c.name → ⊥) cs → list_any (λ (c : Command). bytes_eq c.name word) cs ≡ false
none_named word [] others = refl
none_named word (c ∷ cs) others = go (bytes_eq c.name word) refl (none_named word cs others.1)
  where
    go : (b : Bool) → bytes_eq c.name word ≡ b → list_any (λ (d : Command). bytes_eq d.name word) cs ≡ false → list_any (λ (d : Command). bytes_eq d.name word) (c ∷ cs) ≡ false
    go true e rest = absurd (others.0 (sym ((bytes_eq-Decides c.name word).0 e)))
    go false e rest = rw e rest

-- the first word names no command
pub asked_other : (word : Text) (words : List Text) → AllByRecursion (λ (c : Command). word ≡ c.name → ⊥) commands → asked (word ∷ words) ≡ None
unfolding asked
asked_other word words others = ap (option_and_then (job_with words)) (find_none (λ c. bytes_eq c.name word) commands (none_named word commands others))

-- one more option of a command
pub option_added : (name : Text) (settings : List StoredSetting) (i : ℕ) (d : StoredSetting) (n : Bor Text) (old new : App) (r : Rule) → i < length settings → n ≡ (get_or settings i d).name
    → old ≡ options_app name (map (λ s. s.name.now) (take i settings)) → new ≡ with_rule old r → r ≡ option_rule n.now
    → new ≡ options_app name (map (λ s. s.name.now) (take (i + 1) settings))
option_added name settings i d n old new r lt id before added rule =
    let more : map (λ (s : StoredSetting). s.name.now) (take (i + 1) settings) ≡ map (λ (s : StoredSetting). s.name.now) (take i settings) ++ (get_or settings i d).name.now ∷ [] =
    ap (map (λ (s : StoredSetting). s.name.now)) (take_more settings i d lt) ∙ map-append (λ (s : StoredSetting). s.name.now) (take i settings) (get_or settings i d ∷ []) in
    added ∙ ap₂ with_rule before (rule ∙ ap (λ (m : Bor Text). option_rule m.now) id)
    ∙ ap (λ rs. record { top = record (options_app name []).top { rules = rs }; subs = [] })
    (sym (map-append option_rule (map (λ (s : StoredSetting). s.name.now) (take i settings)) ((get_or settings i d).name.now ∷ [])))
    ∙ ap (options_app name) (sym more)
