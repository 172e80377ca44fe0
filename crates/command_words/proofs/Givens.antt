-- How words are cut into options.
use Rattle.std.proofs.Common.{◌≡◌, ◌∙◌, ℕ, zero, suc, ◌==◌, Bool, true, false, ◌||◌, refl, sym, ap, ap₂, subst, List, [], ◌∷◌, ◌++◌, Some, None, true≢false, eqb-true, arith}
use Rattle.std.specs.List.{list_any}
use Rattle.std.specs.Str.{bytes_eq}
use Rattle.std.proofs.lemmas.Bool.Decides.{nat_tests}
use Rattle.clap.specs.Walk.{Text}
use Rattle.clap.specs.Lexer.{long_of, name_and_value}
use Rattle.clap.proofs.CutLemmas.{Lacks, list_any-Lacks, before_first-at, after_first-at}
use Rattle.clap.proofs.LexerLemmas.{name_and_value-at, name_and_value-without}
use Rattle.command_words.specs.Words.{and_then, given_in, is_equals, parts_of}

-- ---- words with and without `=`

Lacks-cons : (c x : ℕ) (xs : List ℕ) → (x == c) ≡ false → Lacks c xs → Lacks c (x ∷ xs)
Lacks-cons c x xs ne h zero lt = λ e. grind (arith, nat_tests, e, ne)
Lacks-cons c x xs ne h (suc i) lt = h i (omega arith)

pub dashes_lack : (n : Text) → Lacks 61 n → Lacks 61 (45 ∷ 45 ∷ n)
dashes_lack n h = Lacks-cons 61 45 (45 ∷ n) refl (Lacks-cons 61 45 n refl h)

pub cut_at : (word : Text) → list_any is_equals word ≡ true → (n : Text) × (v : Text) × (word ≡ n ++ 61 ∷ v) × Lacks 61 n
cut_at [] e = absurd (true≢false (sym e))
cut_at (x ∷ xs) e = go (x == 61) refl e (cut_at xs)
  where
    go : (b : Bool) → (x == 61) ≡ b → (b || list_any is_equals xs) ≡ true → (list_any is_equals xs ≡ true → (n : Text) × (v : Text) × (xs ≡ n ++ 61 ∷ v) × Lacks 61 n)
        → (n : Text) × (v : Text) × (x ∷ xs ≡ n ++ 61 ∷ v) × Lacks 61 n
    go true is e rest = ([], xs, ap (λ y. y ∷ xs) (eqb-true x 61 is), λ i lt. absurd (omega arith))
    go false is e rest = let r = rest e in (x ∷ r.0, r.1, ap (λ ys. x ∷ ys) r.2, Lacks-cons 61 x r.0 is r.3)

pub lacks_equals : (word : Text) → list_any is_equals word ≡ false → Lacks 61 word
lacks_equals [] e = λ i lt. absurd (omega arith)
lacks_equals (x ∷ xs) e = go (x == 61) refl e (lacks_equals xs)
  where
    go : (b : Bool) → (x == 61) ≡ b → (b || list_any is_equals xs) ≡ false → (list_any is_equals xs ≡ false → Lacks 61 xs) → Lacks 61 (x ∷ xs)
    go true is e rest = absurd (true≢false e)
    go false is e rest = Lacks-cons 61 x xs is (rest e)

pub unequal : (word : Text) → Lacks 61 word → list_any is_equals word ≡ false
unequal word lacks = list_any-Lacks 61 word lacks

pub parts_at : (n v : Text) → Lacks 61 n → parts_of (n ++ 61 ∷ v) ≡ (n, v)
parts_at n v h = ap₂ (λ (a b : Text). (a, b)) (before_first-at 61 n v h) (after_first-at 61 n v h)

pub by_equals : {P : Type 0} (word : Text) → (list_any is_equals word ≡ true → P) → (list_any is_equals word ≡ false → P) → P
by_equals {P} word some none = go (list_any is_equals word) refl
  where
    go : (b : Bool) → list_any is_equals word ≡ b → P
    go true e = some e
    go false e = none e

-- ---- options and those behind them

pub given_joined : (word : Text) (words : List Text) → list_any is_equals word ≡ true → given_in (word ∷ words) ≡ and_then (parts_of word) (given_in words)
unfolding given_in
given_joined word [] e = rw e refl
given_joined word (next ∷ words) e = rw e refl

pub given_paired : (word next : Text) (words : List Text) → list_any is_equals word ≡ false → given_in (word ∷ next ∷ words) ≡ and_then (word, next) (given_in words)
unfolding given_in
given_paired word next words e = rw e refl

pub given_alone : (word : Text) → list_any is_equals word ≡ false → given_in (word ∷ []) ≡ None
unfolding given_in
given_alone word e = rw e refl

-- ---- the forms of a word that isn't `--`

pub data Form (word : Text) : Type 0 where
  attached : (n v : Text) → long_of word ≡ Some (n, Some v) → list_any is_equals word ≡ true → parts_of word ≡ (45 ∷ 45 ∷ n, v) → Form word
  bare : (n : Text) → long_of word ≡ Some (n, None) → list_any is_equals word ≡ false → word ≡ 45 ∷ 45 ∷ n → Form word
  other : long_of word ≡ None → Form word

long_form : (z : ℕ) (zs : Text) → Form (45 ∷ 45 ∷ z ∷ zs)
long_form z zs = go (list_any is_equals (z ∷ zs)) refl
  where
    go : (b : Bool) → list_any is_equals (z ∷ zs) ≡ b → Form (45 ∷ 45 ∷ z ∷ zs)
    go true e =
        let c = cut_at (z ∷ zs) e in
        attached c.0 c.1 (ap (λ t. Some (name_and_value t)) c.2 ∙ ap (λ p. Some p) (name_and_value-at c.0 c.1 c.3)) e
        (ap (λ t. parts_of (45 ∷ 45 ∷ t)) c.2 ∙ parts_at (45 ∷ 45 ∷ c.0) c.1 (dashes_lack c.0 c.3))
    go false e = bare (z ∷ zs) (ap (λ p. Some p) (name_and_value-without (z ∷ zs) (lacks_equals (z ∷ zs) e))) e refl

pub form_of : (word : Text) → bytes_eq word (45 ∷ 45 ∷ []) ≡ false → Form word
form_of [] e = other refl
form_of (x ∷ []) e = go (x == 45) refl
  where
    go : (b : Bool) → (x == 45) ≡ b → Form (x ∷ [])
    go true is = other (rw is refl)
    go false is = other (rw is refl)
form_of (x ∷ y ∷ rest) e = go (x == 45) refl (y == 45) refl
  where
    both : (t : Text) → bytes_eq (45 ∷ 45 ∷ t) (45 ∷ 45 ∷ []) ≡ false → Form (45 ∷ 45 ∷ t)
    both [] e = absurd (true≢false e)
    both (z ∷ zs) e = long_form z zs

    go : (b : Bool) → (x == 45) ≡ b → (c : Bool) → (y == 45) ≡ c → Form (x ∷ y ∷ rest)
    go true is true also =
        let same : 45 ∷ 45 ∷ rest ≡ x ∷ y ∷ rest = ap₂ (λ a b. a ∷ b ∷ rest) (sym (eqb-true x 45 is)) (sym (eqb-true y 45 also)) in
        subst Form same (both rest (ap (λ w. bytes_eq w (45 ∷ 45 ∷ [])) same ∙ e))
    go true is false also = other (rw (is, also) refl)
    go false is c also = other (rw is refl)
