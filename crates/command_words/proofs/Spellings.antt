-- Words are cut into options as they are spelled.
use Rattle.std.proofs.Common.{◌≡◌, ◌∙◌, ◌↔◌, Bool, true, false, cond, not, ◌&&◌, refl, sym, ap, ap₂, List, [], ◌∷◌, ◌++◌, map, Option, Some, None}
use Rattle.std.specs.Prelude.{flat_map}
use Rattle.std.specs.List.{list_all, list_any}
use Rattle.clap.specs.Walk.{Text}
use Rattle.clap.proofs.CutLemmas.{list_any-at}
use Rattle.clap.proofs.SimpleLemmas.{is_false}
use Rattle.clap.proofs.WalkLemmas.{both}
use Rattle.command_words.specs.Words.{Given, Spell, Spelling, and_then, given_by, given_in, is_equals, is_spelling, parts_of, words_of}
use Rattle.command_words.proofs.Givens.{by_equals, cut_at, given_alone, given_joined, given_paired, lacks_equals, parts_at, unequal}

pub spelled : (ss : List Spelling) → list_all is_spelling ss ≡ true → given_in (flat_map words_of ss) ≡ Some (map given_by ss)
unfolding given_in
spelled [] e = refl
spelled (s ∷ ss) e =
    let parts = both (is_spelling s) _ e in
    let bare = is_false _ parts.0 in
    go s.is_one_word (given_joined (s.name ++ 61 ∷ s.value) (flat_map words_of ss) (list_any-at 61 s.name s.value)
    ∙ ap₂ and_then (parts_at s.name s.value (lacks_equals s.name bare)) (spelled ss parts.1))
    (given_paired s.name s.value (flat_map words_of ss) bare ∙ ap (and_then (s.name, s.value)) (spelled ss parts.1))
  where
    go : (b : Bool) → given_in ((s.name ++ 61 ∷ s.value) ∷ flat_map words_of ss) ≡ Some (map given_by (s ∷ ss))
        → given_in (s.name ∷ s.value ∷ flat_map words_of ss) ≡ Some (map given_by (s ∷ ss))
        → given_in (cond b ((s.name ++ 61 ∷ s.value) ∷ []) (s.name ∷ s.value ∷ []) ++ flat_map words_of ss) ≡ Some (map given_by (s ∷ ss))
    go true one two = one
    go false one two = two

-- an option and those behind it
record Cut (g : Given) (others : Option (List Given)) (gs : List Given) : Type 0 where
  rest : List Given
  others_are : others ≡ Some rest
  are : gs ≡ g ∷ rest

cut : (g : Given) (others : Option (List Given)) (gs : List Given) → and_then g others ≡ Some gs → Cut g others gs
cut g None gs e = absurd cc
cut g (Some hs) gs e = record { rest = hs; others_are = refl; are = cc }

one_more : (word : Text) (words : List Text) (gs : List Given) → list_any is_equals word ≡ true → given_in (word ∷ words) ≡ Some gs
    → ((gs : List Given) → given_in words ≡ Some gs → Spell gs words) → Spell gs (word ∷ words)
one_more word words gs equals e rest =
    let c = cut (parts_of word) (given_in words) gs (sym (given_joined word words equals) ∙ e) in
    let r = rest c.rest c.others_are in
    let at = cut_at word equals in (
      record { name = at.0; value = at.1; is_one_word = true } ∷ r.0,
      ap₂ (λ a b. not a && b) (unequal at.0 at.3) r.1,
      ap₂ (λ (w : Text) ws. w ∷ ws) at.2 r.2,
      c.are ∙ ap₂ (λ (g : Given) hs. g ∷ hs) (ap parts_of at.2 ∙ parts_at at.0 at.1 at.3) r.3,
    )

two_more : (word v : Text) (words : List Text) (gs : List Given) → list_any is_equals word ≡ false → given_in (word ∷ v ∷ words) ≡ Some gs
    → ((gs : List Given) → given_in words ≡ Some gs → Spell gs words) → Spell gs (word ∷ v ∷ words)
two_more word v words gs none e rest =
    let c = cut (word, v) (given_in words) gs (sym (given_paired word v words none) ∙ e) in
    let r = rest c.rest c.others_are in (
      record { name = word; value = v; is_one_word = false } ∷ r.0,
      ap₂ (λ a b. not a && b) none r.1,
      ap (λ ws. word ∷ v ∷ ws) r.2,
      c.are ∙ ap (λ hs. (word, v) ∷ hs) r.3,
    )

no_list : (gs : List Given) → None ≡ Some gs → ⊥
no_list gs e = absurd cc

pub spelling_of : (words : List Text) (gs : List Given) → given_in words ≡ Some gs → Spell gs words
unfolding given_in
spelling_of [] gs e = let same : [] ≡ gs = cc in ([], refl, refl, sym same)
spelling_of (word ∷ []) gs e =
    by_equals word (λ equals. one_more word [] gs equals e (λ gs e. spelling_of [] gs e))
    (λ none. absurd (no_list gs (sym (given_alone word none) ∙ e)))
spelling_of (word ∷ v ∷ words) gs e =
    by_equals word (λ equals. one_more word (v ∷ words) gs equals e (λ gs e. spelling_of (v ∷ words) gs e))
    (λ none. two_more word v words gs none e (λ gs e. spelling_of words gs e))

pub given_as_spelled : (words : List Text) (gs : List Given) → given_in words ≡ Some gs ↔ Spell gs words
given_as_spelled words gs = (spelling_of words gs, λ s. ap given_in s.2 ∙ spelled s.0 s.1 ∙ ap (λ hs. Some hs) (sym s.3))
