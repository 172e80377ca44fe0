-- How bytes are split at line feeds.
use Rattle.std.proofs.Common.{◌≡◌, ℕ, suc, ◌+◌, ◌<◌, List, [], ◌∷◌, ◌++◌, length, drop, refl, sym, ◌∙◌, ap, subst, arith, Bool, true, false, cond, ◌||◌}
use Rattle.std.specs.List.{list_any, onto_first}
use Rattle.std.proofs.lemmas.List.{append-nil, drop-drop, drop_at}
use Rattle.std.proofs.lemmas.Bool.Decides.{nat_tests}
use Rattle.std.specs.declared.option.Option.{Option}
use Rattle.std.specs.declared.option.Option.TheVariants.{None, Some}
use Rattle.tpz_io.specs.Told.{ahead}
use Rattle.std.specs.Option.{option_map}
use Rattle.std.specs.Str.Lines.{strip_carriage_return}
use Rattle.ply_head.specs.declared.text.Line.{Line}
use Rattle.std.specs.Prelude.{not, ◌==◌}
use Rattle.tpz_base.specs.Texts.{Bytes}
use Rattle.ply_head.specs.Lines.{is_nonempty, is_line_feed, parts, parts_told, with_part, first_end, numbered, lines_told, with_line, EndsPast, Place}

-- no part is left out at the front
pub split_ended : (text rest : List ℕ) → list_any is_line_feed text ≡ false → parts (text ++ 10 ∷ rest) ≡ text ∷ parts rest
split_ended [] rest none = refl
split_ended (c ∷ cs) rest none = go (is_line_feed c) none (split_ended cs rest) where
  go : (b : Bool) → (b || list_any is_line_feed cs) ≡ false → (list_any is_line_feed cs ≡ false → parts (cs ++ 10 ∷ rest) ≡ cs ∷ parts rest)
      → cond b ([] ∷ parts (cs ++ 10 ∷ rest)) (onto_first c (parts (cs ++ 10 ∷ rest))) ≡ (c ∷ cs) ∷ parts rest
  go true none' rest' = absurd (cc)
  go false none' rest' = ap (onto_first c) (rest' none')

pub split_whole : (text : List ℕ) → list_any is_line_feed text ≡ false → parts text ≡ text ∷ []
split_whole [] none = refl
split_whole (c ∷ cs) none = go (is_line_feed c) none (split_whole cs) where
  go : (b : Bool) → (b || list_any is_line_feed cs) ≡ false → (list_any is_line_feed cs ≡ false → parts cs ≡ cs ∷ [])
      → cond b ([] ∷ parts cs) (onto_first c (parts cs)) ≡ (c ∷ cs) ∷ []
  go true none' rest' = absurd (cc)
  go false none' rest' = ap (onto_first c) (rest' none')

-- one byte in front moves the first end by one
end_onto : (c : ℕ) (ps : List Bytes) → 0 < length ps → first_end (onto_first c ps) ≡ suc (first_end ps)
end_onto c [] some = absurd (omega arith)
end_onto c (p ∷ []) some = refl
end_onto c (p ∷ q ∷ ps) some = omega arith

some_part : (bytes : List ℕ) → 0 < length (parts bytes)
some_part [] = omega arith
some_part (b ∷ bs) = go (is_line_feed b) (parts bs) where
  go : (e : Bool) (ps : List Bytes) → 0 < length (cond e ([] ∷ ps) (onto_first b ps))
  go true ps = omega arith
  go false [] = omega arith
  go false (p ∷ ps) = omega arith

end_one : (b : ℕ) (ps : List Bytes) → 0 < length ps → (e : Bool) → 0 < first_end (cond e ([] ∷ ps) (onto_first b ps))
end_one b [] some e = absurd (omega arith)
end_one b (p ∷ ps) some true = omega arith
end_one b (p ∷ ps) some false = rw (end_onto b (p ∷ ps) some) (omega arith)

-- behind a text without a line feed stands one byte more: the first end is past the text
pub end_past : (text : List ℕ) (b : ℕ) (rest : List ℕ) → list_any is_line_feed text ≡ false → length text < first_end (parts (text ++ b ∷ rest))
end_past [] b rest none = end_one b (parts rest) (some_part rest) (is_line_feed b)
end_past (c ∷ cs) b rest none = go (is_line_feed c) none (end_past cs b rest) where
  go : (e : Bool) → (e || list_any is_line_feed cs) ≡ false → (list_any is_line_feed cs ≡ false → length cs < first_end (parts (cs ++ b ∷ rest)))
      → suc (length cs) < first_end (cond e ([] ∷ parts (cs ++ b ∷ rest)) (onto_first c (parts (cs ++ b ∷ rest))))
  go true none' rest' = absurd (cc)
  go false none' rest' = rw (end_onto c (parts (cs ++ b ∷ rest)) (some_part (cs ++ b ∷ rest))) (omega (arith, rest' none'))

-- The same of bytes that may be told.
told_parts_ended : (new : Option Bytes) (text : Bytes) → list_any is_line_feed text ≡ false
    → parts_told (ahead text (ahead (10 ∷ []) new)) ≡ with_part text (parts_told new)
told_parts_ended None text none = refl
told_parts_ended (Some more) text none = ap Some (split_ended text more none)

pub told_ended : (old mid new : Option Bytes) (text : Bytes) (byte : ℕ) → old ≡ ahead text mid → mid ≡ ahead (byte ∷ []) new
    → byte ≡ 10 → list_any is_line_feed text ≡ false → parts_told old ≡ with_part text (parts_told new)
told_ended old mid new text byte taken next feed none =
    ap parts_told (taken ∙ ap (ahead text) (next ∙ ap (λ (b : ℕ). ahead (b ∷ []) new) feed)) ∙ told_parts_ended new text none

pub told_whole : (old mid : Option Bytes) (text : Bytes) → old ≡ ahead text mid → ((rest : Bytes) → mid ≡ Some rest → rest ≡ [])
    → list_any is_line_feed text ≡ false → (ps : List Bytes) → parts_told old ≡ Some ps → ps ≡ text ∷ []
told_whole old None text taken end none ps told =
    let nothing : parts_told old ≡ None = ap parts_told taken in absurd (cc)
told_whole old (Some rest) text taken end none ps told =
    let here : Some ps ≡ Some (parts (text ++ rest)) = sym told ∙ ap parts_told taken in
    let is : ps ≡ parts (text ++ rest) = cc in
    is ∙ ap (λ (r : Bytes). parts (text ++ r)) (end rest refl) ∙ ap parts (append-nil text) ∙ split_whole text none

pub told_past : (old mid new : Option Bytes) (text : Bytes) (byte room : ℕ) → old ≡ ahead text mid → mid ≡ ahead (byte ∷ []) new
    → length text ≡ room → list_any is_line_feed text ≡ false → (ps : List Bytes) → parts_told old ≡ Some ps → room < first_end ps
told_past old mid None text byte room taken next fills none ps told =
    let nothing : parts_told old ≡ None = ap parts_told (taken ∙ ap (ahead text) next) in absurd (cc)
told_past old mid (Some more) text byte room taken next fills none ps told =
    let here : Some (parts (text ++ byte ∷ more)) ≡ Some ps = sym (ap parts_told (taken ∙ ap (ahead text) next)) ∙ told in
    let is : parts (text ++ byte ∷ more) ≡ ps = cc in
    subst (λ (n : ℕ). n < first_end ps) fills
    (subst (λ (qs : List Bytes). length text < first_end qs) is (end_past text byte more none))

-- A part that is told is a line that is told.
numbered_ended : (number at : ℕ) (text : Bytes) (ps : List Bytes) → 0 < length ps
    → numbered number at (text ∷ ps) ≡ record { number = number; text = strip_carriage_return text; is_ended = true; end = at + (length text + 1) }
    ∷ numbered (number + 1) (at + (length text + 1)) ps
numbered_ended number at text [] some = absurd (omega arith)
numbered_ended number at text (p ∷ ps) some = refl

pub line_ended : (old new : Option Bytes) (number at : ℕ) (text : Bytes) → parts_told old ≡ with_part text (parts_told new)
    → lines_told number at old
    ≡ with_line (record { number = number; text = strip_carriage_return text; is_ended = true; end = at + (length text + 1) })
    (lines_told (number + 1) (at + (length text + 1)) new)
line_ended old None number at text is = ap (option_map (numbered number at)) is
line_ended old (Some bytes) number at text is =
    ap (option_map (numbered number at)) is ∙ ap Some (numbered_ended number at text (parts bytes) (some_part bytes))

first_past : (number at room most : ℕ) (ps : List Bytes) → most ≡ at + room → room < first_end ps → EndsPast most (numbered number at ps)
first_past number at room most [] whole past = absurd (omega arith)
first_past number at room most (p ∷ []) whole past = omega arith
first_past number at room most (p ∷ q ∷ ps) whole past = omega arith

pub line_past : (old : Option Bytes) (number at room most : ℕ) → most ≡ at + room
    → ((ps : List Bytes) → parts_told old ≡ Some ps → room < first_end ps)
    → (ls : List Line) → lines_told number at old ≡ Some ls → EndsPast most ls
line_past None number at room most whole past ls told = absurd (cc)
line_past (Some bytes) number at room most whole past ls told =
    let is : numbered number at (parts bytes) ≡ ls = cc in
    subst (EndsPast most) is (first_past number at room most (parts bytes) whole (past (parts bytes) refl))

unfoldable pub place : Bytes → ℕ → ℕ → Place
place held number at = record { held = held; number = number; taken = at }

-- a step of a reader of lines
pub line_taken : (held : Bytes) (left new : Option Bytes) (number at : ℕ) (text stripped : Bytes) (n : ℕ)
    → stripped ≡ strip_carriage_return text → n ≡ length text → parts_told (ahead held left) ≡ with_part text (parts_told new)
    → (v : Place) → place held number at ≡ v
    → lines_told v.number v.taken (ahead v.held left)
    ≡ with_line (record { number = number; text = stripped; is_ended = true; end = at + (n + 1) }) (lines_told (number + 1) (at + (n + 1)) new)
unfolding place
line_taken held left new number at text stripped n strips counts taken v is =
    subst (λ (w : Place). lines_told w.number w.taken (ahead w.held left)
    ≡ with_line (record { number = number; text = stripped; is_ended = true; end = at + (n + 1) }) (lines_told (number + 1) (at + (n + 1)) new)) is
    (line_ended (ahead held left) new number at text taken
    ∙ ap (λ (t : Bytes). with_line (record { number = number; text = t; is_ended = true; end = at + (length text + 1) })
    (lines_told (number + 1) (at + (length text + 1)) new)) (sym strips)
    ∙ ap (λ (m : ℕ). with_line (record { number = number; text = stripped; is_ended = true; end = at + (m + 1) })
    (lines_told (number + 1) (at + (m + 1)) new)) (sym counts))

pub line_full : (held : Bytes) (left : Option Bytes) (number at room most : ℕ) → most ≡ at + room
    → ((ps : List Bytes) → parts_told (ahead held left) ≡ Some ps → room < first_end ps)
    → (v : Place) → place held number at ≡ v
    → (ls : List Line) → lines_told v.number v.taken (ahead v.held left) ≡ Some ls → EndsPast most ls
unfolding place
line_full held left number at room most whole past v is =
    subst (λ (w : Place). (ls : List Line) → lines_told w.number w.taken (ahead w.held left) ≡ Some ls → EndsPast most ls) is
    (line_past (ahead held left) number at room most whole past)

-- what is left behind a part and its line feed
rest_behind : (new start : Option Bytes) (text : Bytes) (at : ℕ) → ahead text (ahead (10 ∷ []) new) ≡ option_map (drop at) start
    → new ≡ option_map (drop (at + (length text + 1))) start
rest_behind None None text at is = refl
rest_behind (Some more) None text at is = absurd (cc)
rest_behind None (Some bytes) text at is = absurd (cc)
rest_behind (Some more) (Some bytes) text at is =
    let whole : text ++ 10 ∷ more ≡ drop at bytes = cc in
    let one : drop (length text + 1) (text ++ 10 ∷ more) ≡ more =
    sym (drop-drop 1 (length text) (text ++ 10 ∷ more)) ∙ ap (drop 1) (drop_at text (10 ∷ more) (length text) refl) in
    ap Some (sym (sym (drop-drop (length text + 1) at bytes) ∙ ap (drop (length text + 1)) (sym whole) ∙ one))

pub rest_taken : (held : Bytes) (left new : Option Bytes) (number at : ℕ) (text : Bytes) (n : ℕ) → n ≡ length text
    → ahead held left ≡ ahead text (ahead (10 ∷ []) new) → (v : Place) → place held number at ≡ v
    → (start : Option Bytes) → ahead v.held left ≡ option_map (drop v.taken) start → new ≡ option_map (drop (at + (n + 1))) start
unfolding place
rest_taken held left new number at text n counts taken v is =
    subst (λ (w : Place). (start : Option Bytes) → ahead w.held left ≡ option_map (drop w.taken) start → new ≡ option_map (drop (at + (n + 1))) start) is
    (λ start old. rw counts (rest_behind new start text at (sym taken ∙ old)))

-- a list with a length has an element
pub nonempty_by_length : (bytes : Bytes) → not (length bytes == 0) ≡ is_nonempty bytes
nonempty_by_length [] = refl
nonempty_by_length (b ∷ bs) = grind (arith, nat_tests)
