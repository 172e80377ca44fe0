-- How bytes are cut into lines.
use Rattle.std.proofs.Common.{◌≡◌, ℕ, ◌+◌, ◌-◌, ◌<◌, ◌≤◌, List, [], ◌∷◌, ◌++◌, length, take, refl, sym, ◌∙◌, ap, subst, arith, Bool, true, false, cond, Option, Some, None, append_assoc, length-append, length-take}
use Rattle.std.specs.Prelude.{◌==◌, ◌&&◌, nat_le, slice_index}
use Rattle.std.specs.List.{All, slice_split, onto_first}
use Rattle.std.specs.Str.Lines.{lines, lines_of_parts, strip_carriage_return}
use Rattle.std.proofs.lemmas.List.{append-nil}
use Rattle.std.proofs.lemmas.List.Elements.{All-nil, All-append, All-cons, All-head, All-tail}
use Rattle.std.proofs.lemmas.List.Splits.{slice_split_at, slice_split_none, slice_split-cons_no, length-slice_split}
use Rattle.std.proofs.lemmas.Bool.Decides.{nat_tests}
use Rattle.tpz_io.specs.Told.{ahead}
use Rattle.tpz_base.specs.Texts.{Bytes}
use Rattle.script_text.specs.Scripts.{BeginsLong, BeginsOutside, lines_told, with_text}

abbrev is_line_feed : ℕ → Bool
is_line_feed b = b == 10

-- no byte is a line feed
pub record HasNoFeed (text : Bytes) : Type 0 where
  pub none : All (λ b. (b == 10) ≡ false) text

pub no_feed_yet : HasNoFeed []
no_feed_yet = record { none = All-nil (λ b. (b == 10) ≡ false) }

pub no_feed_more : (text : Bytes) (byte : ℕ) → HasNoFeed text → (byte ≡ 10 → ⊥) → HasNoFeed (text ++ byte ∷ [])
no_feed_more text byte h other = record {
  none = All-append (λ b. (b == 10) ≡ false) text (byte ∷ []) h.none
      (All-cons (λ b. (b == 10) ≡ false) byte [] (test byte other) (All-nil (λ b. (b == 10) ≡ false)));
} where
  test : (b : ℕ) → (b ≡ 10 → ⊥) → (b == 10) ≡ false
  test b h = grind (arith, nat_tests)

some_part : (bytes : Bytes) → 0 < length (slice_split is_line_feed bytes)
some_part bytes = omega (arith, length-slice_split is_line_feed bytes)

before_others : (text : Bytes) (parts : List Bytes) → 0 < length parts → lines_of_parts (text ∷ parts) ≡ strip_carriage_return text ∷ lines_of_parts parts
before_others text [] some = absurd (omega arith)
before_others text (p ∷ ps) some = refl

line_ended : (text rest : Bytes) → HasNoFeed text → lines (text ++ 10 ∷ rest) ≡ strip_carriage_return text ∷ lines rest
line_ended text rest h =
    ap lines_of_parts (slice_split_at is_line_feed text 10 rest h.none refl)
    ∙ before_others text (slice_split is_line_feed rest) (some_part rest)

line_last : (text : Bytes) → HasNoFeed text → lines text ≡ lines_of_parts (text ∷ [])
line_last text h = ap lines_of_parts (slice_split_none is_line_feed text h.none)

last_some : (text : Bytes) → 0 < length text → lines_of_parts (text ∷ []) ≡ text ∷ []
last_some text some = rw (test (length text) some) refl where
  test : (n : ℕ) → 0 < n → (n == 0) ≡ false
  test n h = grind (arith, nat_tests)

last_none : (text : Bytes) → length text ≡ 0 → lines_of_parts (text ∷ []) ≡ []
last_none [] none = refl
last_none (b ∷ bs) none = absurd (omega arith)

-- the first part begins with a text that has no line feed
record FirstPart (text rest : Bytes) : Type 0 where
  tail : Bytes
  more : List Bytes
  is : slice_split is_line_feed (text ++ rest) ≡ (text ++ tail) ∷ more

first_of : (rest : Bytes) (parts : List Bytes) → 0 < length parts → slice_split is_line_feed rest ≡ parts → FirstPart [] rest
first_of rest [] some is = absurd (omega arith)
first_of rest (p ∷ ps) some is = record { tail = p; more = ps; is = is }

first_part : (text rest : Bytes) → HasNoFeed text → FirstPart text rest
first_part [] rest h = first_of rest (slice_split is_line_feed rest) (some_part rest) refl
first_part (c ∷ cs) rest h =
    let inner = first_part cs rest (record { none = All-tail (λ b. (b == 10) ≡ false) c cs h.none }) in
    record {
      tail = inner.tail;
      more = inner.more;
      is = slice_split-cons_no is_line_feed c (cs ++ rest) (All-head (λ b. (b == 10) ≡ false) c cs h.none) ∙ ap (onto_first c) inner.is;
    }

strip_length : (text : Bytes) (b : Bool) → length text ≤ length (cond b (take (length text - 1) text) text) + 1
strip_length text true = omega (arith, length-take (length text - 1) text)
strip_length text false = omega arith

begins_long : (part : Bytes) (parts : List Bytes) → 257 < length part → BeginsLong (lines_of_parts (part ∷ parts))
begins_long part [] long = rw (last_some part (omega arith)) (omega arith)
begins_long part (p ∷ ps) long = omega (arith, strip_length part (slice_index part (length part - 1) == 13))

line_long : (text rest : Bytes) → HasNoFeed text → 257 < length text → BeginsLong (lines (text ++ rest))
line_long text rest h long =
    let first = first_part text rest h in
    subst (λ (ps : List Bytes). BeginsLong (lines_of_parts ps)) (sym first.is)
    (begins_long (text ++ first.tail) first.more (omega (arith, length-append text first.tail)))

-- The same of bytes that may be told.
pub told_ended : (old mid new : Option Bytes) (text : Bytes) (byte : ℕ) → old ≡ ahead text mid → mid ≡ ahead (byte ∷ []) new
    → byte ≡ 10 → HasNoFeed text → lines_told old ≡ with_text (strip_carriage_return text) (lines_told new)
told_ended old mid None text byte taken next feed h = ap lines_told (taken ∙ ap (ahead text) next)
told_ended old mid (Some more) text byte taken next feed h =
    ap lines_told (taken ∙ ap (ahead text) next) ∙ ap (λ (b : ℕ). Some (lines (text ++ b ∷ more))) feed ∙ ap Some (line_ended text more h)

pub told_last : (old mid new : Option Bytes) (text : Bytes) → old ≡ ahead text mid → mid ≡ ahead [] new
    → ((rest : Bytes) → mid ≡ Some rest → rest ≡ []) → HasNoFeed text → 0 < length text → lines_told old ≡ with_text text (lines_told new)
told_last old mid None text taken next end h some = ap lines_told (taken ∙ ap (ahead text) next)
told_last old mid (Some more) text taken next end h some =
    let nothing : more ≡ [] = end more next in
    ap lines_told (taken ∙ ap (ahead text) next) ∙ ap (λ (r : Bytes). Some (lines (text ++ r))) nothing
    ∙ ap (λ (r : Bytes). Some (lines r)) (append-nil text) ∙ ap Some (line_last text h ∙ last_some text some)
    ∙ ap (λ (r : Bytes). Some (text ∷ lines r)) (sym nothing)

pub told_end : (old mid : Option Bytes) (text : Bytes) → old ≡ ahead text mid → ((rest : Bytes) → mid ≡ Some rest → rest ≡ [])
    → HasNoFeed text → length text ≡ 0 → (texts : List Bytes) → lines_told old ≡ Some texts → texts ≡ []
told_end old None text taken end h none texts told = let nothing : lines_told old ≡ None = ap lines_told taken in absurd cc
told_end old (Some rest) text taken end h none texts told =
    let here : Some (lines (text ++ rest)) ≡ Some texts = sym (ap lines_told taken) ∙ told in
    let is : lines (text ++ rest) ≡ texts = cc in
    sym is ∙ ap (λ (r : Bytes). lines (text ++ r)) (end rest refl) ∙ ap lines (append-nil text) ∙ line_last text h ∙ last_none text none

pub told_long : (old mid new : Option Bytes) (text : Bytes) (byte : ℕ) → old ≡ ahead text mid → mid ≡ ahead (byte ∷ []) new
    → (byte ≡ 10 → ⊥) → length text ≡ 257 → HasNoFeed text → (texts : List Bytes) → lines_told old ≡ Some texts → BeginsLong texts
told_long old mid None text byte taken next other full h texts told =
    let nothing : lines_told old ≡ None = ap lines_told (taken ∙ ap (ahead text) next) in absurd cc
told_long old mid (Some more) text byte taken next other full h texts told =
    let here : Some (lines (text ++ byte ∷ more)) ≡ Some texts = sym (ap lines_told (taken ∙ ap (ahead text) next)) ∙ told in
    let is : lines (text ++ byte ∷ more) ≡ texts = cc in
    let cut : lines (text ++ byte ∷ more) ≡ lines ((text ++ byte ∷ []) ++ more) = ap lines (sym (append_assoc text (byte ∷ []) more)) in
    subst BeginsLong (sym cut ∙ is)
    (line_long (text ++ byte ∷ []) more (no_feed_more text byte h other) (omega (arith, length-append text (byte ∷ []))))

pub long_outside : (number : ℕ) (texts : List Bytes) → BeginsLong texts → BeginsOutside number texts
long_outside number [] long = long
long_outside number (text ∷ texts) long = test number (length text) long where
  test : (n m : ℕ) → 256 < m → (nat_le n 1048576 && nat_le m 256) ≡ false
  test n m h = grind (arith, nat_tests)
