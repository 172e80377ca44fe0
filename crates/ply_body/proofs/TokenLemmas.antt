-- How the tokens of a body follow one another.
use Rattle.std.proofs.Common.{◌≡◌, ℕ, suc, ◌+◌, ◌<◌, ◌≤◌, List, [], ◌∷◌, ◌++◌, length, take, refl, sym, ◌∙◌, ap, subst, arith, Bool, true, false, cond, length-append, zero-add, append_assoc}
use Rattle.std.specs.Prelude.{filter, nat_lt, Result, Ok, Err, if◌then◌else◌}
use Rattle.std.specs.List.{list_any, onto_first, slice_split}
use Rattle.std.proofs.lemmas.List.{append-nil}
use Rattle.std.proofs.lemmas.Bool.Decides.{nat_tests}
use Rattle.std.proofs.lemmas.List.Folds.{list_any-append}
use Rattle.std.proofs.lemmas.Grind.{common_steps}
use Rattle.std.specs.Option.{option_map}
use Rattle.std.specs.declared.option.Option.{Option}
use Rattle.std.specs.declared.option.Option.TheVariants.{None, Some}
use Rattle.tpz_io.specs.Told.{ahead}
use Rattle.tpz_base.specs.Texts.{Bytes}
use Rattle.ply_head.specs.Lines.{is_nonempty}
use Rattle.ply_head.proofs.WrittenHeads.{split_after, split_alone}
use Rattle.ply_head.specs.declared.element.Kind.{Kind}
use Rattle.ply_head.specs.declared.element.Format.TheVariants.{Ascii}
use Rattle.ply_body.specs.declared.fault.Flaw.{Flaw}
use Rattle.ply_body.specs.declared.fault.Flaw.TheVariants.{Short, Number, TooLong}
use Rattle.ply_body.specs.declared.item.Item.TheVariants.{Token}
use Rattle.ply_body.specs.Items.{Items, Tokens, is_gap, is_full, without_last, complete_parts, items_of, item, unless, Refuses, Takes}
use Rattle.ply_body.specs.Tokens.{IsLong, items_ahead, items_behind}
use Rattle.ply_body.proofs.ItemLemmas.{refused_here}

some_gap_part : (bytes : Bytes) → 0 < length (slice_split is_gap bytes)
some_gap_part [] = omega arith
some_gap_part (b ∷ bs) = go (is_gap b) (slice_split is_gap bs) where
  go : (e : Bool) (ps : List Bytes) → 0 < length (cond e ([] ∷ ps) (onto_first b ps))
  go true ps = omega arith
  go false [] = omega arith
  go false (p ∷ ps) = omega arith

without_last-cons : (p : Bytes) (ps : List Bytes) → 0 < length ps → without_last (p ∷ ps) ≡ p ∷ without_last ps
without_last-cons p [] some = absurd (omega arith)
without_last-cons p (q ∷ ps) some = refl

-- what a room holds of a text, a gap and the rest
take_past : (text : Bytes) (g : ℕ) (rest : Bytes) (room : ℕ) → take (length text + suc room) (text ++ g ∷ rest) ≡ text ++ g ∷ take room rest
take_past [] g rest room = rw zero-add refl
take_past (c ∷ cs) g rest room =
    let more : suc (length cs) + suc room ≡ suc (length cs + suc room) = omega arith in
    rw more (ap (λ (l : Bytes). c ∷ l) (take_past cs g rest room))

full_past : (text : Bytes) (g : ℕ) (rest : Bytes) (room : ℕ) → is_full (length text + suc room) (text ++ g ∷ rest) ≡ is_full room rest
full_past text g rest room = grind (arith, nat_tests, length-append {A = ℕ})

-- a part that a gap ends is the first that is complete
complete_more : (text : Bytes) (g : ℕ) (rest : Bytes) (room : ℕ) → list_any is_gap text ≡ false → is_gap g ≡ true
    → complete_parts (length text + suc room) (text ++ g ∷ rest) ≡ text ∷ complete_parts room rest
complete_more text g rest room none gap =
    ap (λ (b : Bool). cond b (without_last (slice_split is_gap (take (length text + suc room) (text ++ g ∷ rest)))) (slice_split is_gap (take (length text + suc room) (text ++ g ∷ rest)))) (full_past text g rest room)
    ∙ ap (λ (l : Bytes). cond (is_full room rest) (without_last (slice_split is_gap l)) (slice_split is_gap l)) (take_past text g rest room)
    ∙ ap (λ (ps : List Bytes). cond (is_full room rest) (without_last ps) ps) (split_after is_gap text g (take room rest) none gap)
    ∙ go (is_full room rest)
  where
    go : (b : Bool) → cond b (without_last (text ∷ slice_split is_gap (take room rest))) (text ∷ slice_split is_gap (take room rest))
        ≡ text ∷ cond b (without_last (slice_split is_gap (take room rest))) (slice_split is_gap (take room rest))
    go true = without_last-cons text (slice_split is_gap (take room rest)) (some_gap_part (take room rest))
    go false = refl

-- the items of these parts
abbrev of_parts : List Bytes → Bool → Items
of_parts parts full = record { content = Tokens (filter is_nonempty parts); lack = if full then TooLong else Short }

past_gap : (text : Bytes) (g : ℕ) (rest : Bytes) (room : ℕ) → list_any is_gap text ≡ false → is_gap g ≡ true
    → items_of Ascii (length text + suc room) (text ++ g ∷ rest) ≡ of_parts (text ∷ complete_parts room rest) (is_full room rest)
past_gap text g rest room none gap =
    ap (λ (ps : List Bytes). of_parts ps (is_full (length text + suc room) (text ++ g ∷ rest))) (complete_more text g rest room none gap)
    ∙ ap (of_parts (text ∷ complete_parts room rest)) (full_past text g rest room)

-- at the end of the input the text is complete
at_end : (text : Bytes) (room : ℕ) → list_any is_gap text ≡ false → 0 < room
    → items_of Ascii (length text + room) text ≡ of_parts (text ∷ []) false
at_end text room none some =
    let open_room : is_full (length text + room) text ≡ false = grind (arith, nat_tests) in
    let whole : take (length text + room) text ≡ text = grind (arith, common_steps) in
    rw (open_room, whole, split_alone is_gap text none) refl

-- where the room is full it isn't
at_full : (text rest : Bytes) → list_any is_gap text ≡ false → items_of Ascii (length text + 0) (text ++ rest) ≡ of_parts [] true
at_full text rest none =
    let full : is_full (length text + 0) (text ++ rest) ≡ true = grind (arith, nat_tests, length-append {A = ℕ}) in
    let whole : take (length text + 0) (text ++ rest) ≡ text = grind (arith, common_steps) in
    rw (full, whole, split_alone is_gap text none) refl

-- a text in front is taken or refused by its length
first_taken : (kind : Kind) (text : Bytes) (parts : List Bytes) (full : Bool) → 0 < length text → length text ≤ 64
    → item kind (of_parts (text ∷ parts) full) ≡ Ok (Token text, of_parts parts full)
first_taken kind [] parts full some few = absurd (omega arith)
first_taken kind (c ∷ cs) parts full some few =
    let short : nat_lt 64 (length (c ∷ cs)) ≡ false = grind (arith, nat_tests) in
    ap (λ (b : Bool). unless b Number (Token (c ∷ cs), of_parts parts full)) short

first_refused : (kind : Kind) (text : Bytes) (parts : List Bytes) (full : Bool) → 64 < length text
    → item kind (of_parts (text ∷ parts) full) ≡ Err Number
first_refused kind [] parts full long = absurd (omega arith)
first_refused kind (c ∷ cs) parts full long =
    let is_long : nat_lt 64 (length (c ∷ cs)) ≡ true = grind (arith, nat_tests) in
    ap (λ (b : Bool). unless b Number (Token (c ∷ cs), of_parts parts full)) is_long

ahead-nil : (told : Option Bytes) → ahead [] told ≡ told
ahead-nil None = refl
ahead-nil (Some bytes) = refl

-- The steps of a reader of tokens, which has taken a text.
pub byte_taken : (text : Bytes) (b room less : ℕ) (mid new : Option Bytes) → mid ≡ ahead (b ∷ []) new → room ≡ suc less
    → items_behind text room mid ≡ items_behind (text ++ b ∷ []) less new
byte_taken text b room less mid new next is =
    ap (items_behind text room) next ∙ ap (λ (n : ℕ). items_behind text n (ahead (b ∷ []) new)) is ∙ go new
  where
    go : (told : Option Bytes) → items_behind text (suc less) (ahead (b ∷ []) told) ≡ items_behind (text ++ b ∷ []) less told
    go None = refl
    go (Some rest) =
        let room_is : length text + suc less ≡ length (text ++ b ∷ []) + less = omega (arith, length-append text (b ∷ [])) in
        ap Some (ap (λ (n : ℕ). items_of Ascii n (text ++ b ∷ rest)) room_is
        ∙ ap (items_of Ascii (length (text ++ b ∷ []) + less)) (sym (append_assoc text (b ∷ []) rest)))

pub gap_passed : (text : Bytes) (g room less : ℕ) (mid new : Option Bytes) → mid ≡ ahead (g ∷ []) new → room ≡ suc less → is_gap g ≡ true
    → length text ≡ 0 → items_behind text room mid ≡ items_behind text less new
gap_passed (c ∷ cs) g room less mid new next is gap empty = absurd (omega arith)
gap_passed [] g room less mid new next is gap empty =
    ap (items_behind [] room) next ∙ ap (λ (n : ℕ). items_behind [] n (ahead (g ∷ []) new)) is ∙ go new
  where
    go : (told : Option Bytes) → items_behind [] (suc less) (ahead (g ∷ []) told) ≡ items_behind [] less told
    go None = refl
    go (Some rest) = ap Some (past_gap [] g rest less refl gap ∙ ap (λ (n : ℕ). items_of Ascii n rest) (sym (zero-add less)))

pub gap_taken : (kind : Kind) (text : Bytes) (g room less : ℕ) (mid new : Option Bytes) → mid ≡ ahead (g ∷ []) new → room ≡ suc less → is_gap g ≡ true
    → list_any is_gap text ≡ false → 0 < length text → length text ≤ 64 → Takes (item kind) (items_behind text room mid) (Token text) (items_ahead Ascii less new)
gap_taken kind text g room less mid new next is gap none some few =
    subst (λ (told : Option Bytes). Takes (item kind) (items_behind text room told) (Token text) (items_ahead Ascii less new)) (sym next)
    (subst (λ (n : ℕ). Takes (item kind) (items_behind text n (ahead (g ∷ []) new)) (Token text) (items_ahead Ascii less new)) (sym is) (go new))
  where
    go : (told : Option Bytes) → Takes (item kind) (items_behind text (suc less) (ahead (g ∷ []) told)) (Token text) (items_ahead Ascii less told)
    go None = refl
    go (Some rest) = ap Some (ap (item kind) (past_gap text g rest less none gap) ∙ first_taken kind text (complete_parts less rest) (is_full less rest) some few)

pub long_at_gap : (kind : Kind) (text : Bytes) (g room less : ℕ) (mid new : Option Bytes) → mid ≡ ahead (g ∷ []) new → room ≡ suc less → is_gap g ≡ true
    → IsLong text → Refuses (item kind) (items_behind text room mid) Number
long_at_gap kind text g room less mid new next is gap text_is =
    subst (λ (told : Option Bytes). Refuses (item kind) (items_behind text room told) Number) (sym next)
    (subst (λ (n : ℕ). Refuses (item kind) (items_behind text n (ahead (g ∷ []) new)) Number) (sym is) (go new))
  where
    go : (told : Option Bytes) → Refuses (item kind) (items_behind text (suc less) (ahead (g ∷ []) told)) Number
    go None = λ items here. absurd (cc)
    go (Some rest) = refused_here (item kind) _ Number
        (ap (item kind) (past_gap text g rest less text_is.no_gap gap) ∙ first_refused kind text (complete_parts less rest) (is_full less rest) text_is.long)

-- nothing is left
abbrev pub IsEnd : Option Bytes → Type 0
IsEnd told = (rest : Bytes) → told ≡ Some rest → rest ≡ []

behind_end : (text : Bytes) (room : ℕ) (rest : Bytes) → rest ≡ [] → list_any is_gap text ≡ false → 0 < room
    → items_of Ascii (length text + room) (text ++ rest) ≡ of_parts (text ∷ []) false
behind_end text room rest empty none some =
    ap (λ (r : Bytes). items_of Ascii (length text + room) (text ++ r)) empty
    ∙ ap (items_of Ascii (length text + room)) (append-nil text) ∙ at_end text room none some

nothing_left : (room : ℕ) (rest : Bytes) → rest ≡ [] → 0 < room → items_of Ascii room rest ≡ of_parts [] false
nothing_left room rest empty some =
    ap (λ (n : ℕ). items_of Ascii n rest) (sym (zero-add room)) ∙ behind_end [] room rest empty refl some

pub end_taken : (kind : Kind) (text : Bytes) (room : ℕ) (mid new : Option Bytes) → mid ≡ ahead [] new → IsEnd mid
    → list_any is_gap text ≡ false → 0 < room → 0 < length text → length text ≤ 64
    → Takes (item kind) (items_behind text room mid) (Token text) (items_ahead Ascii room new)
end_taken kind text room mid new next end none room_some some few =
    let same : mid ≡ new = next ∙ ahead-nil new in
    subst (λ (told : Option Bytes). Takes (item kind) (items_behind text room mid) (Token text) (items_ahead Ascii room told)) same (go mid end)
  where
    go : (told : Option Bytes) → IsEnd told → Takes (item kind) (items_behind text room told) (Token text) (items_ahead Ascii room told)
    go None end' = refl
    go (Some rest) end' =
        ap Some (ap (item kind) (behind_end text room rest (end' rest refl) none room_some) ∙ first_taken kind text [] false some few
        ∙ ap (λ (items : Items). Ok (Token text, items)) (sym (nothing_left room rest (end' rest refl) room_some)))

pub end_short : (kind : Kind) (text : Bytes) (room : ℕ) (mid : Option Bytes) → IsEnd mid → 0 < room → length text ≡ 0
    → Refuses (item kind) (items_behind text room mid) Short
end_short kind text room None end some empty = λ items here. absurd (cc)
end_short kind (c ∷ cs) room (Some rest) end some empty = absurd (omega arith)
end_short kind [] room (Some rest) end some empty =
    refused_here (item kind) _ Short (ap (item kind) (behind_end [] room rest (end rest refl) refl some))

pub end_long : (kind : Kind) (text : Bytes) (room : ℕ) (mid : Option Bytes) → IsEnd mid → 0 < room → IsLong text
    → Refuses (item kind) (items_behind text room mid) Number
end_long kind text room None end some text_is = λ items here. absurd (cc)
end_long kind text room (Some rest) end some text_is =
    refused_here (item kind) _ Number
    (ap (item kind) (behind_end text room rest (end rest refl) text_is.no_gap some) ∙ first_refused kind text [] false text_is.long)

pub at_the_room : (kind : Kind) (text : Bytes) (room : ℕ) (mid : Option Bytes) → room ≡ 0 → list_any is_gap text ≡ false
    → Refuses (item kind) (items_behind text room mid) TooLong
at_the_room kind text room None full none = λ items here. absurd (cc)
at_the_room kind text room (Some rest) full none =
    refused_here (item kind) _ TooLong
    (ap (item kind) (ap (λ (n : ℕ). items_of Ascii (length text + n) (text ++ rest)) full ∙ at_full text rest none))

-- A text with one byte more.
pub no_gap_more : (text : Bytes) (b : ℕ) → list_any is_gap text ≡ false → is_gap b ≡ false → list_any is_gap (text ++ b ∷ []) ≡ false
no_gap_more text b none plain = rw (list_any-append is_gap text (b ∷ []), none, plain) refl

pub long_more : (text : Bytes) (b : ℕ) → IsLong text → is_gap b ≡ false → IsLong (text ++ b ∷ [])
long_more text b text_is plain = record {
  no_gap = no_gap_more text b text_is.no_gap plain;
  long = omega (arith, length-append text (b ∷ []), text_is.long);
}

-- The same of items that are told in another way.
pub refused_from : {X : Type 0} (read : Items → Result X Flaw) (old new : Option Items) (flaw told : Flaw) → old ≡ new → told ≡ flaw → Refuses read new told → Refuses read old flaw
refused_from read old new flaw told same is refused items here = refused items (sym same ∙ here) ∙ ap Err is

pub taken_from : {X : Type 0} (read : Items → Result (X × Items) Flaw) (old mid new : Option Items) (x : X) → old ≡ mid → Takes read mid x new → Takes read old x new
taken_from read old mid new x same taken = ap (option_map read) same ∙ taken
