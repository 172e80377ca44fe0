-- How the fields of a body follow one another.
use Rattle.std.proofs.Common.{◌≡◌, ◌≢◌, ℕ, suc, ◌+◌, ◌<◌, [], ◌∷◌, ◌++◌, length, take, drop, refl, sym, ◌∙◌, ap, arith, Bool, true, false, length-append, zero-add}
use Rattle.std.specs.Prelude.{nat_lt, Ok, Err, if◌then◌else◌}
use Rattle.std.proofs.lemmas.Bool.Decides.{nat_tests}
use Rattle.std.proofs.lemmas.Grind.{common_steps}
use Rattle.std.specs.declared.option.Option.{Option}
use Rattle.std.specs.declared.option.Option.TheVariants.{None, Some}
use Rattle.tpz_io.specs.Told.{ahead}
use Rattle.tpz_base.specs.Texts.{Bytes}
use Rattle.ply_head.specs.declared.element.Format.{Format}
use Rattle.ply_head.specs.declared.element.Format.TheVariants.{Ascii, Little, Big}
use Rattle.ply_head.specs.declared.element.Kind.{Kind}
use Rattle.ply_body.specs.declared.fault.Flaw.{Flaw}
use Rattle.ply_body.specs.declared.fault.Flaw.TheVariants.{Short, TooLong}
use Rattle.ply_body.specs.declared.item.Item.TheVariants.{Field}
use Rattle.ply_body.specs.Items.{Items, Fields, field_value, size_of, is_full, lack_of, items_of, item, Refuses, Takes}
use Rattle.ply_body.specs.Tokens.{items_ahead}

-- the items in these bytes
abbrev in_bytes : Format → Flaw → Bytes → Items
in_bytes format lack bytes = record { content = Fields format bytes; lack = lack }

first_field : (format : Format) (kind : Kind) (lack : Flaw) (bytes more : Bytes) → length bytes ≡ size_of kind
    → item kind (in_bytes format lack (bytes ++ more)) ≡ Ok (Field (field_value format kind bytes), in_bytes format lack more)
first_field format kind lack bytes more size =
    let enough : nat_lt (length (bytes ++ more)) (size_of kind) ≡ false = grind (arith, nat_tests, length-append {A = ℕ}) in
    let front : take (size_of kind) (bytes ++ more) ≡ bytes = grind (arith, common_steps) in
    let behind : drop (size_of kind) (bytes ++ more) ≡ more = grind (arith, common_steps) in
    rw (enough, front, behind) refl

no_field : (format : Format) (kind : Kind) (lack : Flaw) (bytes : Bytes) → length bytes < size_of kind
    → item kind (in_bytes format lack bytes) ≡ Err lack
no_field format kind lack bytes less =
    let few : nat_lt (length bytes) (size_of kind) ≡ true = grind (arith, nat_tests) in
    rw few refl

binary_items : (format : Format) (room : ℕ) (bytes : Bytes) → format ≢ Ascii → items_of format room bytes ≡ in_bytes format (lack_of room bytes) (take room bytes)
binary_items Ascii room bytes binary = absurd (binary refl)
binary_items Little room bytes binary = refl
binary_items Big room bytes binary = refl

take_behind : (bytes rest : Bytes) (room : ℕ) → take (length bytes + room) (bytes ++ rest) ≡ bytes ++ take room rest
take_behind [] rest room = rw zero-add refl
take_behind (b ∷ bs) rest room =
    let more : suc (length bs) + room ≡ suc (length bs + room) = omega arith in
    rw more (ap (λ (l : Bytes). b ∷ l) (take_behind bs rest room))

full_behind : (bytes rest : Bytes) (room : ℕ) → is_full (length bytes + room) (bytes ++ rest) ≡ is_full room rest
full_behind bytes rest room = grind (arith, nat_tests, length-append {A = ℕ})

field_here : (format : Format) (kind : Kind) (bytes rest : Bytes) (room : ℕ) → format ≢ Ascii → length bytes ≡ size_of kind
    → item kind (items_of format (length bytes + room) (bytes ++ rest)) ≡ Ok (Field (field_value format kind bytes), items_of format room rest)
field_here format kind bytes rest room binary size =
    ap (item kind) (binary_items format (length bytes + room) (bytes ++ rest) binary
    ∙ ap (in_bytes format (lack_of (length bytes + room) (bytes ++ rest))) (take_behind bytes rest room)
    ∙ ap (λ (b : Bool). in_bytes format (if b then TooLong else Short) (bytes ++ take room rest)) (full_behind bytes rest room))
    ∙ first_field format kind (lack_of room rest) bytes (take room rest) size
    ∙ ap (λ (items : Items). Ok (Field (field_value format kind bytes), items)) (sym (binary_items format room rest binary))

pub field_taken : (format : Format) (kind : Kind) (bytes : Bytes) (room less : ℕ) (old new : Option Bytes) → format ≢ Ascii → length bytes ≡ size_of kind
    → old ≡ ahead bytes new → room ≡ length bytes + less
    → Takes (item kind) (items_ahead format room old) (Field (field_value format kind bytes)) (items_ahead format less new)
field_taken format kind bytes room less None None binary size next is = refl
field_taken format kind bytes room less None (Some rest) binary size next is = absurd (cc)
field_taken format kind bytes room less (Some all) None binary size next is = absurd (cc)
field_taken format kind bytes room less (Some all) (Some rest) binary size next is =
    let whole : all ≡ bytes ++ rest = cc in
    ap Some (rw (whole, is) (field_here format kind bytes rest less binary size))

pub field_refused : (format : Format) (kind : Kind) (room : ℕ) (old : Option Bytes) (flaw : Flaw) → format ≢ Ascii
    → ((rest : Bytes) → old ≡ Some rest → (length (take room rest) < size_of kind) × (flaw ≡ lack_of room rest))
    → Refuses (item kind) (items_ahead format room old) flaw
field_refused format kind room None flaw binary lacks items here = absurd (cc)
field_refused format kind room (Some all) flaw binary lacks items here =
    let same : items_of format room all ≡ items = cc in
    let facts = lacks all refl in
    ap (item kind) (sym same ∙ binary_items format room all binary) ∙ no_field format kind (lack_of room all) (take room all) facts.0 ∙ ap Err (sym facts.1)
