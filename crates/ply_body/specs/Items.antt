-- The items of a body, and what each means.
use Rattle.std.specs.Prelude.{◌≡◌, ℕ, zero, suc, ◌^◌, Bool, true, false, ◌&&◌, ◌||◌, List, [], ◌∷◌, length, take, drop, nat_le, nat_lt, ◌==◌, filter, if◌then◌else◌, ℤ, pos, negsuc, ◌*ℤ◌, unsigned_abs, Option, Some, None, Result, Ok, Err}
use Rattle.std.specs.List.{slice_split}
use Rattle.std.specs.Option.{option_map, ForSome}
use Rattle.byteorder.specs.Endian.{big_number, little_number, twos_complement}
use Rattle.tpz_io.specs.Told.{ahead}
use Rattle.tpz_base.specs.Texts.{Bytes}
use Rattle.ply_head.specs.declared.element.Format.{Format}
use Rattle.ply_head.specs.declared.element.Format.TheVariants.{Ascii, Big}
use Rattle.ply_head.specs.declared.element.Kind.{Kind}
use Rattle.ply_head.specs.declared.element.Kind.TheVariants.{I8, U8, I16, U16, I32, U32, F32, F64}
use Rattle.ply_head.specs.declared.element.Property.{Property}
use Rattle.ply_head.specs.declared.fault.NumberFault.{NumberFault}
use Rattle.ply_head.specs.declared.fault.NumberFault.TheVariants as number_fault
use Rattle.ply_head.specs.Numbers.{LIMIT, number, signed, value, is_negative, without_sign, are_digits}
use Rattle.ply_head.specs.Lines.{is_nonempty}
use Rattle.ply_body.specs.declared.item.Item.{Item}
use Rattle.ply_body.specs.declared.item.Item.TheVariants.{Token, Field}
use Rattle.ply_body.specs.declared.fault.Flaw.{Flaw}
use Rattle.ply_body.specs.declared.fault.Flaw.TheVariants.{Short, Number, Range, BadIndex, TooLong}

infixl 10 ◌>>=◌
abbrev pub ◌>>=◌ : {A B E : Type 0} → Result A E → (A → Result B E) → Result B E
(Ok x) >>= f = f x
(Err e) >>= f = Err e

-- x, but a refusal where b holds
abbrev pub unless : {X E : Type 0} → Bool → E → X → Result X E
unless b e x = if b then Err e else Ok x

-- Tokens, or the bytes of fields.
pub data Content : Type 0 where
  Tokens : List Bytes → Content
  Fields : Format → Bytes → Content

-- What is left of a body, and what want of an item is.
pub record Items : Type 0 where
  pub content : Content
  pub lack : Flaw

-- how many bytes a field has
abbrev pub size_of : Kind → ℕ
size_of I8 = 1
size_of U8 = 1
size_of I16 = 2
size_of U16 = 2
size_of I32 = 4
size_of U32 = 4
size_of F32 = 4
size_of F64 = 8

-- the bits of a float are read as two's complement too, so that the number in each field fits an i64
abbrev pub is_signed : Kind → Bool
is_signed U8 = false
is_signed U16 = false
is_signed U32 = false
is_signed _ = true

abbrev pub unsigned_value : Format → ℕ → Bytes → ℕ
unsigned_value Big size bytes = big_number size bytes
unsigned_value _ size bytes = little_number size bytes

-- the number in the bytes of a field; of a float its bits
abbrev pub field_value : Format → Kind → Bytes → ℤ
field_value format kind bytes =
    let n = unsigned_value format (size_of kind) bytes in
    if is_signed kind then twos_complement (size_of kind) n else pos n

-- the next item, and what is left behind it
abbrev pub next_item : Kind → Items → Result (Item × Items) Flaw
next_item kind items = by_content items.content where
  by_content : Content → Result (Item × Items) Flaw
  by_content (Tokens []) = Err items.lack
  by_content (Tokens (t ∷ ts)) = Ok (Token t, record items { content = Tokens ts })
  by_content (Fields format bytes) =
      if nat_lt (length bytes) (size_of kind) then Err items.lack
      else Ok (Field (field_value format kind (take (size_of kind) bytes)), record items { content = Fields format (drop (size_of kind) bytes) })

-- The bytes that are looked at. Where there are as many, want of an item is TooLong, and the last token isn't complete.
abbrev pub MOST_BYTES : ℕ
MOST_BYTES = 1099511627776

abbrev pub is_full : ℕ → Bytes → Bool
is_full room bytes = nat_le room (length bytes)

abbrev pub lack_of : ℕ → Bytes → Flaw
lack_of room bytes = if is_full room bytes then TooLong else Short

abbrev pub is_gap : ℕ → Bool
is_gap b = b == 32 || b == 9 || b == 10 || b == 13

abbrev pub without_last : List Bytes → List Bytes
without_last [] = []
without_last (p ∷ []) = []
without_last (p ∷ q ∷ ps) = p ∷ without_last (q ∷ ps)

-- the parts between gaps that are complete within the room
abbrev pub complete_parts : ℕ → Bytes → List Bytes
complete_parts room bytes =
    let parts = slice_split is_gap (take room bytes) in
    if is_full room bytes then without_last parts else parts

-- those that hold something
abbrev pub tokens : ℕ → Bytes → List Bytes
tokens room bytes = filter is_nonempty (complete_parts room bytes)

abbrev pub content_of : Format → ℕ → Bytes → Content
content_of Ascii room bytes = Tokens (tokens room bytes)
content_of format room bytes = Fields format (take room bytes)

abbrev pub items_of : Format → ℕ → Bytes → Items
items_of format room bytes = record { content = content_of format room bytes; lack = lack_of room bytes }

-- What an item means.
abbrev pub is_long : Item → Bool
is_long (Token t) = nat_lt 64 (length t)
is_long (Field z) = false

abbrev pub fits_i64 : Bool → ℕ → Bool
fits_i64 minus n = nat_lt n (2 ^ 63) || (minus && n == 2 ^ 63)

-- a sign or none and 1 to 19 digits that fit an i64
abbrev pub whole_number : Item → Result ℤ Flaw
whole_number (Token t) =
    let n = value (without_sign t) in
    if are_digits 1 19 (without_sign t) && fits_i64 (is_negative t) n then Ok (signed (is_negative t) n) else Err Number
whole_number (Field z) = Ok z

abbrev pub by_number : Result ℤ NumberFault → Result ℤ Flaw
by_number (Ok z) = Ok z
by_number (Err number_fault.Range) = Err Range
by_number (Err _) = Err Number

abbrev pub coordinate_of : ℕ → Item → Result ℤ Flaw
coordinate_of digits (Token t) = by_number (number t digits)
coordinate_of digits (Field z) =
    let scaled = z *ℤ pos (10 ^ digits) in
    unless (nat_lt LIMIT (unsigned_abs scaled)) Range scaled

abbrev pub not_below_zero : ℤ → Result ℕ Flaw
not_below_zero (pos n) = Ok n
not_below_zero (negsuc n) = Err Number

abbrev pub count_of : Item → Result ℕ Flaw
count_of i = whole_number i >>= not_below_zero

abbrev pub below : ℕ → ℤ → Result ℕ Flaw
below n (pos i) = unless (nat_le n i) (BadIndex (pos i)) i
below n (negsuc i) = Err (BadIndex (negsuc i))

abbrev pub index_of : ℕ → Item → Result ℕ Flaw
index_of n i = whole_number i >>= below n

-- the next item; a token of more than 64 bytes is refused
abbrev pub item : Kind → Items → Result (Item × Items) Flaw
item kind items = next_item kind items >>= λ i. unless (is_long i.0) Number i

-- an item by its meaning
abbrev pub item_as : {X : Type 0} → (Item → Result X Flaw) → Kind → Items → Result (X × Items) Flaw
item_as meaning kind items = do
  i ← item kind items
  x ← meaning i.0
  Ok (x, i.1)

-- n items that aren't read
abbrev pub skipped : Kind → ℕ → Items → Result Items Flaw
skipped kind zero items = Ok items
skipped kind (suc n) items = do
  i ← item kind items
  skipped kind n i.1

-- the items behind those of a property that isn't used
abbrev pub pass_one : Property → Items → Result Items Flaw
pass_one p items = by_count p.count_kind where
  by_count : Option Kind → Result Items Flaw
  by_count None = skipped p.kind 1 items
  by_count (Some count_kind) = item_as count_of count_kind items >>= λ n. skipped p.kind n.0 n.1

-- the items behind those of properties that aren't used
abbrev pub passed : List Property → Items → Result Items Flaw
passed [] items = Ok items
passed (p ∷ ps) items = pass_one p items >>= λ rest. passed ps rest

-- Where a reader of items is: the format, how many more bytes are looked at, and bytes that were read and not yet taken.
pub record ItemPlace : Type 0 where
  pub format : Format
  pub room : ℕ
  pub held : Bytes

-- the items from a place on, where the bytes are told that a source has left
abbrev pub items_told : ItemPlace → Option Bytes → Option Items
items_told place told = option_map (items_of place.format place.room) (ahead place.held told)

-- The items begin with one that means x, and then they are those that are told now.
abbrev pub Takes : {X : Type 0} → (Items → Result (X × Items) Flaw) → Option Items → X → Option Items → Type 0
Takes read old x new = option_map read old ≡ option_map (λ items. Ok (x, items)) new

-- The items begin with one that is refused so.
abbrev pub Refuses : {X : Type 0} → (Items → Result X Flaw) → Option Items → Flaw → Type 0
Refuses read old flaw = ForSome old (λ items. read items ≡ Err flaw)
