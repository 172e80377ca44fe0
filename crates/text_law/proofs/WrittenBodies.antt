-- The rows and the faces behind a written header are read back.
use Rattle.std.proofs.Common.{◌≡◌, ℕ, suc, ◌+◌, ◌*◌, ◌<◌, ◌≤◌, ◌^◌, List, [], ◌∷◌, ◌++◌, length, take, refl, ◌∙◌, ap, arith, true, false, append_assoc, length-append}
use Rattle.std.specs.Prelude.{codes, decimal, nat_lt, nat_le, filter, map, flat_map, All, ℤ, pos, negsuc, unsigned_abs, Some, None, Ok}
use Rattle.std.specs.Fmt.{signed_decimal}
use Rattle.std.specs.Int.Signed.{mag}
use Rattle.std.specs.List.{list_any, slice_split}
use Rattle.std.proofs.lemmas.Bool.Decides.{nat_tests}
use Rattle.std.proofs.lemmas.List.{take_all}
use Rattle.std.proofs.lemmas.List.Elements.{All-head, All-tail}
use Rattle.std.proofs.lemmas.Fmt.{decimal_nonempty, length-decimal-le, length_signed_le}
use Rattle.tpz_base.specs.Cubes.{Row}
use Rattle.tpz_base.specs.Texts.{Bytes, Face}
use Rattle.ply_head.specs.declared.element.Format.TheVariants.{Ascii}
use Rattle.ply_head.specs.declared.element.Kind.TheVariants.{U8, I32}
use Rattle.ply_head.specs.declared.element.Property.{Property}
use Rattle.ply_head.specs.declared.element.Role.TheVariants.{X, Y, Z, Indices}
use Rattle.ply_head.specs.Numbers.{is_digit}
use Rattle.ply_head.specs.Lines.{is_nonempty}
use Rattle.ply_head.proofs.WrittenHeads.{is_some_word, split_after}
use Rattle.ply_head.proofs.WrittenNumbers.{digits_written, no_minus, no_sign, none_among, number_written, value_written}
use Rattle.ply_body.specs.declared.fault.Flaw.{Flaw}
use Rattle.ply_body.specs.declared.fault.Flaw.TheVariants.{Short}
use Rattle.ply_body.specs.declared.item.Item.TheVariants.{Token}
use Rattle.ply_body.specs.Items.{Items, Tokens, coordinate_of, count_of, index_of, is_full, is_gap, item_as, items_of}
use Rattle.ply_body.specs.Bodies.{RowItems, Setting, fans, nothing_used, row_at, rows, spots, with_properties, MOST_TRIS}
use Rattle.ply_body.specs.Spots.{IsSmallRow}
use Rattle.cut_export.specs.Parts.{row_text, face_text}

-- What is left of a body.
abbrev pub left : List Bytes → Flaw → Items
left ts lack = record { content = Tokens ts; lack = lack }

abbrev pub row_words : Row → List Bytes
row_words r = signed_decimal r.x ∷ signed_decimal r.y ∷ signed_decimal r.z ∷ []

abbrev pub face_words : Face → List Bytes
face_words f = codes "3" ∷ decimal f.i ∷ decimal f.j ∷ decimal f.k ∷ []

-- The words of a text that is wholly read.
abbrev pub words_of : Bytes → List Bytes
words_of bytes = filter is_nonempty (slice_split is_gap bytes)

not_gap : (c : ℕ) → is_digit c ≡ true → is_gap c ≡ false
not_gap c h = grind (arith, nat_tests)

no_gap : (z : ℤ) → list_any is_gap (signed_decimal z) ≡ false
no_gap (pos n) = none_among is_gap not_gap (decimal n) (digits_written n)
no_gap (negsuc n) = none_among is_gap not_gap (decimal (suc n)) (digits_written (suc n))

first_word : (w : Bytes) (gap : ℕ) (rest : Bytes) → list_any is_gap w ≡ false → 0 < length w → is_gap gap ≡ true → words_of (w ++ gap ∷ rest) ≡ w ∷ words_of rest
first_word w gap rest none some ends =
    ap (filter is_nonempty) (split_after is_gap w gap rest none ends) ∙ rw (is_some_word w some) refl

small_fits : (z : ℤ) → unsigned_abs z ≤ 2147483647 → mag z < 2 ^ 63
small_fits (pos n) h = omega arith
small_fits (negsuc n) h = omega arith

written_some : (z : ℤ) → unsigned_abs z ≤ 2147483647 → 0 < length (signed_decimal z)
written_some (pos n) h = decimal_nonempty n (omega arith)
written_some (negsuc n) h = omega arith

coordinate_word : (z : ℤ) (gap : ℕ) (rest : Bytes) → unsigned_abs z ≤ 2147483647 → is_gap gap ≡ true → words_of (signed_decimal z ++ gap ∷ rest) ≡ signed_decimal z ∷ words_of rest
coordinate_word z gap rest small ends = first_word (signed_decimal z) gap rest (no_gap z) (written_some z small) ends

row_shape : (x y z rest : Bytes) → ((x ++ 32 ∷ (y ++ 32 ∷ z)) ++ 10 ∷ []) ++ rest ≡ x ++ 32 ∷ (y ++ 32 ∷ (z ++ 10 ∷ rest))
row_shape x y z rest = simp append_assoc

words_of_row : (r : Row) (rest : Bytes) → IsSmallRow r → words_of (row_text r ++ rest) ≡ row_words r ++ words_of rest
unfolding row_text
words_of_row r rest small =
    let x = signed_decimal r.x in
    let y = signed_decimal r.y in
    let z = signed_decimal r.z in
    ap words_of (row_shape x y z rest) ∙ coordinate_word r.x 32 (y ++ 32 ∷ (z ++ 10 ∷ rest)) small.x refl
    ∙ ap (λ (ws : List Bytes). x ∷ ws) (coordinate_word r.y 32 (z ++ 10 ∷ rest) small.y refl
    ∙ ap (λ (ws : List Bytes). y ∷ ws) (coordinate_word r.z 10 rest small.z refl))

pub words_of_rows : (rs : List Row) (rest : Bytes) → All IsSmallRow rs → words_of (flat_map row_text rs ++ rest) ≡ flat_map row_words rs ++ words_of rest
words_of_rows [] rest small = refl
words_of_rows (r ∷ rs) rest small =
    ap words_of (append_assoc (row_text r) (flat_map row_text rs) rest) ∙ words_of_row r (flat_map row_text rs ++ rest) (All-head IsSmallRow r rs small)
    ∙ ap (λ (ws : List Bytes). row_words r ++ ws) (words_of_rows rs rest (All-tail IsSmallRow r rs small))

-- a face of vertices that there are
pub record IsWithin (vertices : ℕ) (f : Face) : Type 0 where
  pub i : f.i < vertices
  pub j : f.j < vertices
  pub k : f.k < vertices

number_word : (n gap : ℕ) (rest : Bytes) → n < 2 ^ 63 → is_gap gap ≡ true → words_of (decimal n ++ gap ∷ rest) ≡ decimal n ∷ words_of rest
number_word n gap rest small ends = first_word (decimal n) gap rest (no_gap (pos n)) (decimal_nonempty n (omega arith)) ends

face_shape : (i j k rest : Bytes) → ((codes "3" ++ 32 ∷ (i ++ 32 ∷ (j ++ 32 ∷ k))) ++ 10 ∷ []) ++ rest ≡ codes "3" ++ 32 ∷ (i ++ 32 ∷ (j ++ 32 ∷ (k ++ 10 ∷ rest)))
face_shape i j k rest = simp append_assoc

words_of_face : (v : ℕ) (f : Face) (rest : Bytes) → v ≤ 2147483648 → IsWithin v f → words_of (face_text f ++ rest) ≡ face_words f ++ words_of rest
unfolding face_text
words_of_face v f rest few within =
    let i = decimal f.i in
    let j = decimal f.j in
    let k = decimal f.k in
    ap words_of (face_shape i j k rest) ∙ first_word (codes "3") 32 (i ++ 32 ∷ (j ++ 32 ∷ (k ++ 10 ∷ rest))) refl (omega arith) refl
    ∙ ap (λ (ws : List Bytes). codes "3" ∷ ws) (number_word f.i 32 (j ++ 32 ∷ (k ++ 10 ∷ rest)) (omega (arith, within.i)) refl
    ∙ ap (λ (ws : List Bytes). i ∷ ws) (number_word f.j 32 (k ++ 10 ∷ rest) (omega (arith, within.j)) refl
    ∙ ap (λ (ws : List Bytes). j ∷ ws) (number_word f.k 10 rest (omega (arith, within.k)) refl)))

pub words_of_faces : (v : ℕ) (fs : List Face) → v ≤ 2147483648 → All (IsWithin v) fs → words_of (flat_map face_text fs) ≡ flat_map face_words fs
words_of_faces v [] few within = refl
words_of_faces v (f ∷ fs) few within =
    words_of_face v f (flat_map face_text fs) few (All-head (IsWithin v) f fs within)
    ∙ ap (λ (ws : List Bytes). face_words f ++ ws) (words_of_faces v fs few (All-tail (IsWithin v) f fs within))

-- How many bytes there are.
mag_is : (z : ℤ) → mag z ≤ unsigned_abs z
mag_is (pos n) = omega arith
mag_is (negsuc n) = omega arith

row_short : (r : Row) → IsSmallRow r → length (row_text r) ≤ 36
unfolding row_text
row_short r small =
    let x = length_signed_le 10 r.x (omega (arith, small.x, mag_is r.x)) (small_fits r.x small.x) in
    let y = length_signed_le 10 r.y (omega (arith, small.y, mag_is r.y)) (small_fits r.y small.y) in
    let z = length_signed_le 10 r.z (omega (arith, small.z, mag_is r.z)) (small_fits r.z small.z) in
    simp length-append (omega (arith, x, y, z))

pub rows_short : (rs : List Row) → All IsSmallRow rs → length (flat_map row_text rs) ≤ 36 * length rs
rows_short [] small = omega arith
rows_short (r ∷ rs) small =
    omega (arith, length-append (row_text r) (flat_map row_text rs), row_short r (All-head IsSmallRow r rs small), rows_short rs (All-tail IsSmallRow r rs small))

face_short : (v : ℕ) (f : Face) → v ≤ 2147483648 → IsWithin v f → length (face_text f) ≤ 35
unfolding face_text
face_short v f few within =
    let i = length-decimal-le 10 f.i (omega arith) (omega (arith, within.i)) (omega (arith, within.i)) in
    let j = length-decimal-le 10 f.j (omega arith) (omega (arith, within.j)) (omega (arith, within.j)) in
    let k = length-decimal-le 10 f.k (omega arith) (omega (arith, within.k)) (omega (arith, within.k)) in
    simp length-append (omega (arith, i, j, k))

pub faces_short : (v : ℕ) (fs : List Face) → v ≤ 2147483648 → All (IsWithin v) fs → length (flat_map face_text fs) ≤ 35 * length fs
faces_short v [] few within = omega arith
faces_short v (f ∷ fs) few within =
    omega (arith, length-append (face_text f) (flat_map face_text fs), face_short v f few (All-head (IsWithin v) f fs within), faces_short v fs few (All-tail (IsWithin v) f fs within))

-- the items of a text that is shorter than the room
pub items_short : (room : ℕ) (bytes : Bytes) → length bytes < room → items_of Ascii room bytes ≡ left (words_of bytes) Short
items_short room bytes short =
    let part : is_full room bytes ≡ false = grind (arith, nat_tests) in
    let all : take room bytes ≡ bytes = take_all room bytes (omega arith) in
    rw (part, all) refl

-- What an item means.
is_short : (z : ℤ) → unsigned_abs z ≤ 2147483647 → nat_lt 64 (length (signed_decimal z)) ≡ false
is_short z small =
    let few = length_signed_le 10 z (omega (arith, small, mag_is z)) (small_fits z small) in
    grind (arith, nat_tests)

coordinate_read : (z : ℤ) (ts : List Bytes) (lack : Flaw) → unsigned_abs z ≤ 2147483647
    → item_as (coordinate_of 0) I32 (left (signed_decimal z ∷ ts) lack) ≡ Ok (z, left ts lack)
coordinate_read z ts lack small = rw (is_short z small, number_written z small) refl

-- .. of a corner of a face
index_means : (v n : ℕ) → v ≤ 2147483648 → n < v → index_of v (Token (decimal n)) ≡ Ok n
index_means v n few within =
    let ds = decimal n in
    let all = digits_written n in
    let same = value_written n (omega arith) in
    let some = decimal_nonempty n (omega arith) in
    let long = length-decimal-le 10 n (omega arith) (omega arith) (omega arith) in
    let least : nat_le 1 (length ds) ≡ true = grind (arith, nat_tests) in
    let most : nat_le (length ds) 19 ≡ true = grind (arith, nat_tests) in
    let fits : nat_lt n (2 ^ 63) ≡ true = grind (arith, nat_tests) in
    let there : nat_le v n ≡ false = grind (arith, nat_tests) in
    rw (no_sign ds all, no_minus ds all, all, least, most, same, fits) (rw there refl)

number_short : (n : ℕ) → n < 2147483648 → nat_lt 64 (length (decimal n)) ≡ false
number_short n small = is_short (pos n) (omega arith)

index_read : (v n : ℕ) (ts : List Bytes) (lack : Flaw) → v ≤ 2147483648 → n < v → item_as (index_of v) I32 (left (decimal n ∷ ts) lack) ≡ Ok (n, left ts lack)
index_read v n ts lack few within = rw (number_short n (omega arith), index_means v n few within) refl

count_read : (ts : List Bytes) (lack : Flaw) → item_as count_of U8 (left (codes "3" ∷ ts) lack) ≡ Ok (3, left ts lack)
count_read ts lack = refl

-- The properties of the vertices, and of the faces.
abbrev pub xyz : List Property
xyz = record { count_kind = None; kind = I32; role = X } ∷ record { count_kind = None; kind = I32; role = Y } ∷ record { count_kind = None; kind = I32; role = Z } ∷ []

abbrev pub indices : List Property
indices = record { count_kind = Some U8; kind = I32; role = Indices } ∷ []

abbrev pub setting : ℕ → Setting
setting v = record { digits = 0; vertices = v }

abbrev pub as_row : Row → RowItems
as_row r = record { row = r; corners = [] }

abbrev pub as_face : Face → RowItems
as_face f = record { row = row_at (pos 0) (pos 0) (pos 0); corners = f.i ∷ f.j ∷ f.k ∷ [] }

row_read : (v formed : ℕ) (r : Row) (ts : List Bytes) (lack : Flaw) → IsSmallRow r
    → with_properties (setting v) formed xyz nothing_used (left (row_words r ++ ts) lack) ≡ Ok (as_row r, left ts lack)
row_read v formed r ts lack small =
    let y = signed_decimal r.y in
    let z = signed_decimal r.z in
    rw (coordinate_read r.x (y ∷ z ∷ ts) lack small.x) (rw (coordinate_read r.y (z ∷ ts) lack small.y) (rw (coordinate_read r.z ts lack small.z) refl))

pub rows_read : (v e at formed : ℕ) (rs : List Row) (ts : List Bytes) (lack : Flaw) → All IsSmallRow rs
    → rows (setting v) e xyz at formed (length rs) (left (flat_map row_words rs ++ ts) lack) ≡ Ok (map as_row rs, left ts lack)
rows_read v e at formed [] ts lack small = refl
rows_read v e at formed (r ∷ rs) ts lack small =
    rw (row_read v formed r (flat_map row_words rs ++ ts) lack (All-head IsSmallRow r rs small))
    (rw (rows_read v e (suc at) (formed + 0) rs ts lack (All-tail IsSmallRow r rs small)) refl)

face_read : (v formed : ℕ) (f : Face) (ts : List Bytes) (lack : Flaw) → v ≤ 2147483648 → formed + 1 ≤ MOST_TRIS → IsWithin v f
    → with_properties (setting v) formed indices nothing_used (left (face_words f ++ ts) lack) ≡ Ok (as_face f, left ts lack)
face_read v formed f ts lack few room within =
    let j = decimal f.j in
    let k = decimal f.k in
    let one : nat_lt MOST_TRIS (formed + 1) ≡ false = grind (arith, nat_tests) in
    rw (index_read v f.i (j ∷ k ∷ ts) lack few within.i)
    (rw (index_read v f.j (k ∷ ts) lack few within.j) (rw (index_read v f.k ts lack few within.k) (rw one refl)))

pub faces_read : (v e at formed : ℕ) (fs : List Face) (ts : List Bytes) (lack : Flaw) → v ≤ 2147483648 → formed + length fs ≤ MOST_TRIS → All (IsWithin v) fs
    → rows (setting v) e indices at formed (length fs) (left (flat_map face_words fs ++ ts) lack) ≡ Ok (map as_face fs, left ts lack)
faces_read v e at formed [] ts lack few room within = refl
faces_read v e at formed (f ∷ fs) ts lack few room within =
    rw (face_read v formed f (flat_map face_words fs ++ ts) lack few (omega arith) (All-head (IsWithin v) f fs within))
    (rw (faces_read v e (suc at) (formed + 1) fs ts lack few (omega arith) (All-tail (IsWithin v) f fs within)) refl)

pub spots_are : (rs : List Row) → spots (map as_row rs) ≡ rs
spots_are [] = refl
spots_are (r ∷ rs) = ap (λ (qs : List Row). r ∷ qs) (spots_are rs)

pub fans_are : (fs : List Face) → fans (map as_face fs) ≡ fs
fans_are [] = refl
fans_are (f ∷ fs) = ap (λ (gs : List Face). f ∷ gs) (fans_are fs)
