-- The bytes of rows in a blob, and the row at a place among them.
use Rattle.std.proofs.Common.{◌≡◌, ℕ, zero, suc, ◌+◌, ◌-◌, ◌*◌, ◌^◌, ◌<◌, ◌≤◌, List, [], ◌∷◌, ◌++◌, length, take, drop, replicate, get_or, refl, sym, ◌∙◌, ap, subst, arith, append_assoc, w32}
use Rattle.std.specs.Prelude.{false, ℤ, pos, ◌-ℤ◌, unsigned_abs, FitsSigned, Result, Ok, Err, OnOk, is_err}
use Rattle.std.specs.List.{slice_index_or}
use Rattle.std.specs.Int.{cast_signed, cast_unsigned}
use Rattle.std.specs.Option.{ForSome, option_map}
use Rattle.std.specs.declared.option.Option.{Option}
use Rattle.std.specs.declared.option.Option.TheVariants.{None, Some}
use Rattle.std.proofs.lemmas.Int.{ints, to_z-of_z}
use Rattle.std.proofs.lemmas.List.{take_at, drop_at, drop-drop, drop-take, take-take, take-append-le, length-append, length-take, append-nil}
use Rattle.std.proofs.lemmas.Grind.{flat_map-append}
use Rattle.byteorder.specs.Endian.{little_number}
use Rattle.byteorder.specs.Numbers.{little_number-reads_back}
use Rattle.tpz_io.specs.Bytes.{written as put}
use Rattle.tpz_base.specs.Points.{point}
use Rattle.tpz_base.specs.Cubes.{less, natural_of, Row}
use Rattle.tpz_base.specs.Texts.{Bytes}
use Rattle.ply_body.specs.Spots.{coordinates, coordinate_bytes, row_bytes, rows_bytes, HoldsRows, IsSmallRow, Keeps}

pub length-row_bytes : (r : Row) → length (row_bytes r) ≡ 12
length-row_bytes r = refl

pub length-rows_bytes : (rows : List Row) → length (rows_bytes rows) ≡ 12 * length rows
length-rows_bytes [] = refl
length-rows_bytes (r ∷ rows) = length-append (row_bytes r) (rows_bytes rows) ∙ (let e = length-rows_bytes rows in omega (arith, length-row_bytes r, e))

-- the bytes of the row number n
block_at : (rows : List Row) (n : ℕ) (d : Row) → n < length rows → take 12 (drop (12 * n) (rows_bytes rows)) ≡ row_bytes (get_or rows n d)
block_at [] n d below = absurd (omega arith)
block_at (r ∷ rows) zero d below = take_at (row_bytes r) (rows_bytes rows) 12 (length-row_bytes r)
block_at (r ∷ rows) (suc n) d below =
    let e : 12 * suc n ≡ 12 + 12 * n = omega arith in
    rw e (rw (← drop-drop (12 * n) 12 (row_bytes r ++ rows_bytes rows)) (rw (drop_at (row_bytes r) (rows_bytes rows) 12 (length-row_bytes r)) (block_at rows n d (omega arith))))

-- what is told of a row is long enough
pub fits_at : (rows : List Row) (n : ℕ) (bytes : Bytes) → n < length rows → HoldsRows rows bytes → 12 * n + 12 ≤ length bytes
fits_at rows n bytes below held =
    let long = ap length held in
    omega (arith, length-rows_bytes rows, length-take (length (rows_bytes rows)) bytes, long)

pub row_at : (rows : List Row) (n : ℕ) (bytes : Bytes) (d : Row) → n < length rows → HoldsRows rows bytes
    → take 12 (drop (12 * n) bytes) ≡ row_bytes (get_or rows n d)
row_at rows n bytes d below held =
    let all : 12 * n + 12 ≤ length (rows_bytes rows) = omega (arith, length-rows_bytes rows) in
    sym (drop-take (12 * n) 12 bytes)
    ∙ ap (drop (12 * n)) (sym (take-take (12 * n + 12) (length (rows_bytes rows)) bytes all))
    ∙ ap (λ (l : Bytes). drop (12 * n) (take (12 * n + 12) l)) held
    ∙ drop-take (12 * n) 12 (rows_bytes rows)
    ∙ block_at rows n d below

-- a coordinate that is read back
read_back : (z : ℤ) (rest : Bytes) → unsigned_abs z ≤ 2147483647 → cast_signed w32 (little_number 4 (coordinate_bytes z ++ rest)) ≡ z
read_back z rest near =
    let fits : FitsSigned w32 z = omega (arith, ints) in
    let small : cast_unsigned w32 z < 256 ^ 4 = omega (arith, ints) in
    ap (cast_signed w32) (little_number-reads_back 4 (cast_unsigned w32 z) rest small) ∙ to_z-of_z w32 z fits

-- rows by their coordinates
pub rows_equal : (x y z x' y' z' : ℤ) → x ≡ x' → y ≡ y' → z ≡ z'
    → ◌≡◌ {A = Row} (record { x = x; y = y; z = z }) (record { x = x'; y = y'; z = z' })
rows_equal x y z x' y' z' xs ys zs = cc

pub row_back : (r : Row) (bytes : Bytes) (x y z : ℤ) → IsSmallRow r → bytes ≡ row_bytes r
    → x ≡ cast_signed w32 (little_number 4 bytes) → y ≡ cast_signed w32 (little_number 4 (take 8 (drop 4 bytes)))
    → z ≡ cast_signed w32 (little_number 4 (take 4 (drop 8 bytes))) → ◌≡◌ {A = Row} (record { x = x; y = y; z = z }) r
row_back r bytes x y z small is xs ys zs =
    let on_x : x ≡ r.x = xs ∙ ap (λ (l : Bytes). cast_signed w32 (little_number 4 l)) is ∙ read_back r.x (coordinate_bytes r.y ++ coordinate_bytes r.z) small.x in
    let on_y : y ≡ r.y = ys ∙ ap (λ (l : Bytes). cast_signed w32 (little_number 4 (take 8 (drop 4 l)))) is ∙ read_back r.y (coordinate_bytes r.z) small.y in
    let on_z : z ≡ r.z = zs ∙ ap (λ (l : Bytes). cast_signed w32 (little_number 4 (take 4 (drop 8 l)))) is ∙ read_back r.z [] small.z in
    rows_equal x y z r.x r.y r.z on_x on_y on_z

-- The rows that are in a blob or on their way to it.

pub keeps_more : (rows : List Row) (r : Row) (way : Bytes) (told : Option Bytes) → Keeps rows way told
    → Keeps (rows ++ r ∷ []) (way ++ row_bytes r) told
keeps_more rows r way told (written, later, split, bytes, held) = (
  written,
  later ++ r ∷ [],
  ap (λ (l : List Row). l ++ r ∷ []) split ∙ append_assoc written later (r ∷ []),
  ap (λ (l : Bytes). l ++ row_bytes r) bytes ∙ sym (flat_map-append row_bytes later (r ∷ [])),
  held,
)

-- a write right behind a front
behind_front : (old front way : Bytes) (at : ℕ) → at ≡ length front → take at old ≡ front → take (length (front ++ way)) (put old at way) ≡ front ++ way
behind_front old front [] at is held = rw (append-nil front) (rw (← is) held)
behind_front old front (b ∷ way) at is held =
    let long : at ≤ length old = (let e = ap length held in omega (arith, length-take at old, e)) in
    let same : take at (old ++ replicate (at - length old) 0) ≡ front = take-append-le at old (replicate (at - length old) 0) long ∙ held in
    rw same (take_at (front ++ b ∷ way) (drop (at + length (b ∷ way)) old) (length (front ++ b ∷ way)) refl)

pub holds_written : (rows : List Row) (way : Bytes) (told : Option Bytes) (start : ℕ) → Keeps rows way told
    → start + length way ≡ 12 * length rows → ForSome (option_map (λ old. put old start way) told) (HoldsRows rows)
holds_written rows way None start kept is = λ bytes same. absurd (cc)
holds_written rows way (Some old) start (written, later, split, bytes, held) is = λ new same.
    let both : put old start way ≡ new = cc in
    let all : rows_bytes rows ≡ rows_bytes written ++ way = ap rows_bytes split ∙ flat_map-append row_bytes written later ∙ ap (λ (l : Bytes). rows_bytes written ++ l) (sym bytes) in
    let parts = ap length split ∙ length-append written later in
    let way_long = ap length bytes ∙ length-rows_bytes later in
    let at : start ≡ length (rows_bytes written) = omega (arith, length-rows_bytes written, parts, way_long) in
    let front : take start old ≡ rows_bytes written = ap (λ (n : ℕ). take n old) at ∙ held old refl in
    subst (λ (l : Bytes). take (length (rows_bytes rows)) l ≡ rows_bytes rows) both
    (subst (λ (l : Bytes). take (length l) (put old start way) ≡ l) (sym all) (behind_front old (rows_bytes written) way start at front))

pub keeps_all : (rows : List Row) (told : Option Bytes) → ForSome told (HoldsRows rows) → Keeps rows [] told
keeps_all rows told held = (rows, [], sym (append-nil rows), refl, held)

-- where nothing is on its way, all rows are held
pub holds_all : (rows : List Row) (told : Option Bytes) → Keeps rows [] told → ForSome told (HoldsRows rows)
holds_all rows told (written, [], split, bytes, held) = subst (λ (l : List Row). ForSome told (HoldsRows l)) (sym (split ∙ append-nil written)) held
holds_all rows told (written, r ∷ later, split, bytes, held) = absurd (cc)

-- points by their coordinates
points_equal : (x y z x' y' z' : ℕ) → x ≡ x' → y ≡ y' → z ≡ z' → point x y z ≡ point x' y' z'
points_equal x y z x' y' z' xs ys zs = cc

pub distance_same : (low : List ℤ) (corner : Row) (i : ℕ) (v : ℤ) → low ≡ coordinates corner
    → natural_of (v -ℤ slice_index_or low i (pos 0)) ≡ natural_of (v -ℤ slice_index_or (coordinates corner) i (pos 0))
distance_same low corner i v is = ap (λ (l : List ℤ). natural_of (v -ℤ slice_index_or l i (pos 0))) is

pub point_is : (low : List ℤ) (row : Row) (x y z : ℕ) → x ≡ natural_of (row.x -ℤ slice_index_or low 0 (pos 0))
    → y ≡ natural_of (row.y -ℤ slice_index_or low 1 (pos 0)) → z ≡ natural_of (row.z -ℤ slice_index_or low 2 (pos 0))
    → (corner : Row) → low ≡ coordinates corner → point x y z ≡ less corner row
point_is low row x y z xs ys zs corner is = points_equal x y z _ _ _ (xs ∙ distance_same low corner 0 row.x is)
    (ys ∙ distance_same low corner 1 row.y is) (zs ∙ distance_same low corner 2 row.z is)

-- what holds where a call is answered
pub where_ok : {T E : Type 0} (P : Type 0) (r : Result T E) → is_err r ≡ false → OnOk r P → P
where_ok P (Ok x) is p = p
where_ok P (Err e) is p = absurd (cc)

-- no rows are held by any bytes
pub keeps_none : (way : Bytes) (told : Option Bytes) → way ≡ [] → Keeps [] way told
keeps_none way told is = ([], [], refl, is, λ bytes same. refl)
