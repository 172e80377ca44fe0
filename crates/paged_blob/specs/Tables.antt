-- Pages of 4,096 bytes that are held over the bytes of a blob, in 1,024 places. The page of a byte has one place alone: that
-- of its number among those that have the same lap, which are 4,194,304 bytes in a row.
use Rattle.std.specs.Prelude.{◌≡◌, ℕ, ◌+◌, ◌-◌, ◌*◌, ◌/◌, ◌%◌, ◌<◌, ◌≤◌, ◌^◌, min, Bool, true, false, ◌&&◌, ◌==◌, nat_lt, List, map, length, slice_index, slice_index_or, slice_set, max, if◌then◌else◌}
use Rattle.std.specs.List.{range_with_len}
use Rattle.std.specs.Option.{option_map, ForSome}
use Rattle.std.specs.declared.option.Option.{Option}
use Rattle.paged_blob.specs.Rooms.{IsKeptOutside}

-- of each place, the lap of its page and one more, or 0 where it has none; and whether its page was written to since it was
-- read or written back; the bytes of the places, up to the last one that had a page; how many bytes there are in all; and how many of the blob's are known to be
-- there
pub record Table : Type 0 where
  pub laps : List ℕ
  pub dirty : List Bool
  pub room : List ℕ
  pub len : ℕ
  pub stored : ℕ

-- where a byte stands in the room, where its page is held
abbrev pub spot_of : ℕ → ℕ
spot_of i = i % 4194304

-- the place of its page
abbrev pub slot_of : ℕ → ℕ
slot_of i = i % 4194304 / 4096

abbrev pub lap_of : ℕ → ℕ
lap_of i = i / 4194304

abbrev pub is_held : Table → ℕ → Bool
is_held t i = slice_index t.laps (slot_of i) == lap_of i + 1

-- its page is held and was written to
abbrev pub is_ahead : Table → ℕ → Bool
is_ahead t i = is_held t i && slice_index_or t.dirty (slot_of i) false

-- the byte at i: that of its page where this is held, and else the blob's
abbrev pub byte_at : Table → List ℕ → ℕ → ℕ
byte_at t inner i = if is_held t i then slice_index t.room (spot_of i) else slice_index inner i

-- the bytes of the whole
unfoldable pub told : Table → List ℕ → List ℕ
told t inner = map (byte_at t inner) (range_with_len 0 t.len)

-- the same, where the blob tells its bytes
abbrev pub content : Table → Option (List ℕ) → Option (List ℕ)
content t held = option_map (told t) held

-- Each byte that isn't ahead is the blob's.
pub record Stands (t : Table) (inner : List ℕ) : Type 0 where
  pub stored : t.stored ≤ length inner
  pub there : (i : ℕ) → i < t.len → is_ahead t i ≡ false → i < t.stored
  pub same : (i : ℕ) → i < t.len → is_ahead t i ≡ false → byte_at t inner i ≡ slice_index inner i

-- no byte with this place is ahead
pub record IsClean (t : Table) (slot : ℕ) : Type 0 where
  pub none_ahead : (i : ℕ) → i < t.len → slot_of i ≡ slot → is_ahead t i ≡ false

-- where the page of a place begins in the blob
abbrev pub start_of : Table → ℕ → ℕ
start_of t slot = (slice_index t.laps slot - 1) * 4194304 + slot * 4096

-- how many bytes of it are to be written back
abbrev pub size_ahead : Table → ℕ → ℕ
size_ahead t slot = if slice_index_or t.dirty slot false && nat_lt 0 (slice_index t.laps slot) then min 4096 (t.len - start_of t slot) else 0

-- after the page of a place was written back
abbrev pub written_back : Table → ℕ → Table
written_back t slot = record t { dirty = slice_set t.dirty slot false; stored = max t.stored (start_of t slot + size_ahead t slot) }

-- without the page of a place
abbrev pub vacated : Table → ℕ → Table
vacated t slot = record t { laps = slice_set t.laps slot 0 }

-- with the page of a byte in its place, as these bytes of the room have it
abbrev pub with_page : Table → ℕ → List ℕ → Table
with_page t at room = record t { laps = slice_set t.laps (slot_of at) (lap_of at + 1); dirty = slice_set t.dirty (slot_of at) false; room = room }

-- with n bytes written from a place on, as these bytes of the room have them
abbrev pub with_bytes : Table → ℕ → ℕ → List ℕ → Table
with_bytes t at n room = record t { dirty = slice_set t.dirty (slot_of at) true; room = room; len = max t.len (at + n) }

-- how many bytes of a page that begins at a place are before the end
abbrev pub page_size : Table → ℕ → ℕ
page_size t start = min 4096 (t.len - start)

-- each of the places has an entry, and the room reaches over each page that is held
pub record HasPlaces (t : Table) : Type 0 where
  pub laps : length t.laps ≡ 1024
  pub dirty : length t.dirty ≡ 1024
  pub room : (slot : ℕ) → slot < 1024 → 0 < slice_index t.laps slot → slot * 4096 + 4096 ≤ length t.room
  pub short : t.len < 2 ^ 63

-- What a step over a blob leaves: the same bytes told, and a table that stands.
pub record Over (t u : Table) (old new : Option (List ℕ)) : Type 0 where
  pub same : content u new ≡ content t old
  pub stands : ForSome new (Stands u)

-- where the page of a byte begins
abbrev pub page_start : ℕ → ℕ
page_start at = lap_of at * 4194304 + slot_of at * 4096

-- no page is held
pub record HoldsNone (t : Table) : Type 0 where
  pub none : (slot : ℕ) → slot < 1024 → slice_index t.laps slot ≡ 0

-- bytes are written into a page that is held, at a place of the room
pub record Puts (t : Table) (at n : ℕ) (room bytes : List ℕ) : Type 0 where
  pub held : is_held t at ≡ true
  pub chunk : at % 4096 + n ≤ 4096
  pub long : length bytes ≡ n
  pub kept : IsKeptOutside (spot_of at) n t.room room
  pub inside : (k : ℕ) → k < n → slice_index room (spot_of at + k) ≡ slice_index bytes k

-- a place that has no byte ahead still has none
pub record KeepsClean (t u : Table) : Type 0 where
  pub clean : (slot : ℕ) → IsClean t slot → IsClean u slot

-- the first n places have no byte ahead
pub record AreClean (n : ℕ) (t : Table) : Type 0 where
  pub each : (slot : ℕ) → slot < n → IsClean t slot
