-- What the steps of a table of pages leave of the bytes that it tells.
use Rattle.std.proofs.Common.{◌≡◌, ℕ, ◌+◌, ◌-◌, ◌*◌, ◌/◌, ◌%◌, ◌<◌, ◌≤◌, ◌⊎◌, Bool, true, false, List, length, get_or, set, min, max, refl, sym, ◌∙◌, ap, arith, inl, inr, ltb}
use Rattle.std.specs.Prelude.{slice_range, ◌&&◌}
use Rattle.std.proofs.lemmas.List.{ext_get_or, get_or-set_other}
use Rattle.std.proofs.lemmas.List.Edits.{get_or-between, length-between}
use Rattle.std.proofs.lemmas.List.FromFn.{length-map-range_with_len, get_or-map-range_with_len}
use Rattle.std.proofs.lemmas.Bool.{cases_lt, cases_eq, cases_Bool, cond-true, cond-false, eq-eqb, eqb-true, ltb-true, and_left, and_from, and_parts, both_ways}
use Rattle.tpz_io.specs.Bytes.{written, IsTorn}
use Rattle.paged_blob.proofs.Bytes.{length-written, written_before, written_inside, written_behind, torn_before, torn_behind}
use Rattle.paged_blob.specs.Tables.{Table, spot_of, slot_of, lap_of, is_held, is_ahead, byte_at, told, Stands, start_of, size_ahead, written_back, HasPlaces}

-- ---- bytes that are told

pub told_length : (t : Table) (inner : List ℕ) → length (told t inner) ≡ t.len
unfolding told
told_length t inner = length-map-range_with_len (byte_at t inner) 0 t.len

pub told_at : (t : Table) (inner : List ℕ) (i : ℕ) → i < t.len → get_or (told t inner) i 0 ≡ byte_at t inner i
unfolding told
told_at t inner i within = get_or-map-range_with_len (byte_at t inner) 0 t.len i i 0 within (omega arith)

pub told_same : (t u : Table) (inner outer : List ℕ) → u.len ≡ t.len → ((i : ℕ) → i < t.len → byte_at u outer i ≡ byte_at t inner i)
    → told u outer ≡ told t inner
told_same t u inner outer long each =
    let a = told_length t inner in let b = told_length u outer in
    ext_get_or 0 (told u outer) (told t inner) (omega arith) (λ i within.
    told_at u outer i (omega arith) ∙ each i (omega arith) ∙ sym (told_at t inner i (omega arith)))

pub held_byte : (t : Table) (inner : List ℕ) (i : ℕ) → is_held t i ≡ true → byte_at t inner i ≡ get_or t.room (spot_of i) 0
held_byte t inner i held = cond-true (is_held t i) (get_or t.room (spot_of i) 0) (get_or inner i 0) held

pub other_byte : (t : Table) (inner : List ℕ) (i : ℕ) → is_held t i ≡ false → byte_at t inner i ≡ get_or inner i 0
other_byte t inner i other = cond-false (is_held t i) (get_or t.room (spot_of i) 0) (get_or inner i 0) other

pub not_ahead : (t : Table) (i : ℕ) → is_held t i ≡ false → is_ahead t i ≡ false
not_ahead t i other = and_left (is_held t i) (get_or t.dirty (slot_of i) false) other

pub held_by : (t : Table) (i : ℕ) → get_or t.laps (slot_of i) 0 ≡ lap_of i + 1 → is_held t i ≡ true
held_by t i is = eq-eqb (get_or t.laps (slot_of i) 0) (lap_of i + 1) is

pub lap_held : (t : Table) (i : ℕ) → is_held t i ≡ true → get_or t.laps (slot_of i) 0 ≡ lap_of i + 1
lap_held t i held = eqb-true (get_or t.laps (slot_of i) 0) (lap_of i + 1) held

-- ---- where a page lies

pub in_page : (lap slot i : ℕ) → slot < 1024 → lap * 4194304 + slot * 4096 ≤ i → i < lap * 4194304 + slot * 4096 + 4096
    → (lap_of i ≡ lap) × (slot_of i ≡ slot) × (spot_of i ≡ slot * 4096 + (i - (lap * 4194304 + slot * 4096)))
in_page lap slot i small from before =
    let q : i / 4194304 ≡ lap = omega arith in
    let r : i % 4194304 ≡ slot * 4096 + (i - (lap * 4194304 + slot * 4096)) = omega arith in
    (q, omega arith, r)

pub page_of : (i : ℕ) → (lap_of i * 4194304 + slot_of i * 4096 ≤ i) × (i < lap_of i * 4194304 + slot_of i * 4096 + 4096) × (slot_of i < 1024)
page_of i =
    let a : i % 4194304 / 4096 * 4096 ≤ i % 4194304 = omega arith in
    let b : i % 4194304 < i % 4194304 / 4096 * 4096 + 4096 = omega arith in
    (omega arith, omega arith, omega arith)

-- ---- a page that is written back

-- what is known where a place has bytes to be written back
record Back (t : Table) (slot : ℕ) : Type 0 where
  lap : get_or t.laps slot 0 ≡ (get_or t.laps slot 0 - 1) + 1
  dirty : get_or t.dirty slot false ≡ true
  size : size_ahead t slot ≡ min 4096 (t.len - start_of t slot)
  within : start_of t slot + size_ahead t slot ≤ t.len

back : (t : Table) (slot : ℕ) → 0 < size_ahead t slot → Back t slot
back t slot some =
    let test = get_or t.dirty slot false && ltb 0 (get_or t.laps slot 0) in
    let n = min 4096 (t.len - start_of t slot) in
    elim (cases_Bool test) [
      | inl is_set ↦
          let both = and_parts (get_or t.dirty slot false) (ltb 0 (get_or t.laps slot 0)) is_set in
          let above = ltb-true 0 (get_or t.laps slot 0) both.1 in
          let is : size_ahead t slot ≡ n = cond-true test n 0 is_set in
          record { lap = omega arith; dirty = both.0; size = is; within = omega arith }
      | inr unset ↦ let is : size_ahead t slot ≡ 0 = cond-false test n 0 unset in absurd (omega arith)
    ]

-- a byte of the range that is written back
record InBack (t : Table) (slot i : ℕ) : Type 0 where
  held : is_held t i ≡ true
  place : slot_of i ≡ slot
  spot : spot_of i ≡ slot * 4096 + (i - start_of t slot)

in_back : (t : Table) (slot i : ℕ) → slot < 1024 → Back t slot → start_of t slot ≤ i → i < start_of t slot + size_ahead t slot → InBack t slot i
in_back t slot i small b from before =
    let lap = get_or t.laps slot 0 - 1 in
    let size = b.size in
    let p = in_page lap slot i small from (omega arith) in
    record {
      held = held_by t i (ap (λ (k : ℕ). get_or t.laps k 0) p.1 ∙ b.lap ∙ ap (λ (k : ℕ). k + 1) (sym p.0));
      place = p.1;
      spot = p.2;
    }

-- a byte of the whole with this place that is held stands in that range
back_of : (t : Table) (slot i : ℕ) → Back t slot → i < t.len → is_held t i ≡ true → slot_of i ≡ slot
    → (start_of t slot ≤ i) × (i < start_of t slot + size_ahead t slot)
back_of t slot i b within held here =
    let lap : get_or t.laps slot 0 ≡ lap_of i + 1 = ap (λ (k : ℕ). get_or t.laps k 0) (sym here) ∙ lap_held t i held in
    let p = page_of i in let low = p.0 in let high = p.1 in let size = b.size in
    (omega arith, omega arith)

-- ---- what the blob has outside the range

abbrev Outside : Table → ℕ → ℕ → Type 0
Outside t slot i = (i < start_of t slot) ⊎ (start_of t slot + size_ahead t slot ≤ i)

abbrev Inside : Table → ℕ → ℕ → Type 0
Inside t slot i = (start_of t slot ≤ i) × (i < start_of t slot + size_ahead t slot)

-- a blob that has at least as many bytes, and outside the range the same
record KeepsOutside (t : Table) (slot : ℕ) (inner outer : List ℕ) : Type 0 where
  longer : length inner ≤ length outer
  outside : (i : ℕ) → i < length inner → Outside t slot i → get_or outer i 0 ≡ get_or inner i 0

sides : (t : Table) (slot i : ℕ) → (Inside t slot i) ⊎ (Outside t slot i)
sides t slot i = elim (cases_lt i (start_of t slot)) [
  | inl before ↦ inr (inl before)
  | inr from ↦ elim (cases_lt i (start_of t slot + size_ahead t slot)) [
    | inl before ↦ inl (from, before)
    | inr behind ↦ inr (inr behind)
  ]
]

apart : (t : Table) (slot i : ℕ) → Inside t slot i → Outside t slot i → ⊥
apart t slot i inside outside = elim outside [ inl before ↦ omega (arith, inside.0) | inr behind ↦ omega (arith, inside.1) ]

ahead_inside : (t : Table) (slot i : ℕ) → slot < 1024 → Back t slot → Inside t slot i → is_ahead t i ≡ true
ahead_inside t slot i small b inside =
    let p = in_back t slot i small b inside.0 inside.1 in
    and_from (is_held t i) (get_or t.dirty (slot_of i) false) p.held (ap (λ (k : ℕ). get_or t.dirty k false) p.place ∙ b.dirty)

-- a byte that isn't held stands outside
outside_unheld : (t : Table) (slot i : ℕ) → slot < 1024 → Back t slot → is_held t i ≡ false → Outside t slot i
outside_unheld t slot i small b other = elim (sides t slot i) [
  | inl inside ↦ absurd (both_ways (is_held t i) other (in_back t slot i small b inside.0 inside.1).held)
  | inr outside ↦ outside
]

outside_settled : (t : Table) (slot i : ℕ) → slot < 1024 → Back t slot → is_ahead t i ≡ false → Outside t slot i
outside_settled t slot i small b settled = elim (sides t slot i) [
  | inl inside ↦ absurd (both_ways (is_ahead t i) settled (ahead_inside t slot i small b inside))
  | inr outside ↦ outside
]

byte_kept : (t : Table) (slot : ℕ) (inner outer : List ℕ) → slot < 1024 → Back t slot → Stands t inner → KeepsOutside t slot inner outer
    → (i : ℕ) → i < t.len → byte_at t outer i ≡ byte_at t inner i
byte_kept t slot inner outer small b stands keeps i within = elim (cases_Bool (is_held t i)) [
  | inl held ↦ held_byte t outer i held ∙ sym (held_byte t inner i held)
  | inr other ↦
      let there : i < t.stored = stands.there i within (not_ahead t i other) in
      let stored = stands.stored in
      other_byte t outer i other ∙ keeps.outside i (omega arith) (outside_unheld t slot i small b other) ∙ sym (other_byte t inner i other)
]

-- what a step leaves: the same bytes told, over a blob that it stands over
pub record Steps (t u : Table) (inner outer : List ℕ) : Type 0 where
  pub same : told u outer ≡ told t inner
  pub stands : Stands u outer

-- where the write failed
left_torn : (t : Table) (slot : ℕ) (inner outer : List ℕ) → slot < 1024 → Back t slot → Stands t inner → KeepsOutside t slot inner outer
    → Steps t t inner outer
left_torn t slot inner outer small b stands keeps = record {
  same = told_same t t inner outer refl (byte_kept t slot inner outer small b stands keeps);
  stands = record {
    stored = let a = stands.stored in let l = keeps.longer in omega arith;
    there = stands.there;
    same = λ i within settled.
        let there : i < t.stored = stands.there i within settled in let stored = stands.stored in
        byte_kept t slot inner outer small b stands keeps i within ∙ stands.same i within settled
        ∙ sym (keeps.outside i (omega arith) (outside_settled t slot i small b settled));
  };
}

-- what is ahead behind a write that was answered, outside its range
ahead_outside : (t : Table) (slot i : ℕ) → Back t slot → i < t.len → Outside t slot i → is_ahead (written_back t slot) i ≡ false → is_ahead t i ≡ false
ahead_outside t slot i b within outside settled = elim (cases_Bool (is_held t i)) [
  | inr other ↦ not_ahead t i other
  | inl held ↦ elim (cases_eq (slot_of i) slot) [
    | inl here ↦ absurd (apart t slot i (back_of t slot i b within held here) outside)
    | inr elsewhere ↦
        let same : get_or (set t.dirty slot false) (slot_of i) false ≡ get_or t.dirty (slot_of i) false = get_or-set_other t.dirty slot (slot_of i) false false elsewhere in
        ap (λ (d : Bool). is_held t i && d) (sym same) ∙ settled
  ]
]

-- where it was answered
went_back : (t : Table) (slot : ℕ) (inner outer : List ℕ) → slot < 1024 → Back t slot → Stands t inner → KeepsOutside t slot inner outer
    → start_of t slot + size_ahead t slot ≤ length outer
    → ((i : ℕ) → Inside t slot i → get_or outer i 0 ≡ get_or t.room (slot * 4096 + (i - start_of t slot)) 0)
    → Steps t (written_back t slot) inner outer
went_back t slot inner outer small b stands keeps long filled = record {
  same = told_same t (written_back t slot) inner outer refl (byte_kept t slot inner outer small b stands keeps);
  stands = record {
    stored = let a = stands.stored in let l = keeps.longer in omega arith;
    there = λ i within settled. elim (sides t slot i) [
      | inl inside ↦ omega (arith, inside.1)
      | inr outside ↦
          let there : i < t.stored = stands.there i within (ahead_outside t slot i b within outside settled) in omega arith
    ];
    same = λ i within settled. elim (sides t slot i) [
      | inl inside ↦
          let p = in_back t slot i small b inside.0 inside.1 in
          held_byte t outer i p.held ∙ ap (λ (k : ℕ). get_or t.room k 0) p.spot ∙ sym (filled i inside)
      | inr outside ↦
          let was : is_ahead t i ≡ false = ahead_outside t slot i b within outside settled in
          let there : i < t.stored = stands.there i within was in let stored = stands.stored in
          byte_kept t slot inner outer small b stands keeps i within ∙ stands.same i within was
          ∙ sym (keeps.outside i (omega arith) outside)
    ];
  };
}

-- ---- a write of the page, and what it leaves where the blob tells its bytes

abbrev pub page_bytes : Table → ℕ → List ℕ
page_bytes t slot = slice_range t.room (slot * 4096) (slot * 4096 + size_ahead t slot)

page_long : (t : Table) (slot : ℕ) → slot < 1024 → HasPlaces t → Back t slot → length (page_bytes t slot) ≡ size_ahead t slot
page_long t slot small has b =
    let lap = b.lap in let size = b.size in
    let room = has.room slot small (omega arith) in
    length-between t.room (slot * 4096) (slot * 4096 + size_ahead t slot) (omega arith) ∙ omega arith

pub back_plain : (t : Table) (slot : ℕ) (inner : List ℕ) → slot < 1024 → HasPlaces t → 0 < size_ahead t slot → Stands t inner
    → Steps t (written_back t slot) inner (written inner (start_of t slot) (page_bytes t slot))
back_plain t slot inner small has some stands =
    let b = back t slot some in let long = page_long t slot small has b in
    let start = start_of t slot in let n = size_ahead t slot in let bytes = page_bytes t slot in
    let whole : length (written inner start bytes) ≡ max (length inner) (start + length bytes) = length-written inner bytes start (omega arith) in
    went_back t slot inner (written inner start bytes) small b stands
    (record {
      longer = omega arith;
      outside = λ i there outside. elim outside [
        | inl before ↦ written_before inner bytes start i before
        | inr behind ↦ written_behind inner bytes start i (omega arith)
      ];
    })
    (omega arith)
    (λ i inside. let from = inside.0 in let before = inside.1 in
    written_inside inner bytes start i from (omega arith) ∙ get_or-between t.room (slot * 4096) (slot * 4096 + n) (i - start) 0 (omega arith))

pub torn_plain : (t : Table) (slot : ℕ) (inner outer : List ℕ) → slot < 1024 → HasPlaces t → 0 < size_ahead t slot → Stands t inner
    → IsTorn (start_of t slot) (length (page_bytes t slot)) inner outer → Steps t t inner outer
torn_plain t slot inner outer small has some stands torn =
    let b = back t slot some in let long = page_long t slot small has b in
    let start = start_of t slot in let bytes = page_bytes t slot in
    left_torn t slot inner outer small b stands
    (record {
      longer = torn.no_shorter;
      outside = λ i there outside. elim outside [
        | inl before ↦ torn_before inner outer start (length bytes) i torn before there
        | inr behind ↦ torn_behind inner outer start (length bytes) i torn (omega arith)
      ];
    })
