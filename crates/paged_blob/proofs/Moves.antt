-- What taking a page in, giving one up and writing to one leave of the bytes that a table of pages tells.
use Rattle.std.proofs.Common.{◌≡◌, ℕ, ◌+◌, ◌-◌, ◌*◌, ◌%◌, ◌<◌, ◌≤◌, ◌⊎◌, Bool, true, false, List, length, get_or, set, take, drop, max, refl, sym, ◌∙◌, ap, subst, arith, inl, inr, eqb}
use Rattle.std.specs.Prelude.{slice_range, ◌&&◌}
use Rattle.std.proofs.lemmas.List.{length-take, length-drop, get_or-take, get_or-drop, ext_get_or, get_or-set_same, get_or-set_other}
use Rattle.std.proofs.lemmas.List.Edits.{get_or-between, length-between}
use Rattle.std.proofs.lemmas.Bool.{cases_lt, cases_eq, cases_Bool, and_from, both_ways, ne_eqb}
use Rattle.tpz_io.specs.Bytes.{written}
use Rattle.paged_blob.proofs.Bytes.{length-written, written_before, written_inside, written_behind}
use Rattle.paged_blob.specs.Tables.{Table, spot_of, slot_of, lap_of, is_held, is_ahead, byte_at, told, Stands, IsClean, vacated, with_page, with_bytes, page_size, page_start, HasPlaces, Puts}
use Rattle.paged_blob.specs.Rooms.{IsKeptOutside, IsFilled}
use Rattle.paged_blob.proofs.Tables.{told_length, told_at, told_same, held_byte, other_byte, not_ahead, held_by, lap_held, in_page, page_of, Steps}

-- ---- a step that leaves each byte

steps_over : (t u : Table) (inner : List ℕ) → u.len ≡ t.len → u.stored ≡ t.stored → Stands t inner
    → ((i : ℕ) → i < t.len → byte_at u inner i ≡ byte_at t inner i)
    → ((i : ℕ) → i < t.len → is_ahead u i ≡ false → is_ahead t i ≡ false) → Steps t u inner inner
steps_over t u inner long kept stands byte was = record {
  same = told_same t u inner inner long byte;
  stands = record {
    stored = let a = stands.stored in omega arith;
    there = λ i within settled. let here : i < t.len = omega arith in let a = stands.there i here (was i here settled) in omega arith;
    same = λ i within settled. let here : i < t.len = omega arith in byte i here ∙ stands.same i here (was i here settled);
  };
}

-- a byte whose place has no page isn't held
pub none_held : (t : Table) (slot i : ℕ) → get_or t.laps slot 0 ≡ 0 → slot_of i ≡ slot → is_held t i ≡ false
none_held t slot i vacant here =
    let none : get_or t.laps (slot_of i) 0 ≡ 0 = ap (λ (k : ℕ). get_or t.laps k 0) here ∙ vacant in
    ne_eqb (get_or t.laps (slot_of i) 0) (lap_of i + 1) (λ (e : get_or t.laps (slot_of i) 0 ≡ lap_of i + 1). omega arith)

-- two tables with the same lap at the place of a byte hold it or not
same_held : (t u : Table) (i : ℕ) → get_or u.laps (slot_of i) 0 ≡ get_or t.laps (slot_of i) 0 → is_held u i ≡ is_held t i
same_held t u i lap = ap (λ (k : ℕ). eqb k (lap_of i + 1)) lap

same_ahead : (t u : Table) (i : ℕ) → get_or u.laps (slot_of i) 0 ≡ get_or t.laps (slot_of i) 0
    → get_or u.dirty (slot_of i) false ≡ get_or t.dirty (slot_of i) false → is_ahead u i ≡ is_ahead t i
same_ahead t u i lap dirty =
    ap (λ (h : Bool). h && get_or u.dirty (slot_of i) false) (same_held t u i lap) ∙ ap (λ (d : Bool). is_held t i && d) dirty

-- and their bytes are the same where those of the room are
same_byte : (t u : Table) (inner : List ℕ) (i : ℕ) → get_or u.laps (slot_of i) 0 ≡ get_or t.laps (slot_of i) 0
    → (is_held t i ≡ true → get_or u.room (spot_of i) 0 ≡ get_or t.room (spot_of i) 0) → byte_at u inner i ≡ byte_at t inner i
same_byte t u inner i lap room = elim (cases_Bool (is_held t i)) [
  | inl held ↦ held_byte u inner i (same_held t u i lap ∙ held) ∙ room held ∙ sym (held_byte t inner i held)
  | inr other ↦ other_byte u inner i (same_held t u i lap ∙ other) ∙ sym (other_byte t inner i other)
]

-- ---- a page is given up

pub vacated_plain : (t : Table) (slot : ℕ) (inner : List ℕ) → slot < 1024 → HasPlaces t → IsClean t slot → Stands t inner
    → Steps t (vacated t slot) inner inner
vacated_plain t slot inner small has clean stands =
    let long = has.laps in
    let none : get_or (set t.laps slot 0) slot 0 ≡ 0 = get_or-set_same t.laps slot 0 0 (omega arith) in
    let u = vacated t slot in
    steps_over t u inner refl refl stands
    (λ i within. elim (cases_eq (slot_of i) slot) [
      | inl here ↦ other_byte u inner i (none_held u slot i none here) ∙ sym (stands.same i within (clean.none_ahead i within here))
      | inr elsewhere ↦ same_byte t u inner i (get_or-set_other t.laps slot (slot_of i) 0 0 elsewhere) (λ held. refl)
    ])
    (λ i within settled. elim (cases_eq (slot_of i) slot) [
      | inl here ↦ clean.none_ahead i within here
      | inr elsewhere ↦ sym (same_ahead t u i (get_or-set_other t.laps slot (slot_of i) 0 0 elsewhere) refl) ∙ settled
    ])

-- zeros more in the room change no byte that is told
pub reached_plain : (t : Table) (room inner : List ℕ) → ((i : ℕ) → get_or room i 0 ≡ get_or t.room i 0) → Stands t inner
    → Steps t (record t { room = room }) inner inner
reached_plain t room inner same stands =
    let u : Table = record t { room = room } in
    steps_over t u inner refl refl stands (λ i within. same_byte t u inner i refl (λ held. same (spot_of i))) (λ i within settled. settled)

-- ---- a page is taken in

-- where a byte of another place stands
spot_elsewhere : (slot n i : ℕ) → n ≤ 4096 → (slot_of i ≡ slot → ⊥) → (spot_of i < slot * 4096) ⊎ (slot * 4096 + n ≤ spot_of i)
spot_elsewhere slot n i small elsewhere = elim (cases_lt (spot_of i) (slot * 4096)) [
  | inl before ↦ inl before
  | inr from ↦ elim (cases_lt (spot_of i) (slot * 4096 + n)) [
    | inl within ↦ absurd (elsewhere (omega arith))
    | inr behind ↦ inr behind
  ]
]

kept_elsewhere : (slot n i : ℕ) (old new : List ℕ) → n ≤ 4096 → IsKeptOutside (slot * 4096) n old new → (slot_of i ≡ slot → ⊥)
    → get_or new (spot_of i) 0 ≡ get_or old (spot_of i) 0
kept_elsewhere slot n i old new small kept elsewhere = elim (spot_elsewhere slot n i small elsewhere) [
  | inl before ↦ kept.before (spot_of i) before
  | inr behind ↦ kept.behind (spot_of i) behind
]

-- the read failed: the bytes of a place that has no page may be anything
pub failed_plain : (t : Table) (slot n : ℕ) (room inner : List ℕ) → n ≤ 4096 → get_or t.laps slot 0 ≡ 0
    → IsKeptOutside (slot * 4096) n t.room room → Stands t inner → Steps t (record t { room = room }) inner inner
failed_plain t slot n room inner small vacant kept stands =
    let u : Table = record t { room = room } in
    steps_over t u inner refl refl stands
    (λ i within. same_byte t u inner i refl (λ held. kept_elsewhere slot n i t.room room small kept
    (λ here. both_ways (is_held t i) (none_held t slot i vacant here) held)))
    (λ i within settled. settled)

pub page_held : (t : Table) (at : ℕ) (room : List ℕ) → HasPlaces t → is_held (with_page t at room) at ≡ true
page_held t at room has =
    let long = has.laps in let p = page_of at in let small = p.2 in
    held_by (with_page t at room) at (get_or-set_same t.laps (slot_of at) (lap_of at + 1) 0 (omega arith))

-- a byte of the page that was taken in is the blob's
taken_byte : (t : Table) (at n i : ℕ) (room inner : List ℕ) → n ≡ page_size t (page_start at)
    → IsFilled (slot_of at * 4096) n room (page_start at) inner → i < t.len → slot_of i ≡ slot_of at → lap_of i ≡ lap_of at
    → get_or room (spot_of i) 0 ≡ get_or inner i 0
taken_byte t at n i room inner size filled within here lap =
    let p = page_of i in let low = p.0 in let high = p.1 in let small = p.2 in
    let start = page_start at in
    let k = i - start in
    let from : start ≤ i = omega arith in
    let short : k < n = omega arith in
    let spot = (in_page (lap_of at) (slot_of at) i (omega arith) (omega arith) (omega arith)).2 in
    let whole : start + k ≡ i = omega arith in
    ap (λ (j : ℕ). get_or room j 0) spot ∙ filled.inside k short ∙ ap (λ (j : ℕ). get_or inner j 0) whole

pub taken_plain : (t : Table) (at n : ℕ) (room inner : List ℕ) → HasPlaces t → get_or t.laps (slot_of at) 0 ≡ 0
    → n ≡ page_size t (page_start at) → IsKeptOutside (slot_of at * 4096) n t.room room
    → IsFilled (slot_of at * 4096) n room (page_start at) inner → Stands t inner → Steps t (with_page t at room) inner inner
taken_plain t at n room inner has vacant size kept filled stands =
    let slot = slot_of at in let u = with_page t at room in
    let long = has.laps in let p = page_of at in let small = p.2 in
    let lap_here : get_or (set t.laps slot (lap_of at + 1)) slot 0 ≡ lap_of at + 1 = get_or-set_same t.laps slot (lap_of at + 1) 0 (omega arith) in
    steps_over t u inner refl refl stands
    (λ i within. elim (cases_eq (slot_of i) slot) [
      | inl here ↦ (elim (cases_eq (lap_of i) (lap_of at)) [
        | inl lap ↦ held_byte u inner i (held_by u i (ap (λ (k : ℕ). get_or (set t.laps slot (lap_of at + 1)) k 0) here ∙ lap_here ∙ ap (λ (k : ℕ). k + 1) (sym lap)))
            ∙ taken_byte t at n i room inner size filled within here lap
        | inr other ↦ other_byte u inner i (ne_eqb (get_or u.laps (slot_of i) 0) (lap_of i + 1)
            (λ (e : get_or u.laps (slot_of i) 0 ≡ lap_of i + 1).
            let is : get_or u.laps (slot_of i) 0 ≡ lap_of at + 1 = ap (λ (k : ℕ). get_or (set t.laps slot (lap_of at + 1)) k 0) here ∙ lap_here in
            other (omega arith)))
      ]) ∙ sym (other_byte t inner i (none_held t slot i vacant here))
      | inr elsewhere ↦ same_byte t u inner i (get_or-set_other t.laps slot (slot_of i) (lap_of at + 1) 0 elsewhere)
          (λ held. kept_elsewhere slot n i t.room room (omega arith) kept elsewhere)
    ])
    (λ i within settled. elim (cases_eq (slot_of i) slot) [
      | inl here ↦ not_ahead t i (none_held t slot i vacant here)
      | inr elsewhere ↦ sym (same_ahead t u i (get_or-set_other t.laps slot (slot_of i) (lap_of at + 1) 0 elsewhere)
          (get_or-set_other t.dirty slot (slot_of i) false false elsewhere)) ∙ settled
    ])

-- the blob has the bytes of a page that isn't held
pub page_there : (t : Table) (at : ℕ) (inner : List ℕ) → get_or t.laps (slot_of at) 0 ≡ 0 → Stands t inner → 0 < page_size t (page_start at)
    → page_start at + page_size t (page_start at) ≤ length inner
page_there t at inner vacant stands some =
    let start = page_start at in let n = page_size t start in let i = start + n - 1 in
    let p = page_of at in let small = p.2 in
    let q = in_page (lap_of at) (slot_of at) i small (omega arith) (omega arith) in
    let there : i < t.stored = stands.there i (omega arith) (not_ahead t i (none_held t (slot_of at) i vacant q.1)) in
    let stored = stands.stored in omega arith

-- ---- bytes of a page that is held

-- k bytes behind another one of its page
near : (at k : ℕ) → at % 4096 + k < 4096 → (lap_of (at + k) ≡ lap_of at) × (slot_of (at + k) ≡ slot_of at) × (spot_of (at + k) ≡ spot_of at + k)
near at k within =
    let p = page_of at in let low = p.0 in let high = p.1 in let small = p.2 in
    let off : at % 4096 ≡ at - page_start at = omega arith in
    let a = in_page (lap_of at) (slot_of at) at small low high in
    let b = in_page (lap_of at) (slot_of at) (at + k) small (omega arith) (omega arith) in
    let sa = a.2 in let sb = b.2 in
    (b.0, b.1, omega arith)

near_held : (t : Table) (at k : ℕ) → is_held t at ≡ true → at % 4096 + k < 4096 → is_held t (at + k) ≡ true
near_held t at k held within =
    let n = near at k within in
    held_by t (at + k) (ap (λ (j : ℕ). get_or t.laps j 0) n.1 ∙ lap_held t at held ∙ ap (λ (j : ℕ). j + 1) (sym n.0))

-- the room reaches over the bytes of a page that is held
pub spot_within : (t : Table) (at n : ℕ) → HasPlaces t → is_held t at ≡ true → at % 4096 + n ≤ 4096 → spot_of at + n ≤ length t.room
spot_within t at n has held chunk =
    let lap = lap_held t at held in let p = page_of at in
    let room = has.room (slot_of at) p.2 (omega arith) in
    omega arith

pub read_plain : (t : Table) (at n : ℕ) (inner : List ℕ) → HasPlaces t → is_held t at ≡ true → at % 4096 + n ≤ 4096 → at + n ≤ t.len
    → slice_range t.room (spot_of at) (spot_of at + n) ≡ take n (drop at (told t inner))
read_plain t at n inner has held chunk within =
    let spot = spot_within t at n has held chunk in let long = told_length t inner in
    let a = length-between t.room (spot_of at) (spot_of at + n) (omega arith) in
    let b = length-take n (drop at (told t inner)) in let c = length-drop at (told t inner) in
    ext_get_or 0 (slice_range t.room (spot_of at) (spot_of at + n)) (take n (drop at (told t inner))) (omega arith)
    (λ k short.
    let small : k < n = omega arith in
    let q = near at k (omega arith) in
    get_or-between t.room (spot_of at) (spot_of at + n) k 0 (omega arith) ∙ ap (λ (j : ℕ). get_or t.room j 0) (sym q.2)
    ∙ sym (held_byte t inner (at + k) (near_held t at k held (omega arith))) ∙ sym (told_at t inner (at + k) (omega arith))
    ∙ sym (get_or-drop at (told t inner) k 0) ∙ sym (get_or-take n (drop at (told t inner)) k 0 small))

-- a byte that is held and not written to stands outside what is written
spot_apart : (t : Table) (at n i : ℕ) → is_held t at ≡ true → is_held t i ≡ true → at % 4096 + n ≤ 4096 → (i < at) ⊎ (at + n ≤ i)
    → (spot_of i < spot_of at) ⊎ (spot_of at + n ≤ spot_of i)
spot_apart t at n i held_at held chunk out = elim (cases_eq (slot_of i) (slot_of at)) [
  | inl here ↦
      let la = lap_held t at held_at in
      let li : get_or t.laps (slot_of at) 0 ≡ lap_of i + 1 = ap (λ (k : ℕ). get_or t.laps k 0) (sym here) ∙ lap_held t i held in
      elim out [
        | inl before ↦ inl (omega arith)
        | inr behind ↦ inr (omega arith)
      ]
  | inr elsewhere ↦
      (elim (cases_lt (spot_of i) (spot_of at)) [
        | inl before ↦ inl before
        | inr from ↦ elim (cases_lt (spot_of i) (spot_of at + n)) [
          | inl within ↦ absurd (elsewhere (omega arith))
          | inr behind ↦ inr behind
        ]
      ])
]

-- ---- a write to the bytes of a page

put_outside : (t : Table) (at n : ℕ) (room bytes inner : List ℕ) (i : ℕ) → Puts t at n room bytes → (i < at) ⊎ (at + n ≤ i)
    → byte_at (with_bytes t at n room) inner i ≡ byte_at t inner i
put_outside t at n room bytes inner i puts out = same_byte t (with_bytes t at n room) inner i refl
    (λ held. elim (spot_apart t at n i puts.held held puts.chunk out) [
      | inl before ↦ puts.kept.before (spot_of i) before
      | inr behind ↦ puts.kept.behind (spot_of i) behind
    ])

put_inside : (t : Table) (at n : ℕ) (room bytes inner : List ℕ) (i : ℕ) → Puts t at n room bytes → at ≤ i → i < at + n
    → byte_at (with_bytes t at n room) inner i ≡ get_or bytes (i - at) 0
put_inside t at n room bytes inner i puts from before =
    let chunk = puts.chunk in let k = i - at in
    let whole : at + k ≡ i = omega arith in
    let q = near at k (omega arith) in
    let held : is_held t i ≡ true = subst (λ (j : ℕ). is_held t j ≡ true) whole (near_held t at k puts.held (omega arith)) in
    let spot : spot_of i ≡ spot_of at + k = ap spot_of (sym whole) ∙ q.2 in
    held_byte (with_bytes t at n room) inner i held ∙ ap (λ (j : ℕ). get_or room j 0) spot ∙ puts.inside k (omega arith)

-- what is told behind it
pub put_told : (t : Table) (at n : ℕ) (room bytes inner : List ℕ) → 0 < n → at ≤ t.len → Puts t at n room bytes
    → told (with_bytes t at n room) inner ≡ written (told t inner) at bytes
put_told t at n room bytes inner some within puts =
    let u = with_bytes t at n room in let long = puts.long in
    let a = told_length u inner in let b = told_length t inner in
    let c = length-written (told t inner) bytes at (omega arith) in
    ext_get_or 0 (told u inner) (written (told t inner) at bytes) (omega arith)
    (λ i short. told_at u inner i (omega arith) ∙ elim (cases_lt i at) [
      | inl before ↦ put_outside t at n room bytes inner i puts (inl before) ∙ sym (told_at t inner i (omega arith)) ∙ sym (written_before (told t inner) bytes at i before)
      | inr from ↦ elim (cases_lt i (at + n)) [
        | inl inside ↦ put_inside t at n room bytes inner i puts from inside ∙ sym (written_inside (told t inner) bytes at i from (omega arith))
        | inr behind ↦ put_outside t at n room bytes inner i puts (inr behind) ∙ sym (told_at t inner i (omega arith)) ∙ sym (written_behind (told t inner) bytes at i (omega arith))
      ]
    ])

-- what was ahead outside it
put_ahead : (t : Table) (at n : ℕ) (room bytes : List ℕ) (i : ℕ) → HasPlaces t → Puts t at n room bytes
    → is_ahead (with_bytes t at n room) i ≡ false → is_ahead t i ≡ false
put_ahead t at n room bytes i has puts settled =
    let p = page_of at in let small = p.2 in let long = has.dirty in let u = with_bytes t at n room in
    elim (cases_eq (slot_of i) (slot_of at)) [
      | inl here ↦ elim (cases_Bool (is_held t i)) [
        | inl held ↦
            let set_here : get_or (set t.dirty (slot_of at) true) (slot_of i) false ≡ true =
            ap (λ (k : ℕ). get_or (set t.dirty (slot_of at) true) k false) here ∙ get_or-set_same t.dirty (slot_of at) true false (omega arith) in
            absurd (both_ways (is_ahead u i) settled (and_from (is_held u i) (get_or u.dirty (slot_of i) false) held set_here))
        | inr other ↦ not_ahead t i other
      ]
      | inr elsewhere ↦ sym (same_ahead t u i refl (get_or-set_other t.dirty (slot_of at) (slot_of i) true false elsewhere)) ∙ settled
    ]

-- and inside it all is
put_is_ahead : (t : Table) (at n : ℕ) (room bytes : List ℕ) (i : ℕ) → HasPlaces t → Puts t at n room bytes → at ≤ i → i < at + n
    → is_ahead (with_bytes t at n room) i ≡ true
put_is_ahead t at n room bytes i has puts from before =
    let p = page_of at in let small = p.2 in let long = has.dirty in let u = with_bytes t at n room in
    let chunk = puts.chunk in let k = i - at in
    let whole : at + k ≡ i = omega arith in
    let here : slot_of i ≡ slot_of at = ap slot_of (sym whole) ∙ (near at k (omega arith)).1 in
    let held : is_held t i ≡ true = subst (λ (j : ℕ). is_held t j ≡ true) whole (near_held t at k puts.held (omega arith)) in
    and_from (is_held u i) (get_or u.dirty (slot_of i) false) held
    (ap (λ (j : ℕ). get_or (set t.dirty (slot_of at) true) j false) here ∙ get_or-set_same t.dirty (slot_of at) true false (omega arith))

pub put_stands : (t : Table) (at n : ℕ) (room bytes inner : List ℕ) → HasPlaces t → at ≤ t.len → Puts t at n room bytes → Stands t inner
    → Stands (with_bytes t at n room) inner
put_stands t at n room bytes inner has within puts stands =
    let u = with_bytes t at n room in
    let out : (i : ℕ) → is_ahead u i ≡ false → (i < at) ⊎ (at + n ≤ i) = λ i settled. elim (cases_lt i at) [
      | inl before ↦ inl before
      | inr from ↦ elim (cases_lt i (at + n)) [
        | inl inside ↦ absurd (both_ways (is_ahead u i) settled (put_is_ahead t at n room bytes i has puts from inside))
        | inr behind ↦ inr behind
      ]
    ] in
    let here : (i : ℕ) → i < max t.len (at + n) → (i < at) ⊎ (at + n ≤ i) → i < t.len = λ i short o. elim o [
      | inl before ↦ omega arith
      | inr behind ↦ omega arith
    ] in
    record {
      stored = stands.stored;
      there = λ i short settled. stands.there i (here i short (out i settled)) (put_ahead t at n room bytes i has puts settled);
      same = λ i short settled. put_outside t at n room bytes inner i puts (out i settled)
          ∙ stands.same i (here i short (out i settled)) (put_ahead t at n room bytes i has puts settled);
    }
