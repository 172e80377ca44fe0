-- The steps of a table of pages over a blob that tells its bytes or not.
use Rattle.std.proofs.Common.{◌≡◌, ℕ, ◌+◌, ◌-◌, ◌*◌, ◌%◌, ◌<◌, ◌≤◌, Bool, true, false, List, length, get_or, set, take, drop, min, refl, sym, ◌∙◌, ap, subst, arith, inl, inr, ltb}
use Rattle.std.specs.Prelude.{slice_range, ◌&&◌}
use Rattle.std.specs.Option.{ForSome, option_map}
use Rattle.std.specs.declared.option.Option.{Option}
use Rattle.std.specs.declared.option.Option.TheVariants.{None, Some}
use Rattle.std.proofs.lemmas.Option.{none-some, same_Some}
use Rattle.std.proofs.lemmas.List.{get_or-take, length-take, ext_get_or, get_or-set_same, get_or-set_other}
use Rattle.std.proofs.lemmas.Bool.{cases_eq, cases_Bool, cond-true, and_right, and_parts, and_from, lt-ltb}
use Rattle.tpz_io.specs.Bytes.{written, IsTorn}
use Rattle.tpz_io.specs.Told.{Changes}
use Rattle.paged_blob.specs.Tables.{Table, spot_of, slot_of, lap_of, is_held, is_ahead, told, content, Stands, IsClean, start_of, size_ahead, written_back, vacated, with_page, with_bytes, page_size, page_start, HasPlaces, AreClean, HoldsNone, KeepsClean, Over, Puts}
use Rattle.paged_blob.specs.Rooms.{IsKeptOutside, IsFilled}
use Rattle.paged_blob.specs.Shown.{seen}
use Rattle.paged_blob.proofs.Tables.{told_length, told_at, other_byte, lap_held, page_of, page_bytes, back_plain, torn_plain, Steps}
use Rattle.paged_blob.proofs.Moves.{vacated_plain, reached_plain, failed_plain, taken_plain, page_there, read_plain, put_told, put_stands, none_held, page_held}

-- a step over a blob whose bytes stay
stays : (t u : Table) (held : Option (List ℕ)) → ForSome held (Stands t) → ((inner : List ℕ) → Stands t inner → Steps t u inner inner) → Over t u held held
stays t u None stands step = record { same = refl; stands = λ inner is. absurd (none-some inner is) }
stays t u (Some inner) stands step =
    let s = step inner (stands inner refl) in
    record { same = ap Some s.same; stands = λ x is. subst (λ (b : List ℕ). Stands u b) (same_Some inner x is) s.stands }

pub over_nothing : (t : Table) (held : Option (List ℕ)) → ForSome held (Stands t) → Over t t held held
over_nothing t held stands = record { same = refl; stands = stands }

pub over_then : (t u v : Table) (a b c : Option (List ℕ)) → Over t u a b → Over u v b c → Over t v a c
over_then t u v a b c first second = record { same = second.same ∙ first.same; stands = second.stands }

-- ---- a page is written back

abbrev pub Wrote : Table → ℕ → Option (List ℕ) → Option (List ℕ) → Type 0
Wrote t slot old new = new ≡ option_map (λ inner. written inner (start_of t slot) (page_bytes t slot)) old

went_some : (t : Table) (slot : ℕ) (old : Option (List ℕ)) → slot < 1024 → HasPlaces t → 0 < size_ahead t slot → ForSome old (Stands t)
    → Over t (written_back t slot) old (option_map (λ inner. written inner (start_of t slot) (page_bytes t slot)) old)
went_some t slot None small has some stands = record { same = refl; stands = λ inner is. absurd (none-some inner is) }
went_some t slot (Some inner) small has some stands =
    let s = back_plain t slot inner small has some (stands inner refl) in
    record { same = ap Some s.same; stands = λ x is. subst (λ (b : List ℕ). Stands (written_back t slot) b) (same_Some _ x is) s.stands }

pub went : (t : Table) (slot : ℕ) (old new : Option (List ℕ)) → slot < 1024 → HasPlaces t → 0 < size_ahead t slot → ForSome old (Stands t)
    → Wrote t slot old new → Over t (written_back t slot) old new
went t slot old new small has some stands wrote =
    subst (λ (o : Option (List ℕ)). Over t (written_back t slot) old o) (sym wrote) (went_some t slot old small has some stands)

pub tore : (t : Table) (slot : ℕ) (old new : Option (List ℕ)) → slot < 1024 → HasPlaces t → 0 < size_ahead t slot → ForSome old (Stands t)
    → Changes (IsTorn (start_of t slot) (length (page_bytes t slot))) old new → Over t t old new
tore t slot None None small has some stands changes = record { same = refl; stands = λ inner is. absurd (none-some inner is) }
tore t slot None (Some outer) small has some stands changes = absurd (let e = changes.same_telling in cc)
tore t slot (Some inner) None small has some stands changes = absurd (let e = changes.same_telling in cc)
tore t slot (Some inner) (Some outer) small has some stands changes =
    let s = torn_plain t slot inner outer small has some (stands inner refl) (changes.change inner outer refl refl) in
    record { same = ap Some s.same; stands = λ x is. subst (λ (b : List ℕ). Stands t b) (same_Some outer x is) s.stands }

-- a place with nothing to be written back has no byte ahead
pub clean_none : (t : Table) (slot : ℕ) → size_ahead t slot ≡ 0 → IsClean t slot
clean_none t slot none = record {
  none_ahead = λ i within here. elim (cases_Bool (is_ahead t i)) [
    | inr settled ↦ settled
    | inl ahead ↦
        let both = and_parts (is_held t i) (get_or t.dirty (slot_of i) false) ahead in
        let lap : get_or t.laps slot 0 ≡ lap_of i + 1 = ap (λ (k : ℕ). get_or t.laps k 0) (sym here) ∙ lap_held t i both.0 in
        let dirty : get_or t.dirty slot false ≡ true = ap (λ (k : ℕ). get_or t.dirty k false) (sym here) ∙ both.1 in
        let p = page_of i in let low = p.0 in let high = p.1 in
        let test = get_or t.dirty slot false && ltb 0 (get_or t.laps slot 0) in
        let size : size_ahead t slot ≡ min 4096 (t.len - start_of t slot) =
        cond-true test (min 4096 (t.len - start_of t slot)) 0 (and_from (get_or t.dirty slot false) (ltb 0 (get_or t.laps slot 0)) dirty (lt-ltb 0 (get_or t.laps slot 0) (omega arith))) in
        absurd (omega arith)
  ];
}

pub clean_back : (t : Table) (slot : ℕ) → slot < 1024 → HasPlaces t → IsClean (written_back t slot) slot
clean_back t slot small has = record {
  none_ahead = λ i within here.
      let long = has.dirty in
      let unset : get_or (set t.dirty slot false) (slot_of i) false ≡ false =
      ap (λ (k : ℕ). get_or (set t.dirty slot false) k false) here ∙ get_or-set_same t.dirty slot false false (omega arith) in
      and_right (is_held t i) (get_or (set t.dirty slot false) (slot_of i) false) unset;
}

-- ---- pages that are given up and taken in

pub over_vacated : (t : Table) (slot : ℕ) (held : Option (List ℕ)) → slot < 1024 → HasPlaces t → IsClean t slot → ForSome held (Stands t)
    → Over t (vacated t slot) held held
over_vacated t slot held small has clean stands = stays t (vacated t slot) held stands (λ inner s. vacated_plain t slot inner small has clean s)

over_reached : (t : Table) (room : List ℕ) (held : Option (List ℕ)) → ((i : ℕ) → get_or room i 0 ≡ get_or t.room i 0) → ForSome held (Stands t)
    → Over t (record t { room = room }) held held
over_reached t room held same stands = stays t (record t { room = room }) held stands (λ inner s. reached_plain t room inner same s)

pub over_failed : (t : Table) (slot n : ℕ) (room : List ℕ) (held : Option (List ℕ)) → n ≤ 4096 → get_or t.laps slot 0 ≡ 0
    → IsKeptOutside (slot * 4096) n t.room room → ForSome held (Stands t) → Over t (record t { room = room }) held held
over_failed t slot n room held small vacant kept stands =
    stays t (record t { room = room }) held stands (λ inner s. failed_plain t slot n room inner small vacant kept s)

over_taken_some : (t : Table) (at n : ℕ) (room : List ℕ) (held : Option (List ℕ)) → HasPlaces t → get_or t.laps (slot_of at) 0 ≡ 0
    → n ≡ page_size t (page_start at) → IsKeptOutside (slot_of at * 4096) n t.room room
    → ForSome held (IsFilled (slot_of at * 4096) n room (page_start at)) → ForSome held (Stands t) → Over t (with_page t at room) held held
over_taken_some t at n room None has vacant size kept filled stands = record { same = refl; stands = λ inner is. absurd (none-some inner is) }
over_taken_some t at n room (Some inner) has vacant size kept filled stands =
    let s = taken_plain t at n room inner has vacant size kept (filled inner refl) (stands inner refl) in
    record { same = ap Some s.same; stands = λ x is. subst (λ (b : List ℕ). Stands (with_page t at room) b) (same_Some inner x is) s.stands }

pub over_taken : (t : Table) (at n : ℕ) (room : List ℕ) (held : Option (List ℕ)) → HasPlaces t → get_or t.laps (slot_of at) 0 ≡ 0
    → n ≡ page_size t (page_start at) → IsKeptOutside (slot_of at * 4096) n t.room room
    → ForSome held (IsFilled (slot_of at * 4096) n room (page_start at)) → ForSome held (Stands t) → Over t (with_page t at room) held held
over_taken = over_taken_some

-- ---- bytes of a page

pub read_told : (t : Table) (at n : ℕ) (held : Option (List ℕ)) (bytes : List ℕ) → HasPlaces t → is_held t at ≡ true → at % 4096 + n ≤ 4096
    → at + n ≤ t.len → content t held ≡ Some bytes → slice_range t.room (spot_of at) (spot_of at + n) ≡ take n (drop at bytes)
read_told t at n None bytes has here chunk within is = absurd (none-some bytes is)
read_told t at n (Some inner) bytes has here chunk within is =
    read_plain t at n inner has here chunk within ∙ ap (λ (b : List ℕ). take n (drop at b)) (same_Some (told t inner) bytes is)

pub put_content : (t : Table) (at n : ℕ) (room bytes : List ℕ) (held : Option (List ℕ)) → 0 < n → at ≤ t.len → Puts t at n room bytes
    → content (with_bytes t at n room) held ≡ option_map (λ old. written old at bytes) (content t held)
put_content t at n room bytes None some within puts = refl
put_content t at n room bytes (Some inner) some within puts = ap Some (put_told t at n room bytes inner some within puts)

pub put_over : (t : Table) (at n : ℕ) (room bytes : List ℕ) (held : Option (List ℕ)) → HasPlaces t → at ≤ t.len → Puts t at n room bytes
    → ForSome held (Stands t) → ForSome held (Stands (with_bytes t at n room))
put_over t at n room bytes held has within puts stands = λ inner is. put_stands t at n room bytes inner has within puts (stands inner is)

-- ---- the begin: no page is held, and all is the blob's

begun_plain : (t : Table) (inner : List ℕ) → HoldsNone t → t.len ≡ length inner → told t inner ≡ inner
begun_plain t inner holds long =
    let a = told_length t inner in
    ext_get_or 0 (told t inner) inner (omega arith)
    (λ i within. let p = page_of i in told_at t inner i (omega arith) ∙ other_byte t inner i (none_held t (slot_of i) i (holds.none (slot_of i) p.2) refl))

begun_stands : (t : Table) (inner : List ℕ) → HoldsNone t → t.len ≡ length inner → t.stored ≡ t.len → Stands t inner
begun_stands t inner holds long stored = record {
  stored = omega arith;
  there = λ i within settled. omega arith;
  same = λ i within settled. let p = page_of i in other_byte t inner i (none_held t (slot_of i) i (holds.none (slot_of i) p.2) refl);
}

pub begun : (t : Table) (held : Option (List ℕ)) → HoldsNone t → ForSome held (λ inner. t.len ≡ length inner) → t.stored ≡ t.len
    → (content t held ≡ held) × ForSome held (Stands t)
begun t None holds long stored = (refl, λ inner is. absurd (none-some inner is))
begun t (Some inner) holds long stored = (
  ap Some (begun_plain t inner holds (long inner refl)),
  λ x is. subst (λ (b : List ℕ). Stands t b) (same_Some inner x is) (begun_stands t inner holds (long inner refl) stored),
)

-- ---- the same with what the code has in the place of a table's parts

pub tore_at : (t : Table) (slot size begin : ℕ) (room : List ℕ) (old new : Option (List ℕ)) → slot < 1024 → HasPlaces t → 0 < size
    → size ≡ size_ahead t slot → begin ≡ start_of t slot → room ≡ t.room → ForSome old (Stands t)
    → Changes (IsTorn begin (length (slice_range room (slot * 4096) (slot * 4096 + size)))) old new → Over t t old new
tore_at t slot size begin room old new small has some size_is begin_is room_is stands changes =
    let part : slice_range room (slot * 4096) (slot * 4096 + size) ≡ page_bytes t slot =
    ap (λ (r : List ℕ). slice_range r (slot * 4096) (slot * 4096 + size)) room_is ∙ ap (λ (n : ℕ). slice_range t.room (slot * 4096) (slot * 4096 + n)) size_is in
    let moved : Changes (IsTorn (start_of t slot) (length (page_bytes t slot))) old new =
    subst (λ (b : ℕ). Changes (IsTorn b (length (page_bytes t slot))) old new) begin_is
    (subst (λ (l : List ℕ). Changes (IsTorn begin (length l)) old new) part changes) in
    tore t slot old new small has (omega arith) stands moved

pub went_at : (t : Table) (slot size begin : ℕ) (room : List ℕ) (old new : Option (List ℕ)) → slot < 1024 → HasPlaces t → 0 < size
    → size ≡ size_ahead t slot → begin ≡ start_of t slot → room ≡ t.room → ForSome old (Stands t)
    → new ≡ option_map (λ inner. written inner begin (slice_range room (slot * 4096) (slot * 4096 + size))) old → Over t (written_back t slot) old new
went_at t slot size begin room old new small has some size_is begin_is room_is stands wrote =
    let part : slice_range room (slot * 4096) (slot * 4096 + size) ≡ page_bytes t slot =
    ap (λ (r : List ℕ). slice_range r (slot * 4096) (slot * 4096 + size)) room_is ∙ ap (λ (n : ℕ). slice_range t.room (slot * 4096) (slot * 4096 + n)) size_is in
    let moved : Wrote t slot old new =
    subst (λ (b : ℕ). new ≡ option_map (λ inner. written inner b (page_bytes t slot)) old) begin_is
    (subst (λ (l : List ℕ). new ≡ option_map (λ inner. written inner begin l) old) part wrote) in
    went t slot old new small has (omega arith) stands moved

pub there_at : (t : Table) (at start size : ℕ) (inner : List ℕ) → get_or t.laps (slot_of at) 0 ≡ 0 → Stands t inner → start ≡ page_start at
    → size ≡ page_size t start → 0 < size → start + size ≤ length inner
there_at t at start size inner vacant stands start_is size_is some =
    let size_here : size ≡ page_size t (page_start at) = size_is ∙ ap (page_size t) start_is in
    let there = page_there t at inner vacant stands (omega arith) in
    omega arith

pub failed_at : (t u : Table) (slot n : ℕ) (old new : Option (List ℕ)) → u ≡ record t { room = u.room } → new ≡ old → n ≤ 4096
    → get_or t.laps slot 0 ≡ 0 → IsKeptOutside (slot * 4096) n t.room u.room → ForSome old (Stands t) → Over t u old new
failed_at t u slot n old new table same small vacant kept stands =
    subst (λ (w : Table). Over t w old new) (sym table)
    (subst (λ (o : Option (List ℕ)). Over t (record t { room = u.room }) old o) (sym same) (over_failed t slot n u.room old small vacant kept stands))

noted_as : (t u v : Table) (at : ℕ) → u ≡ record t { room = u.room } → v ≡ with_page u at u.room → v ≡ with_page t at u.room
noted_as t u v at table noted = noted ∙ ap (λ (w : Table). with_page w at u.room) table

pub taken_at : (t u v : Table) (at : ℕ) (old new : Option (List ℕ)) → u ≡ record t { room = u.room } → v ≡ with_page u at u.room → new ≡ old
    → HasPlaces t → get_or t.laps (slot_of at) 0 ≡ 0 → IsKeptOutside (slot_of at * 4096) (page_size t (page_start at)) t.room u.room
    → ForSome old (IsFilled (slot_of at * 4096) (page_size t (page_start at)) u.room (page_start at)) → ForSome old (Stands t) → Over t v old new
taken_at t u v at old new table noted same has vacant kept filled stands =
    subst (λ (w : Table). Over t w old new) (sym (noted_as t u v at table noted))
    (subst (λ (o : Option (List ℕ)). Over t (with_page t at u.room) old o) (sym same)
    (over_taken t at (page_size t (page_start at)) u.room old has vacant refl kept filled stands))

pub held_at : (t u v : Table) (at : ℕ) → u ≡ record t { room = u.room } → v ≡ with_page u at u.room → HasPlaces t → is_held v at ≡ true
held_at t u v at table noted has =
    subst (λ (w : Table). is_held w at ≡ true) (sym (noted_as t u v at table noted)) (page_held t at u.room has)

pub given_up : (t u v w : Table) (slot : ℕ) (old new : Option (List ℕ)) → slot < 1024 → HasPlaces u → IsClean u slot → v ≡ vacated u slot
    → w ≡ record v { room = w.room } → ((i : ℕ) → get_or w.room i 0 ≡ get_or v.room i 0) → Over t u old new → Over t w old new
given_up t u v w slot old new small has clean is reached same over =
    let step = over_vacated u slot new small has clean over.stands in
    let vacant : Over t v old new = subst (λ (x : Table). Over t x old new) (sym is) (over_then t u (vacated u slot) old new new over step) in
    subst (λ (x : Table). Over t x old new) (sym reached)
    (over_then t v (record v { room = w.room }) old new new vacant (over_reached v w.room new same vacant.stands))

pub put_at_over : (t u v : Table) (at : ℕ) (bytes : List ℕ) (old new : Option (List ℕ)) → 0 < length bytes → at ≤ u.len
    → v ≡ with_bytes u at (length bytes) v.room → Puts u at (length bytes) v.room bytes → Over t u old new
    → content v new ≡ option_map (λ o. written o at bytes) (content t old)
put_at_over t u v at bytes old new some within table puts over =
    ap (λ (w : Table). content w new) table ∙ put_content u at (length bytes) v.room bytes new some within puts
    ∙ ap (λ (h : Option (List ℕ)). option_map (λ o. written o at bytes) h) over.same

pub put_stands_over : (t u v : Table) (at : ℕ) (bytes : List ℕ) (old new : Option (List ℕ)) → at ≤ u.len → HasPlaces u
    → v ≡ with_bytes u at (length bytes) v.room → Puts u at (length bytes) v.room bytes → Over t u old new → ForSome new (Stands v)
put_stands_over t u v at bytes old new within has table puts over =
    subst (λ (w : Table). ForSome new (Stands w)) (sym table) (put_over u at (length bytes) v.room bytes new has within puts over.stands)

pub over_same : (t : Table) (old new : Option (List ℕ)) → new ≡ old → ForSome old (Stands t) → Over t t old new
over_same t old new same stands = subst (λ (o : Option (List ℕ)). Over t t old o) (sym same) (over_nothing t old stands)

pub seen_open : (is_open : Bool) (t : Table) (held : Option (List ℕ)) → is_open ≡ true → seen is_open t held ≡ content t held
seen_open is_open t held begun = cond-true is_open (content t held) held begun

-- ---- all pages are written back

pub keeps_all : (t : Table) → KeepsClean t t
keeps_all t = record { clean = λ slot clean. clean }

pub keeps_back : (t : Table) (slot : ℕ) → slot < 1024 → HasPlaces t → KeepsClean t (written_back t slot)
keeps_back t slot small has = record {
  clean = λ k clean. record {
    none_ahead = λ i within here. elim (cases_eq (slot_of i) slot) [
      | inl same ↦ (clean_back t slot small has).none_ahead i within same
      | inr other ↦
          let dirty : get_or (set t.dirty slot false) (slot_of i) false ≡ get_or t.dirty (slot_of i) false = get_or-set_other t.dirty slot (slot_of i) false false other in
          ap (λ (d : Bool). is_held t i && d) dirty ∙ clean.none_ahead i within here
    ];
  };
}

pub clean_first : (t : Table) → AreClean 0 t
clean_first t = record { each = λ slot none. absurd (omega arith) }

pub clean_next : (t u : Table) (n : ℕ) → AreClean n t → KeepsClean t u → IsClean u n → AreClean (n + 1) u
clean_next t u n before keeps clean = record {
  each = λ slot small. elim (cases_eq slot n) [
    | inl last ↦ subst (λ (k : ℕ). IsClean u k) (sym last) clean
    | inr other ↦ keeps.clean slot (before.each slot (omega arith))
  ];
}

settled_plain : (t : Table) (inner : List ℕ) → AreClean 1024 t → Stands t inner → told t inner ≡ take t.len inner
settled_plain t inner clean stands =
    let long = told_length t inner in let part = length-take t.len inner in
    let none : (i : ℕ) → i < t.len → is_ahead t i ≡ false = λ i within. (clean.each (slot_of i) (page_of i).2).none_ahead i within refl in
    let enough : t.len ≤ length inner = elim (cases_eq t.len 0) [
      | inl empty ↦ omega arith
      | inr some ↦ let last : t.len - 1 < t.stored = stands.there (t.len - 1) (omega arith) (none (t.len - 1) (omega arith)) in let stored = stands.stored in omega arith
    ] in
    ext_get_or 0 (told t inner) (take t.len inner) (omega arith)
    (λ i short. let within : i < t.len = omega arith in
    told_at t inner i within ∙ stands.same i within (none i within) ∙ sym (get_or-take t.len inner i 0 within))

-- Where no byte is ahead, the bytes that are told are the blob's own, up to the end.
pub settled_content : (t : Table) (held : Option (List ℕ)) → AreClean 1024 t → ForSome held (Stands t)
    → content t held ≡ option_map (λ inner. take t.len inner) held
settled_content t None clean stands = refl
settled_content t (Some inner) clean stands = ap Some (settled_plain t inner clean (stands inner refl))
