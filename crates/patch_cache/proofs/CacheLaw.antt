-- What the calls of `lru` leave, in a cache's own words.
use Rattle.std.proofs.Common.{◌≡◌, ℕ, zero, suc, ◌+◌, ◌-◌, ◌≤◌, ◌⊎◌, Bool, true, false, not, ◌||◌, List, [], ◌∷◌, ◌++◌, length, take, drop, Option, Some, None, refl, sym, ◌∙◌, ap, ap₂, subst, inl, inr, arith, slice_get, length-append}
use Rattle.std.specs.Prelude.{filter, is_some, option_map, IsSome, IsNone}
use Rattle.std.specs.List.{IsDistinct, AllByRecursion, list_any}
use Rattle.std.specs.Map.{keys_of, lookup, lookup_entry, remove_entry}
use Rattle.std.specs.Option.{option_map_or, option_to_list}
use Rattle.std.proofs.lemmas.Bool.{cases_Bool}
use Rattle.std.proofs.lemmas.Map.Made.{is_some-lookup, IsDistinct-keys_filter}
use Rattle.std.proofs.lemmas.Option.{slice_get_cases}
use Rattle.tpz_base.specs.declared.shape.Point.{Point}
use Rattle.tpz_base.specs.Points.{point_eq}
use Rattle.tpz_base.specs.Cuts.{has_diamond}
use Rattle.tpz_base.proofs.PointLemmas.{point_eq_sym, point_eq-true}
use Rattle.tetra_name.specs.declared.shape.Half.{Half}
use Rattle.tetra_name.specs.Names.{point_of}
use Rattle.lru.specs.LruCache.{LruCache, lru_cache, promoted, put_entries, displaced}
use Rattle.patch_cache.specs.Caches.{CacheState, cache_state, is_at, to_front, IsCache}

has-from_any : (ks : List Point) (d : Point) → list_any (point_eq d) ks ≡ has_diamond ks d
has-from_any [] d = refl
has-from_any (k ∷ ks) d = ap₂ (λ a b. a || b) (point_eq_sym d k) (has-from_any ks d)

-- no key of the list is d
abbrev pub IsApart : Point → List Point → Type 0
IsApart d ks = AllByRecursion (λ y. point_eq d y ≡ false) ks

or_false : (a b : Bool) → a || b ≡ false → (a ≡ false) × (b ≡ false)
or_false true b e = cc
or_false false b e = (refl, e)

pub apart_from_has : (d : Point) (ks : List Point) → has_diamond ks d ≡ false → IsApart d ks
apart_from_has d [] h = tt
apart_from_has d (k ∷ ks) h =
    let r = or_false (point_eq k d) (has_diamond ks d) h in (point_eq_sym d k ∙ r.0, apart_from_has d ks r.1)

module _ {V : Type 0} where
  -- a centre that is absent in one of two equal states is so in the other
  pub absent_at : (s now : CacheState V) (k d : Point) → s ≡ now → k ≡ d → has_diamond (keys_of now.entries) d ≡ false → has_diamond (keys_of s.entries) k ≡ false
  absent_at s now k d same key absent = ap (λ (t : CacheState V). has_diamond (keys_of t.entries) k) same ∙ ap (has_diamond (keys_of now.entries)) key ∙ absent

  -- an entry is found where its centre is there
  pub found : (d : Point) (es : List (Point × V)) → is_some (lookup (point_eq d) es) ≡ has_diamond (keys_of es) d
  found d es = is_some-lookup (point_eq d) es ∙ has-from_any (keys_of es) d

  none_at : (d : Point) (es : List (Point × V)) → IsApart d (keys_of es) → (filter (is_at d) es ≡ []) × (filter (λ e. not (is_at d e)) es ≡ es)
  none_at d [] h = (refl, refl)
  none_at d (e ∷ es) h =
      let k = none_at d es h.1 in
      let f : point_eq d e.0 ≡ false = h.0 in (rw f k.0, rw f (ap (λ ys. e ∷ ys) k.1))

  no_entry : (d : Point) (es : List (Point × V)) → IsApart d (keys_of es) → (lookup_entry (point_eq d) es ≡ None) × (lookup (point_eq d) es ≡ None)
  no_entry d [] h = (refl, refl)
  no_entry d (e ∷ es) h =
      let k = no_entry d es h.1 in
      let f : point_eq d e.0 ≡ false = h.0 in (rw f k.0, rw f k.1)

  -- the one entry with the centre d
  pub record IsEntry (d : Point) (es : List (Point × V)) (e : Point × V) : Type 0 where
    pub found : lookup_entry (point_eq d) es ≡ Some e
    pub same : d ≡ e.0
    pub alone : filter (is_at d) es ≡ e ∷ []
    pub rest : remove_entry (point_eq d) es ≡ filter (λ e. not (is_at d e)) es

  cases_entry : (d : Point) (es : List (Point × V)) → IsDistinct point_eq (keys_of es) → ((lookup_entry (point_eq d) es ≡ None) × IsApart d (keys_of es)) ⊎ ((e : Point × V) × IsEntry d es e)
  unfolding IsDistinct
  cases_entry d [] h = inl (refl, tt)
  cases_entry d (e ∷ es) h =
      elim (cases_Bool (point_eq d e.0)) [
        | inl t ↦
            (let same = point_eq-true d e.0 t in
            let k = none_at d es (subst (λ x. IsApart x (keys_of es)) (sym same) h.0) in
            inr (e, record { found = rw t refl; same = same; alone = rw t (ap (λ ys. e ∷ ys) k.0); rest = rw t (sym k.1) }))
        | inr f ↦ elim (cases_entry d es h.1) [
          | inl k ↦ inl (rw f k.0, (f, k.1))
          | inr k ↦ inr (k.0, record { found = rw f k.1.found; same = k.1.same; alone = rw f k.1.alone; rest = rw f (ap (λ ys. e ∷ ys) k.1.rest) })
        ]
      ]

  -- what is promoted comes to the front
  pub promoted_front : (d : Point) (es : List (Point × V)) → IsDistinct point_eq (keys_of es) → promoted (point_eq d) es ≡ to_front d es
  promoted_front d es h =
      elim (cases_entry d es h) [
        | inl k ↦
            (let n = none_at d es k.1 in
            ap (λ o. option_map_or (λ e. e ∷ remove_entry (point_eq d) es) o es) k.0 ∙ ap₂ (λ xs ys. xs ++ ys) (sym n.0) (sym n.1))
        | inr k ↦
            ap (λ o. option_map_or (λ e. e ∷ remove_entry (point_eq d) es) o es) k.1.found ∙ ap (λ ys. k.0 ∷ ys) k.1.rest
            ∙ ap (λ xs. xs ++ filter (λ e. not (is_at d e)) es) (sym k.1.alone)
      ]

  apart_others : (d : Point) (es : List (Point × V)) → IsApart d (keys_of (filter (λ e. not (is_at d e)) es))
  apart_others d [] = tt
  apart_others d (e ∷ es) =
      elim (cases_Bool (point_eq d e.0)) [
        | inl t ↦ rw t (apart_others d es)
        | inr f ↦ rw f (f, apart_others d es)
      ]

  pub front_differs : (d : Point) (es : List (Point × V)) → IsDistinct point_eq (keys_of es) → IsDistinct point_eq (keys_of (to_front d es))
  unfolding IsDistinct
  front_differs d es h =
      let rest = IsDistinct-keys_filter point_eq (λ e. not (is_at d e)) es h in
      let P : List (Point × V) → Type 0 = λ xs. IsDistinct point_eq (keys_of (xs ++ filter (λ e. not (is_at d e)) es)) in
      elim (cases_entry d es h) [
        | inl k ↦ subst P (sym (none_at d es k.1).0) rest
        | inr k ↦ subst P (sym k.1.alone) (subst (λ x. IsApart x (keys_of (filter (λ e. not (is_at d e)) es))) k.1.same (apart_others d es), rest)
      ]

  pub parts_length : (d : Point) (es : List (Point × V)) → length (filter (is_at d) es) + length (filter (λ e. not (is_at d e)) es) ≡ length es
  parts_length d [] = refl
  parts_length d (e ∷ es) =
      let rest = parts_length d es in
      elim (cases_Bool (point_eq d e.0)) [ inl t ↦ rw t (omega (arith, rest)) | inr f ↦ rw f (omega (arith, rest)) ]

  -- the same facts after a touch
  pub kept_front : (d : Point) (s t : LruCache Point V) → IsCache (cache_state s.entries s.cap) → t ≡ lru_cache (promoted (point_eq d) s.entries) s.cap → IsCache (cache_state t.entries t.cap)
  kept_front d s t h e =
      subst (λ (u : LruCache Point V). IsCache (cache_state u.entries u.cap)) (sym (e ∙ ap (λ es. lru_cache es s.cap) (promoted_front d s.entries h.differ)))
      (let long = length-append (filter (is_at d) s.entries) (filter (λ e. not (is_at d e)) s.entries) in
      let same = parts_length d s.entries in
      let most = h.few in
      record { differ = front_differs d s.entries h.differ; few = omega (arith, long, same, most); least = h.least; most = h.most })

  apart_take : (d : Point) (n : ℕ) (es : List (Point × V)) → IsApart d (keys_of es) → IsApart d (keys_of (take n es))
  apart_take d zero es h = tt
  apart_take d (suc n) [] h = tt
  apart_take d (suc n) (e ∷ es) h = (h.0, apart_take d n es h.1)

  pub take_differs : (n : ℕ) (es : List (Point × V)) → IsDistinct point_eq (keys_of es) → IsDistinct point_eq (keys_of (take n es))
  unfolding IsDistinct
  take_differs zero es h = tt
  take_differs (suc n) [] h = tt
  take_differs (suc n) (e ∷ es) h = (apart_take e.0 n es h.0, take_differs n es h.1)

  pub take_most : (n : ℕ) (es : List (Point × V)) → (length (take n es) ≤ n) × (length (take n es) ≤ length es)
  take_most zero es = (omega arith, omega arith)
  take_most (suc n) [] = (omega arith, omega arith)
  take_most (suc n) (e ∷ es) = let k = take_most n es in let a = k.0 in let b = k.1 in (omega (arith, a), omega (arith, b))

  -- the same facts of the first entries
  -- the same facts where nothing changed
  pub kept_same : (s t : LruCache Point V) → IsCache (cache_state s.entries s.cap) → t ≡ s → IsCache (cache_state t.entries t.cap)
  kept_same s t h e = subst (λ (u : LruCache Point V). IsCache (cache_state u.entries u.cap)) (sym e) h

  pub kept_take : (n : ℕ) (s t : LruCache Point V) → IsCache (cache_state s.entries s.cap) → t ≡ lru_cache (take n s.entries) s.cap → IsCache (cache_state t.entries t.cap)
  kept_take n s t h e =
      subst (λ (u : LruCache Point V). IsCache (cache_state u.entries u.cap)) (sym e)
      (let few = h.few in
      let less = (take_most n s.entries).1 in
      record { differ = take_differs n s.entries h.differ; few = omega (arith, few, less); least = h.least; most = h.most })

  -- a new centre comes first
  first_of : (n : ℕ) (x : Point × V) (es : List (Point × V)) → 1 ≤ n → x ∷ take (n - 1) es ≡ take n (x ∷ es)
  first_of zero x es h = absurd (omega (arith, h))
  first_of (suc n) x es h = let same : suc n - 1 ≡ n = omega arith in ap (λ m. x ∷ take m es) same

  pub admitted : (d : Point) (v : V) (s : LruCache Point V) → IsCache (cache_state s.entries s.cap) → has_diamond (keys_of s.entries) d ≡ false
      → put_entries point_eq s d v ≡ take s.cap ((d, v) ∷ s.entries)
  admitted d v s h absent =
      ap (λ o. option_map_or (λ e. (e.0, v) ∷ remove_entry (point_eq d) s.entries) o ((d, v) ∷ take (s.cap - 1) s.entries)) (no_entry d s.entries (apart_from_has d (keys_of s.entries) absent)).0
      ∙ first_of s.cap (d, v) s.entries h.least

  pub kept_admit : (d : Point) (v : V) (s t : LruCache Point V) → IsCache (cache_state s.entries s.cap) → has_diamond (keys_of s.entries) d ≡ false
      → t ≡ lru_cache (put_entries point_eq s d v) s.cap → IsCache (cache_state t.entries t.cap)
  unfolding IsDistinct
  kept_admit d v s t h absent e =
      subst (λ (u : LruCache Point V). IsCache (cache_state u.entries u.cap)) (sym (e ∙ ap (λ es. lru_cache es s.cap) (admitted d v s h absent)))
      (record {
        differ = take_differs s.cap ((d, v) ∷ s.entries) (apart_from_has d (keys_of s.entries) absent, h.differ);
        few = (take_most s.cap ((d, v) ∷ s.entries)).0;
        least = h.least;
        most = h.most;
      })

  pub displaced_last : (d : Point) (v : V) (s : LruCache Point V) → has_diamond (keys_of s.entries) d ≡ false → displaced point_eq s d v ≡ slice_get s.entries (s.cap - 1)
  displaced_last d v s absent =
      ap (λ o. option_map_or (λ (old : V). Some (d, old)) o (slice_get s.entries (s.cap - 1))) (no_entry d s.entries (apart_from_has d (keys_of s.entries) absent)).1

  tail_is : (n : ℕ) (es : List (Point × V)) → length es ≤ suc n → option_to_list (slice_get es n) ≡ drop n es
  tail_is zero [] h = refl
  tail_is (suc n) [] h = refl
  tail_is zero (e ∷ []) h = refl
  tail_is zero (e ∷ f ∷ es) h = absurd (omega (arith, h))
  tail_is (suc n) (e ∷ es) h = tail_is n es (omega (arith, h))

  -- the centre of the entry
  abbrev pub centre_in : Option (Point × V) → Option Point
  centre_in o = option_map (λ e. e.0) o

  centre_list : (o : Option (Point × V)) → option_to_list (centre_in o) ≡ keys_of (option_to_list o)
  centre_list None = refl
  centre_list (Some e) = refl

  -- the last one goes
  pub last_gone : (n : ℕ) (es : List (Point × V)) (vacated : Option Half) (last : Option (Point × V)) → length es ≤ suc n → option_map point_of vacated ≡ centre_in last → last ≡ slice_get es n
      → option_to_list (option_map point_of vacated) ≡ keys_of (drop n es)
  last_gone n es vacated last few is at = ap option_to_list is ∙ centre_list last ∙ ap keys_of (ap option_to_list at ∙ tail_is n es few)

  pub admit_gone : (n : ℕ) (x : Point × V) (es : List (Point × V)) (vacated : Option Half) (last : Option (Point × V)) → 1 ≤ n → length es ≤ n → option_map point_of vacated ≡ centre_in last
      → last ≡ slice_get es (n - 1) → option_to_list (option_map point_of vacated) ≡ keys_of (drop n (x ∷ es))
  admit_gone zero x es vacated last least few is at = absurd (omega (arith, least))
  admit_gone (suc n) x es vacated last least few is at =
      let same : suc n - 1 ≡ n = omega arith in last_gone n es vacated last few is (at ∙ ap (slice_get es) same)

  some_both : (vacated : Option Half) (last : Option (Point × V)) → option_map point_of vacated ≡ centre_in last → is_some vacated ≡ is_some last
  some_both None None e = refl
  some_both None (Some x) e = cc
  some_both (Some g) None e = cc
  some_both (Some g) (Some x) e = refl

  pub gone_where_full : (n : ℕ) (es : List (Point × V)) (vacated : Option Half) (last : Option (Point × V)) → 1 ≤ n → length es ≤ n → option_map point_of vacated ≡ centre_in last
      → last ≡ slice_get es (n - 1) → (IsSome vacated → length es ≡ n) × (length es ≡ n → IsSome vacated)
  gone_where_full n es vacated last least few is at =
      let some = some_both vacated last is ∙ ap is_some at in
      elim (slice_get_cases es (n - 1)).1 [
        | inl r ↦ (let low = r.1 in (λ _. omega (arith, low, few, least), λ _. some ∙ ap is_some r.2))
        | inr r ↦ (let high = r.0 in (λ g. absurd (apart (sym g ∙ some ∙ ap is_some r.1)), λ long. absurd (omega (arith, long, high, least))))
      ]
    where
      apart : true ≡ false → ⊥
      apart e = cc

  pub none_where_empty : (es : List (Point × V)) (vacated : Option Half) (last : Option (Point × V)) → option_map point_of vacated ≡ centre_in last
      → last ≡ slice_get es (length es - 1) → (IsNone vacated → es ≡ []) × (es ≡ [] → IsNone vacated)
  none_where_empty es vacated last is at =
      let some = some_both vacated last is ∙ ap is_some at in
      elim (slice_get_cases es (length es - 1)).1 [
        | inl r ↦ (λ g. absurd (apart (sym (some ∙ ap is_some r.2) ∙ g)), λ e. absurd (not_there e r.1))
        | inr r ↦ (let high = r.0 in (λ g. nothing es (omega (arith, high)), λ e. some ∙ ap is_some r.1))
      ]
    where
      apart : true ≡ false → ⊥
      apart e = cc

      not_there : es ≡ [] → suc (length es - 1) ≤ length es → ⊥
      not_there e low = let long : length es ≡ 0 = ap length e in omega (arith, low, long)

      nothing : (xs : List (Point × V)) → length xs ≡ 0 → xs ≡ []
      nothing [] h = refl
      nothing (x ∷ xs) h = absurd (omega (arith, h))
