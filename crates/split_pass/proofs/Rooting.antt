-- A triangle is in the root that its slot tells, and the streams of the six roots.
use Rattle.std.proofs.Common.{◌≡◌, ◌≢◌, ◌<◌, ℕ, zero, suc, ◌+◌, ◌++◌, ◌∷◌, [], List, Option, Some, None, Result, Ok, Err, ◌⊎◌, inl, inr, true, false, refl, sym, ◌∙◌, ap, subst, arith, length}
use Rattle.std.specs.Prelude.{filter, slice_get, OnOk}
use Rattle.std.specs.Option.{option_map}
use Rattle.std.proofs.lemmas.Bool.{cases_eq, eq-eqb, eqb-true, false_from_ne_true}
use Rattle.std.proofs.lemmas.Option.{slice_get_within}
use Rattle.tpz_base.specs.declared.shape.Tri.{Tri}
use Rattle.tpz_base.specs.Roots.{corner_sum, is_in_root, root_slot}
use Rattle.tri_stream.specs.declared.names.StreamId.{StreamId}
use Rattle.tri_stream.specs.Streams.{StreamsState, count_of, list_of, told_list, IsLive, LeavesOthers, Stands}
use Rattle.split_pass.specs.Moves.{AreApart, AreFresh, AreLive, IsNoneOf, LeavesAllOthers, MakesAll}
use Rattle.split_pass.proofs.Dividing.{nothing_more}
use Rattle.tri_stream.proofs.Changes.{differ, live_as_before, live_differs, nothing_told, one_told, same_name, Makes}

in_root : (slot n : ℕ) (t : Tri) → n ≡ root_slot (corner_sum t) → n ≡ slot → is_in_root slot t ≡ true
unfolding is_in_root
in_root slot n t is same = eq-eqb (root_slot (corner_sum t)) slot (sym is ∙ same)

not_in_root : (slot n : ℕ) (t : Tri) → n ≡ root_slot (corner_sum t) → n ≢ slot → is_in_root slot t ≡ false
unfolding is_in_root
not_in_root slot n t is other =
    false_from_ne_true (is_in_root slot t) (λ h. other (is ∙ eqb-true (root_slot (corner_sum t)) slot h))

root_has : (slot n : ℕ) (t : Tri) → n ≡ root_slot (corner_sum t) → n ≡ slot → filter (is_in_root slot) (t ∷ []) ≡ t ∷ []
root_has slot n t is same = rw (in_root slot n t is same) refl

root_lacks : (slot n : ℕ) (t : Tri) → n ≡ root_slot (corner_sum t) → n ≢ slot → filter (is_in_root slot) (t ∷ []) ≡ []
root_lacks slot n t is other = rw (not_in_root slot n t is other) refl

same_at : (o : Option StreamId) (a b : StreamId) → o ≡ Some a → o ≡ Some b → a ≡ b
same_at None a b is is' = absurd cc
same_at (Some c) a b is is' = cc

-- a name is at one place alone
pub same_here : (ids : List StreamId) (j k : ℕ) (a b : StreamId) → slice_get ids j ≡ Some a → slice_get ids k ≡ Some b → j ≡ k → a ≡ b
same_here ids j k a b at at' same = same_at (slice_get ids k) a b (sym (ap (slice_get ids) same) ∙ at) at'

-- each root's stream has the triangle more where it is the triangle's root
pub sent_list : (ids : List StreamId) (slot : ℕ) (id : StreamId) (t : Tri) (old new : StreamsState) (before now : Option (List ℕ))
    → AreApart ids → slice_get ids slot ≡ Some id → slot ≡ root_slot (corner_sum t)
    → told_list new now id ≡ option_map (λ list. list ++ t ∷ []) (told_list old before id)
    → LeavesOthers id old new before now
    → (k : ℕ) (x : StreamId) → slice_get ids k ≡ Some x → told_list new now x ≡ option_map (λ list. list ++ filter (is_in_root k) (t ∷ [])) (told_list old before x)
sent_list ids slot id t old new before now apart at is list others k x at' =
    elim (cases_eq slot k) [
      | inl same ↦
          let e : id ≡ x = same_here ids slot k id x at at' same in
          let all = root_has k slot t is same in
          let here = subst (λ (y : StreamId). told_list new now y ≡ option_map (λ list. list ++ t ∷ []) (told_list old before y)) e list in
          rw all here
      | inr ne ↦
          let none = root_lacks k slot t is ne in
          others.lists x (λ same. apart slot k id x at at' ne (sym same))
          ∙ sym (nothing_more (told_list old before x) (filter (is_in_root k) (t ∷ [])) none)
    ]

pub sent_live : (ids : List StreamId) (id : StreamId) (old new : StreamsState) (before now : Option (List ℕ))
    → AreLive ids old → IsLive new id → LeavesOthers id old new before now → AreLive ids new
sent_live ids id old new before now live here others k x at =
    elim (same_name x id) [
      | inl same ↦ subst (IsLive new) (sym same) here
      | inr ne ↦ live_as_before old new x (others.counts x ne) (live k x at)
    ]

pub sent_others : (ids : List StreamId) (slot : ℕ) (id : StreamId) (old new : StreamsState) (before now : Option (List ℕ))
    → slice_get ids slot ≡ Some id → LeavesOthers id old new before now → LeavesAllOthers ids old new before now
sent_others ids slot id old new before now at others = record {
  counts = λ x ne. others.counts x (λ same. ne slot (at ∙ ap Some (sym same)));
  lists = λ x ne. others.lists x (λ same. ne slot (at ∙ ap Some (sym same)));
}

-- a name is at some place or at none
other_name : (y : StreamId) (ids : List StreamId) (x : StreamId) → y ≢ x → IsNoneOf ids x → IsNoneOf (y ∷ ids) x
other_name y ids x ne none zero is = ne cc
other_name y ids x ne none (suc k) is = none k is

no_name : (x : StreamId) → IsNoneOf [] x
no_name x zero is = absurd cc
no_name x (suc k) is = absurd cc

pub among : (ids : List StreamId) (x : StreamId) → ((k : ℕ) × (slice_get ids k ≡ Some x)) ⊎ IsNoneOf ids x
among [] x = inr (no_name x)
among (y ∷ ids) x =
    elim (same_name y x) [
      | inl is ↦ inl (0, ap Some is)
      | inr ne ↦ elim (among ids x) [
        | inl w ↦ inl (suc w.0, w.1)
        | inr none ↦ inr (other_name y ids x ne none)
      ]
    ]

-- a stream that is live is none of those that aren't
pub live_is_other : (ids : List StreamId) (s : StreamsState) (x : StreamId) → AreFresh ids s → IsLive s x → IsNoneOf ids x
live_is_other ids s x fresh live k is = live_differs s x x live (fresh k x is) refl

-- no stream is made so far
pub made_none : (s : StreamsState) → MakesAll [] s s
made_none s = record {
  fresh = λ k x is. absurd (no_name x k is);
  apart = λ j k a b is is' ne. absurd (no_name a j is);
  made = λ k x is. absurd (no_name x k is);
  empty = λ bytes h k x is. absurd (no_name x k is);
  others = λ told h. record { counts = λ x none. refl; lists = λ x none. refl };
  total = refl;
  stands = λ bytes h. h;
  base = refl;
  l = refl;
}

-- The names behind the first one.
later_none : (y : StreamId) (ids : List StreamId) (x : StreamId) → IsNoneOf (y ∷ ids) x → IsNoneOf ids x
later_none y ids x none k is = none (suc k) is

first_none : (y : StreamId) (ids : List StreamId) (x : StreamId) → IsNoneOf (y ∷ ids) x → x ≢ y
first_none y ids x none same = none 0 (ap Some (sym same))

-- a stream more
made_fresh : (y : StreamId) (ids : List StreamId) (s0 s1 s2 : StreamsState) → MakesAll ids s0 s1 → Makes y s1 s2 → AreFresh (y ∷ ids) s0
made_fresh y ids s0 s1 s2 m n zero x is =
    let e : y ≡ x = cc in
    let none : IsNoneOf ids y = λ k at. differ s1 y y 0 (m.made k y at) n.fresh refl in
    subst (λ (z : StreamId). count_of s0 z ≡ None) e (sym ((m.others None (nothing_told s0)).counts y none) ∙ n.fresh)
made_fresh y ids s0 s1 s2 m n (suc k) x is = m.fresh k x is

made_apart : (y : StreamId) (ids : List StreamId) (s0 s1 s2 : StreamsState) → MakesAll ids s0 s1 → Makes y s1 s2 → AreApart (y ∷ ids)
made_apart y ids s0 s1 s2 m n zero zero a b is is' ne = absurd (ne refl)
made_apart y ids s0 s1 s2 m n zero (suc k) a b is is' ne =
    let e : y ≡ a = cc in
    λ same. differ s1 b y 0 (m.made k b is') n.fresh (sym (e ∙ same))
made_apart y ids s0 s1 s2 m n (suc j) zero a b is is' ne =
    let e : y ≡ b = cc in
    λ same. differ s1 a y 0 (m.made j a is) n.fresh (same ∙ sym e)
made_apart y ids s0 s1 s2 m n (suc j) (suc k) a b is is' ne = m.apart j k a b is is' (λ same. ne (ap suc same))

made_count : (y : StreamId) (ids : List StreamId) (s0 s1 s2 : StreamsState) → MakesAll ids s0 s1 → Makes y s1 s2
    → (k : ℕ) (x : StreamId) → slice_get (y ∷ ids) k ≡ Some x → count_of s2 x ≡ Some 0
made_count y ids s0 s1 s2 m n zero x is = let e : y ≡ x = cc in subst (λ (z : StreamId). count_of s2 z ≡ Some 0) e n.count
made_count y ids s0 s1 s2 m n (suc k) x is =
    (n.others None (nothing_told s1)).counts x (differ s1 x y 0 (m.made k x is) n.fresh) ∙ m.made k x is

made_list : (y : StreamId) (ids : List StreamId) (s0 s1 s2 : StreamsState) → MakesAll ids s0 s1 → Makes y s1 s2
    → (bytes : List ℕ) → Stands s0 bytes → (k : ℕ) (x : StreamId) → slice_get (y ∷ ids) k ≡ Some x → list_of s2 bytes x ≡ []
made_list y ids s0 s1 s2 m n bytes h zero x is =
    let e : y ≡ x = cc in subst (λ (z : StreamId). list_of s2 bytes z ≡ []) e (n.list bytes (m.stands bytes h))
made_list y ids s0 s1 s2 m n bytes h (suc k) x is =
    let told = (n.others (Some bytes) (one_told s1 bytes (m.stands bytes h))).lists x
    (differ s1 x y 0 (m.made k x is) n.fresh)
    in
    let same : list_of s2 bytes x ≡ list_of s1 bytes x = cc in
    same ∙ m.empty bytes h k x is

pub made_more : (y : StreamId) (ids : List StreamId) (s0 s1 s2 : StreamsState) → MakesAll ids s0 s1 → Makes y s1 s2 → MakesAll (y ∷ ids) s0 s2
made_more y ids s0 s1 s2 m n = record {
  fresh = made_fresh y ids s0 s1 s2 m n;
  apart = made_apart y ids s0 s1 s2 m n;
  made = made_count y ids s0 s1 s2 m n;
  empty = made_list y ids s0 s1 s2 m n;
  others = λ told h. record {
    counts = λ x none.
        (n.others None (nothing_told s1)).counts x (first_none y ids x none) ∙ (m.others None (nothing_told s0)).counts x (later_none y ids x none);
    lists = λ x none.
        (n.others told (λ bytes is. m.stands bytes (h bytes is))).lists x (first_none y ids x none) ∙ (m.others told h).lists x (later_none y ids x none);
  };
  total = n.total ∙ m.total;
  stands = λ bytes h. n.stands bytes (m.stands bytes h);
  base = n.base ∙ m.base;
  l = n.l ∙ m.l;
}

-- what two facts about one answer tell together
pub on_ok_both : {T E P Q R : Type 0} (r : Result T E) → (P → Q → R) → OnOk r P → OnOk r Q → OnOk r R
on_ok_both (Ok x) f p q = f p q
on_ok_both (Err e) f p q = p

pub made_live : (ids : List StreamId) (old new : StreamsState) → MakesAll ids old new → AreLive ids new
made_live ids old new m k x is = rw (m.made k x is) refl

-- The root at this slot has been searched, and its stream has ended: what is said of those before it.
pub ended_too : (ids : List StreamId) (slot : ℕ) (id : StreamId) (old new : StreamsState) → AreApart ids → slice_get ids slot ≡ Some id
    → count_of new id ≡ None → ((x : StreamId) → x ≢ id → count_of new x ≡ count_of old x)
    → ((k : ℕ) (x : StreamId) → k < slot → slice_get ids k ≡ Some x → count_of old x ≡ None)
    → (k : ℕ) (x : StreamId) → k < slot + 1 → slice_get ids k ≡ Some x → count_of new x ≡ None
ended_too ids slot id old new apart at ended counts before k x within is =
    elim (cases_eq slot k) [
      | inl same ↦ subst (λ (y : StreamId). count_of new y ≡ None) (same_here ids slot k id x at is same) ended
      | inr ne ↦ counts x (λ same. apart slot k id x at is ne (sym same)) ∙ before k x (omega arith) is
    ]

-- Once all six have ended, every count is as it was.
pub all_ended : (ids : List StreamId) (n : ℕ) (old new : StreamsState) → length ids ≡ n → AreFresh ids old
    → ((k : ℕ) (x : StreamId) → k < n → slice_get ids k ≡ Some x → count_of new x ≡ None)
    → ((x : StreamId) → IsNoneOf ids x → count_of new x ≡ count_of old x) → (x : StreamId) → count_of new x ≡ count_of old x
all_ended ids n old new all fresh ended counts x =
    elim (among ids x) [
      | inl w ↦
          let within = slice_get_within ids w.0 x w.1 in
          ended w.0 x (omega arith) w.1 ∙ sym (fresh w.0 x w.1)
      | inr none ↦ counts x none
    ]
