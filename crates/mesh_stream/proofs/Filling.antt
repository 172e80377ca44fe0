-- A stream to which triangles are added one by one.
use Rattle.std.proofs.Common.{◌≡◌, ◌≢◌, ℕ, ◌+◌, ◌<◌, [], ◌∷◌, ◌++◌, take, length, get_or, refl, sym, ◌∙◌, ap, subst, arith, append_assoc, append-nil, add-zero, zero-add, inl, inr, Option, Some, None}
use Rattle.std.proofs.lemmas.Bool.{cases_eq}
use Rattle.std.specs.Prelude.{is_some, All, IsSome}
use Rattle.std.specs.Option.{ForSome, option_map}
use Rattle.std.proofs.lemmas.List.{take_more, length_push}
use Rattle.tpz_base.specs.declared.shape.Tri.{Tri}
use Rattle.tpz_base.specs.Meshes.{Mesh}
use Rattle.tpz_base.specs.Texts.{Bytes}
use Rattle.tri_stream.specs.Lists.{IsHeld}
use Rattle.tri_stream.specs.declared.names.StreamId.{StreamId}
use Rattle.tri_stream.specs.Streams.{StreamsState, count_of, list_of, told_list, total, IsLive, Keeps, LeavesOthers, Stands}
use Rattle.mesh_stream.specs.Fills.{Fills, IsSourceOf}

nothing_added : (o : Option Mesh) → o ≡ option_map (λ M. M ++ []) o
nothing_added None = refl
nothing_added (Some M) = ap Some (sym (append-nil M))

none_counted : (o : Option ℕ) → o ≡ option_map (λ n. n + 0) o
none_counted None = refl
none_counted (Some n) = ap Some (sym (add-zero n))

pub fills_none : (id : StreamId) (s : StreamsState) (told : Option Bytes) → ForSome told (Stands s) → Fills id [] s s told told
fills_none id s told stands = record {
  list = nothing_added (told_list s told id);
  count = none_counted (count_of s id);
  others = λ x other. refl;
  total = sym (add-zero (total s));
  l = refl;
  stands = stands;
  telling = refl;
}

one_added : (a b c : Option Mesh) (M : Mesh) (t : Tri) → b ≡ option_map (λ l. l ++ M) a → c ≡ option_map (λ l. l ++ t ∷ []) b
    → c ≡ option_map (λ l. l ++ (M ++ t ∷ [])) a
one_added None b c M t first second = second ∙ ap (option_map (λ l. l ++ t ∷ [])) first
one_added (Some l) b c M t first second = second ∙ ap (option_map (λ l. l ++ t ∷ [])) first ∙ ap Some (append_assoc l M (t ∷ []))

one_counted : (a b c : Option ℕ) (k : ℕ) → b ≡ option_map (λ n. n + k) a → c ≡ option_map (λ n. n + 1) b → c ≡ option_map (λ n. n + (k + 1)) a
one_counted None b c k first second = second ∙ ap (option_map (λ n. n + 1)) first
one_counted (Some n) b c k first second =
    let sum : n + k + 1 ≡ n + (k + 1) = omega arith in
    second ∙ ap (option_map (λ n. n + 1)) first ∙ ap Some sum

-- one triangle more
pub fills_one : (id : StreamId) (M : Mesh) (t : Tri) (s0 s1 s2 : StreamsState) (x y z : Option Bytes) → Fills id M s0 s1 x y
    → count_of s2 id ≡ option_map (λ n. n + 1) (count_of s1 id)
    → told_list s2 z id ≡ option_map (λ list. list ++ t ∷ []) (told_list s1 y id)
    → LeavesOthers id s1 s2 y z → total s2 ≡ total s1 + 1 → Keeps s1 s2 y z
    → Fills id (M ++ t ∷ []) s0 s2 x z
fills_one id M t s0 s1 s2 x y z so_far count list others more kept =
    let long : length (M ++ t ∷ []) ≡ length M + 1 = length_push M t in
    record {
      list = one_added (told_list s0 x id) (told_list s1 y id) (told_list s2 z id) M t so_far.list list;
      count = subst (λ (k : ℕ). count_of s2 id ≡ option_map (λ n. n + k) (count_of s0 id)) (sym long)
          (one_counted (count_of s0 id) (count_of s1 id) (count_of s2 id) (length M) so_far.count count);
      others = λ w other. others.counts w other ∙ so_far.others w other;
      total = omega (arith, more, so_far.total, long);
      l = kept.l ∙ so_far.l;
      stands = kept.stands;
      telling = kept.front.same_telling ∙ so_far.telling;
    }

-- .. the next of a list
pub fills_more : (id : StreamId) (tris : Mesh) (i : ℕ) (d : Tri) (s0 s1 s2 : StreamsState) (x y z : Option Bytes) → i < length tris
    → Fills id (take i tris) s0 s1 x y
    → count_of s2 id ≡ option_map (λ n. n + 1) (count_of s1 id)
    → told_list s2 z id ≡ option_map (λ list. list ++ get_or tris i d ∷ []) (told_list s1 y id)
    → LeavesOthers id s1 s2 y z → total s2 ≡ total s1 + 1 → Keeps s1 s2 y z
    → Fills id (take (i + 1) tris) s0 s2 x z
fills_more id tris i d s0 s1 s2 x y z below so_far count list others more kept =
    subst (λ (M : Mesh). Fills id M s0 s2 x z) (sym (take_more tris i d below))
    (fills_one id (take i tris) (get_or tris i d) s0 s1 s2 x y z so_far count list others more kept)

live_count : (o o' : Option ℕ) (k : ℕ) → o' ≡ option_map (λ n. n + k) o → IsSome o → IsSome o'
live_count None o' k is live = absurd cc
live_count (Some n) o' k is live = rw is refl

pub still_live : (id : StreamId) (tris : Mesh) (s0 s1 : StreamsState) (x y : Option Bytes) → Fills id tris s0 s1 x y → IsLive s0 id → IsLive s1 id
still_live id tris s0 s1 x y fills live = live_count (count_of s0 id) (count_of s1 id) (length tris) fills.count live

-- what a stream is told to hold is what it was filled with
pub source_held : (l : ℕ) (tris : Mesh) (s : StreamsState) (id : StreamId) (now : Option Bytes) → ForSome now (λ bytes. told_list s now id ≡ Some tris) → All (IsHeld l) tris
    → ForSome (told_list s now id) (All (IsHeld l))
source_held l tris s id None list held M is = absurd cc
source_held l tris s id (Some bytes) list held M is =
    let same : ◌≡◌ {A = Option Mesh} (Some tris) (Some M) = sym (list bytes refl) ∙ is in
    let both : tris ≡ M = cc in
    subst (All (IsHeld l)) both held

-- A stream that was just made, the first one, and then filled.

module _ (id : StreamId) (tris : Mesh) (l : ℕ) (s0 s1 s2 : StreamsState) (before now : Option Bytes)
    (none : (x : StreamId) → count_of s0 x ≡ None) (level : s1.l ≡ l) (made : count_of s1 id ≡ Some 0)
    (empty : (bytes : Bytes) → Stands s0 bytes → list_of s1 bytes id ≡ [])
    (others : (told : Option Bytes) → ForSome told (Stands s0) → LeavesOthers id s0 s1 told told) (stood : (bytes : Bytes) → Stands s0 bytes)
    (fills : Fills id tris s1 s2 before now) where
  no_other : (x : StreamId) → x ≢ id → count_of s2 x ≡ None
  no_other x other = fills.others x other ∙ (others None (λ bytes is. absurd cc)).counts x other ∙ none x

  none_live : (o : Option ℕ) → o ≡ None → IsSome o → ⊥
  none_live o is live = let no : IsSome {T = ℕ} None = subst (λ o. IsSome o) is live in cc

  only_it : (x : StreamId) → IsLive s2 x → x ≡ id
  only_it x live = elim (cases_eq x.place id.place) [
    | inl e ↦ ap (λ (p : ℕ). let y : StreamId = record { place = p } in y) e
    | inr ne ↦ absurd (none_live (count_of s2 x) (no_other x (λ same. ne (ap (λ (y : StreamId). y.place) same))) live)
  ]

  filled_list : (o n : Option Bytes) → is_some n ≡ is_some o → told_list s2 n id ≡ option_map (λ M. M ++ tris) (told_list s1 o id) → ForSome n (λ bytes. told_list s2 n id ≡ Some tris)
  filled_list None None same list = λ bytes is. absurd cc
  filled_list None (Some m) same list = λ bytes is. absurd cc
  filled_list (Some o) n same list = λ bytes is. list ∙ ap (λ (M : Mesh). Some (M ++ tris)) (empty o (stood o))

  pub source_of : IsSourceOf l tris s2 id before now
  source_of = record {
    level = fills.l ∙ level;
    list = filled_list before now fills.telling fills.list;
    count = fills.count ∙ ap (option_map (λ n. n + length tris)) made ∙ ap Some (zero-add (length tris));
    only = only_it;
    stands = fills.stands;
    telling = fills.telling;
  }
