-- The way back in an ascending walk.
use Rattle.std.proofs.Common.{◌≡◌, ℕ, ◌+◌, ◌<◌, ◌≤◌, ◌==◌, true, List, [], ◌∷◌, ◌++◌, refl, sym, ◌∙◌, ap, arith, append_assoc, subst}
use Rattle.std.specs.Prelude.{nat_eq}
use Rattle.std.specs.List.{concat, after_first, before_first}
use Rattle.std.proofs.lemmas.Bool.{le-ltb}
use Rattle.tpz_base.specs.Lists.{has}
use Rattle.star_ring.specs.Rings.{times, in_a_ring, ring_of, prev_of, last_of}
use Rattle.star_ring.proofs.Counts.{one_same, times-append, has_times, times_has}
use Rattle.star_ring.proofs.Walks.{walk, walk_turn, in_walk, Parts, parts}
use Rattle.corner_stars.specs.Stars.{inserted, IsRising}
use Rattle.corner_stars.specs.Layout.{IsPassed}

-- what stands further on is greater
least : (k : ℕ) (xs : List ℕ) (a : ℕ) (ys : List ℕ) → IsRising k (xs ++ a ∷ ys) → k ≤ a
least k [] a ys r = r.0
least k (x ∷ xs) a ys r = let le = r.0 in omega (arith, least (x + 1) xs a ys r.1)

next_greater : (k : ℕ) (xs : List ℕ) (b a : ℕ) (ys : List ℕ) → IsRising k (xs ++ b ∷ a ∷ ys) → b < a
next_greater k [] b a ys r = let le = r.1.0 in omega arith
next_greater k (x ∷ xs) b a ys r = next_greater (x + 1) xs b a ys r.1

-- c goes behind what isn't above it
passes : (k : ℕ) (xs : List ℕ) (a : ℕ) (ys : List ℕ) (c : ℕ) → IsRising k (xs ++ a ∷ ys) → a ≤ c → inserted c (xs ++ a ∷ ys) ≡ xs ++ a ∷ inserted c ys
passes k [] a ys c r le = rw (le-ltb c a le) refl
passes k (x ∷ xs) a ys c r le =
    let low : x ≤ c = omega (arith, least (x + 1) xs a ys r.1) in
    rw (le-ltb c x low) (ap (λ zs. x ∷ zs) (passes (x + 1) xs a ys c r.1 le))

-- the last node of a list
last_behind : (n : ℕ) (ys : List ℕ) (f : ℕ) (xs : List ℕ) → last_of n (ys ++ f ∷ xs) ≡ last_of f xs
last_behind n [] f xs = refl
last_behind n (y ∷ ys) f xs = last_behind y ys f xs

last_split : (x : ℕ) (xs : List ℕ) → (zs : List ℕ) × (x ∷ xs ≡ zs ++ last_of x xs ∷ [])
last_split x [] = ([], refl)
last_split x (y ∷ xs) = let s = last_split y xs in (x ∷ s.0, ap (λ zs. x ∷ zs) s.1)

-- behind the first node, where c isn't below it
pub passed_first : (rs : List (List ℕ)) (first c : ℕ) → first ≤ c → IsPassed (walk rs first) c first
passed_first rs first c le =
    let zs : List ℕ = after_first (λ m. m == first) (ring_of rs first) ++ before_first (λ m. m == first) (ring_of rs first) in
    record { front = []; back = zs; is = refl; passed = rw (le-ltb c first le) refl }

module _ (rs : List (List ℕ)) (once : (k : ℕ) → times k (concat rs) ≤ 1) (first c : ℕ) (l : in_a_ring rs first ≡ true) (rises : IsRising 0 (walk rs first)) where
  split : (a : ℕ) → has nat_eq (walk rs first) a ≡ true → Parts a (walk rs first)
  split a own = parts a (walk rs first) (has_times a (walk rs first) own)

  pub own_linked : (a : ℕ) → has nat_eq (walk rs first) a ≡ true → in_a_ring rs a ≡ true
  own_linked a own = in_walk rs first a l (has_times a (walk rs first) own)

  -- one step back
  pub record IsBack (a b : ℕ) : Type 0 where
    pub own : has nat_eq (walk rs first) b ≡ true
    pub lower : b < a

  back_in : (a b : ℕ) (front back : List ℕ) → walk rs first ≡ front ++ a ∷ back → first < a → prev_of rs a ≡ b → IsBack a b
  back_in a b [] back is lt e = let same : first ≡ a = cc in absurd (omega arith)
  back_in a b (x ∷ xs) back is lt e =
      let same : first ≡ x = cc in
      let turned : walk rs a ≡ a ∷ (back ++ first ∷ xs) = walk_turn rs once first a xs back l (is ∙ ap (λ m. m ∷ (xs ++ a ∷ back)) (sym same)) in
      let last : b ≡ last_of x xs = sym e ∙ ap (last_of a) turned ∙ last_behind a back first xs ∙ ap (λ m. last_of m xs) same in
      let s = last_split x xs in
      let shape : walk rs first ≡ s.0 ++ b ∷ a ∷ back =
      is ∙ ap (λ zs. zs ++ a ∷ back) (s.1 ∙ ap (λ m. s.0 ++ m ∷ []) (sym last)) ∙ append_assoc s.0 (b ∷ []) (a ∷ back) in
      let count : times b (walk rs first) ≡ times b (s.0 ++ b ∷ a ∷ back) = ap (times b) shape in
      record {
        own = times_has b (walk rs first) (omega (arith, times-append b s.0 (b ∷ a ∷ back), one_same b));
        lower = next_greater 0 s.0 b a back (subst (IsRising 0) shape rises);
      }

  pub back_step : (a b : ℕ) → has nat_eq (walk rs first) a ≡ true → first ≤ c → c < a → prev_of rs a ≡ b → IsBack a b
  back_step a b own least lt e = let p = split a own in back_in a b p.front p.back p.is (omega arith) e

  pub passed_own : (a : ℕ) → has nat_eq (walk rs first) a ≡ true → a ≤ c → IsPassed (walk rs first) c a
  passed_own a own le =
      let p = split a own in
      record {
        front = p.front;
        back = p.back;
        is = p.is;
        passed = ap (inserted c) p.is ∙ passes 0 p.front a p.back c (subst (IsRising 0) p.is rises) le;
      }
