-- The nearest of the first members.
use Rattle.std.proofs.Common.{◌≡◌, ◌<◌, ◌≤◌, ℕ, zero, suc, ◌+◌, ◌^◌, Bool, true, false, List, [], ◌∷◌, map, take, set, length, refl, sym, ◌∙◌, ap, ap₂, subst, inl, inr, ◌⊎◌, arith}
use Rattle.std.specs.Prelude.{nat_lt, fold, filter, Option, Some, None, IsSome, IfSome, slice_get}
use Rattle.std.specs.List.{reduce, slice_index_or}
use Rattle.std.specs.Option.{option_map_or}
use Rattle.std.proofs.lemmas.Bool.{cases_eq}
use Rattle.std.proofs.lemmas.List.{length-map, get_or-set_same, get_or-set_other}
use Rattle.std.proofs.lemmas.List.Sums.{count_by-le-length, length-filter}
use Rattle.tpz_base.specs.declared.shape.Point.{Point}
use Rattle.tpz_base.specs.declared.shape.Tri.{Tri}
use Rattle.tpz_base.specs.Points.{point, point_add, point_scale, max_dist}
use Rattle.tpz_base.specs.Roots.{corner_sum}
use Rattle.tpz_base.specs.Tetrahedra.{Tetrahedron, corner, members}
use Rattle.tetra_name.specs.declared.shape.Half.{Half}
use Rattle.tetra_name.specs.declared.shape.Tet.{Tet}
use Rattle.tetra_name.specs.Names.{corners_of, count_of, point_of, tetrahedron_of, IsCentre, IsName}
use Rattle.tetra_name.specs.Steps.{is_member, member_at, members_closed, pairs}
use Rattle.tetra_name.proofs.NamesLaw.{unit_of_centre, members_of}
use Rattle.assign.specs.declared.near.Near.{Near}
use Rattle.assign.specs.declared.sum.Sum.{Sum}
use Rattle.assign.specs.Leaf.{centre_dist, nearer, nearest}
use Rattle.assign.specs.Near.{nearer_of, IsNearest}
use Rattle.assign.specs.MemberSums.{member_sum, HasSums}
use Rattle.assign.specs.Sums.{point_at}
use Rattle.assign.proofs.LeanLaw.{mapped_at}

-- the sum by the listed corners
by_corners : Point → Point → Point → Point → Point
by_corners a b c d = point_scale 3 (point_add (point_add a b) (point_add c d))

same_corners : {a b c d a' b' c' d' : Point} → a ≡ a' → b ≡ b' → c ≡ c' → d ≡ d' → by_corners a b c d ≡ by_corners a' b' c' d'
same_corners e f g h = cc

abbrev at_place : List Half → ℕ → Point
at_place at i = point_of (slice_index_or at i (record { x = 0; y = 0; z = 0 }))

found_at : (T : Tetrahedron) (at : List Half) (s : Sum) → map point_of at ≡ T.corners → point_at s ≡ by_corners (at_place at 0) (at_place at 1) (at_place at 2) (at_place at 3) → point_at s ≡ member_sum T
unfolding by_corners member_sum
found_at T at s e is =
    let here : (i : ℕ) → at_place at i ≡ corner T i = λ i. mapped_at at i ∙ ap (λ xs. slice_index_or xs i (point 0 0 0)) e in
    is ∙ same_corners (here 0) (here 1) (here 2) (here 3)

pub sum_is : (L : ℕ) (t : Tet) (at : List Half) (s : Sum) → map point_of at ≡ corners_of L t
    → point_at s ≡ point_scale 3 (point_add (point_add (at_place at 0) (at_place at 1)) (point_add (at_place at 2) (at_place at 3)))
    → IfSome (tetrahedron_of L t) (λ T. point_at s ≡ member_sum T)
unfolding corners_of by_corners
sum_is L t at s listed is = cases (tetrahedron_of L t) listed where
  cases : (o : Option Tetrahedron) → map point_of at ≡ option_map_or (λ (T : Tetrahedron). T.corners) o [] → IfSome o (λ T. point_at s ≡ member_sum T)
  cases None e = tt
  cases (Some T) e = found_at T at s e is

by_sum : (p q : Point) (T : Tetrahedron) (r : ℕ) → r ≡ max_dist (point_scale 8 p) q → q ≡ member_sum T → r ≡ centre_dist p T
unfolding member_sum centre_dist
by_sum p q T r is e = is ∙ ap (max_dist (point_scale 8 p)) e

-- the distance by the sum
pub distance_is : (p q : Point) (o : Option Tetrahedron) (r : ℕ) → r ≡ max_dist (point_scale 8 p) q → IfSome o (λ T. q ≡ member_sum T) → IfSome o (λ T. r ≡ centre_dist p T)
distance_is p q None r is h = tt
distance_is p q (Some T) r is h = by_sum p q T r is h

-- sums that are written one after another
pub no_sums : (L : ℕ) (c : Half) (sums : List Sum) → HasSums L c 0 sums
no_sums L c sums = record { each = λ i h. absurd (omega (arith, h)) }

pub more_sums : (L : ℕ) (c : Half) (n : ℕ) (sums : List Sum) (s : Sum) → n < length sums → HasSums L c n sums
    → IfSome (tetrahedron_of L (record { centre = c; slot = n })) (λ T. point_at s ≡ member_sum T) → HasSums L c (n + 1) (set sums n s)
more_sums L c n sums s room h here = record { each = λ i below. cases i below (cases_eq i n) } where
  z : Sum
  z = record { x = 0; y = 0; z = 0 }

  IsHere : ℕ → Sum → Type 0
  IsHere i v = IfSome (tetrahedron_of L (record { centre = c; slot = i })) (λ T. point_at v ≡ member_sum T)

  cases : (i : ℕ) → i < n + 1 → (i ≡ n) ⊎ (i ≡ n → ⊥) → IsHere i (slice_index_or (set sums n s) i z)
  cases i below (inl e) = subst (λ k. IsHere k (slice_index_or (set sums n s) k z)) (sym e) (subst (IsHere n) (sym (get_or-set_same sums n s z room)) here)
  cases i below (inr ne) = subst (IsHere i) (sym (get_or-set_other sums n i s z ne)) (h.each i (omega (arith, below, ne)))

-- one more at the end
fold_more : {X : Type 0} (f : X → X → X) (x : X) (xs : List X) (n : ℕ) (y : X) → slice_get xs n ≡ Some y → fold f x (take (suc n) xs) ≡ f (fold f x (take n xs)) y
fold_more f x [] n y e = absurd cc
fold_more f x (z ∷ zs) zero y e = let k : z ≡ y = cc in ap (f x) k
fold_more f x (z ∷ zs) (suc n) y e = fold_more f (f x z) zs n y e

reduce_more : {X : Type 0} (f : X → X → X) (xs : List X) (n : ℕ) (x y : X) → 1 ≤ n → reduce f (take n xs) ≡ Some x → slice_get xs n ≡ Some y → reduce f (take (suc n) xs) ≡ Some (f x y)
reduce_more f xs zero x y h r e = absurd (omega (arith, h))
reduce_more f [] (suc n) x y h r e = absurd cc
reduce_more f (z ∷ zs) (suc n) x y h r e =
    let k : fold f z (take n zs) ≡ x = cc in
    ap Some (fold_more f z zs n y e ∙ ap (λ v. f v y) k)

got : {X : Type 0} (xs : List X) (n : ℕ) → n < length xs → (x : X) × (slice_get xs n ≡ Some x)
got [] n h = absurd (omega (arith, h))
got (x ∷ xs) zero h = (x, refl)
got (x ∷ xs) (suc n) h = got xs n (omega (arith, h))

of_some : {X : Type 0} (F : X → Type 0) (o : Option X) (x : X) → o ≡ Some x → IfSome o F → F x
of_some F o x e h = subst (λ v. IfSome v F) e h

to_some : {X : Type 0} (F : X → Type 0) (o : Option X) (x : X) → o ≡ Some x → F x → IfSome o F
to_some F o x e h = subst (λ v. IfSome v F) (sym e) h

first_one : {X : Type 0} (f : X → X → X) (xs : List X) → 0 < length xs → reduce f (take 1 xs) ≡ slice_get xs 0
first_one f [] h = absurd (omega (arith, h))
first_one f (x ∷ xs) h = refl

pub first_near : (p : Point) (ms : List Tetrahedron) (d : ℕ) → 0 < length ms → IfSome (slice_get ms 0) (λ T. d ≡ centre_dist p T) → IsNearest p ms 1 (record { slot = 0; distance = d })
first_near p ms d some h = record { is = first_one (nearer p) ms some; distance = h; low = omega arith }

taken : (p : Point) (S T : Tetrahedron) → nat_lt (centre_dist p T) (centre_dist p S) ≡ true → nearer p S T ≡ T
unfolding nearer
taken p S T e = rw e refl

kept : (p : Point) (S T : Tetrahedron) → nat_lt (centre_dist p T) (centre_dist p S) ≡ false → nearer p S T ≡ S
unfolding nearer
kept p S T e = rw e refl

pub next_near : (p : Point) (ms : List Tetrahedron) (n : ℕ) (a r : Near) (d : ℕ) → 1 ≤ n → n < length ms → IsNearest p ms n a → IfSome (slice_get ms n) (λ T. d ≡ centre_dist p T)
    → r ≡ nearer_of a (record { slot = n; distance = d }) → IsNearest p ms (n + 1) r
next_near p ms n a r d some within h here is = cases (nat_lt d a.distance) refl where
  T : (x : Tetrahedron) × (slice_get ms n ≡ Some x)
  T = got ms n within

  S : (x : Tetrahedron) × (slice_get ms a.slot ≡ Some x)
  S = got ms a.slot (omega (arith, h.low, within))

  far : d ≡ centre_dist p T.0
  far = of_some (λ X. d ≡ centre_dist p X) (slice_get ms n) T.0 T.1 here

  near : a.distance ≡ centre_dist p S.0
  near = of_some (λ X. a.distance ≡ centre_dist p X) (slice_get ms a.slot) S.0 S.1 h.distance

  more : reduce (nearer p) (take (suc n) ms) ≡ Some (nearer p S.0 T.0)
  more = reduce_more (nearer p) ms n S.0 T.0 some (h.is ∙ S.1) T.1

  same : (b : Bool) → nat_lt d a.distance ≡ b → nat_lt (centre_dist p T.0) (centre_dist p S.0) ≡ b
  same b e = ap₂ nat_lt (sym far) (sym near) ∙ e

  after : (r' : Near) → r ≡ r' → IsNearest p ms (suc n) r' → IsNearest p ms (n + 1) r
  after r' e k = let m : suc n ≡ n + 1 = omega arith in subst (λ i. IsNearest p ms i r) m (subst (IsNearest p ms (suc n)) (sym e) k)

  cases : (b : Bool) → nat_lt d a.distance ≡ b → IsNearest p ms (n + 1) r
  cases true e =
      let r_is : r ≡ record { slot = n; distance = d } = is ∙ rw e refl in
      after (record { slot = n; distance = d }) r_is (record {
        is = more ∙ ap Some (taken p S.0 T.0 (same true e)) ∙ sym T.1;
        distance = here;
        low = omega arith;
      })
  cases false e =
      let r_is : r ≡ a = is ∙ rw e refl in
      after a r_is (record {
        is = more ∙ ap Some (kept p S.0 T.0 (same false e)) ∙ sym S.1;
        distance = h.distance;
        low = omega (arith, h.low);
      })

take_all : {X : Type 0} (xs : List X) (n : ℕ) → length xs ≤ n → take n xs ≡ xs
take_all [] zero h = refl
take_all [] (suc n) h = refl
take_all (x ∷ xs) zero h = absurd (omega (arith, h))
take_all (x ∷ xs) (suc n) h = ap (λ ys. x ∷ ys) (take_all xs n (omega (arith, h)))

pub near_all : (L : ℕ) (c : Half) (t : Tri) (p : Point) (n : ℕ) (a : Near) → p ≡ corner_sum t → length (members L (point_of c)) ≤ n → IsNearest p (members L (point_of c)) n a
    → tetrahedron_of L (record { centre = c; slot = a.slot }) ≡ nearest L (point_of c) t
unfolding tetrahedron_of nearest
near_all L c t p n a e all h =
    sym h.is ∙ ap (reduce (nearer p)) (take_all (members L (point_of c)) n all) ∙ ap (λ q. reduce (nearer q) (members L (point_of c))) e

pub some_members : (L : ℕ) (c : Point) (n : ℕ) → IsCentre L c → n ≡ count_of L c → 0 < n
unfolding IsCentre
some_members L c n h e = omega (arith, h, e)

pub some_there : (L : ℕ) (c : Point) → IsCentre L c → 0 < length (members L c)
unfolding IsCentre count_of
some_there L c h = h

pub within : (L : ℕ) (c : Point) (i n : ℕ) → n ≡ count_of L c → i < n → i < length (members L c)
unfolding count_of
within L c i n e h = omega (arith, e, h)

pub all_members : (L : ℕ) (c : Point) (i n : ℕ) → n ≡ count_of L c → n ≤ i → length (members L c) ≤ i
unfolding count_of
all_members L c i n e h = omega (arith, e, h)

pub member_there : (L : ℕ) (c : Half) (i : ℕ) (F : Tetrahedron → Type 0) → IfSome (tetrahedron_of L (record { centre = c; slot = i })) F → IfSome (slice_get (members L (point_of c)) i) F
unfolding tetrahedron_of
member_there L c i F h = h

-- a diamond has at most 24 members
pub few_members : (L : ℕ) (c : Point) (n : ℕ) → IsCentre L c → n ≡ count_of L c → n ≤ 24
unfolding count_of members_closed pairs
few_members L c n h e =
    let U = unit_of_centre L c h in
    let kept = is_member (2 ^ suc U.k) U.u in
    let all : length (members L c) ≡ length (filter kept pairs) = ap length (members_of L c U) ∙ length-map (filter kept pairs) (member_at U.n (2 ^ U.j) U.u) in
    omega (arith, all, e, length-filter kept pairs, count_by-le-length kept pairs)

pub has_name : (L : ℕ) (c : Half) (i n : ℕ) → n ≡ count_of L (point_of c) → i < n → IsName L (record { centre = c; slot = i })
unfolding IsName tetrahedron_of
has_name L c i n e h = let s = got (members L (point_of c)) i (within L (point_of c) i n e h) in subst IsSome (sym s.1) refl
