-- A table of signed sums while a star is walked, and what it tells of the vertex.
use Rattle.std.proofs.Common.{◌≡◌, ℕ, zero, suc, ◌+◌, ◌*◌, ◌<◌, ◌≤◌, Bool, true, false, cond, not, ◌&&◌, ◌||◌, List, [], ◌∷◌, map, length, drop, set, ℤ, pos, negsuc, ◌+ℤ◌, ◌-ℤ◌, refl, sym, ◌∙◌, ap, ap₂, subst, arith, inl, inr, Some, None}
use Rattle.std.specs.Prelude.{filter, slice_get, unsigned_abs, if◌then◌else◌, ◌==◌}
use Rattle.std.specs.Ordering.{int_eq}
use Rattle.std.proofs.lemmas.Bool.{cases_Bool, and_parts, and_right, eqb-true, eqb-false, eq-eqb, or_left}
use Rattle.std.proofs.lemmas.Int.{ints}
use Rattle.std.proofs.lemmas.List.{ext_get_or, length-map, length-set, get_or-map, get_or-set_same, get_or-set_other, drop_more, drop_all}
use Rattle.std.proofs.lemmas.List.Sums.{count_by-le-length, sum_by-cons}
use Rattle.tpz_base.specs.declared.shape.Point.{Point}
use Rattle.tpz_base.specs.declared.shape.Tri.{Tri}
use Rattle.tpz_base.specs.Points.{point, point_eq}
use Rattle.tpz_base.specs.Meshes.{Mesh, triangle, edge_eq, edges_of, edge_count, edge_sum, has_corner, is_whole}
use Rattle.tpz_base.specs.Collapses.{opposite_edge}
use Rattle.tpz_base.proofs.PointLemmas.{point_eq-true, point_eq_refl, point_eq_sym}
use Rattle.patch_mesh.specs.Shops.{opens_at}
use Rattle.patch_mesh.specs.Slots.{point_at, IsDistinct}
use Rattle.patch_mesh.proofs.MeshTests.{edge_count_is, int_eq-difference}
use Rattle.patch_mesh.proofs.Local.{sum_at}
use Rattle.patch_mesh.proofs.MoveLaw.{same_point}
use Rattle.patch_mesh.proofs.WalkLaw.{got_in, got_is, got_none}
use Rattle.edge_collapse.specs.Balances.{balance_at, sums_at, zeros}

-- the sums with k more at the point q
pub bumped : (Point → ℤ) → Point → ℤ → Point → ℤ
bumped f q k v = if point_eq q v then f v +ℤ k else f v

bumped_here : (f : Point → ℤ) (q : Point) (k : ℤ) (v : Point) → point_eq q v ≡ true → bumped f q k v ≡ f v +ℤ k
unfolding bumped
bumped_here f q k v e = rw e refl

bumped_there : (f : Point → ℤ) (q : Point) (k : ℤ) (v : Point) → point_eq q v ≡ false → bumped f q k v ≡ f v
unfolding bumped
bumped_there f q k v e = rw e refl

read_map : (f : Point → ℤ) (vs : List Point) (n : ℕ) → n < length vs → balance_at (map f vs) n ≡ f (point_at vs n)
read_map f vs n h = get_or-map f vs n (point 0 0 0) (pos 0) h

map_same : (f g : Point → ℤ) → ((v : Point) → f v ≡ g v) → (vs : List Point) → map f vs ≡ map g vs
map_same f g same [] = refl
map_same f g same (v ∷ vs) = ap₂ (λ z zs. z ∷ zs) (same v) (map_same f g same vs)

module _ (vs : List Point) (distinct : IsDistinct vs) where
  -- a change at one number is one at its point
  set_bumped : (f : Point → ℤ) (n : ℕ) (k : ℤ) → n < length vs
      → set (map f vs) n (balance_at (map f vs) n +ℤ k) ≡ map (bumped f (point_at vs n) k) vs
  set_bumped f n k h =
      let y = balance_at (map f vs) n +ℤ k in
      let g = bumped f (point_at vs n) k in
      ext_get_or (pos 0) (set (map f vs) n y) (map g vs) (length-set (map f vs) n y ∙ length-map vs f ∙ sym (length-map vs g)) (λ j hj.
      let within : j < length vs = omega (arith, length-set (map f vs) n y, length-map vs f) in
      let n_in : n < length (map f vs) = omega (arith, length-map vs f) in
      let same = same_point vs distinct n j h within in
      let right = read_map g vs j within in
      elim (cases_Bool (n == j)) [
        | inl e ↦
            let is : n ≡ j = eqb-true n j e in
            let left : balance_at (set (map f vs) n y) j ≡ y = ap (balance_at (set (map f vs) n y)) (sym is) ∙ get_or-set_same (map f vs) n y (pos 0) n_in in
            left ∙ ap (λ z. z +ℤ k) (ap (balance_at (map f vs)) is ∙ read_map f vs j within) ∙ sym (bumped_here f (point_at vs n) k (point_at vs j) (same ∙ e)) ∙ sym right
        | inr e ↦
            let left : balance_at (set (map f vs) n y) j ≡ balance_at (map f vs) j = get_or-set_other (map f vs) n j y (pos 0) (λ is. eqb-false n j e (sym is)) in
            left ∙ read_map f vs j within ∙ sym (bumped_there f (point_at vs n) k (point_at vs j) (same ∙ e)) ∙ sym right
      ])

  -- two changes
  pub shifted : (f g : Point → ℤ) (n l : ℕ) (a b : ℤ) (xs ys zs : List ℤ) → n < length vs → l < length vs
      → ((v : Point) → bumped (bumped f (point_at vs n) a) (point_at vs l) b v ≡ g v)
      → xs ≡ map f vs → ys ≡ set xs n (balance_at xs n +ℤ a) → zs ≡ set ys l (balance_at ys l +ℤ b) → zs ≡ map g vs
  shifted f g n l a b xs ys zs hn hl total x y z =
      let f1 = bumped f (point_at vs n) a in
      let ys_is : ys ≡ map f1 vs = y ∙ ap (λ ws. set ws n (balance_at ws n +ℤ a)) x ∙ set_bumped f n a hn in
      z ∙ ap (λ ws. set ws l (balance_at ws l +ℤ b)) ys_is ∙ set_bumped f1 l b hl ∙ map_same (bumped f1 (point_at vs l) b) g total vs

-- the three corners of a whole triangle differ, both ways
record Differs (t : Tri) : Type 0 where
  ab : point_eq t.a t.b ≡ false
  bc : point_eq t.b t.c ≡ false
  ca : point_eq t.c t.a ≡ false
  ba : point_eq t.b t.a ≡ false
  cb : point_eq t.c t.b ≡ false
  ac : point_eq t.a t.c ≡ false

differs : (t : Tri) → is_whole t ≡ true → Differs t
differs t w =
    let one = and_parts (not (point_eq t.a t.b)) (not (point_eq t.b t.c) && not (point_eq t.c t.a)) w in
    let two = and_parts (not (point_eq t.b t.c)) (not (point_eq t.c t.a)) one.1 in
    let ab : point_eq t.a t.b ≡ false = not_true (point_eq t.a t.b) one.0 in
    let bc : point_eq t.b t.c ≡ false = not_true (point_eq t.b t.c) two.0 in
    let ca : point_eq t.c t.a ≡ false = not_true (point_eq t.c t.a) two.1 in
    record {
      ab = ab;
      bc = bc;
      ca = ca;
      ba = point_eq_sym t.b t.a ∙ ab;
      cb = point_eq_sym t.c t.b ∙ bc;
      ac = point_eq_sym t.a t.c ∙ ca;
    }
  where
    not_true : (b : Bool) → not b ≡ true → b ≡ false
    not_true true e = sym e
    not_true false e = refl

-- one triangle: the edge that begins at its corner, and the one that ends there
from_a : (a b c v : Point) → point_eq b a ≡ false → point_eq c a ≡ false → edge_count (triangle a b c ∷ []) a v ≡ cond (point_eq b v) 1 0
from_a a b c v ba ca = rw (point_eq_refl a, ba, ca) (omega arith)

from_b : (a b c v : Point) → point_eq a b ≡ false → point_eq c b ≡ false → edge_count (triangle a b c ∷ []) b v ≡ cond (point_eq c v) 1 0
from_b a b c v ab cb = rw (point_eq_refl b, ab, cb) (omega arith)

from_c : (a b c v : Point) → point_eq a c ≡ false → point_eq b c ≡ false → edge_count (triangle a b c ∷ []) c v ≡ cond (point_eq a v) 1 0
from_c a b c v ac bc = rw (point_eq_refl c, ac, bc) (omega arith)

and_true : (x : Bool) → (x && true) ≡ x
and_true true = refl
and_true false = refl

into_a : (a b c v : Point) → point_eq b a ≡ false → point_eq c a ≡ false → edge_count (triangle a b c ∷ []) v a ≡ cond (point_eq c v) 1 0
into_a a b c v ba ca =
    rw (and_right (point_eq a v) (point_eq b a) ba, and_right (point_eq b v) (point_eq c a) ca, point_eq_refl a, and_true (point_eq c v)) (omega arith)

into_b : (a b c v : Point) → point_eq a b ≡ false → point_eq c b ≡ false → edge_count (triangle a b c ∷ []) v b ≡ cond (point_eq a v) 1 0
into_b a b c v ab cb =
    rw (and_right (point_eq b v) (point_eq c b) cb, and_right (point_eq c v) (point_eq a b) ab, point_eq_refl b, and_true (point_eq a v)) (omega arith)

into_c : (a b c v : Point) → point_eq a c ≡ false → point_eq b c ≡ false → edge_count (triangle a b c ∷ []) v c ≡ cond (point_eq b v) 1 0
into_c a b c v ac bc =
    rw (and_right (point_eq a v) (point_eq b c) bc, and_right (point_eq c v) (point_eq a c) ac, point_eq_refl c, and_true (point_eq b v)) (omega arith)

-- what a triangle at p adds: an edge from p to the next corner, and one from the last corner to p
record Adds (p : Point) (t : Tri) : Type 0 where
  ahead : (v : Point) → edge_count (t ∷ []) p v ≡ cond (point_eq (opposite_edge p t).0 v) 1 0
  back : (v : Point) → edge_count (t ∷ []) v p ≡ cond (point_eq (opposite_edge p t).1 v) 1 0

adds : (p : Point) (t : Tri) → is_whole t ≡ true → has_corner p t ≡ true → Adds p t
adds p t w at =
    let d = differs t w in
    elim (cases_Bool (point_eq t.a p)) [
      | inl e ↦
          let is : t.a ≡ p = point_eq-true t.a p e in
          subst (λ q. Adds q t) is (record {
            ahead = λ v. from_a t.a t.b t.c v d.ba d.ca ∙ rw (point_eq_refl t.a) refl;
            back = λ v. into_a t.a t.b t.c v d.ba d.ca ∙ rw (point_eq_refl t.a) refl;
          })
      | inr na ↦ elim (cases_Bool (point_eq t.b p)) [
        | inl e ↦
            let is : t.b ≡ p = point_eq-true t.b p e in
            subst (λ q. Adds q t) is (record {
              ahead = λ v. from_b t.a t.b t.c v d.ab d.cb ∙ rw (d.ab, point_eq_refl t.b) refl;
              back = λ v. into_b t.a t.b t.c v d.ab d.cb ∙ rw (d.ab, point_eq_refl t.b) refl;
            })
        | inr nb ↦
            let e : point_eq t.c p ≡ true = rw (na, nb) at at in
            let is : t.c ≡ p = point_eq-true t.c p e in
            subst (λ q. Adds q t) is (record {
              ahead = λ v. from_c t.a t.b t.c v d.ac d.bc ∙ rw (d.ac, d.bc) refl;
              back = λ v. into_c t.a t.b t.c v d.ac d.bc ∙ rw (d.ac, d.bc) refl;
            })
      ]
    ]

-- the sums with the triangle, by those without it, and the other way
module _ (p : Point) (t : Tri) (w : is_whole t ≡ true) (at : has_corner p t ≡ true) (L N : Mesh)
    (more : (a b : Point) → edge_count N a b ≡ edge_count L a b + edge_count (t ∷ []) a b) where
  with_it : (v : Point) → bumped (bumped (edge_sum L p) (opposite_edge p t).0 (pos 1)) (opposite_edge p t).1 (negsuc 0) v ≡ edge_sum N p v
  unfolding bumped
  with_it v =
      let k = adds p t w at in
      let one = more p v ∙ ap (λ (n : ℕ). edge_count L p v + n) (k.ahead v) in
      let two = more v p ∙ ap (λ (n : ℕ). edge_count L v p + n) (k.back v) in
      plus_is (point_eq (opposite_edge p t).0 v) (point_eq (opposite_edge p t).1 v) (edge_count L p v) (edge_count L v p) (edge_count N p v) (edge_count N v p) one two
    where
      plus_is : (x y : Bool) (m n m' n' : ℕ) → m' ≡ m + cond x 1 0 → n' ≡ n + cond y 1 0
          → cond y (cond x (pos m -ℤ pos n +ℤ pos 1) (pos m -ℤ pos n) +ℤ negsuc 0) (cond x (pos m -ℤ pos n +ℤ pos 1) (pos m -ℤ pos n)) ≡ pos m' -ℤ pos n'
      plus_is true true m n m' n' e f = omega (arith, ints)
      plus_is true false m n m' n' e f = omega (arith, ints)
      plus_is false true m n m' n' e f = omega (arith, ints)
      plus_is false false m n m' n' e f = omega (arith, ints)

  without_it : (v : Point) → bumped (bumped (edge_sum N p) (opposite_edge p t).0 (negsuc 0)) (opposite_edge p t).1 (pos 1) v ≡ edge_sum L p v
  unfolding bumped
  without_it v =
      let k = adds p t w at in
      let one = more p v ∙ ap (λ (n : ℕ). edge_count L p v + n) (k.ahead v) in
      let two = more v p ∙ ap (λ (n : ℕ). edge_count L v p + n) (k.back v) in
      minus_is (point_eq (opposite_edge p t).0 v) (point_eq (opposite_edge p t).1 v) (edge_count L p v) (edge_count L v p) (edge_count N p v) (edge_count N v p) one two
    where
      minus_is : (x y : Bool) (m n m' n' : ℕ) → m' ≡ m + cond x 1 0 → n' ≡ n + cond y 1 0
          → cond y (cond x (pos m' -ℤ pos n' +ℤ negsuc 0) (pos m' -ℤ pos n') +ℤ pos 1) (cond x (pos m' -ℤ pos n' +ℤ negsuc 0) (pos m' -ℤ pos n')) ≡ pos m -ℤ pos n
      minus_is true true m n m' n' e f = omega (arith, ints)
      minus_is true false m n m' n' e f = omega (arith, ints)
      minus_is false true m n m' n' e f = omega (arith, ints)
      minus_is false false m n m' n' e f = omega (arith, ints)

first : {X : Type 0} (y x : X) (ys : List X) → slice_get (y ∷ ys) 0 ≡ Some x → y ≡ x
first y x ys e = cc

-- a triangle of a star
pub star_corner : (p : Point) (M : Mesh) (i : ℕ) (t : Tri) → slice_get (filter (has_corner p) M) i ≡ Some t → has_corner p t ≡ true
star_corner p M i t e = passed (has_corner p) M i t e
  where
    passed : {X : Type 0} (q : X → Bool) (xs : List X) (i : ℕ) (x : X) → slice_get (filter q xs) i ≡ Some x → q x ≡ true
    passed q [] i x e = absurd (cc)
    passed q (y ∷ ys) zero x e =
        elim (cases_Bool (q y)) [
          | inl h ↦ let is : y ≡ x = first y x (filter q ys) (rw h at e) in ap q (sym is) ∙ h
          | inr h ↦ passed q ys zero x (rw h at e)
        ]
    passed q (y ∷ ys) (suc i) x e =
        elim (cases_Bool (q y)) [ inl h ↦ passed q ys i x (rw h at e) | inr h ↦ passed q ys (suc i) x (rw h at e) ]

-- how many edges a list has at most
pub counts_few : (M : Mesh) (a b : Point) → edge_count M a b ≤ 3 * length M
counts_few M a b = omega (arith, count_by-le-length (λ e. edge_eq e (a, b)) (edges_of M), edges_many M)
  where
    edges_many : (M : Mesh) → length (edges_of M) ≡ 3 * length M
    edges_many [] = refl
    edges_many (t ∷ M) = omega (arith, edges_many M)

-- the sums of a short list are small
pub sum_small : (M : Mesh) (a b : Point) (k : ℕ) → length M ≤ k → unsigned_abs (edge_sum M a b) ≤ 3 * k
sum_small M a b k h =
    differ (edge_count M a b) (edge_count M b a) (3 * k) (omega (arith, counts_few M a b)) (omega (arith, counts_few M b a))
  where
    differ : (m n k : ℕ) → m ≤ k → n ≤ k → unsigned_abs (pos m -ℤ pos n) ≤ k
    differ m n k h g = omega (arith, ints)

pub many_sums : (vs : List Point) (xs : List ℤ) (M : Mesh) (p : Point) → xs ≡ sums_at M p vs → length xs ≡ length vs
many_sums vs xs M p x = ap length x ∙ length-map vs (edge_sum M p)

pub read_sum : (vs : List Point) (xs : List ℤ) (M : Mesh) (p q : Point) (n : ℕ) → xs ≡ sums_at M p vs → n < length vs → point_at vs n ≡ q → balance_at xs n ≡ edge_sum M p q
read_sum vs xs M p q n x h is = ap (λ ws. balance_at ws n) x ∙ read_map (edge_sum M p) vs n h ∙ ap (edge_sum M p) is

pub small_first : (vs : List Point) (xs : List ℤ) (M : Mesh) (p : Point) (n : ℕ) → xs ≡ sums_at M p vs → n < length vs → length M ≤ 4194304
    → unsigned_abs (balance_at xs n) ≤ 12582912
small_first vs xs M p n x h few =
    let k = sum_small M p (point_at vs n) 4194304 few in
    let is = read_sum vs xs M p (point_at vs n) n x h refl in
    subst (λ z. unsigned_abs z ≤ 12582912) (sym is) k

pub small_after : (xs ys : List ℤ) (n l : ℕ) (k : ℤ) → n < length xs → ys ≡ set xs n (balance_at xs n +ℤ k) → unsigned_abs k ≤ 1
    → unsigned_abs (balance_at xs n) ≤ 12582912 → unsigned_abs (balance_at xs l) ≤ 12582912 → unsigned_abs (balance_at ys l) ≤ 16777216
small_after xs ys n l k h y one here there =
    elim (cases_Bool (n == l)) [
      | inl e ↦
          let is : balance_at ys l ≡ balance_at xs n +ℤ k = ap (balance_at ys) (sym (eqb-true n l e)) ∙ ap (λ ws. balance_at ws n) y ∙ get_or-set_same xs n (balance_at xs n +ℤ k) (pos 0) h in
          subst (λ z. unsigned_abs z ≤ 16777216) (sym is) (plus (balance_at xs n) k here one)
      | inr e ↦
          let is : balance_at ys l ≡ balance_at xs l = ap (λ ws. balance_at ws l) y ∙ get_or-set_other xs n l (balance_at xs n +ℤ k) (pos 0) (λ same. eqb-false n l e (sym same)) in
          subst (λ z. unsigned_abs z ≤ 16777216) (sym is) (omega (arith, there))
    ]
  where
    plus : (z k : ℤ) → unsigned_abs z ≤ 12582912 → unsigned_abs k ≤ 1 → unsigned_abs (z +ℤ k) ≤ 16777216
    plus z k h g = omega (arith, ints)

-- the two shifts of a triangle
module _ (vs : List Point) (distinct : IsDistinct vs) (p : Point) (t : Tri) (w : is_whole t ≡ true) (at : has_corner p t ≡ true)
    (n l : ℕ) (hn : n < length vs) (hl : l < length vs) (next : point_at vs n ≡ (opposite_edge p t).0) (last : point_at vs l ≡ (opposite_edge p t).1)
    (L N : Mesh) (more : (a b : Point) → edge_count N a b ≡ edge_count L a b + edge_count (t ∷ []) a b) (xs ys zs : List ℤ) where
  pub added : xs ≡ sums_at L p vs → ys ≡ set xs n (balance_at xs n +ℤ pos 1) → zs ≡ set ys l (balance_at ys l +ℤ negsuc 0) → zs ≡ sums_at N p vs
  added x y z =
      shifted vs distinct (edge_sum L p) (edge_sum N p) n l (pos 1) (negsuc 0) xs ys zs hn hl (λ v.
      ap₂ (λ q r. bumped (bumped (edge_sum L p) q (pos 1)) r (negsuc 0) v) next last ∙ with_it p t w at L N more v) x y z

  pub taken : xs ≡ sums_at N p vs → ys ≡ set xs n (balance_at xs n +ℤ negsuc 0) → zs ≡ set ys l (balance_at ys l +ℤ pos 1) → zs ≡ sums_at L p vs
  taken x y z =
      shifted vs distinct (edge_sum N p) (edge_sum L p) n l (negsuc 0) (pos 1) xs ys zs hn hl (λ v.
      ap₂ (λ q r. bumped (bumped (edge_sum N p) q (negsuc 0)) r (pos 1) v) next last ∙ without_it p t w at L N more v) x y z

edge_count_cons : (t : Tri) (L : Mesh) (a b : Point) → edge_count (t ∷ L) a b ≡ edge_count L a b + edge_count (t ∷ []) a b
edge_count_cons t L a b =
    let f : Tri → ℕ = λ s. edge_count (s ∷ []) a b in
    let parts : edge_count (t ∷ L) a b ≡ edge_count (t ∷ []) a b + edge_count L a b
    = edge_count_is (t ∷ L) a b ∙ sum_by-cons f t L ∙ ap (λ (n : ℕ). f t + n) (sym (edge_count_is L a b)) in
    parts ∙ turned (edge_count (t ∷ []) a b) (edge_count L a b)
  where
    turned : (m n : ℕ) → m + n ≡ n + m
    turned m n = omega arith

-- the triangles that are left
pub edge_count_left : (M : Mesh) (i : ℕ) (t : Tri) (a b : Point) → slice_get M i ≡ Some t → edge_count (drop i M) a b ≡ edge_count (drop (i + 1) M) a b + edge_count (t ∷ []) a b
edge_count_left M i t a b e =
    ap (λ N. edge_count N a b) (drop_more M i t (got_in M i t e) ∙ ap (λ s. s ∷ drop (i + 1) M) (got_is M i t t e))
    ∙ edge_count_cons t (drop (i + 1) M) a b

-- whether the sum of the edge from a to b isn't 0
opened : Mesh → Point → Point → Bool
opened M a b = not (int_eq (edge_sum M a b) (pos 0))

opened_back : (M : Mesh) (a b : Point) → opened M a b ≡ opened M b a
unfolding opened
opened_back M a b =
    ap not (int_eq-difference (edge_count M a b) (edge_count M b a) ∙ same_back (edge_count M a b) (edge_count M b a)
    ∙ sym (int_eq-difference (edge_count M b a) (edge_count M a b)))
  where
    same_back : (m n : ℕ) → (m == n) ≡ (n == m)
    same_back m n =
        elim (cases_Bool (m == n)) [
          | inl e ↦ e ∙ sym (eq-eqb n m (sym (eqb-true m n e)))
          | inr e ↦ elim (cases_Bool (n == m)) [
            | inl f ↦ absurd (eqb-false m n e (sym (eqb-true n m f)))
            | inr f ↦ e ∙ sym f
          ]
        ]

or_first : (x z y : Bool) → z ≡ y → (x || (z || false)) ≡ (x || y)
or_first true z y e = refl
or_first false true y e = e
or_first false false y e = e

or_second : (x y z : Bool) → x ≡ z → (x || (y || false)) ≡ (y || z)
or_second true true z e = refl
or_second true false z e = e
or_second false true z e = refl
or_second false false z e = e

-- a triangle at p has an open edge there exactly where one of its two edges at p is open
opens_is : (M : Mesh) (p : Point) (t : Tri) → is_whole t ≡ true → has_corner p t ≡ true
    → opens_at M p t ≡ (opened M p (opposite_edge p t).0 || opened M p (opposite_edge p t).1)
unfolding opened
opens_is M p t w at =
    let d = differs t w in
    elim (cases_Bool (point_eq t.a p)) [
      | inl e ↦
          let is : t.a ≡ p = point_eq-true t.a p e in
          subst (λ q. opens_at M q t ≡ (opened M q (opposite_edge q t).0 || opened M q (opposite_edge q t).1)) is
          (rw (point_eq_refl t.a, d.ba, d.ca) (or_first (opened M t.a t.b) (opened M t.c t.a) (opened M t.a t.c) (opened_back M t.c t.a)))
      | inr na ↦ elim (cases_Bool (point_eq t.b p)) [
        | inl e ↦
            let is : t.b ≡ p = point_eq-true t.b p e in
            subst (λ q. opens_at M q t ≡ (opened M q (opposite_edge q t).0 || opened M q (opposite_edge q t).1)) is
            (rw (point_eq_refl t.b, d.ab, d.cb) (or_second (opened M t.a t.b) (opened M t.b t.c) (opened M t.b t.a) (opened_back M t.a t.b)))
        | inr nb ↦
            let e : point_eq t.c p ≡ true = rw (na, nb) at at in
            let is : t.c ≡ p = point_eq-true t.c p e in
            subst (λ q. opens_at M q t ≡ (opened M q (opposite_edge q t).0 || opened M q (opposite_edge q t).1)) is
            (rw (point_eq_refl t.c, d.ac, d.bc) (or_second (opened M t.b t.c) (opened M t.c t.a) (opened M t.c t.b) (opened_back M t.b t.c)))
      ]
    ]

-- what is read from the table
pub opens_read : (vs : List Point) (xs : List ℤ) (M : Mesh) (p : Point) (t : Tri) (n l : ℕ) → is_whole t ≡ true → has_corner p t ≡ true → xs ≡ sums_at M p vs
    → n < length vs → l < length vs → point_at vs n ≡ (opposite_edge p t).0 → point_at vs l ≡ (opposite_edge p t).1
    → opens_at M p t ≡ (not (int_eq (balance_at xs n) (pos 0)) || not (int_eq (balance_at xs l) (pos 0)))
unfolding opened
opens_read vs xs M p t n l w at x hn hl next last =
    opens_is M p t w at
    ∙ ap₂ (λ y z. not (int_eq y (pos 0)) || not (int_eq z (pos 0))) (sym (read_sum vs xs M p (opposite_edge p t).0 n x hn next)) (sym (read_sum vs xs M p (opposite_edge p t).1 l x hl last))

map_sums : (M N : Mesh) (p : Point) → ((v : Point) → edge_sum M p v ≡ edge_sum N p v) → (vs : List Point) → sums_at M p vs ≡ sums_at N p vs
map_sums M N p same vs = map_same (edge_sum M p) (edge_sum N p) same vs

-- the star has the sums of the list
pub sums_of_star : (M : Mesh) (p : Point) (vs : List Point) → sums_at (filter (has_corner p) M) p vs ≡ sums_at M p vs
sums_of_star M p vs = map_sums (filter (has_corner p) M) M p (λ v. sum_at p p v (or_left (point_eq p p) (point_eq v p) (point_eq_refl p)) M) vs

-- all of a star is left at first, and none at last
pub all_left : (M : Mesh) (p : Point) (vs : List Point) (i : ℕ) → i ≡ 0 → sums_at M p vs ≡ sums_at (drop i (filter (has_corner p) M)) p vs
all_left M p vs i e = sym (sums_of_star M p vs) ∙ ap (λ (n : ℕ). sums_at (drop n (filter (has_corner p) M)) p vs) (sym e)

pub none_left : (xs : Mesh) (p : Point) (vs : List Point) (i : ℕ) → slice_get xs i ≡ None → sums_at (drop i xs) p vs ≡ zeros vs
none_left xs p vs i e = ap (λ N. sums_at N p vs) (drop_all i xs (got_none xs i e))
