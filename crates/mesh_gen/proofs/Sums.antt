-- Every signed edge sum of a generated mesh is 0: the edges within a side cancel square by square, and the rims of the sides cancel along the twelve edges of the cube.
use Rattle.std.proofs.Common.{◌≡◌, ℕ, zero, suc, ◌+◌, ◌*◌, Bool, true, false, cond, ◌&&◌, [], ◌∷◌, refl, sym, ◌∙◌, ap, ap₂, arith}
use Rattle.std.specs.Prelude.{pos, ◌-ℤ◌, flat_map, sum_by}
use Rattle.std.specs.List.{range_with_len}
use Rattle.std.proofs.lemmas.List.Sums.{sum_by-cons}
use Rattle.std.proofs.lemmas.Int.{ints}
use Rattle.tpz_base.specs.declared.shape.Point.{Point}
use Rattle.tpz_base.specs.declared.shape.Tri.{Tri}
use Rattle.tpz_base.specs.Points.{point, point_eq}
use Rattle.tpz_base.specs.Meshes.{Mesh, Edge, triangle, edge_eq, edge_count, edge_sum}
use Rattle.tpz_base.proofs.SumLemmas.{sum_by-flat_map, sum_by_same_all}
use Rattle.mesh_gen.specs.Generator.{placed, on_axes, corner_of, halves, square, side_of, generated}

-- a weight of directed edges, the same of the edges turned round, and the sum over the edges of a triangle
abbrev Weight : Type 0
Weight = Point → Point → ℕ

abbrev back : Weight → Weight
back f a b = f b a

abbrev around : Weight → Tri → ℕ
around f t = f t.a t.b + f t.b t.c + f t.c t.a

abbrev total : Weight → Mesh → ℕ
total f M = sum_by (around f) M

two : (f : Weight) (s t : Tri) → total f (s ∷ t ∷ []) ≡ around f s + around f t
two f s t = sum_by-cons (around f) s (t ∷ []) ∙ ap (λ n. around f s + n) (sum_by-cons (around f) t []) ∙ omega arith

-- the corners of a side, by p and q, and the squares with the corners in turn
abbrev Corners : Type 0
Corners = ℕ → ℕ → Point

abbrev facing : Corners → ℕ → ℕ → ℕ → Mesh
facing P side p q = halves side (P p q) (P (p + 1) q) (P (p + 1) (q + 1)) (P p (q + 1))

-- the sum along a line of a side, with q or p fixed
abbrev along_p : Weight → Corners → ℕ → ℕ → ℕ → ℕ
along_p f P q a k = sum_by (λ p. f (P p q) (P (p + 1) q)) (range_with_len a k)

abbrev along_q : Weight → Corners → ℕ → ℕ → ℕ → ℕ
along_q f P p a k = sum_by (λ q. f (P p q) (P p (q + 1))) (range_with_len a k)

-- the squares of one row
row_sum : (f : Weight) (P : Corners) (p a k : ℕ)
    → sum_by (λ q. total f (facing P 1 p q)) (range_with_len a k) + (f (P (p + 1) a) (P p a) + f (P p (a + k)) (P (p + 1) (a + k)) + along_q (back f) P (p + 1) a k + along_q f P p a k)
    ≡ sum_by (λ q. total (back f) (facing P 1 p q)) (range_with_len a k) + (f (P p a) (P (p + 1) a) + f (P (p + 1) (a + k)) (P p (a + k)) + along_q f P (p + 1) a k + along_q (back f) P p a k)
row_sum f P p a zero = let same : a + 0 ≡ a = omega arith in rw same (omega arith)
row_sum f P p a (suc k) =
    let next : (a + 1) + k ≡ a + suc k = omega arith in
    let rest = row_sum f P p (a + 1) k in
    let rest' = rw next at rest in
    let here = two f (triangle (P p a) (P (p + 1) a) (P (p + 1) (a + 1))) (triangle (P p a) (P (p + 1) (a + 1)) (P p (a + 1))) in
    let here' = two (back f) (triangle (P p a) (P (p + 1) a) (P (p + 1) (a + 1))) (triangle (P p a) (P (p + 1) (a + 1)) (P p (a + 1))) in
    rw (
      sum_by-cons (λ q. total f (facing P 1 p q)) a (range_with_len (a + 1) k),
      sum_by-cons (λ q. total (back f) (facing P 1 p q)) a (range_with_len (a + 1) k),
      sum_by-cons (λ q. f (P p q) (P p (q + 1))) a (range_with_len (a + 1) k),
      sum_by-cons (λ q. f (P p (q + 1)) (P p q)) a (range_with_len (a + 1) k),
      sum_by-cons (λ q. f (P (p + 1) q) (P (p + 1) (q + 1))) a (range_with_len (a + 1) k),
      sum_by-cons (λ q. f (P (p + 1) (q + 1)) (P (p + 1) q)) a (range_with_len (a + 1) k),
    )
    (omega (arith, rest', here, here'))

-- the rows of a side
side_sum : (f : Weight) (P : Corners) (n a k : ℕ)
    → sum_by (λ p. sum_by (λ q. total f (facing P 1 p q)) (range_with_len 0 n)) (range_with_len a k) + (along_p (back f) P 0 a k + along_p f P n a k + along_q (back f) P (a + k) 0 n + along_q f P a 0 n)
    ≡ sum_by (λ p. sum_by (λ q. total (back f) (facing P 1 p q)) (range_with_len 0 n)) (range_with_len a k) + (along_p f P 0 a k + along_p (back f) P n a k + along_q f P (a + k) 0 n + along_q (back f) P a 0 n)
side_sum f P n a zero = let same : a + 0 ≡ a = omega arith in rw same (omega arith)
side_sum f P n a (suc k) =
    let next : (a + 1) + k ≡ a + suc k = omega arith in
    let rest = side_sum f P n (a + 1) k in
    let rest' = rw next at rest in
    let zeroed : 0 + n ≡ n = omega arith in
    let row = row_sum f P a 0 n in
    let row' = rw zeroed at row in
    rw (
      sum_by-cons (λ p. sum_by (λ q. total f (facing P 1 p q)) (range_with_len 0 n)) a (range_with_len (a + 1) k),
      sum_by-cons (λ p. sum_by (λ q. total (back f) (facing P 1 p q)) (range_with_len 0 n)) a (range_with_len (a + 1) k),
      sum_by-cons (λ p. f (P p 0) (P (p + 1) 0)) a (range_with_len (a + 1) k),
      sum_by-cons (λ p. f (P (p + 1) 0) (P p 0)) a (range_with_len (a + 1) k),
      sum_by-cons (λ p. f (P p n) (P (p + 1) n)) a (range_with_len (a + 1) k),
      sum_by-cons (λ p. f (P (p + 1) n) (P p n)) a (range_with_len (a + 1) k),
    )
    (omega (arith, rest', row'))

-- the sum over a side that faces up the axis, and over the one that faces down
abbrev side_total : Weight → Corners → ℕ → ℕ → ℕ
side_total f P side n = sum_by (λ p. sum_by (λ q. total f (facing P side p q)) (range_with_len 0 n)) (range_with_len 0 n)

up_sum : (f : Weight) (P : Corners) (n : ℕ)
    → side_total f P 1 n + (along_p (back f) P 0 0 n + along_p f P n 0 n + along_q (back f) P n 0 n + along_q f P 0 0 n)
    ≡ side_total (back f) P 1 n + (along_p f P 0 0 n + along_p (back f) P n 0 n + along_q f P n 0 n + along_q (back f) P 0 0 n)
up_sum f P n =
    let zeroed : 0 + n ≡ n = omega arith in
    let side = side_sum f P n 0 n in
    rw zeroed at side

turned_square : (f : Weight) (P : Corners) (p q : ℕ) → total f (facing P 0 p q) ≡ total (back f) (facing P 1 p q)
turned_square f P p q =
    let A = P p q in
    let B = P (p + 1) q in
    let C = P (p + 1) (q + 1) in
    let D = P p (q + 1) in
    two f (triangle A C B) (triangle A D C) ∙ omega arith ∙ sym (two (back f) (triangle A B C) (triangle A C D))

down_side : (f : Weight) (P : Corners) (n : ℕ) → side_total f P 0 n ≡ side_total (back f) P 1 n
down_side f P n =
    sum_by_same_all (λ p. sum_by (λ q. total f (facing P 0 p q)) (range_with_len 0 n)) (λ p. sum_by (λ q. total (back f) (facing P 1 p q)) (range_with_len 0 n))
    (λ p. sum_by_same_all (λ q. total f (facing P 0 p q)) (λ q. total (back f) (facing P 1 p q)) (λ q. turned_square f P p q) (range_with_len 0 n)) (range_with_len 0 n)

-- the corners of a side of the mesh
abbrev side_corners : ℕ → ℕ → ℕ → Corners
side_corners n axis c u v = placed (on_axes axis c u v)

side_is : (f : Weight) (n axis side : ℕ) → total f (side_of n axis side) ≡ side_total f (corner_of n axis side) side n
side_is f n axis side =
    sum_by-flat_map (around f) (λ p. flat_map (square n axis side p) (range_with_len 0 n)) (range_with_len 0 n)
    ∙ sum_by_same_all (λ p. total f (flat_map (square n axis side p) (range_with_len 0 n))) (λ p. sum_by (λ q. total f (square n axis side p q)) (range_with_len 0 n))
    (λ p. sum_by-flat_map (around f) (square n axis side p) (range_with_len 0 n)) (range_with_len 0 n)

-- both sides of an axis
axis_is : (f : Weight) (n axis : ℕ) → total f (flat_map (side_of n axis) (range_with_len 0 2)) ≡ side_total f (corner_of n axis 0) 0 n + side_total f (corner_of n axis 1) 1 n
axis_is f n axis =
    sum_by-flat_map (around f) (side_of n axis) (range_with_len 0 2)
    ∙ sum_by-cons (λ s. total f (side_of n axis s)) 0 (1 ∷ [])
    ∙ ap₂ (λ a b. a + b) (side_is f n axis 0) (sum_by-cons (λ s. total f (side_of n axis s)) 1 [] ∙ omega (arith, side_is f n axis 1))

all_is : (f : Weight) (n : ℕ)
    → total f (generated n)
    ≡ (side_total f (corner_of n 0 0) 0 n + side_total f (corner_of n 0 1) 1 n) + ((side_total f (corner_of n 1 0) 0 n + side_total f (corner_of n 1 1) 1 n) + (side_total f (corner_of n 2 0) 0 n + side_total f (corner_of n 2 1) 1 n))
unfolding generated
all_is f n =
    let t = λ (axis : ℕ). total f (flat_map (side_of n axis) (range_with_len 0 2)) in
    sum_by-flat_map (around f) (λ axis. flat_map (side_of n axis) (range_with_len 0 2)) (range_with_len 0 3)
    ∙ sum_by-cons t 0 (1 ∷ 2 ∷ []) ∙ ap₂ (λ a b. a + b) (axis_is f n 0)
    (sum_by-cons t 1 (2 ∷ []) ∙ ap₂ (λ a b. a + b) (axis_is f n 1) (sum_by-cons t 2 [] ∙ omega (arith, axis_is f n 2)))

-- the sums along the lines of the grid that run along an axis
abbrev line_x : Weight → ℕ → ℕ → ℕ → ℕ
line_x f n y z = sum_by (λ t. f (placed (point t y z)) (placed (point (t + 1) y z))) (range_with_len 0 n)

abbrev line_y : Weight → ℕ → ℕ → ℕ → ℕ
line_y f n x z = sum_by (λ t. f (placed (point x t z)) (placed (point x (t + 1) z))) (range_with_len 0 n)

abbrev line_z : Weight → ℕ → ℕ → ℕ → ℕ
line_z f n x y = sum_by (λ t. f (placed (point x y t)) (placed (point x y (t + 1)))) (range_with_len 0 n)

-- the rims of the sides, with the coordinate c
rim_x : (f : Weight) (n c : ℕ)
    → side_total f (side_corners n 0 c) 1 n + (line_y (back f) n c 0 + line_y f n c n + line_z (back f) n c n + line_z f n c 0)
    ≡ side_total (back f) (side_corners n 0 c) 1 n + (line_y f n c 0 + line_y (back f) n c n + line_z f n c n + line_z (back f) n c 0)
rim_x f n c = up_sum f (side_corners n 0 c) n

rim_y : (f : Weight) (n c : ℕ)
    → side_total f (side_corners n 1 c) 1 n + (line_z (back f) n 0 c + line_z f n n c + line_x (back f) n c n + line_x f n c 0)
    ≡ side_total (back f) (side_corners n 1 c) 1 n + (line_z f n 0 c + line_z (back f) n n c + line_x f n c n + line_x (back f) n c 0)
rim_y f n c = up_sum f (side_corners n 1 c) n

rim_z : (f : Weight) (n c : ℕ)
    → side_total f (side_corners n 2 c) 1 n + (line_x (back f) n 0 c + line_x f n n c + line_y (back f) n n c + line_y f n 0 c)
    ≡ side_total (back f) (side_corners n 2 c) 1 n + (line_x f n 0 c + line_x (back f) n n c + line_y f n n c + line_y (back f) n 0 c)
rim_z f n c = up_sum f (side_corners n 2 c) n

-- both sides of an axis, by the coordinates 0 and n
pair_is : (f : Weight) (n axis : ℕ)
    → side_total f (corner_of n axis 0) 0 n + side_total f (corner_of n axis 1) 1 n ≡ side_total (back f) (side_corners n axis 0) 1 n + side_total f (side_corners n axis n) 1 n
pair_is f n axis =
    let none : 0 * n ≡ 0 = omega arith in
    let one : 1 * n ≡ n = omega arith in
    ap₂ (λ a b. a + b) (ap (λ c. side_total f (side_corners n axis c) 0 n) none ∙ down_side f (side_corners n axis 0) n) (ap (λ c. side_total f (side_corners n axis c) 1 n) one)

total_is : (f : Weight) (n : ℕ)
    → total f (generated n)
    ≡ (side_total (back f) (side_corners n 0 0) 1 n + side_total f (side_corners n 0 n) 1 n)
    + ((side_total (back f) (side_corners n 1 0) 1 n + side_total f (side_corners n 1 n) 1 n) + (side_total (back f) (side_corners n 2 0) 1 n + side_total f (side_corners n 2 n) 1 n))
total_is f n = all_is f n ∙ ap₂ (λ a b. a + b) (pair_is f n 0) (ap₂ (λ a b. a + b) (pair_is f n 1) (pair_is f n 2))

-- two sides of an axis: x and x' are the sums over the one at 0 and over the one at n, forward; the same letters with b are those of the edges turned round
rims_cancel : (x0 xb0 xn xbn y0 yb0 yn ybn z0 zb0 zn zbn : ℕ) (a00 a0n an0 ann b00 b0n bn0 bnn c00 c0n cn0 cnn : ℕ) (A00 A0n An0 Ann B00 B0n Bn0 Bnn C00 C0n Cn0 Cnn : ℕ)
    → x0 + (B00 + b0n + C0n + c00) ≡ xb0 + (b00 + B0n + c0n + C00) → xn + (Bn0 + bnn + Cnn + cn0) ≡ xbn + (bn0 + Bnn + cnn + Cn0)
    → y0 + (C00 + cn0 + A0n + a00) ≡ yb0 + (c00 + Cn0 + a0n + A00) → yn + (C0n + cnn + Ann + an0) ≡ ybn + (c0n + Cnn + ann + An0)
    → z0 + (A00 + an0 + Bn0 + b00) ≡ zb0 + (a00 + An0 + bn0 + B00) → zn + (A0n + ann + Bnn + b0n) ≡ zbn + (a0n + Ann + bnn + B0n)
    → (xb0 + xn) + ((yb0 + yn) + (zb0 + zn)) ≡ (x0 + xbn) + ((y0 + ybn) + (z0 + zbn))
rims_cancel x0 xb0 xn xbn y0 yb0 yn ybn z0 zb0 zn zbn a00 a0n an0 ann b00 b0n bn0 bnn c00 c0n cn0 cnn A00 A0n An0 Ann B00 B0n Bn0 Bnn C00 C0n Cn0 Cnn e1 e2 e3 e4 e5 e6 = omega arith

balanced : (f : Weight) (n : ℕ) → total f (generated n) ≡ total (back f) (generated n)
balanced f n =
    total_is f n
    ∙ rims_cancel (side_total f (side_corners n 0 0) 1 n) (side_total (back f) (side_corners n 0 0) 1 n) (side_total f (side_corners n 0 n) 1 n) (side_total (back f) (side_corners n 0 n) 1 n)
    (side_total f (side_corners n 1 0) 1 n) (side_total (back f) (side_corners n 1 0) 1 n) (side_total f (side_corners n 1 n) 1 n) (side_total (back f) (side_corners n 1 n) 1 n)
    (side_total f (side_corners n 2 0) 1 n) (side_total (back f) (side_corners n 2 0) 1 n) (side_total f (side_corners n 2 n) 1 n) (side_total (back f) (side_corners n 2 n) 1 n)
    (line_x f n 0 0) (line_x f n 0 n) (line_x f n n 0) (line_x f n n n) (line_y f n 0 0) (line_y f n 0 n) (line_y f n n 0) (line_y f n n n) (line_z f n 0 0) (line_z f n 0 n) (line_z f n n 0) (line_z f n n n)
    (line_x (back f) n 0 0) (line_x (back f) n 0 n) (line_x (back f) n n 0) (line_x (back f) n n n) (line_y (back f) n 0 0) (line_y (back f) n 0 n) (line_y (back f) n n 0) (line_y (back f) n n n)
    (line_z (back f) n 0 0) (line_z (back f) n 0 n) (line_z (back f) n n 0) (line_z (back f) n n n)
    (rim_x f n 0) (rim_x f n n) (rim_y f n 0) (rim_y f n n) (rim_z f n 0) (rim_z f n n)
    ∙ sym (total_is (back f) n)

-- signed edge sums

abbrev counted : Point → Point → Weight
counted a b u v = cond (edge_eq (u, v) (a, b)) 1 0

three : (g : Edge → ℕ) (d e f : Edge) → sum_by g (d ∷ e ∷ f ∷ []) ≡ g d + g e + g f
three g d e f = sum_by-cons g d (e ∷ f ∷ []) ∙ ap (λ n. g d + n) (sum_by-cons g e (f ∷ []) ∙ ap (λ n. g e + n) (sum_by-cons g f [])) ∙ omega arith

edge_count-total : (M : Mesh) (a b : Point) → edge_count M a b ≡ total (counted a b) M
edge_count-total M a b =
    sum_by-flat_map (λ e. cond (edge_eq e (a, b)) 1 0) (λ t. (t.a, t.b) ∷ (t.b, t.c) ∷ (t.c, t.a) ∷ []) M
    ∙ sum_by_same_all (λ t. sum_by (λ e. cond (edge_eq e (a, b)) 1 0) ((t.a, t.b) ∷ (t.b, t.c) ∷ (t.c, t.a) ∷ [])) (around (counted a b))
    (λ t. three (λ e. cond (edge_eq e (a, b)) 1 0) (t.a, t.b) (t.b, t.c) (t.c, t.a)) M

and_turned : (p q : Bool) → p && q ≡ q && p
and_turned true true = refl
and_turned true false = refl
and_turned false true = refl
and_turned false false = refl

total_same : (f g : Weight) → ((u v : Point) → f u v ≡ g u v) → (M : Mesh) → total f M ≡ total g M
total_same f g same M = sum_by_same_all (around f) (around g) (λ t. ap₂ (λ m n. m + n) (ap₂ (λ m n. m + n) (same t.a t.b) (same t.b t.c)) (same t.c t.a)) M

both_ways : (n : ℕ) (a b : Point) → edge_count (generated n) a b ≡ edge_count (generated n) b a
both_ways n a b =
    edge_count-total (generated n) a b ∙ balanced (counted a b) n
    ∙ total_same (back (counted a b)) (counted b a) (λ u v. ap (λ t. cond t 1 0) (and_turned (point_eq v a) (point_eq u b))) (generated n)
    ∙ sym (edge_count-total (generated n) b a)

no_difference : (m : ℕ) → pos m -ℤ pos m ≡ pos 0
no_difference m = omega (arith, ints)

pub generated_closed : (n : ℕ) (a b : Point) → edge_sum (generated n) a b ≡ pos 0
generated_closed n a b = ap (λ m. pos m -ℤ pos (edge_count (generated n) b a)) (both_ways n a b) ∙ no_difference (edge_count (generated n) b a)
