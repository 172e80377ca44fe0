-- The triangle at a place of a generated mesh; what each triangle of one keeps.
use Rattle.std.proofs.Common.{◌≡◌, ◌≢◌, ℕ, zero, suc, ◌+◌, ◌*◌, ◌/◌, ◌%◌, ◌<◌, ◌≤◌, true, false, not, Some, List, [], ◌∷◌, ◌++◌, length, slice_get, refl, sym, ◌∙◌, ap, subst, arith}
use Rattle.std.specs.Prelude.{flat_map}
use Rattle.std.specs.List.{range_with_len}
use Rattle.std.proofs.lemmas.Bool.{and_from}
use Rattle.std.proofs.lemmas.List.{length-append}
use Rattle.std.proofs.lemmas.Nat.{div-add-mod'}
use Rattle.std.proofs.lemmas.Option.{same_Some, none-some}
use Rattle.tpz_base.specs.declared.shape.Point.{Point}
use Rattle.tpz_base.specs.declared.shape.Tri.{Tri}
use Rattle.tpz_base.specs.Points.{point_eq}
use Rattle.tpz_base.specs.Meshes.{triangle, is_whole}
use Rattle.tpz_base.proofs.PointLemmas.{ne-point_eq}
use Rattle.mesh_gen.specs.Generator.{mixed, placed, on_axes, corner_of, halves, square, side_of, generated, IsSize, IsUpTo, IsTriUpTo}

-- lists that are joined from pieces of one length

front_at : {X : Type 0} (xs ys : List X) (i : ℕ) → i < length xs → slice_get (xs ++ ys) i ≡ slice_get xs i
front_at [] ys i low = absurd (omega (arith, low))
front_at (x ∷ xs) ys zero low = refl
front_at (x ∷ xs) ys (suc i) low = front_at xs ys i (omega (arith, low))

rest_at : {X : Type 0} (xs ys : List X) (i j : ℕ) → i ≡ length xs + j → slice_get (xs ++ ys) i ≡ slice_get ys j
rest_at [] ys i j e = ap (slice_get ys) (omega (arith, e))
rest_at (x ∷ xs) ys zero j e = absurd (omega (arith, e))
rest_at (x ∷ xs) ys (suc i) j e = rest_at xs ys i j (omega (arith, e))

joined_length : {X : Type 0} (f : ℕ → List X) (m : ℕ) → ((x : ℕ) → length (f x) ≡ m) → (a k : ℕ) → length (flat_map f (range_with_len a k)) ≡ k * m
joined_length f m each a zero = omega arith
joined_length f m each a (suc k) =
    let here = each a in
    let rest = joined_length f m each (a + 1) k in
    length-append (f a) (flat_map f (range_with_len (a + 1) k)) ∙ omega (arith, here, rest)

joined_at : {X : Type 0} (f : ℕ → List X) (m : ℕ) → ((x : ℕ) → length (f x) ≡ m) → (a k x j : ℕ) → x < k → j < m → slice_get (flat_map f (range_with_len a k)) (x * m + j) ≡ slice_get (f (a + x)) j
joined_at f m each a zero x j low small = absurd (omega (arith, low))
joined_at f m each a (suc k) zero j low small =
    let here = each a in
    let start : 0 * m + j ≡ j = omega arith in
    let same : a ≡ a + 0 = omega arith in
    ap (slice_get (f a ++ flat_map f (range_with_len (a + 1) k))) start
    ∙ front_at (f a) (flat_map f (range_with_len (a + 1) k)) j (omega (arith, here, small))
    ∙ ap (λ b. slice_get (f b) j) same
joined_at f m each a (suc k) (suc x) j low small =
    let here = each a in
    let next : (a + 1) + x ≡ a + suc x = omega arith in
    rest_at (f a) (flat_map f (range_with_len (a + 1) k)) (suc x * m + j) (x * m + j) (omega (arith, here))
    ∙ joined_at f m each (a + 1) k x j (omega (arith, low)) small
    ∙ ap (λ b. slice_get (f b) j) next

-- how many triangles there are

halves_length : (side : ℕ) (a b c d : Point) → length (halves side a b c d) ≡ 2
halves_length zero a b c d = refl
halves_length (suc side) a b c d = refl

square_length : (n axis side p q : ℕ) → length (square n axis side p q) ≡ 2
square_length n axis side p q = halves_length side (corner_of n axis side p q) (corner_of n axis side (p + 1) q) (corner_of n axis side (p + 1) (q + 1)) (corner_of n axis side p (q + 1))

row_length : (n axis side p : ℕ) → length (flat_map (square n axis side p) (range_with_len 0 n)) ≡ n * 2
row_length n axis side p = joined_length (square n axis side p) 2 (square_length n axis side p) 0 n

side_length : (n axis side : ℕ) → length (side_of n axis side) ≡ n * (n * 2)
side_length n axis side = joined_length (λ p. flat_map (square n axis side p) (range_with_len 0 n)) (n * 2) (row_length n axis side) 0 n

axis_length : (n axis : ℕ) → length (flat_map (side_of n axis) (range_with_len 0 2)) ≡ 2 * (n * (n * 2))
axis_length n axis = joined_length (side_of n axis) (n * (n * 2)) (side_length n axis) 0 2

pub generated_length : (n : ℕ) → 12 * (n * n) ≡ length (generated n)
unfolding generated
generated_length n =
    let e = joined_length (λ axis. flat_map (side_of n axis) (range_with_len 0 2)) (2 * (n * (n * 2))) (axis_length n) 0 3 in
    omega (arith, e)

-- which triangle stands at a place

quotient_low : (i k m : ℕ) → i < k * m → i / m < k
quotient_low i k m low = grind arith

remainder_low : (i m : ℕ) → 0 < m → i % m < m
remainder_low i m pos = omega (arith, pos)

abbrev pub located : ℕ → ℕ → ℕ → ℕ → ℕ → ℕ → ℕ
located n axis side p q half = axis * (2 * (n * (n * 2))) + (side * (n * (n * 2)) + (p * (n * 2) + (q * 2 + half)))

at_square : (n axis side p q half : ℕ) → axis < 3 → side < 2 → p < n → q < n → half < 2
    → p * (n * 2) + (q * 2 + half) < n * (n * 2) → side * (n * (n * 2)) + (p * (n * 2) + (q * 2 + half)) < 2 * (n * (n * 2))
    → slice_get (generated n) (located n axis side p q half) ≡ slice_get (square n axis side p q) half
unfolding generated
at_square n axis side p q half la ls lp lq lh ins ina =
    joined_at (λ a. flat_map (side_of n a) (range_with_len 0 2)) (2 * (n * (n * 2))) (axis_length n) 0 3 axis (side * (n * (n * 2)) + (p * (n * 2) + (q * 2 + half))) la ina
    ∙ ap (λ a. slice_get (flat_map (side_of n a) (range_with_len 0 2)) (side * (n * (n * 2)) + (p * (n * 2) + (q * 2 + half)))) (start axis)
    ∙ joined_at (side_of n axis) (n * (n * 2)) (side_length n axis) 0 2 side (p * (n * 2) + (q * 2 + half)) ls ins
    ∙ ap (λ s. slice_get (side_of n axis s) (p * (n * 2) + (q * 2 + half))) (start side)
    ∙ joined_at (λ r. flat_map (square n axis side r) (range_with_len 0 n)) (n * 2) (row_length n axis side) 0 n p (q * 2 + half) lp (omega (arith, lq, lh))
    ∙ ap (λ r. slice_get (flat_map (square n axis side r) (range_with_len 0 n)) (q * 2 + half)) (start p)
    ∙ joined_at (square n axis side p) 2 (square_length n axis side p) 0 n q half lq lh
    ∙ ap (λ s. slice_get (square n axis side p s) half) (start q)
  where
    start : (x : ℕ) → 0 + x ≡ x
    start x = omega arith

-- the square and the half that stand at a place
pub record IsAt (n i axis side p q half : ℕ) : Type 0 where
  pub same : slice_get (generated n) i ≡ slice_get (square n axis side p q) half
  pub few_sides : side < 2
  pub within_p : p < n
  pub within_q : q < n

pub tri_at : (n i : ℕ) → IsSize n → i < length (generated n)
    → IsAt n i (i / (2 * (n * (n * 2)))) (i % (2 * (n * (n * 2))) / (n * (n * 2))) (i % (2 * (n * (n * 2))) % (n * (n * 2)) / (n * 2)) (i % (2 * (n * (n * 2))) % (n * (n * 2)) % (n * 2) / 2)
    (i % (2 * (n * (n * 2))) % (n * (n * 2)) % (n * 2) % 2)
tri_at n i size low = go (n * 2) (n * (n * 2)) (2 * (n * (n * 2))) refl refl refl where
  go : (row side axis : ℕ) → row ≡ n * 2 → side ≡ n * (n * 2) → axis ≡ 2 * (n * (n * 2))
      → IsAt n i (i / axis) (i % axis / side) (i % axis % side / row) (i % axis % side % row / 2) (i % axis % side % row % 2)
  go row side axis rows sides axes =
      let some = size.least in
      let row_pos : 0 < row = omega (arith, rows, some) in
      let side_pos : 0 < side = subst (λ m. 0 < m) (sym sides) (product_pos n some) in
      let axis_pos : 0 < axis = omega (arith, axes, sides, side_pos) in
      let ri = remainder_low i axis axis_pos in
      let rs = remainder_low (i % axis) side side_pos in
      let rr = remainder_low (i % axis % side) row row_pos in
      let count = generated_length n in
      let a_low : i / axis < 3 = quotient_low i 3 axis (omega (arith, axes, count, low)) in
      let s_low : i % axis / side < 2 = quotient_low (i % axis) 2 side (omega (arith, ri, axes, sides)) in
      let p_low : i % axis % side / row < n = quotient_low (i % axis % side) n row (subst (λ m. i % axis % side < n * m) (sym rows) (subst (λ m. i % axis % side < m) sides rs)) in
      let q_low : i % axis % side % row / 2 < n = quotient_low (i % axis % side % row) n 2 (subst (λ m. i % axis % side % row < m) rows rr) in
      let h_low : i % axis % side % row % 2 < 2 = remainder_low (i % axis % side % row) 2 (omega arith) in
      let e1 : i / axis * axis + i % axis ≡ i = div-add-mod' i axis in
      let e2 : i % axis / side * side + i % axis % side ≡ i % axis = div-add-mod' (i % axis) side in
      let e3 : i % axis % side / row * row + i % axis % side % row ≡ i % axis % side = div-add-mod' (i % axis % side) row in
      let e4 : i % axis % side % row / 2 * 2 + i % axis % side % row % 2 ≡ i % axis % side % row = div-add-mod' (i % axis % side % row) 2 in
      let f3 : i % axis % side / row * row + (i % axis % side % row / 2 * 2 + i % axis % side % row % 2) ≡ i % axis % side = ap (λ m. i % axis % side / row * row + m) e4 ∙ e3 in
      let f2 : i % axis / side * side + (i % axis % side / row * row + (i % axis % side % row / 2 * 2 + i % axis % side % row % 2)) ≡ i % axis = ap (λ m. i % axis / side * side + m) f3 ∙ e2 in
      let f1 : i / axis * axis + (i % axis / side * side + (i % axis % side / row * row + (i % axis % side % row / 2 * 2 + i % axis % side % row % 2))) ≡ i = ap (λ m. i / axis * axis + m) f2 ∙ e1 in
      there row side axis (i / axis) (i % axis / side) (i % axis % side / row) (i % axis % side % row / 2) (i % axis % side % row % 2) rows sides axes a_low s_low p_low q_low h_low
      (subst (λ m. m < side) (sym f3) rs) (subst (λ m. m < axis) (sym f2) ri) f1
    where
      product_pos : (m : ℕ) → 1 ≤ m → 0 < m * (m * 2)
      product_pos zero h = absurd (omega (arith, h))
      product_pos (suc m) h = omega arith

      there : (row side axis a s p q h : ℕ) → row ≡ n * 2 → side ≡ n * (n * 2) → axis ≡ 2 * (n * (n * 2)) → a < 3 → s < 2 → p < n → q < n → h < 2
          → p * row + (q * 2 + h) < side → s * side + (p * row + (q * 2 + h)) < axis → a * axis + (s * side + (p * row + (q * 2 + h))) ≡ i
          → IsAt n i a s p q h
      there row side axis a s p q h rows sides axes la ls lp lq lh ins ina e = record {
        few_sides = ls;
        within_p = lp;
        within_q = lq;
        same =
            ap (slice_get (generated n)) (sym e)
            ∙ ap (λ r. slice_get (generated n) (a * axis + (s * side + (p * r + (q * 2 + h))))) rows
            ∙ ap (λ r. slice_get (generated n) (a * axis + (s * r + (p * (n * 2) + (q * 2 + h))))) sides
            ∙ ap (λ r. slice_get (generated n) (a * r + (s * (n * (n * 2)) + (p * (n * 2) + (q * 2 + h))))) axes
            ∙ at_square n a s p q h la ls lp lq lh
            (subst (λ m. p * (n * 2) + (q * 2 + h) < m) sides (subst (λ r. p * r + (q * 2 + h) < side) rows ins))
            (subst (λ m. s * (n * (n * 2)) + (p * (n * 2) + (q * 2 + h)) < m) axes (subst (λ m. s * m + (p * (n * 2) + (q * 2 + h)) < axis) sides (subst (λ r. s * side + (p * r + (q * 2 + h)) < axis) rows ina)));
      }

-- corners differ

same_number : (i j b c : ℕ) → 64 * i + b % 33 ≡ 64 * j + c % 33 → i ≡ j
same_number i j b c e = omega (arith, e)

same_x : (g h : Point) → placed g ≡ placed h → g.x ≡ h.x
same_x g h e = same_number g.x h.x (mixed g) (mixed h) (ap (λ (p : Point). p.x) e)

same_y : (g h : Point) → placed g ≡ placed h → g.y ≡ h.y
same_y g h e = same_number g.y h.y (mixed g + 11) (mixed h + 11) (ap (λ (p : Point). p.y) e)

same_z : (g h : Point) → placed g ≡ placed h → g.z ≡ h.z
same_z g h e = same_number g.z h.z (mixed g + 22) (mixed h + 22) (ap (λ (p : Point). p.z) e)

same_u : (axis c u v w x : ℕ) → placed (on_axes axis c u v) ≡ placed (on_axes axis c w x) → u ≡ w
same_u zero c u v w x e = same_y _ _ e
same_u (suc zero) c u v w x e = same_z _ _ e
same_u (suc (suc axis)) c u v w x e = same_x _ _ e

same_v : (axis c u v w x : ℕ) → placed (on_axes axis c u v) ≡ placed (on_axes axis c w x) → v ≡ x
same_v zero c u v w x e = same_z _ _ e
same_v (suc zero) c u v w x e = same_x _ _ e
same_v (suc (suc axis)) c u v w x e = same_y _ _ e

apart_u : (axis c u v w x : ℕ) → u ≢ w → point_eq (placed (on_axes axis c u v)) (placed (on_axes axis c w x)) ≡ false
apart_u axis c u v w x ne = ne-point_eq _ _ (λ e. ne (same_u axis c u v w x e))

apart_v : (axis c u v w x : ℕ) → v ≢ x → point_eq (placed (on_axes axis c u v)) (placed (on_axes axis c w x)) ≡ false
apart_v axis c u v w x ne = ne-point_eq _ _ (λ e. ne (same_v axis c u v w x e))

whole_of : (a b c : Point) → point_eq a b ≡ false → point_eq b c ≡ false → point_eq c a ≡ false → is_whole (triangle a b c) ≡ true
whole_of a b c h k l = and_from _ _ (ap not h) (and_from _ _ (ap not k) (ap not l))

-- what holds of each half
each_half : (P : Tri → Type 0) (side : ℕ) (a b c d : Point) → P (triangle a c b) → P (triangle a d c) → P (triangle a b c) → P (triangle a c d)
    → (half : ℕ) (t : Tri) → slice_get (halves side a b c d) half ≡ Some t → P t
each_half P zero a b c d h k l m zero t e = subst P (same_Some _ t e) h
each_half P zero a b c d h k l m (suc zero) t e = subst P (same_Some _ t e) k
each_half P zero a b c d h k l m (suc (suc half)) t e = absurd (none-some t e)
each_half P (suc side) a b c d h k l m zero t e = subst P (same_Some _ t e) l
each_half P (suc side) a b c d h k l m (suc zero) t e = subst P (same_Some _ t e) m
each_half P (suc side) a b c d h k l m (suc (suc half)) t e = absurd (none-some t e)

pub square_whole : (n axis side p q half : ℕ) (t : Tri) → slice_get (square n axis side p q) half ≡ Some t → is_whole t ≡ true
square_whole n axis side p q half t e =
    let c = side * n in
    let up : p ≢ p + 1 = λ h. omega (arith, h) in
    let down : p + 1 ≢ p = λ h. omega (arith, h) in
    let on : q ≢ q + 1 = λ h. omega (arith, h) in
    let back : q + 1 ≢ q = λ h. omega (arith, h) in
    let A = corner_of n axis side p q in
    let B = corner_of n axis side (p + 1) q in
    let C = corner_of n axis side (p + 1) (q + 1) in
    let D = corner_of n axis side p (q + 1) in
    each_half (λ s. is_whole s ≡ true) side A B C D
    (whole_of A C B (apart_u axis c p q (p + 1) (q + 1) up) (apart_v axis c (p + 1) (q + 1) (p + 1) q back) (apart_u axis c (p + 1) q p q down))
    (whole_of A D C (apart_v axis c p q p (q + 1) on) (apart_u axis c p (q + 1) (p + 1) (q + 1) up) (apart_u axis c (p + 1) (q + 1) p q down))
    (whole_of A B C (apart_u axis c p q (p + 1) q up) (apart_v axis c (p + 1) q (p + 1) (q + 1) on) (apart_u axis c (p + 1) (q + 1) p q down))
    (whole_of A C D (apart_u axis c p q (p + 1) (q + 1) up) (apart_u axis c (p + 1) (q + 1) p (q + 1) down) (apart_v axis c p (q + 1) p q back))
    half t e

-- how far coordinates go

up_to : (i n b : ℕ) → i ≤ n → 64 * i + b % 33 ≤ 64 * n + 32
up_to i n b h = omega (arith, h)

placed_up_to : (n : ℕ) (g : Point) → IsUpTo n g → IsUpTo (64 * n + 32) (placed g)
placed_up_to n g h = record { x = up_to g.x n (mixed g) h.x; y = up_to g.y n (mixed g + 11) h.y; z = up_to g.z n (mixed g + 22) h.z }

axes_up_to : (n axis c u v : ℕ) → c ≤ n → u ≤ n → v ≤ n → IsUpTo n (on_axes axis c u v)
axes_up_to n zero c u v hc hu hv = record { x = hc; y = hu; z = hv }
axes_up_to n (suc zero) c u v hc hu hv = record { x = hv; y = hc; z = hu }
axes_up_to n (suc (suc axis)) c u v hc hu hv = record { x = hu; y = hv; z = hc }

side_up_to : (n side : ℕ) → side < 2 → side * n ≤ n
side_up_to n zero h = omega arith
side_up_to n (suc zero) h = omega arith
side_up_to n (suc (suc side)) h = absurd (omega (arith, h))

pub square_up_to : (n axis side p q half : ℕ) (t : Tri) → side < 2 → p < n → q < n → slice_get (square n axis side p q) half ≡ Some t → IsTriUpTo (64 * n + 32) t
square_up_to n axis side p q half t hs hp hq e =
    let hc = side_up_to n side hs in
    let corner : (u v : ℕ) → u ≤ n → v ≤ n → IsUpTo (64 * n + 32) (corner_of n axis side u v)
    = λ u v hu hv. placed_up_to n (on_axes axis (side * n) u v) (axes_up_to n axis (side * n) u v hc hu hv) in
    let a = corner p q (omega (arith, hp)) (omega (arith, hq)) in
    let b = corner (p + 1) q (omega (arith, hp)) (omega (arith, hq)) in
    let c = corner (p + 1) (q + 1) (omega (arith, hp)) (omega (arith, hq)) in
    let d = corner p (q + 1) (omega (arith, hp)) (omega (arith, hq)) in
    each_half (IsTriUpTo (64 * n + 32)) side (corner_of n axis side p q) (corner_of n axis side (p + 1) q) (corner_of n axis side (p + 1) (q + 1)) (corner_of n axis side p (q + 1))
    (record { a = a; b = c; c = b }) (record { a = a; b = d; c = c }) (record { a = a; b = b; c = c }) (record { a = a; b = c; c = d }) half t e

-- each triangle of a generated mesh

pub tri_whole : (n i : ℕ) (t : Tri) → IsSize n → i < length (generated n) → slice_get (generated n) i ≡ Some t → is_whole t ≡ true
tri_whole n i t size low e = whole_at (tri_at n i size low) where
  whole_at : {axis side p q half : ℕ} → IsAt n i axis side p q half → is_whole t ≡ true
  whole_at {axis} {side} {p} {q} {half} at = square_whole n axis side p q half t (sym at.same ∙ e)

pub tri_up_to : (n i : ℕ) (t : Tri) → IsSize n → i < length (generated n) → slice_get (generated n) i ≡ Some t → IsTriUpTo (64 * n + 32) t
tri_up_to n i t size low e = near_at (tri_at n i size low) where
  near_at : {axis side p q half : ℕ} → IsAt n i axis side p q half → IsTriUpTo (64 * n + 32) t
  near_at {axis} {side} {p} {q} {half} at = square_up_to n axis side p q half t at.few_sides at.within_p at.within_q (sym at.same ∙ e)
