-- Determinants whose rows are steps along the axes, by whole numbers that are read as differences of natural ones.
use Rattle.std.proofs.Common.{◌≡◌, ℕ, ◌+◌, ◌*◌, Bool, true, false, not, refl, ap, arith}
use Rattle.std.specs.Prelude.{ℤ, pos, neg_ℤ, ◌+ℤ◌, ◌-ℤ◌, ◌*ℤ◌}
use Rattle.tpz_base.specs.Points.{det}
use Rattle.tpz_base.proofs.AxisPaths.{Order, xyz, xzy, yxz, yzx, zxy, zyx, along}
use borrow.Author.Differences.{up, down, same_in, sum_is_lem, neg_is, product_is}

-- z is u less d
pub record Difference (z : ℤ) (u d : ℕ) : Type 0 where
  pub is : up z + d ≡ down z + u

pub itself : (z : ℤ) → Difference z (up z) (down z)
itself z = record { is = omega arith }

pub sum : {z z' : ℤ} {u d u' d' : ℕ} → Difference z u d → Difference z' u' d' → Difference (z +ℤ z') (u + u') (d + d')
sum {z} {z'} {u} {d} {u'} {d'} p q = record { is = omega (arith, p.is, q.is, sum_is_lem z z') }

pub negated : {z : ℤ} {u d : ℕ} → Difference z u d → Difference (neg_ℤ z) d u
negated {z} {u} {d} p = record { is = omega (arith, p.is, neg_is z) }

pub less : {z z' : ℤ} {u d u' d' : ℕ} → Difference z u d → Difference z' u' d' → Difference (z -ℤ z') (u + d') (d + u')
less p q = sum p (negated q)

pub product : {z z' : ℤ} {u d u' d' : ℕ} → Difference z u d → Difference z' u' d' → Difference (z *ℤ z') (u * u' + d * d') (u * d' + d * u')
product {z} {z'} {u} {d} {u'} {d'} p q =
    let a = ap (λ n. n * up z') p.is in
    let b = ap (λ n. n * down z') p.is in
    let e = ap (λ n. u * n) q.is in
    let f = ap (λ n. d * n) q.is in
    record { is = omega (arith, product_is z z', a, b, e, f) }

pub same : {z z' : ℤ} {u d u' d' : ℕ} → Difference z u d → Difference z' u' d' → u + d' ≡ u' + d → z ≡ z'
same {z} {z'} p q e = same_in z z' (omega (arith, p.is, q.is, e))

pub number : (n : ℕ) → Difference (pos n) n 0
number n = record { is = omega arith }

-- a number with a sign
abbrev pub signed : Bool → ℕ → ℤ
signed true n = pos n
signed false n = neg_ℤ (pos n)

abbrev pub toward : Bool → ℤ → ℤ
toward true z = z
toward false z = neg_ℤ z

pub volume : ℤ → ℤ → ℤ → ℤ → ℤ → ℤ → ℤ → ℤ → ℤ → ℤ
volume x0 x1 x2 y0 y1 y2 z0 z1 z2 =
    ((x0 *ℤ ((y1 *ℤ z2) -ℤ (y2 *ℤ z1))) +ℤ (x1 *ℤ ((y2 *ℤ z0) -ℤ (y0 *ℤ z2)))) +ℤ (x2 *ℤ ((y0 *ℤ z1) -ℤ (y1 *ℤ z0)))

-- the determinant of three rows, times what the order of the columns turns
abbrev pub turn : Order → ℤ → ℤ
turn xyz z = z
turn xzy z = neg_ℤ z
turn yxz z = neg_ℤ z
turn yzx z = z
turn zxy z = z
turn zyx z = neg_ℤ z

volume-xzy : (x0 x1 x2 y0 y1 y2 z0 z1 z2 : ℤ) → volume x0 x2 x1 y0 y2 y1 z0 z2 z1 ≡ turn xzy (volume x0 x1 x2 y0 y1 y2 z0 z1 z2)
unfolding volume
volume-xzy x0 x1 x2 y0 y1 y2 z0 z1 z2 =
    same (sum (sum (product (itself x0) (less (product (itself y2) (itself z1)) (product (itself y1) (itself z2)))) (product (itself x2) (less (product (itself y1) (itself z0)) (product (itself y0) (itself z1))))) (product (itself x1) (less (product (itself y0) (itself z2)) (product (itself y2) (itself z0)))))
    (negated (sum (sum (product (itself x0) (less (product (itself y1) (itself z2)) (product (itself y2) (itself z1)))) (product (itself x1) (less (product (itself y2) (itself z0)) (product (itself y0) (itself z2))))) (product (itself x2) (less (product (itself y0) (itself z1)) (product (itself y1) (itself z0))))))
    (omega arith)

volume-yxz : (x0 x1 x2 y0 y1 y2 z0 z1 z2 : ℤ) → volume x1 x0 x2 y1 y0 y2 z1 z0 z2 ≡ turn yxz (volume x0 x1 x2 y0 y1 y2 z0 z1 z2)
unfolding volume
volume-yxz x0 x1 x2 y0 y1 y2 z0 z1 z2 =
    same (sum (sum (product (itself x1) (less (product (itself y0) (itself z2)) (product (itself y2) (itself z0)))) (product (itself x0) (less (product (itself y2) (itself z1)) (product (itself y1) (itself z2))))) (product (itself x2) (less (product (itself y1) (itself z0)) (product (itself y0) (itself z1)))))
    (negated (sum (sum (product (itself x0) (less (product (itself y1) (itself z2)) (product (itself y2) (itself z1)))) (product (itself x1) (less (product (itself y2) (itself z0)) (product (itself y0) (itself z2))))) (product (itself x2) (less (product (itself y0) (itself z1)) (product (itself y1) (itself z0))))))
    (omega arith)

volume-yzx : (x0 x1 x2 y0 y1 y2 z0 z1 z2 : ℤ) → volume x2 x0 x1 y2 y0 y1 z2 z0 z1 ≡ turn yzx (volume x0 x1 x2 y0 y1 y2 z0 z1 z2)
unfolding volume
volume-yzx x0 x1 x2 y0 y1 y2 z0 z1 z2 =
    same (sum (sum (product (itself x2) (less (product (itself y0) (itself z1)) (product (itself y1) (itself z0)))) (product (itself x0) (less (product (itself y1) (itself z2)) (product (itself y2) (itself z1))))) (product (itself x1) (less (product (itself y2) (itself z0)) (product (itself y0) (itself z2)))))
    (sum (sum (product (itself x0) (less (product (itself y1) (itself z2)) (product (itself y2) (itself z1)))) (product (itself x1) (less (product (itself y2) (itself z0)) (product (itself y0) (itself z2))))) (product (itself x2) (less (product (itself y0) (itself z1)) (product (itself y1) (itself z0)))))
    (omega arith)

volume-zxy : (x0 x1 x2 y0 y1 y2 z0 z1 z2 : ℤ) → volume x1 x2 x0 y1 y2 y0 z1 z2 z0 ≡ turn zxy (volume x0 x1 x2 y0 y1 y2 z0 z1 z2)
unfolding volume
volume-zxy x0 x1 x2 y0 y1 y2 z0 z1 z2 =
    same (sum (sum (product (itself x1) (less (product (itself y2) (itself z0)) (product (itself y0) (itself z2)))) (product (itself x2) (less (product (itself y0) (itself z1)) (product (itself y1) (itself z0))))) (product (itself x0) (less (product (itself y1) (itself z2)) (product (itself y2) (itself z1)))))
    (sum (sum (product (itself x0) (less (product (itself y1) (itself z2)) (product (itself y2) (itself z1)))) (product (itself x1) (less (product (itself y2) (itself z0)) (product (itself y0) (itself z2))))) (product (itself x2) (less (product (itself y0) (itself z1)) (product (itself y1) (itself z0)))))
    (omega arith)

volume-zyx : (x0 x1 x2 y0 y1 y2 z0 z1 z2 : ℤ) → volume x2 x1 x0 y2 y1 y0 z2 z1 z0 ≡ turn zyx (volume x0 x1 x2 y0 y1 y2 z0 z1 z2)
unfolding volume
volume-zyx x0 x1 x2 y0 y1 y2 z0 z1 z2 =
    same (sum (sum (product (itself x2) (less (product (itself y1) (itself z0)) (product (itself y0) (itself z1)))) (product (itself x1) (less (product (itself y0) (itself z2)) (product (itself y2) (itself z0))))) (product (itself x0) (less (product (itself y2) (itself z1)) (product (itself y1) (itself z2)))))
    (negated (sum (sum (product (itself x0) (less (product (itself y1) (itself z2)) (product (itself y2) (itself z1)))) (product (itself x1) (less (product (itself y2) (itself z0)) (product (itself y0) (itself z2))))) (product (itself x2) (less (product (itself y0) (itself z1)) (product (itself y1) (itself z0))))))
    (omega arith)

-- the determinant of four points whose coordinates stand in an order of the axes
pub det-along : (w : Order) (p0 p1 p2 q0 q1 q2 r0 r1 r2 s0 s1 s2 : ℕ) → det (along w p0 p1 p2) (along w q0 q1 q2) (along w r0 r1 r2) (along w s0 s1 s2)
    ≡ turn w (volume (pos q0 -ℤ pos p0) (pos q1 -ℤ pos p1) (pos q2 -ℤ pos p2) (pos r0 -ℤ pos p0) (pos r1 -ℤ pos p1) (pos r2 -ℤ pos p2) (pos s0 -ℤ pos p0) (pos s1 -ℤ pos p1) (pos s2 -ℤ pos p2))
unfolding volume
det-along xyz p0 p1 p2 q0 q1 q2 r0 r1 r2 s0 s1 s2 = refl
det-along xzy p0 p1 p2 q0 q1 q2 r0 r1 r2 s0 s1 s2 = volume-xzy (pos q0 -ℤ pos p0) (pos q1 -ℤ pos p1) (pos q2 -ℤ pos p2) (pos r0 -ℤ pos p0) (pos r1 -ℤ pos p1) (pos r2 -ℤ pos p2) (pos s0 -ℤ pos p0) (pos s1 -ℤ pos p1) (pos s2 -ℤ pos p2)
det-along yxz p0 p1 p2 q0 q1 q2 r0 r1 r2 s0 s1 s2 = volume-yxz (pos q0 -ℤ pos p0) (pos q1 -ℤ pos p1) (pos q2 -ℤ pos p2) (pos r0 -ℤ pos p0) (pos r1 -ℤ pos p1) (pos r2 -ℤ pos p2) (pos s0 -ℤ pos p0) (pos s1 -ℤ pos p1) (pos s2 -ℤ pos p2)
det-along yzx p0 p1 p2 q0 q1 q2 r0 r1 r2 s0 s1 s2 = volume-yzx (pos q0 -ℤ pos p0) (pos q1 -ℤ pos p1) (pos q2 -ℤ pos p2) (pos r0 -ℤ pos p0) (pos r1 -ℤ pos p1) (pos r2 -ℤ pos p2) (pos s0 -ℤ pos p0) (pos s1 -ℤ pos p1) (pos s2 -ℤ pos p2)
det-along zxy p0 p1 p2 q0 q1 q2 r0 r1 r2 s0 s1 s2 = volume-zxy (pos q0 -ℤ pos p0) (pos q1 -ℤ pos p1) (pos q2 -ℤ pos p2) (pos r0 -ℤ pos p0) (pos r1 -ℤ pos p1) (pos r2 -ℤ pos p2) (pos s0 -ℤ pos p0) (pos s1 -ℤ pos p1) (pos s2 -ℤ pos p2)
det-along zyx p0 p1 p2 q0 q1 q2 r0 r1 r2 s0 s1 s2 = volume-zyx (pos q0 -ℤ pos p0) (pos q1 -ℤ pos p1) (pos q2 -ℤ pos p2) (pos r0 -ℤ pos p0) (pos r1 -ℤ pos p1) (pos r2 -ℤ pos p2) (pos s0 -ℤ pos p0) (pos s1 -ℤ pos p1) (pos s2 -ℤ pos p2)

-- whether the product of the signs is positive, or the other way round
abbrev pub odd_sign : Bool → Bool → Bool → Bool → Bool
odd_sign true true true true = true
odd_sign true true true false = false
odd_sign true true false true = false
odd_sign true true false false = true
odd_sign true false true true = false
odd_sign true false true false = true
odd_sign true false false true = true
odd_sign true false false false = false
odd_sign false true true true = false
odd_sign false true true false = true
odd_sign false true false true = true
odd_sign false true false false = false
odd_sign false false true true = true
odd_sign false false true false = false
odd_sign false false false true = false
odd_sign false false false false = true

-- the plane through the middle of three steps and the two corners between them: along the first and the last step
pub cube_volume : (b0 b1 b2 : Bool) (H : ℕ) (v0 v1 v2 : ℤ) → volume (signed b0 H) (signed (not b1) H) (signed (not b2) H) (signed b0 H) (signed b1 H) (signed (not b2) H) v0 v1 v2
    ≡ signed (odd_sign true b0 b1 b2) (2 * (H * H)) *ℤ (toward b0 v0 +ℤ toward b2 v2)
unfolding volume
cube_volume true true true H v0 v1 v2 = same (sum (sum (product (number H) (less (product (number H) (itself v2)) (product (negated (number H)) (itself v1)))) (product (negated (number H)) (less (product (negated (number H)) (itself v0)) (product (number H) (itself v2))))) (product (negated (number H)) (less (product (number H) (itself v1)) (product (number H) (itself v0))))) (product (number (2 * (H * H))) (sum (itself v0) (itself v2))) (omega arith)
cube_volume true true false H v0 v1 v2 = same (sum (sum (product (number H) (less (product (number H) (itself v2)) (product (number H) (itself v1)))) (product (negated (number H)) (less (product (number H) (itself v0)) (product (number H) (itself v2))))) (product (number H) (less (product (number H) (itself v1)) (product (number H) (itself v0))))) (product (negated (number (2 * (H * H)))) (sum (itself v0) (negated (itself v2)))) (omega arith)
cube_volume true false true H v0 v1 v2 = same (sum (sum (product (number H) (less (product (negated (number H)) (itself v2)) (product (negated (number H)) (itself v1)))) (product (number H) (less (product (negated (number H)) (itself v0)) (product (number H) (itself v2))))) (product (negated (number H)) (less (product (number H) (itself v1)) (product (negated (number H)) (itself v0))))) (product (negated (number (2 * (H * H)))) (sum (itself v0) (itself v2))) (omega arith)
cube_volume true false false H v0 v1 v2 = same (sum (sum (product (number H) (less (product (negated (number H)) (itself v2)) (product (number H) (itself v1)))) (product (number H) (less (product (number H) (itself v0)) (product (number H) (itself v2))))) (product (number H) (less (product (number H) (itself v1)) (product (negated (number H)) (itself v0))))) (product (number (2 * (H * H))) (sum (itself v0) (negated (itself v2)))) (omega arith)
cube_volume false true true H v0 v1 v2 = same (sum (sum (product (negated (number H)) (less (product (number H) (itself v2)) (product (negated (number H)) (itself v1)))) (product (negated (number H)) (less (product (negated (number H)) (itself v0)) (product (negated (number H)) (itself v2))))) (product (negated (number H)) (less (product (negated (number H)) (itself v1)) (product (number H) (itself v0))))) (product (negated (number (2 * (H * H)))) (sum (negated (itself v0)) (itself v2))) (omega arith)
cube_volume false true false H v0 v1 v2 = same (sum (sum (product (negated (number H)) (less (product (number H) (itself v2)) (product (number H) (itself v1)))) (product (negated (number H)) (less (product (number H) (itself v0)) (product (negated (number H)) (itself v2))))) (product (number H) (less (product (negated (number H)) (itself v1)) (product (number H) (itself v0))))) (product (number (2 * (H * H))) (sum (negated (itself v0)) (negated (itself v2)))) (omega arith)
cube_volume false false true H v0 v1 v2 = same (sum (sum (product (negated (number H)) (less (product (negated (number H)) (itself v2)) (product (negated (number H)) (itself v1)))) (product (number H) (less (product (negated (number H)) (itself v0)) (product (negated (number H)) (itself v2))))) (product (negated (number H)) (less (product (negated (number H)) (itself v1)) (product (negated (number H)) (itself v0))))) (product (number (2 * (H * H))) (sum (negated (itself v0)) (itself v2))) (omega arith)
cube_volume false false false H v0 v1 v2 = same (sum (sum (product (negated (number H)) (less (product (negated (number H)) (itself v2)) (product (number H) (itself v1)))) (product (number H) (less (product (number H) (itself v0)) (product (negated (number H)) (itself v2))))) (product (number H) (less (product (negated (number H)) (itself v1)) (product (negated (number H)) (itself v0))))) (product (negated (number (2 * (H * H)))) (sum (negated (itself v0)) (negated (itself v2)))) (omega arith)

-- through the middle of two steps, the corner between them, and the centre of a cube beside: along both steps
pub face_volume : (b0 b1 b2 : Bool) (H : ℕ) (v0 v1 v2 : ℤ) → volume (signed b0 H) (signed (not b1) H) (pos 0) (pos 0) (pos 0) (signed b2 H) v0 v1 v2
    ≡ signed (odd_sign false b0 b1 b2) (H * H) *ℤ (toward b0 v0 +ℤ toward b1 v1)
unfolding volume
face_volume true true true H v0 v1 v2 = same (sum (sum (product (number H) (less (product (number 0) (itself v2)) (product (number H) (itself v1)))) (product (negated (number H)) (less (product (number H) (itself v0)) (product (number 0) (itself v2))))) (product (number 0) (less (product (number 0) (itself v1)) (product (number 0) (itself v0))))) (product (negated (number (H * H))) (sum (itself v0) (itself v1))) (omega arith)
face_volume true true false H v0 v1 v2 = same (sum (sum (product (number H) (less (product (number 0) (itself v2)) (product (negated (number H)) (itself v1)))) (product (negated (number H)) (less (product (negated (number H)) (itself v0)) (product (number 0) (itself v2))))) (product (number 0) (less (product (number 0) (itself v1)) (product (number 0) (itself v0))))) (product (number (H * H)) (sum (itself v0) (itself v1))) (omega arith)
face_volume true false true H v0 v1 v2 = same (sum (sum (product (number H) (less (product (number 0) (itself v2)) (product (number H) (itself v1)))) (product (number H) (less (product (number H) (itself v0)) (product (number 0) (itself v2))))) (product (number 0) (less (product (number 0) (itself v1)) (product (number 0) (itself v0))))) (product (number (H * H)) (sum (itself v0) (negated (itself v1)))) (omega arith)
face_volume true false false H v0 v1 v2 = same (sum (sum (product (number H) (less (product (number 0) (itself v2)) (product (negated (number H)) (itself v1)))) (product (number H) (less (product (negated (number H)) (itself v0)) (product (number 0) (itself v2))))) (product (number 0) (less (product (number 0) (itself v1)) (product (number 0) (itself v0))))) (product (negated (number (H * H))) (sum (itself v0) (negated (itself v1)))) (omega arith)
face_volume false true true H v0 v1 v2 = same (sum (sum (product (negated (number H)) (less (product (number 0) (itself v2)) (product (number H) (itself v1)))) (product (negated (number H)) (less (product (number H) (itself v0)) (product (number 0) (itself v2))))) (product (number 0) (less (product (number 0) (itself v1)) (product (number 0) (itself v0))))) (product (number (H * H)) (sum (negated (itself v0)) (itself v1))) (omega arith)
face_volume false true false H v0 v1 v2 = same (sum (sum (product (negated (number H)) (less (product (number 0) (itself v2)) (product (negated (number H)) (itself v1)))) (product (negated (number H)) (less (product (negated (number H)) (itself v0)) (product (number 0) (itself v2))))) (product (number 0) (less (product (number 0) (itself v1)) (product (number 0) (itself v0))))) (product (negated (number (H * H))) (sum (negated (itself v0)) (itself v1))) (omega arith)
face_volume false false true H v0 v1 v2 = same (sum (sum (product (negated (number H)) (less (product (number 0) (itself v2)) (product (number H) (itself v1)))) (product (number H) (less (product (number H) (itself v0)) (product (number 0) (itself v2))))) (product (number 0) (less (product (number 0) (itself v1)) (product (number 0) (itself v0))))) (product (negated (number (H * H))) (sum (negated (itself v0)) (negated (itself v1)))) (omega arith)
face_volume false false false H v0 v1 v2 = same (sum (sum (product (negated (number H)) (less (product (number 0) (itself v2)) (product (negated (number H)) (itself v1)))) (product (number H) (less (product (negated (number H)) (itself v0)) (product (number 0) (itself v2))))) (product (number 0) (less (product (number 0) (itself v1)) (product (number 0) (itself v0))))) (product (number (H * H)) (sum (negated (itself v0)) (negated (itself v1)))) (omega arith)

-- through the middle of a step, the centre of a face at it and that of a cube beside: along the step
pub edge_volume : (b0 b1 b2 : Bool) (H : ℕ) (v0 v1 v2 : ℤ) → volume (pos 0) (signed b1 H) (pos 0) (pos 0) (signed b1 H) (signed b2 H) v0 v1 v2
    ≡ signed (odd_sign true b0 b1 b2) (H * H) *ℤ (toward b0 v0)
unfolding volume
edge_volume true true true H v0 v1 v2 = same (sum (sum (product (number 0) (less (product (number H) (itself v2)) (product (number H) (itself v1)))) (product (number H) (less (product (number H) (itself v0)) (product (number 0) (itself v2))))) (product (number 0) (less (product (number 0) (itself v1)) (product (number H) (itself v0))))) (product (number (H * H)) (itself v0)) (omega arith)
edge_volume true true false H v0 v1 v2 = same (sum (sum (product (number 0) (less (product (number H) (itself v2)) (product (negated (number H)) (itself v1)))) (product (number H) (less (product (negated (number H)) (itself v0)) (product (number 0) (itself v2))))) (product (number 0) (less (product (number 0) (itself v1)) (product (number H) (itself v0))))) (product (negated (number (H * H))) (itself v0)) (omega arith)
edge_volume true false true H v0 v1 v2 = same (sum (sum (product (number 0) (less (product (negated (number H)) (itself v2)) (product (number H) (itself v1)))) (product (negated (number H)) (less (product (number H) (itself v0)) (product (number 0) (itself v2))))) (product (number 0) (less (product (number 0) (itself v1)) (product (negated (number H)) (itself v0))))) (product (negated (number (H * H))) (itself v0)) (omega arith)
edge_volume true false false H v0 v1 v2 = same (sum (sum (product (number 0) (less (product (negated (number H)) (itself v2)) (product (negated (number H)) (itself v1)))) (product (negated (number H)) (less (product (negated (number H)) (itself v0)) (product (number 0) (itself v2))))) (product (number 0) (less (product (number 0) (itself v1)) (product (negated (number H)) (itself v0))))) (product (number (H * H)) (itself v0)) (omega arith)
edge_volume false true true H v0 v1 v2 = same (sum (sum (product (number 0) (less (product (number H) (itself v2)) (product (number H) (itself v1)))) (product (number H) (less (product (number H) (itself v0)) (product (number 0) (itself v2))))) (product (number 0) (less (product (number 0) (itself v1)) (product (number H) (itself v0))))) (product (negated (number (H * H))) (negated (itself v0))) (omega arith)
edge_volume false true false H v0 v1 v2 = same (sum (sum (product (number 0) (less (product (number H) (itself v2)) (product (negated (number H)) (itself v1)))) (product (number H) (less (product (negated (number H)) (itself v0)) (product (number 0) (itself v2))))) (product (number 0) (less (product (number 0) (itself v1)) (product (number H) (itself v0))))) (product (number (H * H)) (negated (itself v0))) (omega arith)
edge_volume false false true H v0 v1 v2 = same (sum (sum (product (number 0) (less (product (negated (number H)) (itself v2)) (product (number H) (itself v1)))) (product (negated (number H)) (less (product (number H) (itself v0)) (product (number 0) (itself v2))))) (product (number 0) (less (product (number 0) (itself v1)) (product (negated (number H)) (itself v0))))) (product (number (H * H)) (negated (itself v0))) (omega arith)
edge_volume false false false H v0 v1 v2 = same (sum (sum (product (number 0) (less (product (negated (number H)) (itself v2)) (product (negated (number H)) (itself v1)))) (product (negated (number H)) (less (product (negated (number H)) (itself v0)) (product (number 0) (itself v2))))) (product (number 0) (less (product (number 0) (itself v1)) (product (negated (number H)) (itself v0))))) (product (negated (number (H * H))) (negated (itself v0))) (omega arith)
