-- The sign of the product of two determinants with a common factor.
use Rattle.std.proofs.Common.{◌≡◌, ◌<◌, ℕ, zero, suc, ◌+◌, ◌*◌, Bool, true, false, refl, sym, ◌∙◌, ap, arith}
use Rattle.std.specs.Prelude.{ℤ, pos, negsuc, neg_ℤ, ◌*ℤ◌, int_lt}
use Rattle.std.proofs.lemmas.Bool.{lt-ltb}
use Rattle.tpz_base.proofs.AxisPaths.{Order, xyz, xzy, yxz, yzx, zxy, zyx}
use Rattle.assign.proofs.Volumes.{itself, negated, number, product, same, signed, turn}

times_positive : (n : ℕ) (z : ℤ) → int_lt (pos 0) (pos (suc n) *ℤ z) ≡ int_lt (pos 0) z
times_positive n (pos zero) = let e : suc n * 0 ≡ 0 = omega arith in rw e refl
times_positive n (pos (suc m)) = let e : suc n * suc m ≡ suc (m + n * suc m) = omega arith in rw e (lt-ltb 0 (suc (m + n * suc m)) (omega arith) ∙ sym (lt-ltb 0 (suc m) (omega arith)))
times_positive n (negsuc m) = let e : suc n * suc m ≡ suc (m + n * suc m) = omega arith in rw e refl

pub positive_times : (k : ℕ) (z : ℤ) → 0 < k → int_lt (pos 0) (pos k *ℤ z) ≡ int_lt (pos 0) z
positive_times zero z h = absurd (omega (arith, h))
positive_times (suc k) z h = times_positive k z

positive : (k m : ℕ) → 0 < k → 0 < m → 0 < k * (k * m)
positive zero m h g = absurd (omega (arith, h))
positive (suc k) zero h g = absurd (omega (arith, g))
positive (suc k) (suc m) h g = omega arith

up_same : (b : Bool) (k m : ℕ) (S : ℤ) → (signed b k *ℤ S) *ℤ (signed b k *ℤ pos m) ≡ pos (k * (k * m)) *ℤ S
up_same true k m S = same (product (product (number k) (itself S)) (product (number k) (number m))) (product (number (k * (k * m))) (itself S)) (omega arith)
up_same false k m S = same (product (product (negated (number k)) (itself S)) (product (negated (number k)) (number m))) (product (number (k * (k * m))) (itself S)) (omega arith)

down_same : (b : Bool) (k m : ℕ) (S : ℤ) → neg_ℤ (signed b k *ℤ S) *ℤ neg_ℤ (signed b k *ℤ pos m) ≡ pos (k * (k * m)) *ℤ S
down_same true k m S = same (product (negated (product (number k) (itself S))) (negated (product (number k) (number m)))) (product (number (k * (k * m))) (itself S)) (omega arith)
down_same false k m S = same (product (negated (product (negated (number k)) (itself S))) (negated (product (negated (number k)) (number m)))) (product (number (k * (k * m))) (itself S)) (omega arith)

turned_same : (w : Order) (b : Bool) (k m : ℕ) (S : ℤ) → turn w (signed b k *ℤ S) *ℤ turn w (signed b k *ℤ pos m) ≡ pos (k * (k * m)) *ℤ S
turned_same xyz b k m S = up_same b k m S
turned_same xzy b k m S = down_same b k m S
turned_same yxz b k m S = down_same b k m S
turned_same yzx b k m S = up_same b k m S
turned_same zxy b k m S = up_same b k m S
turned_same zyx b k m S = down_same b k m S

-- the common factor and the order of the axes say nothing of the sign
pub same_sign : (w : Order) (b : Bool) (k m : ℕ) (S : ℤ) → 0 < k → 0 < m
    → int_lt (pos 0) (turn w (signed b k *ℤ S) *ℤ turn w (signed b k *ℤ pos m)) ≡ int_lt (pos 0) S
same_sign w b k m S h g = ap (int_lt (pos 0)) (turned_same w b k m S) ∙ positive_times (k * (k * m)) S (positive k m h g)
