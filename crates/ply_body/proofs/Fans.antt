-- The fan of a polygon, corner by corner.
use Rattle.std.proofs.Common.{◌≡◌, ℕ, zero, suc, ◌+◌, List, [], ◌∷◌, ◌++◌, refl, arith}
use Rattle.std.specs.Prelude.{min, take}
use Rattle.ply_body.specs.Bodies.{fan}
use Rattle.ply_body.specs.Readings.{Polygon, front}

-- a polygon of at most two corners forms no triangle
pub no_fan : (p : Polygon) → fan (front p ++ []) ≡ []
no_fan p = by_taken p.taken where
  by_taken : (n : ℕ) → fan (take (min n 2) (p.first ∷ p.last ∷ []) ++ []) ≡ []
  by_taken zero = refl
  by_taken (suc zero) = refl
  by_taken (suc (suc n)) = let e : min (suc (suc n)) 2 ≡ 2 = omega arith in rw e refl

-- the first corner, the second, and each later one
pub first_corner : (first last i : ℕ) (more : List ℕ) → fan (take (min 0 2) (first ∷ last ∷ []) ++ i ∷ more) ≡ fan (take (min 1 2) (i ∷ i ∷ []) ++ more)
first_corner first last i more = refl

pub second_corner : (first i : ℕ) (more : List ℕ) → fan (take (min 1 2) (first ∷ first ∷ []) ++ i ∷ more) ≡ fan (take (min 2 2) (first ∷ i ∷ []) ++ more)
second_corner first i more = refl

pub later_corner : (n first last i : ℕ) (more : List ℕ)
    → fan (take (min (suc (suc n)) 2) (first ∷ last ∷ []) ++ i ∷ more) ≡ record { i = first; j = last; k = i } ∷ fan (take (min (suc (suc n) + 1) 2) (first ∷ i ∷ []) ++ more)
later_corner n first last i more =
    let e : min (suc (suc n)) 2 ≡ 2 = omega arith in
    let e' : min (suc (suc n) + 1) 2 ≡ 2 = omega arith in
    rw (e, e') refl
