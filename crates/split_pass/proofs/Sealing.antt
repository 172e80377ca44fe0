-- A set that is sealed has the same diamonds, and a result has one error.
use Rattle.std.proofs.Common.{◌≡◌, ◌∷◌, List, [], Err, Result, refl, ap, map}
use Rattle.tpz_base.specs.declared.shape.Point.{Point}
use Rattle.diamond_graph.specs.Graphs.{centre_of, fresh_record}

-- the centres of fresh records
pub sealed : (W : List Point) → map centre_of (map fresh_record W) ≡ W
sealed [] = refl
sealed (d ∷ W) = ap (λ ds. d ∷ ds) (sealed W)

-- a result has one error
pub err_same : {X E : Type 0} (r : Result X E) (a b : E) → r ≡ Err a → r ≡ Err b → a ≡ b
err_same r a b e f = cc
