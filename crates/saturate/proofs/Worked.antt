-- The error and the box of a record with two kids, and the own error of two moves.
use Rattle.std.proofs.Common.{◌≡◌, ℕ, [], ◌∷◌, refl}
use Rattle.tpz_base.specs.declared.shape.Cell.{Cell}
use Rattle.tpz_base.specs.Points.{point}
use Rattle.tetra_name.specs.declared.shape.Half.{Half}
use Rattle.diamond_graph.specs.declared.record.Record.{Record}
use Rattle.saturate.specs.Raised.{greatest_length, raised}

cube : ℕ → ℕ → Cell
cube a b = record { lo = point a a a; hi = point b b b }

centre : Half
centre = record { x = 6; y = 6; z = 6 }

kid : ℕ → Cell → Record
kid err c = record { centre = centre; own = 0; err = err; cell = c }

two_moves : greatest_length (record { from = point 5 0 9; to = point 4 8 9 } ∷ record { from = point 5 0 9; to = point 5 0 9 } ∷ []) ≡ 8
two_moves = refl

no_move : greatest_length [] ≡ 0
no_move = refl

two_kids : raised (kid 0 (cube 3 3)) 4 (cube 3 4) (kid 7 (cube 1 2) ∷ kid 5 (cube 2 9) ∷ []) ≡ record { centre = centre; own = 4; err = 11; cell = cube 1 9 }
unfolding kid cube
two_kids = refl
