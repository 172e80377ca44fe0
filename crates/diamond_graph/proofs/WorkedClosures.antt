-- Closed sets in cubes of 2 and 4 units, in half-units.
use Rattle.std.proofs.Common.{◌≡◌, [], ◌∷◌, refl}
use Rattle.tpz_base.specs.Points.{point}
use Rattle.tpz_base.specs.Diamonds.{level_of}
use Rattle.diamond_graph.specs.Closed.{closure, IsConforming}

-- an edge of the whole cube, the two faces at it, and the whole cube, which comes first
edge_closure : closure 1 (point 2 0 0 ∷ []) ≡ point 2 2 2 ∷ point 2 0 2 ∷ point 2 2 0 ∷ point 2 0 0 ∷ []
unfolding closure level_of
edge_closure = refl

-- two edges with one face in common, and a face that is there already
edges_closure : closure 1 (point 2 0 0 ∷ point 0 2 0 ∷ point 0 2 2 ∷ []) ≡ point 2 2 2 ∷ point 0 2 2 ∷ point 2 0 2 ∷ point 2 2 0 ∷ point 0 2 0 ∷ point 2 0 0 ∷ []
unfolding closure level_of
edges_closure = refl

-- a face of a larger cube
face_closure : closure 2 (point 4 4 0 ∷ []) ≡ point 4 4 4 ∷ point 4 4 0 ∷ []
unfolding closure level_of
face_closure = refl

none_closure : closure 2 [] ≡ []
unfolding closure
none_closure = refl

edge_conforms : IsConforming 1 (point 2 2 2 ∷ point 2 0 2 ∷ point 2 2 0 ∷ point 2 0 0 ∷ [])
unfolding IsConforming
edge_conforms = refl

face_conforms : IsConforming 2 (point 4 4 4 ∷ point 4 4 0 ∷ [])
unfolding IsConforming
face_conforms = refl
