-- The mesh of size 1, vertex by vertex and face by face, and the number of triangles of that of size 2.
use Rattle.std.proofs.Common.{◌≡◌, ℕ, [], ◌∷◌, map, length, refl}
use Rattle.tpz_base.specs.Points.{point}
use Rattle.tpz_base.specs.Texts.{Face, vertices, face_in}
use Rattle.mesh_gen.specs.Generator.{generated}

vertices_of_1 : vertices (generated 1) ≡ point 0 11 22 ∷ point 25 67 78 ∷ point 5 80 27 ∷ point 3 14 89 ∷ point 71 18 29 ∷ point 74 85 32 ∷ point 74 85 96 ∷ point 87 1 76 ∷ []
unfolding generated vertices
vertices_of_1 = refl

face : ℕ → ℕ → ℕ → Face
face i j k = record { i = i; j = j; k = k }

faces_of_1 : map (face_in (vertices (generated 1))) (generated 1)
    ≡ face 0 1 2 ∷ face 0 3 1 ∷ face 4 5 6 ∷ face 4 6 7 ∷ face 0 7 3 ∷ face 0 4 7 ∷ face 2 1 6 ∷ face 2 6 5 ∷ face 0 5 4 ∷ face 0 2 5 ∷ face 3 7 6 ∷ face 3 6 1 ∷ []
unfolding generated vertices face
faces_of_1 = refl

count_of_2 : length (generated 2) ≡ 48
unfolding generated
count_of_2 = refl

vertices_of_2 : length (vertices (generated 2)) ≡ 26
unfolding generated vertices
vertices_of_2 = refl
