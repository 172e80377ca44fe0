-- Meshes that are written, and what is read back of their texts.
use Rattle.std.specs.Prelude.{◌≡◌, ◌≤◌, ℕ, true, List, [], ◌∷◌, length, map, All}
use Rattle.tpz_base.specs.declared.shape.Tri.{Tri}
use Rattle.tpz_base.specs.Meshes.{Mesh, corners_of, is_whole}
use Rattle.tpz_base.specs.Cubes.{Row, shifted, IsTriInCube}
use Rattle.tpz_base.specs.Texts.{face_in, vertices}
use Rattle.ply_body.specs.Bodies.{Input}
use Rattle.ply_body.specs.Spots.{IsSmallRow}

-- At most 2,147,483,648 whole triangles in a cube of at most 2^30 units, with at most so many different corners. Each coordinate of a corner with `low` added
-- is at most 2,147,483,647 in absolute value.
pub record IsWritable (l : ℕ) (M : Mesh) (low : Row) : Type 0 where
  pub level : l ≤ 30
  pub cube : All (IsTriInCube l) M
  pub whole : All (λ t. is_whole t ≡ true) M
  pub tris : length M ≤ 2147483648
  pub vertices : length (vertices M) ≤ 2147483648
  pub small : All (λ p. IsSmallRow (shifted low p)) (corners_of M)

-- the rows and faces that the text of a mesh means
abbrev pub read_back : Mesh → Row → Input
read_back M low = record { rows = map (shifted low) (vertices M); faces = map (face_in (vertices M)) M }

-- the corners of a triangle with `low` added
abbrev pub shifted_corners : Row → Tri → List Row
shifted_corners low t = shifted low t.a ∷ shifted low t.b ∷ shifted low t.c ∷ []
