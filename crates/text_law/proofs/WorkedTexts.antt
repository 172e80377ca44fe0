-- A mesh that is written, and what its text means.
use Rattle.std.proofs.Common.{◌≡◌, ℕ, ◌≤◌, [], ◌∷◌, refl, Ok, arith, true}
use Rattle.std.specs.Prelude.{map, ℤ, pos, negsuc, unsigned_abs}
use Rattle.std.specs.Fmt.{digits}
use Rattle.std.proofs.lemmas.List.Elements.{All-from_recursion}
use Rattle.tpz_base.specs.declared.shape.Point.{Point}
use Rattle.tpz_base.specs.Points.{point}
use Rattle.tpz_base.specs.Meshes.{Mesh, corners_of, is_whole, triangle}
use Rattle.tpz_base.specs.Cubes.{Row, low_of, shifted, IsInCube, IsTriInCube}
use Rattle.tpz_base.specs.Texts.{ply_text, text, vertices}
use Rattle.ply_body.specs.Inputs.{input, mesh_of}
use Rattle.ply_body.specs.Spots.{IsSmallRow}
use Rattle.cut_export.specs.Parts.{row_at}
use Rattle.text_law.specs.Written.{read_back, shifted_corners, IsWritable}

-- two triangles with a common edge, none of whose corners has the coordinate 0 on x
abbrev two : Mesh
two = triangle (point 1 0 0) (point 4 0 0) (point 4 4 0) ∷ triangle (point 1 0 0) (point 4 4 0) (point 1 4 2) ∷ []

abbrev low : Row
low = row_at (negsuc 9) (pos 5) (pos 0)

read_again : input (text two low 6) 0 ≡ Ok (record {
  rows = row_at (negsuc 8) (pos 5) (pos 0) ∷ row_at (negsuc 5) (pos 5) (pos 0) ∷ row_at (negsuc 5) (pos 9) (pos 0) ∷ row_at (negsuc 8) (pos 9) (pos 2) ∷ [];
  faces = record { i = 0; j = 1; k = 2 } ∷ record { i = 0; j = 2; k = 3 } ∷ [];
})
unfolding digits ply_text vertices
read_again = refl

-- the least coordinate on x is that of the rows
least : low_of (read_back two low).rows ≡ row_at (negsuc 8) (pos 5) (pos 0)
unfolding vertices
least = refl

triangles : mesh_of (read_back two low).rows (read_back two low).faces
    ≡ triangle (point 0 0 0) (point 3 0 0) (point 3 4 0) ∷ triangle (point 0 0 0) (point 3 4 0) (point 0 4 2) ∷ []
unfolding vertices
triangles = refl

with_low : map (shifted_corners low) two
    ≡ (row_at (negsuc 8) (pos 5) (pos 0) ∷ row_at (negsuc 5) (pos 5) (pos 0) ∷ row_at (negsuc 5) (pos 9) (pos 0) ∷ [])
    ∷ (row_at (negsuc 8) (pos 5) (pos 0) ∷ row_at (negsuc 5) (pos 9) (pos 0) ∷ row_at (negsuc 8) (pos 9) (pos 2) ∷ []) ∷ []
with_low = refl

-- it may be written
at : (x y z : ℕ) → x ≤ 4 → y ≤ 4 → z ≤ 4 → IsInCube 2 (point x y z)
at x y z p q r = record { x = p; y = q; z = r }

small : (x y z : ℤ) → unsigned_abs x ≤ 9 → unsigned_abs y ≤ 9 → unsigned_abs z ≤ 9 → IsSmallRow (row_at x y z)
small x y z p q r = record { x = omega (arith, p); y = omega (arith, q); z = omega (arith, r) }

abbrev IsSmall : Point → Type 0
IsSmall p = IsSmallRow (shifted low p)

first : IsSmall (point 1 0 0)
first = small (negsuc 8) (pos 5) (pos 0) (omega arith) (omega arith) (omega arith)

second : IsSmall (point 4 0 0)
second = small (negsuc 5) (pos 5) (pos 0) (omega arith) (omega arith) (omega arith)

third : IsSmall (point 4 4 0)
third = small (negsuc 5) (pos 9) (pos 0) (omega arith) (omega arith) (omega arith)

fourth : IsSmall (point 1 4 2)
fourth = small (negsuc 8) (pos 9) (pos 2) (omega arith) (omega arith) (omega arith)

writable : IsWritable 2 two low
unfolding vertices
writable =
    let a = at 1 0 0 (omega arith) (omega arith) (omega arith) in
    let b = at 4 0 0 (omega arith) (omega arith) (omega arith) in
    let c = at 4 4 0 (omega arith) (omega arith) (omega arith) in
    let d = at 1 4 2 (omega arith) (omega arith) (omega arith) in
    record {
      level = omega arith;
      cube = All-from_recursion (IsTriInCube 2) two (record { a = a; b = b; c = c }, (record { a = a; b = c; c = d }, tt));
      whole = All-from_recursion (λ t. is_whole t ≡ true) two (refl, (refl, tt));
      tris = omega arith;
      vertices = omega arith;
      small = All-from_recursion IsSmall (corners_of two) (first, (second, (third, (first, (third, (fourth, tt))))));
    }
