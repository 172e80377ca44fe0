-- What the lines of a part are made of.
use Rattle.std.specs.Prelude.{ℕ, ◌≤◌, ◌^◌, List, [], ◌∷◌, ◌++◌, map, flat_map, ℤ, pos, unsigned_abs}
use Rattle.std.specs.List.{slice_index_or}
use Rattle.tpz_base.specs.declared.shape.Point.{Point}
use Rattle.tpz_base.specs.Cubes.{Row, shifted}
use Rattle.tpz_base.specs.Texts.{Bytes, Face, lines, head_lines, row_line, face_line, ply_text}
use Rattle.cut_export.specs.declared.numbering.Corners.{Corners}
use Rattle.cut_export.specs.declared.numbering.Numbered.{Numbered}

abbrev pub row_at : ℤ → ℤ → ℤ → Row
row_at x y z = record { x = x; y = y; z = z }

-- the row with these coordinates
abbrev pub row_of : List ℤ → Row
row_of zs = row_at (slice_index_or zs 0 (pos 0)) (slice_index_or zs 1 (pos 0)) (slice_index_or zs 2 (pos 0))

-- each of the least coordinates is at most 2^40 in absolute value
pub record IsLow (zs : List ℤ) : Type 0 where
  pub x : unsigned_abs (slice_index_or zs 0 (pos 0)) ≤ 2 ^ 40
  pub y : unsigned_abs (slice_index_or zs 1 (pos 0)) ≤ 2 ^ 40
  pub z : unsigned_abs (slice_index_or zs 2 (pos 0)) ≤ 2 ^ 40

abbrev pub face_of : Corners → Face
face_of f = record { i = f.a; j = f.b; k = f.c }

unfoldable pub head_text : ℕ → ℕ → ℕ → Bytes
head_text digits vertices faces = lines (head_lines digits vertices faces)

-- a line with its line feed
unfoldable pub row_text : Row → Bytes
row_text r = row_line r ++ 10 ∷ []

unfoldable pub face_text : Face → Bytes
face_text f = face_line f ++ 10 ∷ []

-- the lines of points with `low` added, and those of triangles
unfoldable pub rows_text : Row → List Point → Bytes
rows_text low ps = flat_map (λ p. row_text (shifted low p)) ps

unfoldable pub faces_text : List Corners → Bytes
faces_text fs = flat_map (λ f. face_text (face_of f)) fs

-- the text of a numbered mesh
abbrev pub mesh_text : ℕ → Row → Numbered → Bytes
mesh_text digits low mesh =
    ply_text digits (map (shifted low) mesh.vertices.keys) (map face_of mesh.faces.items)
