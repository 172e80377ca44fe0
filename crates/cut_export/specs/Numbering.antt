-- Meshes with numbered vertices.
use Rattle.std.specs.Prelude.{◌≡◌, ℕ, List, map}
use Rattle.std.specs.List.{slice_index_or}
use Rattle.tpz_base.specs.declared.shape.Point.{Point}
use Rattle.tpz_base.specs.declared.shape.Tri.{Tri}
use Rattle.tpz_base.specs.Points.{point}
use Rattle.tpz_base.specs.Meshes.{Mesh, triangle}
use Rattle.tpz_base.specs.Texts.{vertices, face_in}
use Rattle.cut_export.specs.declared.numbering.Corners.{Corners}
use Rattle.cut_export.specs.declared.numbering.Numbered.{Numbered}
use Rattle.cut_export.specs.Parts.{face_of}

abbrev pub corner_at : List Point → ℕ → Point
corner_at ks i = slice_index_or ks i (point 0 0 0)

abbrev pub triangle_of : List Point → Corners → Tri
triangle_of ks f = triangle (corner_at ks f.a) (corner_at ks f.b) (corner_at ks f.c)

-- the mesh that vertices and numbers of corners stand for
unfoldable pub numbered_mesh : Numbered → Mesh
numbered_mesh n = map (triangle_of n.vertices.keys) n.faces.items

-- its vertices are numbered in the order of first use
pub record IsNumbering (n : Numbered) : Type 0 where
  pub keys : n.vertices.keys ≡ vertices (numbered_mesh n)
  pub faces : map face_of n.faces.items ≡ map (face_in (vertices (numbered_mesh n))) (numbered_mesh n)
