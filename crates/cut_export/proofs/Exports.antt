-- The text of a numbered mesh, and the mesh of views as far as a loop has come.
use Rattle.std.proofs.Common.{◌≡◌, ℕ, ◌+◌, ◌<◌, List, [], ◌∷◌, ◌++◌, length, take, get_or, refl, sym, ◌∙◌, ap, ap₂}
use Rattle.std.specs.Prelude.{flat_map, map}
use Rattle.std.proofs.lemmas.List.{append-nil, take_more}
use Rattle.std.proofs.lemmas.Grind.{flat_map-append}
use Rattle.tpz_base.specs.declared.shape.Point.{Point}
use Rattle.tpz_base.specs.Meshes.{Mesh}
use Rattle.tpz_base.specs.Cubes.{Row, shifted}
use Rattle.tpz_base.specs.Texts.{Face, text, ply_text}
use Rattle.patch_view.specs.declared.PatchView.{PatchView}
use Rattle.patch_view.specs.Views.{mesh_of}
use Rattle.cut_export.specs.declared.numbering.Numbered.{Numbered}
use Rattle.cut_export.specs.Numbering.{numbered_mesh, IsNumbering}
use Rattle.cut_export.specs.Parts.{mesh_text}

-- the text of a numbering is that of its mesh
pub numbered_text : (digits : ℕ) (low : Row) (n : Numbered) → IsNumbering n → mesh_text digits low n ≡ text (numbered_mesh n) low digits
numbered_text digits low n numbering =
    ap₂ (λ (ps : List Point) (fs : List Face). ply_text digits (map (shifted low) ps) fs) numbering.keys numbering.faces

pub no_views : mesh_of [] ≡ []
unfolding mesh_of
no_views = refl

pub view_more : (views : List PatchView) (i : ℕ) (d : PatchView) (before now : Mesh) → i < length views → before ≡ mesh_of (take i views)
    → now ≡ before ++ (get_or views i d).tris.now → now ≡ mesh_of (take (i + 1) views)
unfolding mesh_of
view_more views i d before now within so_far pushed =
    let one : PatchView → Mesh = λ v. v.tris.now in
    pushed ∙ ap (λ (m : Mesh). m ++ one (get_or views i d)) so_far
    ∙ sym (ap (flat_map one) (take_more views i d within) ∙ flat_map-append one (take i views) (get_or views i d ∷ [])
    ∙ ap (λ (m : Mesh). flat_map one (take i views) ++ m) (append-nil (one (get_or views i d))))
