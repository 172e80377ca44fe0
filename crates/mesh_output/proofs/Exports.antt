-- What is written for a mesh, part and note.
use Rattle.std.proofs.Common.{◌≡◌, ℕ, List, [], ◌∷◌, ◌++◌, sym, ◌∙◌, ap}
use Rattle.std.specs.declared.option.Option.{Option}
use Rattle.std.proofs.lemmas.List.{append-nil}
use Rattle.tpz_io.specs.Told.{followed_by}
use Rattle.tpz_io.specs.Writes.{Item, Wrote, WrotePrefix, Note}
use Rattle.tpz_base.specs.Meshes.{Mesh}
use Rattle.tpz_base.specs.Cubes.{Row}
use Rattle.tpz_base.specs.Texts.{Bytes, text}
use Rattle.mesh_output.specs.Exports.{mesh_items}
use Rattle.cut_export.proofs.Pieces.{followed_by-nil}

pub nothing : (p0 p1 : Option (List Bytes)) (n0 n1 : Option Bytes) → p1 ≡ p0 → n1 ≡ n0 → Wrote [] p0 p1 n0 n1
nothing p0 p1 n0 n1 parts notes = record { parts = parts ∙ sym (followed_by-nil p0); notes = notes ∙ sym (followed_by-nil n0) }

module _ (digits : ℕ) (low : Row) (M : Mesh) (line : Bytes) (p0 p1 p2 : Option (List Bytes)) (n0 n1 n2 : Option Bytes)
    (part : p1 ≡ followed_by p0 (text M low digits ∷ [])) (same : n1 ≡ n0) where
  pub part_alone : p2 ≡ p1 → n2 ≡ n1 → WrotePrefix (mesh_items digits low M line) p0 p2 n0 n2
  unfolding mesh_items
  part_alone parts notes = (1, record { parts = parts ∙ part; notes = notes ∙ same ∙ sym (followed_by-nil n0) })

  pub part_and_note : p2 ≡ p1 → n2 ≡ followed_by n1 (line ++ 10 ∷ []) → Wrote (mesh_items digits low M line) p0 p2 n0 n2
  unfolding mesh_items
  part_and_note parts notes = record {
    parts = parts ∙ part;
    notes = notes ∙ ap (λ (u : Option Bytes). followed_by u (line ++ 10 ∷ [])) same ∙ ap (followed_by n0) (sym (append-nil _));
  }

-- all of the two items are a front of them
pub whole_front : (digits : ℕ) (low : Row) (M : Mesh) (line : Bytes) (p0 p1 : Option (List Bytes)) (n0 n1 : Option Bytes) → Wrote (mesh_items digits low M line) p0 p1 n0 n1
    → WrotePrefix (mesh_items digits low M line) p0 p1 n0 n1
unfolding mesh_items
whole_front digits low M line p0 p1 n0 n1 wrote = (2, wrote)

pub none_yet : (items : List Item) (p0 p1 : Option (List Bytes)) (n0 n1 : Option Bytes) → p1 ≡ p0 → n1 ≡ n0 → WrotePrefix items p0 p1 n0 n1
none_yet items p0 p1 n0 n1 parts notes = (0, nothing p0 p1 n0 n1 parts notes)

-- a line that was written as a note
pub one_note : (line text : Bytes) (p0 p1 : Option (List Bytes)) (n0 n1 : Option Bytes) → line ≡ text → p1 ≡ p0 → n1 ≡ followed_by n0 (line ++ 10 ∷ []) → Wrote (Note text ∷ []) p0 p1 n0 n1
one_note line text p0 p1 n0 n1 says parts notes = record {
  parts = parts ∙ sym (followed_by-nil p0);
  notes = notes ∙ ap (followed_by n0) (ap (λ (l : Bytes). l ++ 10 ∷ []) says ∙ sym (append-nil _));
}
