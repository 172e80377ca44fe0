-- What `finest` writes for a mesh that was read.
use Rattle.std.proofs.Common.{◌≡◌, ℕ, List, length, ◌∙◌, ap, ap₂, subst}
use Rattle.std.specs.declared.option.Option.{Option}
use Rattle.tpz_io.specs.Writes.{Wrote, WrotePrefix}
use Rattle.tpz_base.specs.declared.shape.Point.{Point}
use Rattle.tpz_base.specs.Meshes.{Mesh}
use Rattle.tpz_base.specs.Cubes.{Row}
use Rattle.tpz_base.specs.Texts.{Bytes, Face}
use Rattle.mesh_stream.specs.declared.reading.InputMesh.{InputMesh}
use Rattle.mesh_stream.specs.declared.reading.Facts.{Facts}
use Rattle.cut_export.specs.declared.numbering.Numbered.{Numbered}
use Rattle.command_finest.specs.Finest.{finest_items, finest_note, items_for, items_of}
use Rattle.mesh_stream.specs.Splits.{finest_split, split_for}
use Rattle.finest_cut.specs.Cuts.{mesh_for}
use Rattle.mesh_stream.specs.Readings.{IsMeshOf}
use Rattle.mesh_output.specs.Exports.{mesh_items}
use Rattle.cut_export.specs.Numbering.{numbered_mesh, IsNumbering}
use Rattle.cut_export.specs.Parts.{row_of}

-- what `finest` writes for a mesh
pub finest_items_are : (facts : Facts) (n : Numbered) (line : Bytes) (vs : List Point) → IsNumbering n → line ≡ finest_note facts.tris facts.dropped (length vs) → vs ≡ n.vertices.keys
    → mesh_items facts.digits (row_of facts.low) (numbered_mesh n) line ≡ items_of facts (numbered_mesh n)
unfolding mesh_items items_for
finest_items_are facts n line vs numbering says keys =
    ap (mesh_items facts.digits (row_of facts.low) (numbered_mesh n)) (says ∙ ap (λ (l : List Point). finest_note facts.tris facts.dropped (length l)) (keys ∙ numbering.keys))

items_cong : (digits digits' : ℕ) (low low' : Row) (M M' : Mesh) (tris tris' dropped dropped' : ℕ) → digits ≡ digits' → low ≡ low' → M ≡ M'
    → tris ≡ tris' → dropped ≡ dropped' → items_for digits low M tris dropped ≡ items_for digits' low' M' tris' dropped'
items_cong digits digits' low low' M M' tris tris' dropped dropped' d p q r s = cc

-- what is told of a mesh that was read
abbrev pub facts_of : InputMesh → Facts
facts_of mesh = record { digits = mesh.digits; low = mesh.low; tris = length mesh.tris.items; dropped = mesh.dropped }

mesh_cong : (cap : Option ℕ) (l l' : ℕ) (M M' : Mesh) → l ≡ l' → M ≡ M' → mesh_for cap l M ≡ mesh_for cap l' M'
mesh_cong cap l l' M M' p q = ap₂ (mesh_for cap) p q

-- what was read of rows and faces is written as their mesh
items_are : (cap : Option ℕ) (mesh : InputMesh) (facts : Facts) (M : Mesh) (digits : ℕ) (rows : List Row) (faces : List Face) → IsMeshOf mesh digits rows faces
    → facts ≡ facts_of mesh → M ≡ mesh_for cap mesh.l mesh.tris.items → items_of facts M ≡ finest_items cap digits rows faces
items_are cap mesh facts M digits rows faces read is made =
    items_cong _ _ _ _ _ _ _ _ _ _ (ap (λ (f : Facts). f.digits) is ∙ read.digits) (ap (λ (f : Facts). row_of f.low) is ∙ ap row_of read.low)
    (made ∙ mesh_cong cap _ _ _ _ read.l read.tris)
    (ap (λ (f : Facts). f.tris) is ∙ ap length read.tris) (ap (λ (f : Facts). f.dropped) is ∙ read.dropped)

-- What is written for a mesh that was read is what is written for the rows and faces that the input means.
pub as_told : (cap : Option ℕ) (mesh : InputMesh) (facts : Facts) (M : Mesh) (p0 p1 : Option (List Bytes)) (n0 n1 : Option Bytes) (digits : ℕ) (rows : List Row) (faces : List Face)
    → IsMeshOf mesh digits rows faces → facts ≡ facts_of mesh → M ≡ mesh_for cap mesh.l mesh.tris.items
    → Wrote (items_of facts M) p0 p1 n0 n1 → Wrote (finest_items cap digits rows faces) p0 p1 n0 n1
as_told cap mesh facts M p0 p1 n0 n1 digits rows faces read is made wrote =
    subst (λ items. Wrote items p0 p1 n0 n1) (items_are cap mesh facts M digits rows faces read is made) wrote

pub front_as_told : (cap : Option ℕ) (mesh : InputMesh) (facts : Facts) (M : Mesh) (p0 p1 : Option (List Bytes)) (n0 n1 : Option Bytes) (digits : ℕ) (rows : List Row) (faces : List Face)
    → IsMeshOf mesh digits rows faces → facts ≡ facts_of mesh → M ≡ mesh_for cap mesh.l mesh.tris.items
    → WrotePrefix (items_of facts M) p0 p1 n0 n1 → WrotePrefix (finest_items cap digits rows faces) p0 p1 n0 n1
front_as_told cap mesh facts M p0 p1 n0 n1 digits rows faces read is made wrote =
    subst (λ items. WrotePrefix items p0 p1 n0 n1) (items_are cap mesh facts M digits rows faces read is made) wrote

-- the diamonds that are split are those of the rows and faces that the input means
pub split_is : (cap : Option ℕ) (mesh : InputMesh) (digits : ℕ) (rows : List Row) (faces : List Face) → IsMeshOf mesh digits rows faces
    → split_for cap mesh.l mesh.tris.items ≡ finest_split cap rows faces
split_is cap mesh digits rows faces read = ap₂ (split_for cap) read.l read.tris
