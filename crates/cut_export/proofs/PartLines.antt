-- The lines of a part, put together from pieces.
use Rattle.std.proofs.Common.{◌≡◌, ℕ, [], ◌∷◌, ◌++◌, refl, ◌∙◌, ap, append_assoc, ℤ, to_z-of_z}
use mir.Val.{SFits, to_z, of_z}
use mir.Syntax.{w64}
use Rattle.std.specs.Prelude.{codes, decimal}
use Rattle.std.specs.Fmt.{signed_decimal}
use Rattle.tpz_base.specs.Cubes.{Row}
use Rattle.tpz_base.specs.Texts.{Bytes, Face}
use Rattle.cut_export.specs.Parts.{head_text, row_text, face_text}

pub face_pieces : (old : Bytes) (f : Face)
    → ((((((old ++ codes "3 ") ++ decimal f.i) ++ codes " ") ++ decimal f.j) ++ codes " ") ++ decimal f.k) ++ codes "\n" ≡ old ++ face_text f
unfolding face_text
face_pieces old f = simp append_assoc

pub row_pieces : (old : Bytes) (r : Row)
    → (((((old ++ signed_decimal r.x) ++ codes " ") ++ signed_decimal r.y) ++ codes " ") ++ signed_decimal r.z) ++ codes "\n" ≡ old ++ row_text r
unfolding row_text
row_pieces old r = simp append_assoc

-- a signed number as it is passed
pub passed : (out old : Bytes) (z : ℤ) → SFits w64 z → out ≡ old ++ signed_decimal (to_z w64 (of_z w64 z)) → out ≡ old ++ signed_decimal z
passed out old z fits e = e ∙ ap (λ (x : ℤ). old ++ signed_decimal x) (to_z-of_z fits)

-- a row's line, put together step by step
pub row_steps : (old b1 b2 b3 b4 b5 b6 : Bytes) (r : Row) → b1 ≡ old ++ signed_decimal r.x → b2 ≡ b1 ++ codes " " → b3 ≡ b2 ++ signed_decimal r.y
    → b4 ≡ b3 ++ codes " " → b5 ≡ b4 ++ signed_decimal r.z → b6 ≡ b5 ++ codes "\n" → b6 ≡ old ++ row_text r
row_steps old b1 b2 b3 b4 b5 b6 r s1 s2 s3 s4 s5 s6 = rw (s6, s5, s4, s3, s2, s1) (row_pieces old r)

pub head_pieces : (old : Bytes) (digits vertices faces : ℕ)
    → ((((((old ++ codes "ply\nformat ascii 1.0\ncomment tpz digits ") ++ decimal digits) ++ codes "\nelement vertex ") ++ decimal vertices)
    ++ codes "\nproperty int x\nproperty int y\nproperty int z\nelement face ") ++ decimal faces)
    ++ codes "\nproperty list uchar int vertex_indices\nend_header\n" ≡ old ++ head_text digits vertices faces
unfolding head_text
head_pieces old digits vertices faces =
    let d = decimal digits in
    let v = decimal vertices in
    let f = decimal faces in
    let tail = codes "property list uchar int vertex_indices\nend_header\n" in
    simp append_assoc (
    rw (
      append_assoc d (10 ∷ []) (codes "element vertex " ++ ((v ++ 10 ∷ []) ++ (codes "property int x\nproperty int y\nproperty int z\nelement face " ++ ((f ++ 10 ∷ []) ++ tail)))),
      append_assoc v (10 ∷ []) (codes "property int x\nproperty int y\nproperty int z\nelement face " ++ ((f ++ 10 ∷ []) ++ tail)),
      append_assoc f (10 ∷ []) tail,
    ) refl)
