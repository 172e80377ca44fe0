-- Bytes that follow those of an open part, piece by piece.
use Rattle.std.proofs.Common.{◌≡◌, ℕ, ◌+◌, ◌<◌, List, [], ◌∷◌, ◌++◌, length, take, get_or, refl, sym, ◌∙◌, ap, ap₂, append_assoc}
use Rattle.std.specs.Prelude.{flat_map, map}
use Rattle.std.specs.declared.option.Option.{Option}
use Rattle.std.specs.declared.option.Option.TheVariants.{None, Some}
use Rattle.std.proofs.lemmas.List.{append-nil, take_more, length-map}
use Rattle.std.proofs.lemmas.Grind.{flat_map-append}
use Rattle.std.proofs.lemmas.List.Folds.{flat_map-map}
use Rattle.tpz_io.specs.Told.{followed_by}
use Rattle.tpz_base.specs.declared.shape.Point.{Point}
use Rattle.tpz_base.specs.Cubes.{Row, shifted}
use Rattle.tpz_base.specs.Texts.{Bytes, Face, lines, head_lines, row_line, face_line, ply_text}
use Rattle.cut_export.specs.declared.numbering.Corners.{Corners}
use Rattle.cut_export.specs.Parts.{face_of, head_text, row_text, face_text, rows_text, faces_text}

pub followed_by-nil : {T : Type 0} (told : Option (List T)) → followed_by told [] ≡ told
followed_by-nil None = refl
followed_by-nil (Some items) = ap Some (append-nil items)

pub followed_by-append : {T : Type 0} (told : Option (List T)) (a b : List T) → followed_by (followed_by told a) b ≡ followed_by told (a ++ b)
followed_by-append None a b = refl
followed_by-append (Some items) a b = ap Some (append_assoc items a b)

flat_map_step : {T : Type 0} (f : T → Bytes) (xs : List T) (i : ℕ) (d : T) → i < length xs → flat_map f (take (i + 1) xs) ≡ flat_map f (take i xs) ++ f (get_or xs i d)
flat_map_step f xs i d h =
    ap (flat_map f) (take_more xs i d h) ∙ flat_map-append f (take i xs) (get_or xs i d ∷ []) ∙ ap (λ (b : Bytes). flat_map f (take i xs) ++ b) (append-nil (f (get_or xs i d)))

piece_step : {T : Type 0} (f : T → Bytes) (xs : List T) (i : ℕ) (d : T) (u0 u1 u2 : Option Bytes) (b1 b2 b3 : Bytes) → i < length xs
    → followed_by u1 b1 ≡ followed_by u0 (flat_map f (take i xs)) → followed_by u2 b2 ≡ followed_by u1 b1 → b3 ≡ b2 ++ f (get_or xs i d)
    → followed_by u2 b3 ≡ followed_by u0 (flat_map f (take (i + 1) xs))
piece_step f xs i d u0 u1 u2 b1 b2 b3 h so_far same pushed =
    ap (followed_by u2) pushed ∙ sym (followed_by-append u2 b2 (f (get_or xs i d))) ∙ ap (λ (u : Option Bytes). followed_by u (f (get_or xs i d))) (same ∙ so_far)
    ∙ followed_by-append u0 (flat_map f (take i xs)) (f (get_or xs i d)) ∙ ap (followed_by u0) (sym (flat_map_step f xs i d h))

pub no_rows : (u : Option Bytes) (low : Row) → u ≡ followed_by u (rows_text low [])
unfolding rows_text
no_rows u low = sym (followed_by-nil u)

pub row_more : (low : Row) (ps : List Point) (i : ℕ) (d : Point) (u0 u1 u2 : Option Bytes) (b1 b2 b3 : Bytes) → i < length ps
    → followed_by u1 b1 ≡ followed_by u0 (rows_text low (take i ps)) → followed_by u2 b2 ≡ followed_by u1 b1
    → b3 ≡ b2 ++ row_text (shifted low (get_or ps i d)) → followed_by u2 b3 ≡ followed_by u0 (rows_text low (take (i + 1) ps))
unfolding rows_text
row_more low = piece_step (λ p. row_text (shifted low p))

pub no_faces : (u : Option Bytes) → u ≡ followed_by u (faces_text [])
unfolding faces_text
no_faces u = sym (followed_by-nil u)

pub face_more : (fs : List Corners) (i : ℕ) (d : Corners) (u0 u1 u2 : Option Bytes) (b1 b2 b3 : Bytes) → i < length fs
    → followed_by u1 b1 ≡ followed_by u0 (faces_text (take i fs)) → followed_by u2 b2 ≡ followed_by u1 b1
    → b3 ≡ b2 ++ face_text (face_of (get_or fs i d)) → followed_by u2 b3 ≡ followed_by u0 (faces_text (take (i + 1) fs))
unfolding faces_text
face_more = piece_step (λ f. face_text (face_of f))

-- lines that are joined are the joined texts
joined_lines : (head : List Bytes) (rows : List Row) (faces : List Face)
    → lines ((head ++ map row_line rows) ++ map face_line faces) ≡ (lines head ++ flat_map row_text rows) ++ flat_map face_text faces
unfolding row_text face_text
joined_lines head rows faces =
    let ended : Bytes → Bytes = λ l. l ++ 10 ∷ [] in
    flat_map-append ended (head ++ map row_line rows) (map face_line faces)
    ∙ ap₂ (λ (a b : Bytes). a ++ b)
    (flat_map-append ended head (map row_line rows) ∙ ap (λ (b : Bytes). lines head ++ b) (flat_map-map ended row_line rows))
    (flat_map-map ended face_line faces)

pub ply_text_is : (digits : ℕ) (rows : List Row) (faces : List Face)
    → ply_text digits rows faces ≡ (head_text digits (length rows) (length faces) ++ flat_map row_text rows) ++ flat_map face_text faces
unfolding head_text ply_text
ply_text_is digits rows faces = joined_lines (head_lines digits (length rows) (length faces)) rows faces

-- header, vertices and triangles are the whole text
pub text_pieces : (digits : ℕ) (low : Row) (ps : List Point) (fs : List Corners)
    → (head_text digits (length ps) (length fs) ++ rows_text low ps) ++ faces_text fs ≡ ply_text digits (map (shifted low) ps) (map face_of fs)
unfolding rows_text faces_text
text_pieces digits low ps fs =
    sym (ply_text_is digits (map (shifted low) ps) (map face_of fs)
    ∙ ap₂ (λ (a b : Bytes). a ++ b)
    (ap₂ (λ (a b : Bytes). a ++ b) (ap₂ (head_text digits) (length-map ps (shifted low)) (length-map fs face_of)) (flat_map-map row_text (shifted low) ps))
    (flat_map-map face_text face_of fs))

-- what is written behind an open part that holds nothing
pub text_written : (digits : ℕ) (low : Row) (ps : List Point) (fs : List Corners) (u0 u1 u2 u3 : Option Bytes) (b0 b1 b2 b3 : Bytes)
    → b0 ≡ [] → b1 ≡ b0 ++ head_text digits (length ps) (length fs) → followed_by u1 b2 ≡ followed_by (followed_by u0 b1) (rows_text low ps)
    → followed_by u2 b3 ≡ followed_by (followed_by u1 b2) (faces_text fs) → u3 ≡ followed_by u2 b3
    → u3 ≡ followed_by u0 (ply_text digits (map (shifted low) ps) (map face_of fs))
text_written digits low ps fs u0 u1 u2 u3 b0 b1 b2 b3 none head rows faces last =
    last ∙ faces ∙ ap (λ (u : Option Bytes). followed_by u (faces_text fs)) (rows ∙ ap (λ (b : Bytes). followed_by (followed_by u0 b) (rows_text low ps)) (head ∙ ap (λ (b : Bytes). b ++ head_text digits (length ps) (length fs)) none))
    ∙ ap (λ (u : Option Bytes). followed_by u (faces_text fs)) (followed_by-append u0 (head_text digits (length ps) (length fs)) (rows_text low ps))
    ∙ followed_by-append u0 (head_text digits (length ps) (length fs) ++ rows_text low ps) (faces_text fs)
    ∙ ap (followed_by u0) (text_pieces digits low ps fs)
