-- The text of a mesh is read back as its rows and faces.
use Rattle.std.proofs.Common.{◌≡◌, ◌⊎◌, inl, inr, ℕ, ◌<◌, ◌≤◌, ◌^◌, List, [], ◌∷◌, ◌++◌, length, refl, sym, ◌∙◌, ap, subst, arith, false, append_assoc, length-append}
use Rattle.std.specs.Prelude.{nat_lt, map, flat_map, fold, All, ℤ, pos, negsuc, ◌+ℤ◌, ◌-ℤ◌, ◌≤ℤ◌, None, Ok}
use Rattle.std.specs.Int.{int_min, int_max}
use Rattle.std.specs.List.{Contains}
use Rattle.std.proofs.lemmas.Bool.Decides.{nat_tests}
use Rattle.std.proofs.lemmas.Int.{ints, fold-int_min_reached, fold-int_max_reached}
use Rattle.std.proofs.lemmas.List.{append-nil}
use Rattle.std.proofs.lemmas.List.Elements.{All-head, All-tail, All-map, All-contains, All-weaker}
use Rattle.std.proofs.Math.Seq.{drop-append_seam}
use Rattle.tpz_base.specs.Cubes.{Row, extent, natural_of}
use Rattle.tpz_base.specs.Texts.{Bytes, Face, head_lines, lines as joined, ply_text}
use Rattle.ply_head.specs.declared.element.Format.TheVariants.{Ascii}
use Rattle.ply_head.proofs.WrittenHeads.{heading_written, written_elements}
use Rattle.ply_body.specs.Items.{MOST_BYTES, items_of}
use Rattle.ply_body.specs.Bodies.{elements, no_input, too_wide, wide}
use Rattle.ply_body.specs.Inputs.{body, input}
use Rattle.ply_body.specs.Spots.{IsSmallRow}
use Rattle.ply_body.specs.declared.fault.Flaw.TheVariants.{Short}
use Rattle.cut_export.specs.Parts.{head_text, row_text, face_text}
use Rattle.cut_export.proofs.Pieces.{ply_text_is}
use Rattle.text_law.proofs.WrittenBodies.{face_words, faces_read, faces_short, fans_are, items_short, left, row_words, rows_read, rows_short, setting, spots_are, words_of, words_of_faces, words_of_rows, IsWithin}

-- How far apart the coordinates are: those that are at most 2^30 above one number.
abbrev pub IsAbove : ℤ → ℤ → Type 0
IsAbove low v = (low ≤ℤ v) × (v ≤ℤ (low +ℤ pos (2 ^ 30)))

natural_small : (a b : ℤ) (n : ℕ) → a ≤ℤ (b +ℤ pos n) → natural_of (a -ℤ b) ≤ n
natural_small a b n h = go (a -ℤ b) refl where
  go : (d : ℤ) → a -ℤ b ≡ d → natural_of d ≤ n
  go (pos m) is = omega (arith, ints, ap (λ (z : ℤ). z) is)
  go (negsuc m) is = omega arith

near_each_other : (low a b : ℤ) → IsAbove low a → IsAbove low b → a ≤ℤ (b +ℤ pos (2 ^ 30))
near_each_other low a b x y = omega (arith, ints, x.1, y.0)

extent_small : (low : ℤ) (vs : List ℤ) → All (IsAbove low) vs → extent vs ≤ 2 ^ 30
extent_small low [] all = omega arith
extent_small low (z ∷ zs) all =
    let high = fold int_max z zs in
    let deep = fold int_min z zs in
    natural_small high deep (2 ^ 30) (near_each_other low high deep (among high (fold-int_max_reached z zs high refl)) (among deep (fold-int_min_reached z zs deep refl)))
  where
    among : (v : ℤ) → (v ≡ z) ⊎ Contains zs v → IsAbove low v
    among v (inl e) = subst (IsAbove low) (sym e) (All-head (IsAbove low) z zs all)
    among v (inr there) = All-contains (IsAbove low) zs v (All-tail (IsAbove low) z zs all) there

not_wide : (axis : ℕ) (low : ℤ) (vs : List ℤ) → All (IsAbove low) vs → wide axis vs ≡ None
not_wide axis low vs all =
    let small : nat_lt (2 ^ 30) (extent vs) ≡ false = let e = extent_small low vs all in grind (arith, nat_tests) in
    rw small refl

-- rows from `low` on
pub record IsFrom (low r : Row) : Type 0 where
  pub x : IsAbove low.x r.x
  pub y : IsAbove low.y r.y
  pub z : IsAbove low.z r.z

none_wide : (low : Row) (rs : List Row) → All (IsFrom low) rs → too_wide rs ≡ None
none_wide low rs all =
    rw (
      not_wide 0 low.x (map (λ r. r.x) rs) (All-map (IsAbove low.x) (λ r. r.x) rs (All-weaker (IsFrom low) (λ r. IsAbove low.x r.x) (λ r h. h.x) rs all)),
      not_wide 1 low.y (map (λ r. r.y) rs) (All-map (IsAbove low.y) (λ r. r.y) rs (All-weaker (IsFrom low) (λ r. IsAbove low.y r.y) (λ r h. h.y) rs all)),
      not_wide 2 low.z (map (λ r. r.z) rs) (All-map (IsAbove low.z) (λ r. r.z) rs (All-weaker (IsFrom low) (λ r. IsAbove low.z r.z) (λ r h. h.z) rs all)),
    ) refl

-- What rows and faces that may be written mean.
pub record AreWritable (low : Row) (rs : List Row) (fs : List Face) : Type 0 where
  pub rows : length rs ≤ 2147483648
  pub faces : length fs ≤ 2147483648
  pub small : All IsSmallRow rs
  pub near : All (IsFrom low) rs
  pub within : All (IsWithin (length rs)) fs

module _ (low : Row) (rs : List Row) (fs : List Face) (h : AreWritable low rs fs) where
  abbrev v : ℕ
  v = length rs

  abbrev body_text : Bytes
  body_text = flat_map row_text rs ++ flat_map face_text fs

  all_words : words_of body_text ≡ flat_map row_words rs ++ flat_map face_words fs
  all_words = words_of_rows rs (flat_map face_text fs) h.small ∙ ap (λ (ws : List Bytes). flat_map row_words rs ++ ws) (words_of_faces v fs h.rows h.within)

  short : length body_text < MOST_BYTES
  short = omega (arith, length-append (flat_map row_text rs) (flat_map face_text fs), rows_short rs h.small, faces_short v fs h.rows h.within, h.rows, h.faces)

  items_are : items_of Ascii MOST_BYTES body_text ≡ left (flat_map row_words rs ++ flat_map face_words fs) Short
  items_are = items_short MOST_BYTES body_text short ∙ ap (λ (ws : List Bytes). left ws Short) all_words

  no_words : flat_map face_words fs ≡ flat_map face_words fs ++ []
  no_words = sym (append-nil (flat_map face_words fs))

  elements_mean : elements (setting v) 0 (written_elements v (length fs)) no_input (left (flat_map row_words rs ++ flat_map face_words fs) Short)
      ≡ Ok (record { rows = rs; faces = fs })
  elements_mean =
      let vertices_read = rows_read v 0 0 0 rs (flat_map face_words fs) Short h.small in
      let faces_are = ap (λ (ws : List Bytes). left ws Short) no_words in
      rw (vertices_read, spots_are rs, none_wide low rs h.near)
      (rw faces_are (rw (faces_read v 1 0 0 fs [] Short h.rows (omega (arith, h.faces)) h.within, fans_are fs) refl))

  body_means : (size : ℕ) → body (record { format = Ascii; elements = written_elements v (length fs); size = size }) 0 body_text ≡ Ok (record { rows = rs; faces = fs })
  body_means size = ap (λ items. elements (setting v) 0 (written_elements v (length fs)) no_input items) items_are ∙ elements_mean

  text_is : (digits : ℕ) → ply_text digits rs fs ≡ joined (head_lines digits v (length fs)) ++ body_text
  unfolding head_text
  text_is digits = ply_text_is digits rs fs ∙ append_assoc (head_text digits v (length fs)) (flat_map row_text rs) (flat_map face_text fs)

  pub text_means : (digits : ℕ) → input (ply_text digits rs fs) 0 ≡ Ok (record { rows = rs; faces = fs })
  text_means digits =
      let head = joined (head_lines digits v (length fs)) in
      let read = heading_written digits v (length fs) h.rows h.faces body_text in
      ap (λ (t : Bytes). input t 0) (text_is digits) ∙ rw read (rw (drop-append_seam head body_text) (rw (body_means (length head)) refl))
