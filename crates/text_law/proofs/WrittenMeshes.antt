-- The mesh of a text that is read back is the mesh that was written.
use Rattle.std.proofs.Common.{◌≡◌, inl, inr, ℕ, ◌+◌, ◌<◌, ◌≤◌, ◌^◌, List, [], ◌∷◌, length, get_or, refl, sym, ◌∙◌, ap, ap₂, subst, arith, true, cond, not, ◌&&◌, lit<}
use Rattle.std.specs.Prelude.{map, filter, count_by, All, ℤ, pos, negsuc, ◌+ℤ◌, ◌-ℤ◌, ◌≤ℤ◌, Ok}
use Rattle.std.proofs.lemmas.Bool.{and_parts, and_from, cases_Bool}
use Rattle.std.proofs.lemmas.Int.{ints}
use Rattle.std.proofs.lemmas.List.{get_or-map, length-map}
use Rattle.std.proofs.lemmas.List.Sums.{sum_by-cons}
use Rattle.std.proofs.lemmas.List.Elements.{All-nil, All-head, All-tail, All-cons, All-map, All-filter, All-weaker}
use Rattle.std.proofs.Math.Nat.{pow-le-pow_right}
use Rattle.tpz_base.specs.declared.shape.Point.{Point}
use Rattle.tpz_base.specs.declared.shape.Tri.{Tri}
use Rattle.tpz_base.specs.Points.{point, point_eq}
use Rattle.tpz_base.specs.Meshes.{Mesh, corners_of, is_whole, triangle}
use Rattle.tpz_base.specs.Cubes.{Row, less, low_of, natural_of, shifted, IsInCube, IsTriInCube}
use Rattle.tpz_base.specs.Texts.{different, face_in, number_in, text, vertices}
use Rattle.tpz_base.proofs.PointLemmas.{eq-point_eq, point_cong, point_eq-true}
use Rattle.ply_body.specs.Inputs.{dropped_of, input, mesh_of, point_at, points_of, triangle_at}
use Rattle.ply_body.specs.Spots.{IsOver, IsSmallRow}
use Rattle.ply_body.proofs.CubeRows.{all_over, point_at_is}
use Rattle.cut_export.proofs.NumberLemmas.{fronts, has_corners, is_in, numbered, HasCorners}
use Rattle.text_law.specs.Written.{read_back, shifted_corners, IsWritable}
use Rattle.text_law.proofs.WrittenBodies.{IsWithin}
use Rattle.text_law.proofs.WrittenTexts.{text_means, IsAbove, IsFrom}

-- What holds of each corner holds of each vertex.
of_different : (P : Point → Type 0) (ps : List Point) → All P ps → All P (different ps)
of_different P [] all = all
of_different P (p ∷ ps) all =
    All-cons P p (filter (λ q. not (point_eq q p)) (different ps)) (All-head P p ps all)
    (All-filter (λ q. not (point_eq q p)) P (different ps) (of_different P ps (All-tail P p ps all)))

of_vertices : (P : Point → Type 0) (M : Mesh) → All P (corners_of M) → All P (vertices M)
unfolding vertices
of_vertices P M all = of_different P (corners_of M) all

corners_in_cube : (l : ℕ) (M : Mesh) → All (IsTriInCube l) M → All (IsInCube l) (corners_of M)
corners_in_cube l [] all = All-nil (IsInCube l)
corners_in_cube l (t ∷ M) all =
    let here : IsTriInCube l t = All-head (IsTriInCube l) t M all in
    All-cons (IsInCube l) t.a (t.b ∷ t.c ∷ corners_of M) here.a
    (All-cons (IsInCube l) t.b (t.c ∷ corners_of M) here.b
    (All-cons (IsInCube l) t.c (corners_of M) here.c (corners_in_cube l M (All-tail (IsTriInCube l) t M all))))

-- a point of the cube is at most 2^30 above `low`
above : (l n : ℕ) (low : ℤ) → l ≤ 30 → n ≤ 2 ^ l → IsAbove low (pos n +ℤ low)
above l n low level within =
    let most : 2 ^ l ≤ 2 ^ 30 = pow-le-pow_right {n = 2} (lit< tt) {i = l} {j = 30} level in
    (omega (arith, ints), omega (arith, ints, within, most))

from_low : (l : ℕ) (low : Row) (p : Point) → l ≤ 30 → IsInCube l p → IsFrom low (shifted low p)
from_low l low p level cube =
    record { x = above l p.x low.x level cube.x; y = above l p.y low.y level cube.y; z = above l p.z low.z level cube.z }

-- the number of a point that is there is the place of one
number_within : (ks : List Point) (p : Point) → is_in ks p ≡ true → number_in ks p < length ks
number_within [] p h = cc
number_within (k ∷ ks) p h =
    elim (cases_Bool (point_eq p k)) [
      | inl e ↦ rw e (omega arith)
      | inr e ↦ (let rest : is_in ks p ≡ true = rw e at h in rw e (omega (arith, number_within ks p rest)))
    ]

faces_within : (ks : List Point) (M : Mesh) → HasCorners ks M → All (IsWithin (length ks)) (map (face_in ks) M)
faces_within ks [] h = All-nil (IsWithin (length ks))
faces_within ks (t ∷ M) h =
    let k = fronts ks t M h in
    All-cons (IsWithin (length ks)) (face_in ks t) (map (face_in ks) M)
    (record { i = number_within ks t.a k.a; j = number_within ks t.b k.b; k = number_within ks t.c k.c }) (faces_within ks M k.rest)

-- The text of a mesh that may be written is read back as its rows and faces.
pub read_as : (l digits : ℕ) (M : Mesh) (low : Row) → IsWritable l M low → input (text M low digits) 0 ≡ Ok (read_back M low)
read_as l digits M low h =
    let ks = vertices M in
    let near = λ (p : Point) (cube : IsInCube l p). from_low l low p h.level cube in
    text_means low (map (shifted low) ks) (map (face_in ks) M) (record {
      rows = omega (arith, length-map ks (shifted low), h.vertices);
      faces = omega (arith, length-map M (face_in ks), h.tris);
      small = All-map IsSmallRow (shifted low) ks (of_vertices (λ p. IsSmallRow (shifted low p)) M h.small);
      near = All-map (IsFrom low) (shifted low) ks
          (All-weaker (IsInCube l) (λ p. IsFrom low (shifted low p)) near ks (of_vertices (IsInCube l) M (corners_in_cube l M h.cube)));
      within = subst (λ (n : ℕ). All (IsWithin n) (map (face_in ks) M)) (sym (length-map ks (shifted low))) (faces_within ks M (has_corners M));
    }) digits

-- The triangles of what is read back, by the vertices that are there and the least coordinates of their rows.
natural_back : (r low : ℤ) → low ≤ℤ r → (pos (natural_of (r -ℤ low)) +ℤ low) ≡ r
natural_back r low below = go (r -ℤ low) refl where
  go : (d : ℤ) → (r -ℤ low) ≡ d → (pos (natural_of d) +ℤ low) ≡ r
  go (pos n) is = omega (arith, ints, is)
  go (negsuc n) is = absurd (omega (arith, ints, is, below))

row_cong : (x y z x' y' z' : ℤ) → x ≡ x' → y ≡ y' → z ≡ z' → ◌≡◌ {A = Row} (record { x = x; y = y; z = z }) (record { x = x'; y = y'; z = z' })
row_cong x y z x' y' z' p q r = cc

same_natural : (m n : ℕ) (low : ℤ) → (pos m +ℤ low) ≡ (pos n +ℤ low) → m ≡ n
same_natural m n low e = omega (arith, ints, e)

same_shifted : (low : Row) (p q : Point) → shifted low p ≡ shifted low q → p ≡ q
same_shifted low p q e =
    point_cong p.x p.y p.z q.x q.y q.z (same_natural p.x q.x low.x (ap (λ (r : Row). r.x) e)) (same_natural p.y q.y low.y (ap (λ (r : Row). r.y) e))
    (same_natural p.z q.z low.z (ap (λ (r : Row). r.z) e))

triangle_cong : (a b c a' b' c' : Point) → a ≡ a' → b ≡ b' → c ≡ c' → triangle a b c ≡ triangle a' b' c'
triangle_cong a b c a' b' c' p q r = cc

module _ (ks : List Point) (low : Row) where
  abbrev rows : List Row
  rows = map (shifted low) ks

  abbrev least : Row
  least = low_of rows

  -- the point that a vertex becomes
  abbrev moved : Point → Point
  moved p = less least (shifted low p)

  abbrev moved_triangle : Tri → Tri
  moved_triangle t = triangle (moved t.a) (moved t.b) (moved t.c)

  row_is : (p : Point) → is_in ks p ≡ true → get_or rows (number_in ks p) (shifted low (point 0 0 0)) ≡ shifted low p
  row_is p there =
      get_or-map (shifted low) ks (number_in ks p) (point 0 0 0) (shifted low (point 0 0 0)) (number_within ks p there)
      ∙ ap (shifted low) (numbered ks p there)

  below : (p : Point) → is_in ks p ≡ true → number_in ks p < length rows
  below p there = omega (arith, length-map ks (shifted low), number_within ks p there)

  point_is : (p : Point) → is_in ks p ≡ true → point_at (points_of rows) (number_in ks p) ≡ moved p
  point_is p there = point_at_is least rows (number_in ks p) (shifted low (point 0 0 0)) (below p there) ∙ ap (less least) (row_is p there)

  over : (p : Point) → is_in ks p ≡ true → IsOver least (shifted low p)
  over p there = subst (IsOver least) (row_is p there) (all_over rows (number_in ks p) (shifted low (point 0 0 0)) (below p there))

  back : (p : Point) → is_in ks p ≡ true → shifted least (moved p) ≡ shifted low p
  back p there =
      let r = shifted low p in
      let o = over p there in
      row_cong _ _ _ _ _ _ (natural_back r.x least.x o.x) (natural_back r.y least.y o.y) (natural_back r.z least.z o.z)

  stay_apart : (p q : Point) → is_in ks p ≡ true → is_in ks q ≡ true → not (point_eq p q) ≡ true → not (point_eq (moved p) (moved q)) ≡ true
  stay_apart p q p_there q_there other =
      elim (cases_Bool (point_eq (moved p) (moved q))) [
        | inl e ↦ absurd (let same : p ≡ q = same_shifted low p q (sym (back p p_there) ∙ ap (shifted least) (point_eq-true (moved p) (moved q) e) ∙ back q q_there) in
            let equal = eq-point_eq p q same in cc)
        | inr e ↦ rw e refl
      ]

  whole_moved : (t : Tri) → is_in ks t.a ≡ true → is_in ks t.b ≡ true → is_in ks t.c ≡ true → is_whole t ≡ true → is_whole (moved_triangle t) ≡ true
  whole_moved t a b c whole =
      let p = and_parts (not (point_eq t.a t.b)) (not (point_eq t.b t.c) && not (point_eq t.c t.a)) whole in
      let q = and_parts (not (point_eq t.b t.c)) (not (point_eq t.c t.a)) p.1 in
      and_from (not (point_eq (moved t.a) (moved t.b))) (not (point_eq (moved t.b) (moved t.c)) && not (point_eq (moved t.c) (moved t.a))) (stay_apart t.a t.b a b p.0)
      (and_from (not (point_eq (moved t.b) (moved t.c))) (not (point_eq (moved t.c) (moved t.a))) (stay_apart t.b t.c b c q.0) (stay_apart t.c t.a c a q.1))

  triangles_are : (M : Mesh) → HasCorners ks M → map (triangle_at (points_of rows)) (map (face_in ks) M) ≡ map moved_triangle M
  triangles_are [] h = refl
  triangles_are (t ∷ M) h =
      let k = fronts ks t M h in
      ap₂ (λ (s : Tri) (N : Mesh). s ∷ N) (triangle_cong _ _ _ _ _ _ (point_is t.a k.a) (point_is t.b k.b) (point_is t.c k.c)) (triangles_are M k.rest)

  abbrev Whole : Mesh → Type 0
  Whole M = All (λ t. is_whole t ≡ true) M

  none_left_out : (M : Mesh) → HasCorners ks M → Whole M → filter is_whole (map moved_triangle M) ≡ map moved_triangle M
  none_left_out [] h whole = refl
  none_left_out (t ∷ M) h whole =
      let k = fronts ks t M h in
      let here = whole_moved t k.a k.b k.c (All-head (λ t. is_whole t ≡ true) t M whole) in
      rw here (ap (λ (N : Mesh). moved_triangle t ∷ N) (none_left_out M k.rest (All-tail (λ t. is_whole t ≡ true) t M whole)))

  none_broken : (M : Mesh) → HasCorners ks M → Whole M → count_by (λ t. not (is_whole t)) (map moved_triangle M) ≡ 0
  none_broken [] h whole = refl
  none_broken (t ∷ M) h whole =
      let k = fronts ks t M h in
      let here = whole_moved t k.a k.b k.c (All-head (λ t. is_whole t ≡ true) t M whole) in
      sum_by-cons (λ s. cond (not (is_whole s)) 1 0) (moved_triangle t) (map moved_triangle M)
      ∙ rw here (ap (λ (n : ℕ). 0 + n) (none_broken M k.rest (All-tail (λ t. is_whole t ≡ true) t M whole)))

  corners_cong : (a b c a' b' c' : Row) → a ≡ a' → b ≡ b' → c ≡ c' → ◌≡◌ {A = List Row} (a ∷ b ∷ c ∷ []) (a' ∷ b' ∷ c' ∷ [])
  corners_cong a b c a' b' c' p q r = cc

  moved_back : (M : Mesh) → HasCorners ks M → map (shifted_corners least) (map moved_triangle M) ≡ map (shifted_corners low) M
  moved_back [] h = refl
  moved_back (t ∷ M) h =
      let k = fronts ks t M h in
      ap₂ (λ (c : List Row) (cs : List (List Row)). c ∷ cs) (corners_cong _ _ _ _ _ _ (back t.a k.a) (back t.b k.b) (back t.c k.c)) (moved_back M k.rest)

-- The triangles that are read back, with the least coordinates added, are those that were written, with `low` added.
pub triangles_as : (l : ℕ) (M : Mesh) (low : Row) → IsWritable l M low
    → map (shifted_corners (low_of (read_back M low).rows)) (mesh_of (read_back M low).rows (read_back M low).faces) ≡ map (shifted_corners low) M
triangles_as l M low h =
    let ks = vertices M in
    let there = has_corners M in
    let mesh : mesh_of (map (shifted low) ks) (map (face_in ks) M) ≡ map (moved_triangle ks low) M =
    ap (filter is_whole) (triangles_are ks low M there) ∙ none_left_out ks low M there h.whole in
    ap (map (shifted_corners (least ks low))) mesh ∙ moved_back ks low M there

pub none_dropped : (l : ℕ) (M : Mesh) (low : Row) → IsWritable l M low → dropped_of (read_back M low).rows (read_back M low).faces ≡ 0
none_dropped l M low h =
    let ks = vertices M in
    let there = has_corners M in
    ap (count_by (λ t. not (is_whole t))) (triangles_are ks low M there) ∙ none_broken ks low M there h.whole
