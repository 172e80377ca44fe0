-- Numbers of vertices stay as the mesh grows at its end.
use Rattle.std.proofs.Common.{◌≡◌, ℕ, ◌+◌, Bool, true, false, cond, not, ◌&&◌, ◌||◌, List, [], ◌∷◌, ◌++◌, refl, sym, ◌∙◌, ap, ap₂, subst, inl, inr, append_assoc, one-add}
use Rattle.std.specs.Prelude.{map, filter}
use Rattle.std.specs.List.{list_any, list_all}
use Rattle.std.proofs.lemmas.Bool.{cases_Bool, and_parts, and_from}
use Rattle.std.proofs.lemmas.List.{append-nil, map-append}
use Rattle.std.proofs.lemmas.List.Elements.{filter-append}
use Rattle.std.proofs.lemmas.Grind.{flat_map-append}
use Rattle.indexmap.specs.IndexSet.{insert_key}
use Rattle.tpz_base.specs.declared.shape.Point.{Point}
use Rattle.tpz_base.specs.declared.shape.Tri.{Tri}
use Rattle.tpz_base.specs.Points.{point_eq}
use Rattle.tpz_base.specs.Meshes.{Mesh, triangle, corners_of}
use Rattle.tpz_base.specs.Texts.{Face, different, vertices, number_in, face_in}
use Rattle.tpz_base.proofs.PointLemmas.{point_eq-true, point_eq_refl}
use Rattle.cut_export.specs.declared.numbering.Corners.{Corners}
use Rattle.cut_export.specs.Parts.{face_of}
use Rattle.cut_export.specs.declared.numbering.Numbered.{Numbered}
use Rattle.cut_export.specs.Numbering.{corner_at, triangle_of, numbered_mesh, IsNumbering}

-- whether p is among the points
abbrev pub is_in : List Point → Point → Bool
is_in ks p = list_any (point_eq p) ks

-- a point that is there keeps its number
number_kept : (ks more : List Point) (p : Point) → is_in ks p ≡ true → number_in (ks ++ more) p ≡ number_in ks p
number_kept [] more p h = cc
number_kept (k ∷ ks) more p h =
    elim (cases_Bool (point_eq p k)) [
      | inl e ↦ rw e refl
      | inr e ↦ (let rest : is_in ks p ≡ true = rw e at h in rw e (ap (λ (n : ℕ). 1 + n) (number_kept ks more p rest)))
    ]

-- the point with the number of one that is there is that one
pub numbered : (ks : List Point) (p : Point) → is_in ks p ≡ true → corner_at ks (number_in ks p) ≡ p
numbered [] p h = cc
numbered (k ∷ ks) p h =
    elim (cases_Bool (point_eq p k)) [
      | inl e ↦ rw e (sym (point_eq-true p k e))
      | inr e ↦ (let rest : is_in ks p ≡ true = rw e at h in
          let tail : corner_at (k ∷ ks) (1 + number_in ks p) ≡ corner_at ks (number_in ks p) = simp one-add refl in
          rw e (tail ∙ numbered ks p rest))
    ]

is_in-filter : (x p : Point) (ks : List Point) → point_eq p x ≡ false → is_in (filter (λ q. not (point_eq q x)) ks) p ≡ is_in ks p
is_in-filter x p [] ne = refl
is_in-filter x p (k ∷ ks) ne =
    elim (cases_Bool (point_eq k x)) [
      | inl e ↦ (let other : point_eq p k ≡ false = ap (point_eq p) (point_eq-true k x e) ∙ ne in rw (e, other) (is_in-filter x p ks ne))
      | inr e ↦ rw e (ap (λ b. point_eq p k || b) (is_in-filter x p ks ne))
    ]

-- one more point, which isn't there yet where the test says so
abbrev pushed : Bool → List Point → Point → List Point
pushed there ks p = cond there ks (ks ++ p ∷ [])

-- the other points behind x
abbrev others : Point → List Point → List Point
others x ks = filter (λ q. not (point_eq q x)) ks

others_push : (x p : Point) (ks : List Point) → point_eq p x ≡ false → others x (ks ++ p ∷ []) ≡ others x ks ++ p ∷ []
others_push x p ks e = filter-append (λ q. not (point_eq q x)) ks (p ∷ []) ∙ ap (λ (l : List Point). others x ks ++ l) (rw e refl)

others_same : (x p : Point) (ks : List Point) → point_eq p x ≡ true → others x (ks ++ p ∷ []) ≡ others x ks
others_same x p ks e =
    filter-append (λ q. not (point_eq q x)) ks (p ∷ []) ∙ ap (λ (l : List Point). others x ks ++ l) (rw e refl) ∙ append-nil (others x ks)

filter_push : (x p : Point) (ks : List Point) → x ∷ others x (pushed (is_in ks p) ks p) ≡ pushed (is_in (x ∷ others x ks) p) (x ∷ others x ks) p
filter_push x p ks =
    elim (cases_Bool (point_eq p x)) [
      | inl e ↦ (let there : is_in (x ∷ others x ks) p ≡ true = rw e refl in
          rw there (ap (λ (l : List Point). x ∷ l)
          (elim (is_in ks p) as (λ b. others x (pushed b ks p) ≡ others x ks) [ true ↦ refl | false ↦ others_same x p ks e ])))
      | inr e ↦ (let there : is_in (x ∷ others x ks) p ≡ is_in ks p = rw e (is_in-filter x p ks e) in
          rw there
          (elim (is_in ks p) as (λ b. x ∷ others x (pushed b ks p) ≡ pushed b (x ∷ others x ks) p) [
            | true ↦ refl
            | false ↦ ap (λ (l : List Point). x ∷ l) (others_push x p ks e)
          ]))
    ]

-- one more point at the end is a new key where it wasn't there
different_push : (xs : List Point) (p : Point) → different (xs ++ p ∷ []) ≡ insert_key point_eq (different xs) p
different_push [] p = refl
different_push (x ∷ xs) p = ap (λ ks. x ∷ others x ks) (different_push xs p) ∙ filter_push x p (different xs)

vertices_push : (M : Mesh) (t : Tri)
    → vertices (M ++ t ∷ []) ≡ insert_key point_eq (insert_key point_eq (insert_key point_eq (vertices M) t.a) t.b) t.c
unfolding vertices
vertices_push M t =
    let cs = corners_of M in
    let whole : corners_of (M ++ t ∷ []) ≡ ((cs ++ t.a ∷ []) ++ t.b ∷ []) ++ t.c ∷ [] =
    flat_map-append (λ (s : Tri). s.a ∷ s.b ∷ s.c ∷ []) M (t ∷ []) ∙ sym (append_assoc (cs ++ t.a ∷ []) (t.b ∷ []) (t.c ∷ []) ∙ append_assoc cs (t.a ∷ []) (t.b ∷ t.c ∷ [])) in
    ap different whole ∙ different_push ((cs ++ t.a ∷ []) ++ t.b ∷ []) t.c
    ∙ ap (λ ks. insert_key point_eq ks t.c) (different_push (cs ++ t.a ∷ []) t.b ∙ ap (λ ks. insert_key point_eq ks t.b) (different_push cs t.a))

is_in-append : (ks more : List Point) (p : Point) → is_in ks p ≡ true → is_in (ks ++ more) p ≡ true
is_in-append [] more p h = cc
is_in-append (k ∷ ks) more p h =
    elim (cases_Bool (point_eq p k)) [
      | inl e ↦ rw e refl
      | inr e ↦ (let rest : is_in ks p ≡ true = rw e at h in rw e (is_in-append ks more p rest))
    ]

is_in_last : (ks : List Point) (p : Point) → is_in (ks ++ p ∷ []) p ≡ true
is_in_last [] p = rw (point_eq_refl p) refl
is_in_last (k ∷ ks) p = rw (is_in_last ks p) (elim (point_eq p k) as (λ b. (b || true) ≡ true) [ true ↦ refl | false ↦ refl ])

-- what is there stays there with its number, and what is added is there
pub key_there : (ks : List Point) (p : Point) → is_in (insert_key point_eq ks p) p ≡ true
key_there ks p = go (is_in ks p) refl
  where
    go : (b : Bool) → is_in ks p ≡ b → is_in (pushed (is_in ks p) ks p) p ≡ true
    go true e = rw e e
    go false e = rw e (is_in_last ks p)

pub key_stays : (ks : List Point) (p q : Point) → is_in ks q ≡ true → is_in (insert_key point_eq ks p) q ≡ true
key_stays ks p q h = elim (is_in ks p) as (λ b. is_in (pushed b ks p) q ≡ true) [ true ↦ h | false ↦ is_in-append ks (p ∷ []) q h ]

pub number_stays : (ks : List Point) (p q : Point) → is_in ks q ≡ true → number_in (insert_key point_eq ks p) q ≡ number_in ks q
number_stays ks p q h = elim (is_in ks p) as (λ b. number_in (pushed b ks p) q ≡ number_in ks q) [ true ↦ refl | false ↦ number_kept ks (p ∷ []) q h ]

in_front : (x : Point) (ks ys : List Point) → list_all (is_in ks) ys ≡ true → list_all (is_in (x ∷ others x ks)) ys ≡ true
in_front x ks [] h = refl
in_front x ks (y ∷ ys) h =
    let k = and_parts (is_in ks y) (list_all (is_in ks) ys) h in
    and_from (is_in (x ∷ others x ks) y) (list_all (is_in (x ∷ others x ks)) ys)
    (elim (cases_Bool (point_eq y x)) [ inl e ↦ rw e refl | inr e ↦ rw (e, is_in-filter x y ks e) k.0 ]) (in_front x ks ys k.1)

-- each point is among the different ones
all_there : (xs : List Point) → list_all (is_in (different xs)) xs ≡ true
all_there [] = refl
all_there (x ∷ xs) =
    and_from (is_in (different (x ∷ xs)) x) (list_all (is_in (different (x ∷ xs))) xs) (rw (point_eq_refl x) refl) (in_front x (different xs) xs (all_there xs))

-- the keys have all corners of the mesh
abbrev pub HasCorners : List Point → Mesh → Type 0
HasCorners ks M = list_all (is_in ks) (corners_of M) ≡ true

pub has_corners : (M : Mesh) → HasCorners (vertices M) M
unfolding vertices
has_corners M = all_there (corners_of M)

all_stay : (ks : List Point) (p : Point) (ys : List Point) → list_all (is_in ks) ys ≡ true → list_all (is_in (insert_key point_eq ks p)) ys ≡ true
all_stay ks p [] h = refl
all_stay ks p (y ∷ ys) h =
    let k = and_parts (is_in ks y) (list_all (is_in ks) ys) h in
    and_from (is_in (insert_key point_eq ks p) y) (list_all (is_in (insert_key point_eq ks p)) ys) (key_stays ks p y k.0) (all_stay ks p ys k.1)

abbrev face : ℕ → ℕ → ℕ → Face
face i j k = record { i = i; j = j; k = k }

face_cong : (i j k i' j' k' : ℕ) → i ≡ i' → j ≡ j' → k ≡ k' → face i j k ≡ face i' j' k'
face_cong i j k i' j' k' p q r = cc

-- the corners' tests of a mesh with one more triangle in front
pub record Fronts (ks : List Point) (t : Tri) (M : Mesh) : Type 0 where
  pub a : is_in ks t.a ≡ true
  pub b : is_in ks t.b ≡ true
  pub c : is_in ks t.c ≡ true
  pub rest : HasCorners ks M

pub fronts : (ks : List Point) (t : Tri) (M : Mesh) → HasCorners ks (t ∷ M) → Fronts ks t M
fronts ks t M h =
    let p = and_parts (is_in ks t.a) (is_in ks t.b && (is_in ks t.c && list_all (is_in ks) (corners_of M))) h in
    let q = and_parts (is_in ks t.b) (is_in ks t.c && list_all (is_in ks) (corners_of M)) p.1 in
    let r = and_parts (is_in ks t.c) (list_all (is_in ks) (corners_of M)) q.1 in
    record { a = p.0; b = q.0; c = r.0; rest = r.1 }

faces_stay : (ks : List Point) (p : Point) (M : Mesh) → HasCorners ks M → map (face_in (insert_key point_eq ks p)) M ≡ map (face_in ks) M
faces_stay ks p [] h = refl
faces_stay ks p (t ∷ M) h =
    let k = fronts ks t M h in
    ap₂ (λ (f : Face) (fs : List Face). f ∷ fs)
    (face_cong _ _ _ _ _ _ (number_stays ks p t.a k.a) (number_stays ks p t.b k.b) (number_stays ks p t.c k.c)) (faces_stay ks p M k.rest)

-- the numbers of corners stand for the mesh
pub mesh_is : (ks : List Point) (fs : List Corners) (M : Mesh) → HasCorners ks M → map face_of fs ≡ map (face_in ks) M → map (triangle_of ks) fs ≡ M
mesh_is ks [] [] h same = refl
mesh_is ks [] (t ∷ M) h same = cc
mesh_is ks (f ∷ fs) [] h same = cc
mesh_is ks (f ∷ fs) (t ∷ M) h same =
    let k = fronts ks t M h in
    let head : face_of f ≡ face_in ks t = cc in
    let tail : map face_of fs ≡ map (face_in ks) M = cc in
    let a : corner_at ks f.a ≡ t.a = ap (corner_at ks) (ap (λ (r : Face). r.i) head) ∙ numbered ks t.a k.a in
    let b : corner_at ks f.b ≡ t.b = ap (corner_at ks) (ap (λ (r : Face). r.j) head) ∙ numbered ks t.b k.b in
    let c : corner_at ks f.c ≡ t.c = ap (corner_at ks) (ap (λ (r : Face). r.k) head) ∙ numbered ks t.c k.c in
    ap₂ (λ (s : Tri) (N : Mesh). s ∷ N) (triangle_cong _ _ _ _ _ _ a b c) (mesh_is ks fs M k.rest tail)
  where
    triangle_cong : (a b c a' b' c' : Point) → a ≡ a' → b ≡ b' → c ≡ c' → triangle a b c ≡ triangle a' b' c'
    triangle_cong a b c a' b' c' p q r = cc

-- one more triangle, whose corners were numbered one after another
pub triangle_push : (ks k1 k2 k3 : List Point) (fs : List Corners) (M : Mesh) (t : Tri) (f : Corners) → ks ≡ vertices M → map face_of fs ≡ map (face_in ks) M
    → k1 ≡ insert_key point_eq ks t.a → f.a ≡ number_in k1 t.a → k2 ≡ insert_key point_eq k1 t.b → f.b ≡ number_in k2 t.b
    → k3 ≡ insert_key point_eq k2 t.c → f.c ≡ number_in k3 t.c → (k3 ≡ vertices (M ++ t ∷ [])) × (map face_of (fs ++ f ∷ []) ≡ map (face_in k3) (M ++ t ∷ []))
triangle_push ks k1 k2 k3 fs M t f keys faces s1 a s2 b s3 c =
    let i1 = insert_key point_eq ks t.a in
    let i2 = insert_key point_eq i1 t.b in
    let i3 = insert_key point_eq i2 t.c in
    let e1 : k1 ≡ i1 = s1 in
    let e2 : k2 ≡ i2 = s2 ∙ ap (λ (l : List Point). insert_key point_eq l t.b) e1 in
    let e3 : k3 ≡ i3 = s3 ∙ ap (λ (l : List Point). insert_key point_eq l t.c) e2 in
    let whole : i3 ≡ vertices (M ++ t ∷ []) =
    ap (λ (l : List Point). insert_key point_eq (insert_key point_eq (insert_key point_eq l t.a) t.b) t.c) keys ∙ sym (vertices_push M t) in
    let has0 : HasCorners ks M = subst (λ (l : List Point). HasCorners l M) (sym keys) (has_corners M) in
    let has1 = all_stay ks t.a (corners_of M) has0 in
    let has2 = all_stay i1 t.b (corners_of M) has1 in
    let old : map (face_in i3) M ≡ map (face_in ks) M = faces_stay i2 t.c M has2 ∙ faces_stay i1 t.b M has1 ∙ faces_stay ks t.a M has0 in
    let a_there1 = key_there ks t.a in
    let a_there2 = key_stays i1 t.b t.a a_there1 in
    let b_there2 = key_there i1 t.b in
    let na : f.a ≡ number_in i3 t.a = a ∙ ap (λ (l : List Point). number_in l t.a) e1 ∙ sym (number_stays i2 t.c t.a a_there2 ∙ number_stays i1 t.b t.a a_there1) in
    let nb : f.b ≡ number_in i3 t.b = b ∙ ap (λ (l : List Point). number_in l t.b) e2 ∙ sym (number_stays i2 t.c t.b b_there2) in
    let nc : f.c ≡ number_in i3 t.c = c ∙ ap (λ (l : List Point). number_in l t.c) e3 in
    let last : face_of f ≡ face_in i3 t = face_cong _ _ _ _ _ _ na nb nc in
    let all : map face_of (fs ++ f ∷ []) ≡ map (face_in i3) (M ++ t ∷ []) =
    map-append face_of fs (f ∷ []) ∙ ap₂ (λ (x y : List Face). x ++ y) (faces ∙ sym old) (ap (λ (x : Face). x ∷ []) last) ∙ sym (map-append (face_in i3) M (t ∷ [])) in
    (e3 ∙ whole, all ∙ ap (λ (l : List Point). map (face_in l) (M ++ t ∷ [])) (sym e3))

numbered_mesh-is : (n : Numbered) (M : Mesh) → HasCorners n.vertices.keys M → map face_of n.faces.items ≡ map (face_in n.vertices.keys) M → numbered_mesh n ≡ M
unfolding numbered_mesh
numbered_mesh-is n M there faces = mesh_is n.vertices.keys n.faces.items M there faces

no_vertices : vertices [] ≡ []
unfolding vertices
no_vertices = refl

pub numbering_none : (n : Numbered) → n.vertices.keys ≡ [] → n.faces.items ≡ [] → (numbered_mesh n ≡ []) × IsNumbering n
numbering_none n keys faces =
    let none : map face_of n.faces.items ≡ [] = ap (map face_of) faces in
    let mesh = numbered_mesh-is n [] refl none in
    (mesh, record { keys = keys ∙ sym (ap vertices mesh ∙ no_vertices); faces = none ∙ sym (ap (λ (N : Mesh). map (face_in (vertices N)) N) mesh) })

-- a numbering has one more triangle at its end
pub numbering_push : (n n' : Numbered) (k1 k2 : List Point) (t : Tri) (f : Corners) → IsNumbering n
    → k1 ≡ insert_key point_eq n.vertices.keys t.a → f.a ≡ number_in k1 t.a → k2 ≡ insert_key point_eq k1 t.b → f.b ≡ number_in k2 t.b
    → n'.vertices.keys ≡ insert_key point_eq k2 t.c → f.c ≡ number_in n'.vertices.keys t.c → n'.faces.items ≡ n.faces.items ++ f ∷ []
    → (numbered_mesh n' ≡ numbered_mesh n ++ t ∷ []) × IsNumbering n'
numbering_push n n' k1 k2 t f is s1 a s2 b s3 c pushed =
    let M = numbered_mesh n in
    let faces : map face_of n.faces.items ≡ map (face_in n.vertices.keys) M = is.faces ∙ ap (λ (l : List Point). map (face_in l) M) (sym is.keys) in
    let it = triangle_push n.vertices.keys k1 k2 n'.vertices.keys n.faces.items M t f is.keys faces s1 a s2 b s3 c in
    let all : map face_of n'.faces.items ≡ map (face_in n'.vertices.keys) (M ++ t ∷ []) = ap (map face_of) pushed ∙ it.1 in
    let there : HasCorners n'.vertices.keys (M ++ t ∷ []) = subst (λ (l : List Point). HasCorners l (M ++ t ∷ [])) (sym it.0) (has_corners (M ++ t ∷ [])) in
    let mesh = numbered_mesh-is n' (M ++ t ∷ []) there all in (
      mesh,
      record {
        keys = it.0 ∙ ap vertices (sym mesh);
        faces = all ∙ ap₂ (λ (l : List Point) (N : Mesh). map (face_in l) N) (it.0 ∙ ap vertices (sym mesh)) (sym mesh);
      },
    )
