-- What holds of the elements at the end of a header.
use Rattle.std.proofs.Common.{◌≡◌, ◌≢◌, ℕ, zero, suc, ◌+◌, ◌<◌, ◌≤◌, Bool, true, false, cond, List, [], ◌∷◌, ◌++◌, length, take, drop, get_or, refl, sym, ◌∙◌, ap, arith, append_assoc, length-append, ◌⊎◌, inl, inr}
use Rattle.std.specs.Prelude.{map, find, Option, Some, None, All, is_none, is_some, not, ◌&&◌, ◌||◌, codes}
use Rattle.std.specs.Option.{option_map_or}
use Rattle.std.specs.List.{before_first, after_first, position_or_len, list_any}
use Rattle.std.proofs.lemmas.List.{length-map, map-append, take_all}
use Rattle.std.proofs.lemmas.List.Elements.{All-append, All-cons, All-head, All-take, All-drop, All-map, All-nil, All-weaker, All-same}
use Rattle.std.proofs.lemmas.List.Sums.{split_at_first, passes_at_first}
use Rattle.std.proofs.Math.Seq.{drop-append_seam, drop-length}
use Rattle.std.proofs.lemmas.List.Folds.{find_at}
use Rattle.std.proofs.lemmas.Option.{get_or_from_slice_get, slice_get_cases, slice_get_within}
use Rattle.ply_head.specs.declared.element.Role.{Role}
use Rattle.ply_head.specs.declared.element.Role.TheVariants.{X, Y, Z, Indices}
use Rattle.ply_head.specs.declared.element.Used.TheVariants.{Other}
use Rattle.ply_head.specs.declared.element.Kind.{Kind}
use Rattle.ply_head.specs.declared.element.Property.{Property}
use Rattle.ply_head.specs.declared.element.Element.{Element}
use Rattle.ply_head.specs.Headers.{Named, Declared, Seen, from_first, is_vertex, is_face, is_scalar, is_index_list, has_coordinates, with_role, element_of, vertex_of, face_of, used_elements}
use Rattle.ply_head.specs.Heads.{IsSkipped, IsOther, IsOfVertex, IsVertexElement, IsFaceElement, IsLaidOut, IsSmall}
use Rattle.tpz_base.specs.Texts.{Bytes}

-- no role is put on yet
abbrev pub IsPlain : Named → Type 0
IsPlain n = IsSkipped n.property

pub record IsTidyElement (e : Declared) : Type 0 where
  pub rows : e.count ≤ 2147483648
  pub plain : All IsPlain e.properties

-- what every line keeps
pub record IsTidy (s : Seen) : Type 0 where
  pub few : length s.elements ≤ 64
  pub each : All IsTidyElement s.elements

-- A list by the first element that passes.
pub record Parted {A : Type 0} (p : A → Bool) (xs : List A) : Type 0 where
  pub first : A
  pub passes : p first ≡ true
  pub one : take 1 (from_first p xs) ≡ first ∷ []
  pub whole : xs ≡ before_first p xs ++ first ∷ after_first p xs

parted : {A : Type 0} (p : A → Bool) (xs : List A) → A → position_or_len p xs < length xs → Parted p xs
parted p xs d within =
    let whole = split_at_first p xs d within in
    let rest : from_first p xs ≡ get_or xs (position_or_len p xs) d ∷ after_first p xs =
    ap (drop (length (before_first p xs))) whole ∙ drop-append_seam (before_first p xs) (get_or xs (position_or_len p xs) d ∷ after_first p xs) in
    record { first = get_or xs (position_or_len p xs) d; passes = passes_at_first p xs d within; one = ap (take 1) rest; whole = whole }

-- parts of a list have what each of its elements has
before_all : {A : Type 0} (P : A → Type 0) (p : A → Bool) (xs : List A) → All P xs → All P (before_first p xs)
before_all P p xs each = All-take P (position_or_len p xs) xs each

after_all : {A : Type 0} (P : A → Type 0) (p : A → Bool) (xs : List A) → All P xs → All P (after_first p xs)
after_all P p xs each = All-drop P (position_or_len p xs + 1) xs each

first_all : {A : Type 0} (P : A → Type 0) (p : A → Bool) (xs : List A) (parts : Parted p xs) → All P xs → P parts.first
first_all P p xs parts each =
    All-head P parts.first [] (All-same P (parts.first ∷ []) (take 1 (from_first p xs)) (sym parts.one)
    (All-take P 1 (from_first p xs) (All-drop P (length (before_first p xs)) xs each)))

-- a role that is put on the first that passes
role_parts : (role : Role) (p : Named → Bool) (ns : List Named) (parts : Parted p ns)
    → with_role role p ns ≡ before_first p ns ++ record parts.first { property = record parts.first.property { role = role } } ∷ after_first p ns
role_parts role p ns parts =
    ap (λ (ms : List Named). before_first p ns ++ map (λ (n : Named). record n { property = record n.property { role = role } }) ms ++ after_first p ns) parts.one
    ∙ append_assoc (before_first p ns) (record parts.first { property = record parts.first.property { role = role } } ∷ []) (after_first p ns)

parts_or_none : {A : Type 0} (p : A → Bool) (xs : List A) → Parted p xs ⊎ (take 1 (from_first p xs) ≡ [])
parts_or_none p xs =
    elim (slice_get_cases xs (position_or_len p xs)).1 [
      | inl w ↦ inl (parted p xs w.0 w.1)
      | inr w ↦ inr (ap (take 1) (ap (λ ys. drop (length ys) xs) (take_all (position_or_len p xs) xs w.0) ∙ drop-length xs))
    ]

role_all : (P : Named → Type 0) (role : Role) (p : Named → Bool) (ns : List Named)
    → ((n : Named) → p n ≡ true → P n → P (record n { property = record n.property { role = role } })) → All P ns → All P (with_role role p ns)
role_all P role p ns kept each =
    elim (parts_or_none p ns) [
      | inl parts ↦
          All-same P (with_role role p ns) (before_first p ns ++ record parts.first { property = record parts.first.property { role = role } } ∷ after_first p ns)
          (role_parts role p ns parts)
          (All-append P (before_first p ns) (record parts.first { property = record parts.first.property { role = role } } ∷ after_first p ns)
          (before_all P p ns each)
          (All-cons P (record parts.first { property = record parts.first.property { role = role } }) (after_first p ns)
          (kept parts.first parts.passes (first_all P p ns parts each)) (after_all P p ns each)))
      | inr none ↦
          All-same P (with_role role p ns) (before_first p ns ++ [] ++ after_first p ns)
          (ap (λ (ms : List Named). before_first p ns ++ map (λ (n : Named). record n { property = record n.property { role = role } }) ms ++ after_first p ns) none)
          (All-append P (before_first p ns ++ []) (after_first p ns) (All-append P (before_first p ns) [] (before_all P p ns each) (All-nil P))
          (after_all P p ns each))
    ]

-- the used vertex element
IsCoordinate : Named → Type 0
IsCoordinate n = IsOfVertex n.property

scalar_none : (b : Bool) (kind : Option Kind) → (b && is_none kind) ≡ true → kind ≡ None
scalar_none true None holds = refl
scalar_none true (Some k) holds = absurd (cc)
scalar_none false kind holds = absurd (cc)

coordinate : (role : Role) → role ≢ Indices → (name : Bytes) (n : Named) → is_scalar name n ≡ true
    → IsOfVertex (record n.property { role = role })
coordinate role other name n scalar = record { role = other; lists = λ list. absurd (list (scalar_none _ n.property.count_kind scalar)) }

plain_coordinate : (n : Named) → IsPlain n → IsCoordinate n
unfolding IsCoordinate
plain_coordinate n plain = record { role = λ e. absurd (cc); lists = λ _. plain }

scalar_role : (role : Role) → role ≢ Indices → (name : Bytes) (ns : List Named) → All IsCoordinate ns → All IsCoordinate (with_role role (is_scalar name) ns)
unfolding IsCoordinate
scalar_role role other name ns each = role_all IsCoordinate role (is_scalar name) ns (λ n scalar _. coordinate role other name n scalar) each

vertex_found : (o : Option Declared) → option_map_or has_coordinates o false ≡ true → (e : Declared) × (o ≡ Some e) × (has_coordinates e ≡ true)
vertex_found None holds = absurd (cc)
vertex_found (Some e) holds = (e, refl, holds)

-- by the first vertex element, which has coordinates
pub vertex_parts : (es : List Declared) → option_map_or has_coordinates (find is_vertex es) false ≡ true
    → (v : Parted is_vertex es) × (has_coordinates v.first ≡ true)
unfolding parted
vertex_parts es holds =
    let (e, found, coordinates) = vertex_found (find is_vertex es) holds in
    let place = position_or_len is_vertex es in
    let there = sym (find_at is_vertex es) ∙ found in
    (parted is_vertex es e (slice_get_within es place e there), ap has_coordinates (get_or_from_slice_get es place e e there) ∙ coordinates)

-- a list in which one element is changed has some
some_changed : {A : Type 0} (f : A → A) (at : ℕ) (x : A) (xs rest : List A)
    → take at (x ∷ xs) ++ map f (take 1 (drop (length (take at (x ∷ xs))) (x ∷ xs))) ++ rest ≢ []
some_changed f zero x xs rest none = absurd (cc)
some_changed f (suc at) x xs rest none = absurd (cc)

none_with_role : (role : Role) (p : Named → Bool) (ns : List Named) → with_role role p ns ≡ [] → ns ≡ []
none_with_role role p [] none = refl
none_with_role role p (n ∷ ns) none =
    absurd (some_changed (λ (m : Named). record m { property = record m.property { role = role } }) (position_or_len p (n ∷ ns)) n ns (after_first p (n ∷ ns)) none)

-- an element with coordinates has properties
some_named : (e : Declared) → has_coordinates e ≡ true → e.properties ≢ []
some_named e holds none = let empty : has_coordinates e ≡ false = rw none refl in cc

map_none : (ns : List Named) → map (λ (n : Named). n.property) ns ≡ [] → ns ≡ []
map_none [] none = refl
map_none (n ∷ ns) none = absurd (cc)

some_properties : (e : Declared) → has_coordinates e ≡ true → (vertex_of e).properties ≢ []
some_properties e holds none =
    some_named e holds
    (none_with_role Z (is_scalar (codes "z")) e.properties
    (none_with_role Y (is_scalar (codes "y")) (with_role Z (is_scalar (codes "z")) e.properties)
    (none_with_role X (is_scalar (codes "x")) (with_role Y (is_scalar (codes "y")) (with_role Z (is_scalar (codes "z")) e.properties))
    (map_none (with_role X (is_scalar (codes "x")) (with_role Y (is_scalar (codes "y")) (with_role Z (is_scalar (codes "z")) e.properties))) none))))

vertex_used : (e : Declared) → has_coordinates e ≡ true → IsTidyElement e → IsVertexElement (vertex_of e)
unfolding IsCoordinate
vertex_used e holds tidy =
    let start = All-weaker IsPlain IsCoordinate plain_coordinate e.properties tidy.plain in
    let z = scalar_role Z (λ e. absurd (cc)) (codes "z") e.properties start in
    let y = scalar_role Y (λ e. absurd (cc)) (codes "y") (with_role Z (is_scalar (codes "z")) e.properties) z in
    let x = scalar_role X (λ e. absurd (cc)) (codes "x") (with_role Y (is_scalar (codes "y")) (with_role Z (is_scalar (codes "z")) e.properties)) y in
    record {
      used = refl;
      some = some_properties e holds;
      properties = All-map IsOfVertex (λ (n : Named). n.property)
          (with_role X (is_scalar (codes "x")) (with_role Y (is_scalar (codes "y")) (with_role Z (is_scalar (codes "z")) e.properties))) x;
    }

-- the used face element
list_some : (b : Bool) (kind : Option Kind) → (b && is_some kind) ≡ true → kind ≢ None
list_some true None holds = λ _. absurd (cc)
list_some true (Some k) holds = λ none. absurd (cc)
list_some false kind holds = absurd (cc)

plain_properties : (ns : List Named) → All IsPlain ns → All IsSkipped (map (λ (n : Named). n.property) ns)
plain_properties ns each = All-map IsSkipped (λ (n : Named). n.property) ns each

face_used : (e : Declared) → Parted is_index_list e.properties → IsTidyElement e → IsFaceElement (face_of e)
face_used e parts tidy =
    let property : Named → Property = λ n. n.property in
    let indices : Named = record parts.first { property = record parts.first.property { role = Indices } } in
    let front = before_first is_index_list e.properties in
    let behind = after_first is_index_list e.properties in
    record {
      used = refl;
      front = map property front;
      indices = record parts.first.property { role = Indices };
      behind = map property behind;
      properties = ap (map property) (role_parts Indices is_index_list e.properties parts) ∙ map-append property front (indices ∷ behind);
      front_skipped = plain_properties front (before_all IsPlain is_index_list e.properties tidy.plain);
      behind_skipped = plain_properties behind (after_all IsPlain is_index_list e.properties tidy.plain);
      role = refl;
      list = list_some _ parts.first.property.count_kind parts.passes;
    }

other_used : (e : Declared) → IsTidyElement e → IsOther (element_of Other e)
other_used e tidy = record { used = refl; properties = All-map IsSkipped (λ (n : Named). n.property) e.properties tidy.plain }

others : (es : List Declared) → All IsTidyElement es → All IsOther (map (element_of Other) es)
others es each = All-map IsOther (element_of Other) es (All-weaker IsTidyElement (λ e. IsOther (element_of Other e)) other_used es each)

second : (a b : Bool) → (a && b) ≡ true → b ≡ true
second true b both = both
second false b both = absurd (cc)

any_within : {A : Type 0} (p : A → Bool) (xs : List A) → list_any p xs ≡ true → A × (position_or_len p xs < length xs)
any_within p [] any = absurd (cc)
any_within {A = A} p (x ∷ xs) any = go (p x) (list_any p xs) any (any_within p xs) where
  go : (b r : Bool) → (b || r) ≡ true → (r ≡ true → A × (position_or_len p xs < length xs)) → A × (cond (not b) (1 + position_or_len p xs) 0 < suc (length xs))
  go true r any' rec = (x, omega arith)
  go false r any' rec = let w = rec any' in (x, omega (arith, w.1))

pub parted_any : {A : Type 0} (p : A → Bool) (xs : List A) → list_any p xs ≡ true → Parted p xs
parted_any p xs any = let w = any_within p xs any in parted p xs w.0 w.1

index_list : (e : Declared) → is_face e ≡ true → Parted is_index_list e.properties
index_list e face = parted_any is_index_list e.properties (second _ (list_any is_index_list e.properties) face)

few_by_parts : (whole half used front a b c a' b' c' : ℕ) → whole ≡ a + suc half → half ≡ b + suc c → used ≡ front + suc c' → front ≡ a' + suc b'
    → a' ≡ a → b' ≡ b → c' ≡ c → whole ≤ 64 → used ≤ 64
few_by_parts whole half used front a b c a' b' c' e f g h i j k few = omega arith

rows_of : (es : List Declared) → All IsTidyElement es → All (λ (e : Element). e.count ≤ 2147483648) (map (element_of Other) es)
rows_of es each =
    All-map (λ (e : Element). e.count ≤ 2147483648) (element_of Other) es
    (All-weaker IsTidyElement (λ e. e.count ≤ 2147483648) (λ e tidy. tidy.rows) es each)

-- the elements, laid out
module _ (es : List Declared) (v : Parted is_vertex es) (f : Parted is_face (after_first is_vertex es)) (each : All IsTidyElement es) where
  abbrev pub behind : List Declared
  behind = after_first is_vertex es

  abbrev pub before : List Element
  before = map (element_of Other) (before_first is_vertex es)

  abbrev pub between : List Element
  between = map (element_of Other) (before_first is_face behind)

  abbrev pub rest : List Element
  rest = map (element_of Other) (after_first is_face behind)

  in_order : used_elements es ≡ before ++ vertex_of v.first ∷ between ++ face_of f.first ∷ rest
  in_order =
      ap (λ (vs : List Declared). before ++ map vertex_of vs ++ between ++ map face_of (take 1 (from_first is_face behind)) ++ rest) v.one
      ∙ ap (λ (fs : List Declared). before ++ vertex_of v.first ∷ [] ++ between ++ map face_of fs ++ rest) f.one
      ∙ append_assoc (before ++ vertex_of v.first ∷ [] ++ between) (face_of f.first ∷ []) rest
      ∙ ap (λ (xs : List Element). xs ++ face_of f.first ∷ rest) (append_assoc before (vertex_of v.first ∷ []) between)

  tidy_behind : All IsTidyElement behind
  tidy_behind = after_all IsTidyElement is_vertex es each

  pub laid_out : has_coordinates v.first ≡ true → IsLaidOut (used_elements es)
  laid_out holds = record {
    before = before;
    vertex = vertex_of v.first;
    between = between;
    face = face_of f.first;
    behind = rest;
    order = in_order;
    before_other = others (before_first is_vertex es) (before_all IsTidyElement is_vertex es each);
    vertex_used = vertex_used v.first holds (first_all IsTidyElement is_vertex es v each);
    between_other = others (before_first is_face behind) (before_all IsTidyElement is_face behind tidy_behind);
    face_used = face_used f.first (index_list f.first f.passes) (first_all IsTidyElement is_face behind f tidy_behind);
    behind_other = others (after_first is_face behind) (after_all IsTidyElement is_face behind tidy_behind);
  }

  few_used : length es ≤ 64 → length (used_elements es) ≤ 64
  few_used few =
      let whole : length es ≡ length (before_first is_vertex es) + suc (length behind) =
      ap length v.whole ∙ length-append (before_first is_vertex es) (v.first ∷ behind) in
      let half : length behind ≡ length (before_first is_face behind) + suc (length (after_first is_face behind)) =
      ap length f.whole ∙ length-append (before_first is_face behind) (f.first ∷ after_first is_face behind) in
      let used : length (used_elements es) ≡ length (before ++ vertex_of v.first ∷ between) + suc (length rest) =
      ap length in_order ∙ length-append (before ++ vertex_of v.first ∷ between) (face_of f.first ∷ rest) in
      let front : length (before ++ vertex_of v.first ∷ between) ≡ length before + suc (length between) =
      length-append before (vertex_of v.first ∷ between) in
      few_by_parts (length es) (length behind) (length (used_elements es)) (length (before ++ vertex_of v.first ∷ between)) _ _ _ _ _ _ whole half used front
      (length-map (before_first is_vertex es) (element_of Other)) (length-map (before_first is_face behind) (element_of Other))
      (length-map (after_first is_face behind) (element_of Other)) few

  pub small : length es ≤ 64 → IsSmall (used_elements es)
  small few = record {
    few = few_used few;
    rows =
        let Few : Element → Type 0 = λ e. e.count ≤ 2147483648 in
        All-same Few (used_elements es) (before ++ vertex_of v.first ∷ between ++ face_of f.first ∷ rest) in_order
        (All-append Few (before ++ vertex_of v.first ∷ between) (face_of f.first ∷ rest)
        (All-append Few before (vertex_of v.first ∷ between) (rows_of (before_first is_vertex es) (before_all IsTidyElement is_vertex es each))
        (All-cons Few (vertex_of v.first) between (first_all IsTidyElement is_vertex es v each).rows
        (rows_of (before_first is_face behind) (before_all IsTidyElement is_face behind tidy_behind))))
        (All-cons Few (face_of f.first) rest (first_all IsTidyElement is_face behind f tidy_behind).rows
        (rows_of (after_first is_face behind) (after_all IsTidyElement is_face behind tidy_behind))));
  }
