-- A table as a finite map, by its list of entries.
use Rattle.std.proofs.Common.{◌≡◌, ℕ, zero, suc, ◌<◌, Bool, true, false, ◌&&◌, cond, List, [], ◌∷◌, map, length, slice_index_or, refl, sym, ◌∙◌, ap, ap₂, arith}
use Rattle.std.specs.Prelude.{◌==◌, Option, Some, None, Contains, IsSome}
use Rattle.std.specs.declared.cmp.Ordering.{Ordering}
use Rattle.std.specs.declared.cmp.Ordering.TheVariants.{Less, Equal, Greater}
use Rattle.std.specs.Ordering.{nat_cmp, eq_by_cmp, is_eq, ordering_then}
use Rattle.std.specs.Cmp.{IsTotalOrder, on_total}
use Rattle.std.specs.Cmp.Lexicographic.{slice_cmp, nat_list_cmp_total}
use Rattle.std.specs.FinMap.{IsAntisymmetric, find, get, insert, remove, get-from_entries, get-insert, get-remove, same_map, slice_cmp-IsAntisymmetric, nat_cmp-IsAntisymmetric}
use Rattle.std.specs.Map.{keys_of, lookup}
use Rattle.std.proofs.lemmas.Bool.{eqb-true}
use Rattle.std.proofs.lemmas.List.{length-map}
use Rattle.std.proofs.lemmas.Map.Views.{Contains-keys_from_lookup}
use Rattle.std.proofs.lemmas.Bool.Decides.{nat_tests}
use Rattle.tetra_name.specs.declared.shape.Tet.{Tet}
use Rattle.tri_stream.specs.declared.names.StreamId.{StreamId}
use Rattle.assign.specs.declared.leaves.Key.{Key}
use Rattle.assign.specs.Names.{numbers_of, tet_cmp, name_of, table_of}

pub tet_cmp_total : IsTotalOrder tet_cmp
tet_cmp_total = on_total numbers_of nat_list_cmp_total

numbers_same : (s t : Tet) → numbers_of s ≡ numbers_of t → s ≡ t
numbers_same s t e =
    let x : s.centre.x ≡ t.centre.x = cc in
    let y : s.centre.y ≡ t.centre.y = cc in
    let z : s.centre.z ≡ t.centre.z = cc in
    let i : s.slot ≡ t.slot = cc in
    rebuilt x y z i
  where
    made : ℕ → ℕ → ℕ → ℕ → Tet
    made x y z i = record { centre = record { x = x; y = y; z = z }; slot = i }

    rebuilt : s.centre.x ≡ t.centre.x → s.centre.y ≡ t.centre.y → s.centre.z ≡ t.centre.z → s.slot ≡ t.slot → s ≡ t
    rebuilt x y z i = four (s.centre.x) (s.centre.y) (s.centre.z) (s.slot) (t.centre.x) (t.centre.y) (t.centre.z) (t.slot) x y z i where
      four : (a b c d a' b' c' d' : ℕ) → a ≡ a' → b ≡ b' → c ≡ c' → d ≡ d' → made a b c d ≡ made a' b' c' d'
      four a b c d a' b' c' d' e f g h = cc

pub tet_cmp_same : IsAntisymmetric tet_cmp
tet_cmp_same s t e = numbers_same s t (slice_cmp-IsAntisymmetric nat_cmp-IsAntisymmetric (numbers_of s) (numbers_of t) e)

abbrev pub key_eq : Key → Key → Bool
key_eq j k = j.x == k.x && (j.y == k.y && (j.z == k.z && j.slot == k.slot))

abbrev pub key_at : Tet → Key
key_at t = record { x = t.centre.x; y = t.centre.y; z = t.centre.z; slot = t.slot }

is_eq-nat_cmp : (m n : ℕ) → is_eq (nat_cmp m n) ≡ (m == n)
is_eq-nat_cmp m n = grind (arith, nat_tests)

is_eq-then : (r s : Ordering) → is_eq (ordering_then r s) ≡ (is_eq r && is_eq s)
is_eq-then Less s = refl
is_eq-then Equal s = refl
is_eq-then Greater s = refl

is_eq-slices : (a b : ℕ) (xs ys : List ℕ) → is_eq (slice_cmp nat_cmp (a ∷ xs) (b ∷ ys)) ≡ (a == b && is_eq (slice_cmp nat_cmp xs ys))
is_eq-slices a b xs ys = is_eq-then (nat_cmp a b) (slice_cmp nat_cmp xs ys) ∙ ap (λ v. v && is_eq (slice_cmp nat_cmp xs ys)) (is_eq-nat_cmp a b)

and_true : (b : Bool) → (b && true) ≡ b
and_true true = refl
and_true false = refl

-- names tie exactly where their keys are equal
tied : (q : Tet) (k : Key) → eq_by_cmp tet_cmp q (name_of k) ≡ key_eq (key_at q) k
tied q k =
    is_eq-slices q.centre.x k.x (q.centre.y ∷ q.centre.z ∷ q.slot ∷ []) (k.y ∷ k.z ∷ k.slot ∷ [])
    ∙ ap (λ v. q.centre.x == k.x && v) (is_eq-slices q.centre.y k.y (q.centre.z ∷ q.slot ∷ []) (k.z ∷ k.slot ∷ [])
    ∙ ap (λ v. q.centre.y == k.y && v) (is_eq-slices q.centre.z k.z (q.slot ∷ []) (k.slot ∷ [])
    ∙ ap (λ v. q.centre.z == k.z && v) (is_eq-slices q.slot k.slot [] [] ∙ and_true (q.slot == k.slot))))

eq_sym : (m n : ℕ) → (m == n) ≡ (n == m)
eq_sym m n = grind (arith, nat_tests)

key_eq-sym : (j k : Key) → key_eq j k ≡ key_eq k j
key_eq-sym j k = ap₂ (λ u v. u && v) (eq_sym j.x k.x) (ap₂ (λ u v. u && v) (eq_sym j.y k.y) (ap₂ (λ u v. u && v) (eq_sym j.z k.z) (eq_sym j.slot k.slot)))

find_lookup : (es : List (Key × StreamId)) (q : Tet) → find tet_cmp q (map (λ e. (name_of e.0, e.1)) es) ≡ lookup (key_eq (key_at q)) es
find_lookup [] q = refl
find_lookup (e ∷ es) q = ap₂ (λ b o. cond b (Some e.1) o) (tied q e.0) (find_lookup es q)

pub get_is : (es : List (Key × StreamId)) (q : Tet) → get (table_of es) q ≡ lookup (key_eq (key_at q)) es
get_is es q = get-from_entries tet_cmp_total (map (λ e. (name_of e.0, e.1)) es) q ∙ find_lookup es q

pub set_table : (es fs : List (Key × StreamId)) (k : Key) (name : Tet) (id : StreamId) → name_of k ≡ name
    → ((q : Key) → lookup (key_eq q) fs ≡ cond (key_eq k q) (Some id) (lookup (key_eq q) es)) → table_of fs ≡ insert (table_of es) name id
set_table es fs k name id e h =
    same_map tet_cmp_total tet_cmp_same (table_of fs) (insert (table_of es) name id)
    (λ q. get_is fs q ∙ h (key_at q)
    ∙ ap₂ (λ b o. cond b (Some id) o) (key_eq-sym k (key_at q) ∙ sym (tied q k) ∙ ap (eq_by_cmp tet_cmp q) e) (sym (get_is es q))
    ∙ sym (get-insert tet_cmp_total (table_of es) name id q))

pub take_table : (es fs : List (Key × StreamId)) (k : Key) (name : Tet) → name_of k ≡ name
    → ((q : Key) → lookup (key_eq q) fs ≡ cond (key_eq k q) None (lookup (key_eq q) es)) → table_of fs ≡ remove (table_of es) name
take_table es fs k name e h =
    same_map tet_cmp_total tet_cmp_same (table_of fs) (remove (table_of es) name)
    (λ q. get_is fs q ∙ h (key_at q)
    ∙ ap₂ (λ b o. cond b None o) (key_eq-sym k (key_at q) ∙ sym (tied q k) ∙ ap (eq_by_cmp tet_cmp q) e) (sym (get_is es q))
    ∙ sym (get-remove tet_cmp_total (table_of es) name q))

pub get_by_key : (es : List (Key × StreamId)) (k : Key) (name : Tet) → name_of k ≡ name → lookup (key_eq k) es ≡ get (table_of es) name
get_by_key es k name e = sym (get_is es (name_of k)) ∙ ap (get (table_of es)) e

-- keys that are equal are the same
key_same : (j k : Key) → key_eq j k ≡ true → j ≡ k
key_same j k e =
    let yz = and_parts (j.x == k.x) (j.y == k.y && (j.z == k.z && j.slot == k.slot)) e in
    let z = and_parts (j.y == k.y) (j.z == k.z && j.slot == k.slot) yz.1 in
    let slot = and_parts (j.z == k.z) (j.slot == k.slot) z.1 in
    rebuilt (eqb-true j.x k.x yz.0) (eqb-true j.y k.y z.0) (eqb-true j.z k.z slot.0) (eqb-true j.slot k.slot slot.1)
  where
    and_parts : (a b : Bool) → (a && b) ≡ true → (a ≡ true) × (b ≡ true)
    and_parts true b h = (refl, h)
    and_parts false b h = absurd cc

    made : ℕ → ℕ → ℕ → ℕ → Key
    made x y z i = record { x = x; y = y; z = z; slot = i }

    rebuilt : j.x ≡ k.x → j.y ≡ k.y → j.z ≡ k.z → j.slot ≡ k.slot → j ≡ k
    rebuilt x y z i = four j.x j.y j.z j.slot k.x k.y k.z k.slot x y z i where
      four : (a b c d a' b' c' d' : ℕ) → a ≡ a' → b ≡ b' → c ≡ c' → d ≡ d' → made a b c d ≡ made a' b' c' d'
      four a b c d a' b' c' d' e f g h = cc

contains_map : (ks : List Key) (k : Key) → Contains ks k → Contains (map name_of ks) (name_of k)
contains_map ks k (i, h, e) = (i, rw (length-map ks name_of) h, at_place ks i h e)
  where
    at_place : (xs : List Key) (i : ℕ) → i < length xs → slice_index_or xs i k ≡ k → slice_index_or (map name_of xs) i (name_of k) ≡ name_of k
    at_place [] i h e = absurd (omega arith)
    at_place (x ∷ xs) zero h e = ap name_of e
    at_place (x ∷ xs) (suc i) h e = at_place xs i (omega arith) e

-- a name that has a stream is that of a key
pub named_key : (es : List (Key × StreamId)) (name : Tet) (id : StreamId) → get (table_of es) name ≡ Some id → Contains (map name_of (keys_of es)) name
named_key es name id is =
    let found : lookup (key_eq (key_at name)) es ≡ Some id = sym (get_is es name) ∙ is in
    contains_map (keys_of es) (key_at name) (Contains-keys_from_lookup key_same (key_at name) es (some_is (lookup (key_eq (key_at name)) es) id found))
  where
    some_is : (o : Option StreamId) (x : StreamId) → o ≡ Some x → IsSome o
    some_is None x e = absurd cc
    some_is (Some y) x e = refl
