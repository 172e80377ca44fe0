-- The first legal pair in the order of keys is the legal pair of least key, and each legal pair is a directed edge.
use Rattle.std.proofs.Common.{◌≡◌, ℕ, Bool, true, false, cond, not, ◌&&◌, ◌||◌, List, [], ◌∷◌, map, refl, sym, ◌∙◌, ap, ap₂, subst, inl, inr, ◌⊎◌, true≢false, arith, Some, None}
use Rattle.std.specs.Prelude.{filter, fold, nat_lt, ◌==◌}
use Rattle.std.specs.List.{list_any, reduce}
use Rattle.std.proofs.lemmas.Bool.{cases_Bool, and_parts, and_from, not-true, or_cases, or_parts, or_left, or_right, ltb-false, eq-eqb}
use Rattle.std.proofs.lemmas.List.Folds.{list_any-append}
use Rattle.tpz_base.specs.declared.shape.Point.{Point}
use Rattle.tpz_base.specs.declared.shape.Tri.{Tri}
use Rattle.tpz_base.specs.Points.{point_eq, point_lt}
use Rattle.tpz_base.specs.Meshes.{Mesh, Edge, edge_eq, edges_of, is_outer, has_corner}
use Rattle.tpz_base.specs.Collapses.{key_of, key_lt, is_legal, are_neighbours, least_pair, pairs_of}
use Rattle.tpz_base.proofs.PointLemmas.{point_eq-true, eq-point_eq, point_eq_refl}
use Rattle.tpz_base.proofs.PointOrder.{point_lt_tie}
use Rattle.tpz_base.proofs.SimplifyLaw.{corner_is}
use Rattle.tpz_base.proofs.BorderLaw.{edge_back}
use Rattle.tpz_base.proofs.ListTests.{list_any-flat_map}
use Rattle.tpz_base.proofs.Locality.{filter_yes, filter_no}
use Rattle.tpz_base.proofs.StillLegal.{found}

-- a part of an order that fails both ways
tie : (a b : ℕ) (x y : Bool) → nat_lt a b || (a == b && x) ≡ false → nat_lt b a || (b == a && y) ≡ false → (a ≡ b) × (x ≡ false) × (y ≡ false)
tie a b x y h k =
    let p = or_parts (nat_lt a b) (a == b && x) h in
    let q = or_parts (nat_lt b a) (b == a && y) k in
    let e : a ≡ b = omega (arith, ltb-false a b p.0, ltb-false b a q.0) in
    let here : a == b ≡ true = eq-eqb a b e in
    let back : b == a ≡ true = eq-eqb b a (sym e) in
    (e, rw here at p.1, rw back at q.1)

-- two pairs of which neither key is below the other are one
key_tie : (M : Mesh) (e f : Edge) → key_lt (key_of M e) (key_of M f) ≡ false → key_lt (key_of M f) (key_of M e) ≡ false → e ≡ f
key_tie M e f h k =
    let a = tie (key_of M e).sweep (key_of M f).sweep _ _ h k in
    let b = tie (key_of M e).length (key_of M f).length _ _ a.1 a.2 in
    let c = or_parts (point_lt e.0 f.0) (point_eq e.0 f.0 && point_lt e.1 f.1) b.1 in
    let d = or_parts (point_lt f.0 e.0) (point_eq f.0 e.0 && point_lt f.1 e.1) b.2 in
    let from : e.0 ≡ f.0 = point_lt_tie e.0 f.0 c.0 d.0 in
    let there : point_eq e.0 f.0 ≡ true = eq-point_eq e.0 f.0 from in
    let back : point_eq f.0 e.0 ≡ true = eq-point_eq f.0 e.0 (sym from) in
    let less : point_lt e.1 f.1 ≡ false = rw there at c.1 in
    let more : point_lt f.1 e.1 ≡ false = rw back at d.1 in
    ap₂ (λ (p q : Point). (p, q)) from (point_lt_tie e.1 f.1 less more)

abbrev is_legal_in : Mesh → Edge → Bool
is_legal_in M e = is_legal M e.0 e.1

abbrev lesser : Mesh → Edge → Edge → Edge
lesser M p q = cond (key_lt (key_of M q) (key_of M p)) q p

pub edge_is : (e f : Edge) → edge_eq e f ≡ true → e ≡ f
edge_is e f h =
    let k = and_parts (point_eq e.0 f.0) (point_eq e.1 f.1) h in
    ap₂ (λ (p q : Point). (p, q)) (point_eq-true e.0 f.0 k.0) (point_eq-true e.1 f.1 k.1)

edge_same : (e : Edge) → edge_eq e e ≡ true
edge_same e = and_from (point_eq e.0 e.0) (point_eq e.1 e.1) (point_eq_refl e.0) (point_eq_refl e.1)

-- no legal pair has a lesser key
pub IsFirst : Mesh → Edge → Type 0
IsFirst M e = (f : Edge) → is_legal M f.0 f.1 ≡ true → key_lt (key_of M f) (key_of M e) ≡ false

lesser_first : (M : Mesh) (e a : Edge) → IsFirst M e → is_legal M a.0 a.1 ≡ true → lesser M e a ≡ e
unfolding IsFirst
lesser_first M e a first legal = rw (first a legal) refl

lesser_to_first : (M : Mesh) (e a : Edge) → IsFirst M e → is_legal M a.0 a.1 ≡ true → lesser M a e ≡ e
unfolding IsFirst
lesser_to_first M e a first legal =
    elim (cases_Bool (key_lt (key_of M e) (key_of M a))) [
      | inl k ↦ rw k refl
      | inr k ↦ rw k (key_tie M a e (first a legal) k)
    ]

lesser_legal : (M : Mesh) (a b : Edge) → is_legal M a.0 a.1 ≡ true → is_legal M b.0 b.1 ≡ true → is_legal M (lesser M a b).0 (lesser M a b).1 ≡ true
lesser_legal M a b h k =
    elim (key_lt (key_of M b) (key_of M a)) as (λ c. is_legal M (cond c b a).0 (cond c b a).1 ≡ true) [ true ↦ k | false ↦ h ]

folded : (M : Mesh) (e a : Edge) (xs : List Edge) → IsFirst M e → is_legal M e.0 e.1 ≡ true → is_legal M a.0 a.1 ≡ true
    → edge_eq a e || list_any (λ f. edge_eq f e) (filter (is_legal_in M) xs) ≡ true → fold (lesser M) a (filter (is_legal_in M) xs) ≡ e
folded M e a [] first legal_e legal h =
    elim (or_cases (edge_eq a e) false h) [ inl k ↦ edge_is a e k | inr k ↦ cc ]
folded M e a (x ∷ xs) first legal_e legal h =
    elim (cases_Bool (is_legal M x.0 x.1)) [
      | inr off ↦
          let skip = filter_no (is_legal_in M) x xs off in
          ap (fold (lesser M) a) skip ∙ folded M e a xs first legal_e legal (ap (λ ys. edge_eq a e || list_any (λ f. edge_eq f e) ys) (sym skip) ∙ h)
      | inl on ↦
          let take = filter_yes (is_legal_in M) x xs on in
          let h' : edge_eq a e || (edge_eq x e || list_any (λ f. edge_eq f e) (filter (is_legal_in M) xs)) ≡ true =
          ap (λ ys. edge_eq a e || list_any (λ f. edge_eq f e) ys) (sym take) ∙ h in
          let next : edge_eq (lesser M a x) e || list_any (λ f. edge_eq f e) (filter (is_legal_in M) xs) ≡ true =
          elim (or_cases (edge_eq a e) _ h') [
            | inl k ↦
                let is : a ≡ e = edge_is a e k in
                or_left (edge_eq (lesser M a x) e) _
                (subst (λ z. edge_eq z e ≡ true) (sym (subst (λ z. lesser M z x ≡ e) (sym is) (lesser_first M e x first on))) (edge_same e))
            | inr k ↦ elim (or_cases (edge_eq x e) _ k) [
              | inl l ↦
                  let is : x ≡ e = edge_is x e l in
                  or_left (edge_eq (lesser M a x) e) _
                  (subst (λ z. edge_eq z e ≡ true) (sym (subst (λ z. lesser M a z ≡ e) (sym is) (lesser_to_first M e a first legal))) (edge_same e))
              | inr l ↦ or_right (edge_eq (lesser M a x) e) _ l
            ]
          ] in
          ap (fold (lesser M) a) take ∙ folded M e (lesser M a x) xs first legal_e (lesser_legal M a x legal on) next
    ]

reduced : (M : Mesh) (e : Edge) (xs : List Edge) → IsFirst M e → is_legal M e.0 e.1 ≡ true → list_any (λ f. edge_eq f e) xs ≡ true
    → reduce (lesser M) (filter (is_legal_in M) xs) ≡ Some e
reduced M e [] first legal h = cc
reduced M e (x ∷ xs) first legal h =
    elim (cases_Bool (is_legal M x.0 x.1)) [
      | inr off ↦
          let rest : list_any (λ f. edge_eq f e) xs ≡ true =
          elim (or_cases (edge_eq x e) (list_any (λ f. edge_eq f e) xs) h) [
            | inl k ↦ absurd (true≢false (sym legal ∙ subst (λ (z : Edge). is_legal M z.0 z.1 ≡ false) (edge_is x e k) off))
            | inr k ↦ k
          ] in
          ap (reduce (lesser M)) (filter_no (is_legal_in M) x xs off) ∙ reduced M e xs first legal rest
      | inl on ↦
          let here : edge_eq x e || list_any (λ f. edge_eq f e) (filter (is_legal_in M) xs) ≡ true =
          elim (or_cases (edge_eq x e) (list_any (λ f. edge_eq f e) xs) h) [
            | inl k ↦ or_left (edge_eq x e) _ k
            | inr k ↦ or_right (edge_eq x e) _ (among M e xs legal k)
          ] in
          ap (reduce (lesser M)) (filter_yes (is_legal_in M) x xs on) ∙ ap Some (folded M e x xs first legal on here)
    ]
  where
    among : (M : Mesh) (e : Edge) (xs : List Edge) → is_legal M e.0 e.1 ≡ true → list_any (λ f. edge_eq f e) xs ≡ true → list_any (λ f. edge_eq f e) (filter (is_legal_in M) xs) ≡ true
    among M e [] legal h = h
    among M e (x ∷ xs) legal h =
        elim (or_cases (edge_eq x e) (list_any (λ f. edge_eq f e) xs) h) [
          | inl k ↦
              let on : is_legal M x.0 x.1 ≡ true = subst (λ (z : Edge). is_legal M z.0 z.1 ≡ true) (sym (edge_is x e k)) legal in
              ap (list_any (λ f. edge_eq f e)) (filter_yes (is_legal_in M) x xs on) ∙ or_left (edge_eq x e) _ k
          | inr k ↦ elim (cases_Bool (is_legal M x.0 x.1)) [
            | inl on ↦ ap (list_any (λ f. edge_eq f e)) (filter_yes (is_legal_in M) x xs on) ∙ or_right (edge_eq x e) _ (among M e xs legal k)
            | inr off ↦ ap (list_any (λ f. edge_eq f e)) (filter_no (is_legal_in M) x xs off) ∙ among M e xs legal k
          ]
        ]

-- the three edges of a triangle
abbrev pub turns : Tri → List Edge
turns t = (t.a, t.b) ∷ (t.b, t.c) ∷ (t.c, t.a) ∷ []

-- two different corners of a triangle are an edge of it, one way or the other
edge_of_two : (t : Tri) (p q : Point) → point_eq p q ≡ false → has_corner p t ≡ true → has_corner q t ≡ true
    → (list_any (λ e. edge_eq e (p, q)) (turns t) ≡ true) ⊎ (list_any (λ e. edge_eq e (q, p)) (turns t) ≡ true)
edge_of_two t p q n hp hq =
    let no : (x : Point) → x ≡ p → x ≡ q → ⊥ = λ x e f. true≢false (sym (eq-point_eq p q (sym e ∙ f)) ∙ n) in
    elim (corner_is p t hp) [
      | inl pa ↦ elim (corner_is q t hq) [
        | inl qa ↦ absurd (no t.a pa qa)
        | inr k ↦ elim k [ inl qb ↦ inl (first t.a t.b p q _ pa qb) | inr qc ↦ inr (third t.c t.a q p _ _ _ qc pa) ]
      ]
      | inr h ↦ elim h [
        | inl pb ↦ elim (corner_is q t hq) [
          | inl qa ↦ inr (first t.a t.b q p _ qa pb)
          | inr k ↦ elim k [ inl qb ↦ absurd (no t.b pb qb) | inr qc ↦ inl (second t.b t.c p q _ _ pb qc) ]
        ]
        | inr pc ↦ elim (corner_is q t hq) [
          | inl qa ↦ inl (third t.c t.a p q _ _ _ pc qa)
          | inr k ↦ elim k [ inl qb ↦ inr (second t.b t.c q p _ _ qb pc) | inr qc ↦ absurd (no t.c pc qc) ]
        ]
      ]
    ]
  where
    both : (x y p q : Point) → x ≡ p → y ≡ q → edge_eq (x, y) (p, q) ≡ true
    both x y p q e f = and_from (point_eq x p) (point_eq y q) (eq-point_eq x p e) (eq-point_eq y q f)

    first : (x y p q : Point) (r : Bool) → x ≡ p → y ≡ q → edge_eq (x, y) (p, q) || r ≡ true
    first x y p q r e f = or_left (edge_eq (x, y) (p, q)) r (both x y p q e f)

    second : (x y p q : Point) (r s : Bool) → x ≡ p → y ≡ q → r || (edge_eq (x, y) (p, q) || s) ≡ true
    second x y p q r s e f = or_right r _ (or_left (edge_eq (x, y) (p, q)) s (both x y p q e f))

    third : (x y p q : Point) (r s v : Bool) → x ≡ p → y ≡ q → r || (s || (edge_eq (x, y) (p, q) || v)) ≡ true
    third x y p q r s v e f = or_right r _ (or_right s _ (or_left (edge_eq (x, y) (p, q)) v (both x y p q e f)))

-- a point that isn't outer has an edge to each point with which it shares a triangle
pub edge_of_joined : (M : Mesh) (p q : Point) → is_outer M p ≡ false → point_eq p q ≡ false → list_any (λ t. has_corner p t && has_corner q t) M ≡ true
    → list_any (λ f. edge_eq f (p, q)) (edges_of M) ≡ true
edge_of_joined M p q inner differ joined =
    let x = found (λ t. has_corner p t && has_corner q t) M joined in
    let k = and_parts (has_corner p x.0) (has_corner q x.0) x.1 in
    let there : (f : Edge) → list_any (λ g. edge_eq g f) (turns x.0) ≡ true → list_any (λ g. edge_eq g f) (edges_of M) ≡ true =
    λ f l. list_any-flat_map (λ g. edge_eq g f) turns M ∙ x.2.any (λ t. list_any (λ g. edge_eq g f) (turns t)) l in
    elim (edge_of_two x.0 p q differ k.0 k.1) [
      | inl l ↦ there (p, q) l
      | inr l ↦ edge_back M p q inner (there (q, p) l)
    ]

-- each legal pair is a directed edge
pub has_edge : (M : Mesh) (e : Edge) → is_legal M e.0 e.1 ≡ true → list_any (λ f. edge_eq f e) (edges_of M) ≡ true
has_edge M e h =
    let a = and_parts (not (is_outer M e.0)) _ h in
    let b = and_parts (are_neighbours M e.0 e.1) _ a.1 in
    let n = and_parts (not (point_eq e.0 e.1)) _ b.0 in
    edge_of_joined M e.0 e.1 (not-true (is_outer M e.0) a.0) (not-true (point_eq e.0 e.1) n.0) n.1

pub first_is_least : (M : Mesh) (e : Edge) → is_legal M e.0 e.1 ≡ true
    → ((f : Edge) → is_legal M f.0 f.1 ≡ true → key_lt (key_of M f) (key_of M e) ≡ false) → least_pair M ≡ Some e
unfolding IsFirst
first_is_least M e legal first =
    let among : list_any (λ f. edge_eq f e) (pairs_of M) ≡ true =
    list_any-append (λ f. edge_eq f e) (edges_of M) (map (λ f. (f.1, f.0)) (edges_of M)) ∙ or_left (list_any (λ f. edge_eq f e) (edges_of M)) _ (has_edge M e legal) in
    reduced M e (pairs_of M) first legal among

none_passes : (M : Mesh) (xs : List Edge) → ((f : Edge) → is_legal M f.0 f.1 ≡ false) → filter (is_legal_in M) xs ≡ []
none_passes M [] none = refl
none_passes M (x ∷ xs) none = filter_no (is_legal_in M) x xs (none x) ∙ none_passes M xs none

pub none_is_least : (M : Mesh) → ((f : Edge) → is_legal M f.0 f.1 ≡ false) → least_pair M ≡ None
none_is_least M none = ap (reduce (lesser M)) (none_passes M (pairs_of M) none)
