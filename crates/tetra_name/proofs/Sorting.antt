-- The order of lists of points is strict and total, and a strictly sorted list is determined by its elements.
use Rattle.std.proofs.Common.{◌≡◌, ◌<◌, ◌⊎◌, Bool, true, false, cond, ◌&&◌, ◌||◌, List, [], ◌∷◌, refl, sym, ◌∙◌, ap₂, subst, inl, inr, arith, true≢false}
use Rattle.std.specs.Prelude.{nat_lt, ◌==◌}
use Rattle.std.proofs.lemmas.Bool.{cases_Bool, cases_order, or_cases, or_left, or_right, and_parts, and_from, eqb-true, eq-eqb, ltb-true, lt-ltb}
use Rattle.tpz_base.specs.declared.shape.Point.{Point}
use Rattle.tpz_base.specs.Lists.{insert_by}
use Rattle.tpz_base.specs.Points.{point_eq, point_lt}
use Rattle.tpz_base.specs.Tetrahedra.{points_lt}
use Rattle.tpz_base.proofs.PointLemmas.{point_eq-true, eq-point_eq, point_cong}
use Rattle.tpz_base.proofs.CutLaw.{Member}

-- one point is below another, as a fact
abbrev pub Below : Point → Point → Type 0
Below p q = (p.x < q.x) ⊎ ((p.x ≡ q.x) × ((p.y < q.y) ⊎ ((p.y ≡ q.y) × (p.z < q.z))))

pub below-true : (p q : Point) → point_lt p q ≡ true → Below p q
below-true p q e =
    elim (or_cases (nat_lt p.x q.x) (p.x == q.x && (nat_lt p.y q.y || (p.y == q.y && nat_lt p.z q.z))) e) [
      | inl h ↦ inl (ltb-true p.x q.x h)
      | inr h ↦
          let k = and_parts (p.x == q.x) (nat_lt p.y q.y || (p.y == q.y && nat_lt p.z q.z)) h in
          inr (
            eqb-true p.x q.x k.0,
            elim (or_cases (nat_lt p.y q.y) (p.y == q.y && nat_lt p.z q.z) k.1) [
              | inl i ↦ inl (ltb-true p.y q.y i)
              | inr i ↦ let j = and_parts (p.y == q.y) (nat_lt p.z q.z) i in inr (eqb-true p.y q.y j.0, ltb-true p.z q.z j.1)
            ],
          )
    ]

pub lt_by_x : (p q : Point) → p.x < q.x → point_lt p q ≡ true
lt_by_x p q h = or_left (nat_lt p.x q.x) (p.x == q.x && (nat_lt p.y q.y || (p.y == q.y && nat_lt p.z q.z))) (lt-ltb p.x q.x h)

pub lt_by_y : (p q : Point) → p.x ≡ q.x → p.y < q.y → point_lt p q ≡ true
lt_by_y p q e h =
    or_right (nat_lt p.x q.x) (p.x == q.x && (nat_lt p.y q.y || (p.y == q.y && nat_lt p.z q.z)))
    (and_from (p.x == q.x) (nat_lt p.y q.y || (p.y == q.y && nat_lt p.z q.z)) (eq-eqb p.x q.x e) (or_left (nat_lt p.y q.y) (p.y == q.y && nat_lt p.z q.z) (lt-ltb p.y q.y h)))

pub lt_by_z : (p q : Point) → p.x ≡ q.x → p.y ≡ q.y → p.z < q.z → point_lt p q ≡ true
lt_by_z p q e f h =
    or_right (nat_lt p.x q.x) (p.x == q.x && (nat_lt p.y q.y || (p.y == q.y && nat_lt p.z q.z)))
    (and_from (p.x == q.x) (nat_lt p.y q.y || (p.y == q.y && nat_lt p.z q.z)) (eq-eqb p.x q.x e)
    (or_right (nat_lt p.y q.y) (p.y == q.y && nat_lt p.z q.z) (and_from (p.y == q.y) (nat_lt p.z q.z) (eq-eqb p.y q.y f) (lt-ltb p.z q.z h))))

pub true-below : (p q : Point) → Below p q → point_lt p q ≡ true
true-below p q h = elim h [ inl a ↦ lt_by_x p q a | inr b ↦ elim b.1 [ inl c ↦ lt_by_y p q b.0 c | inr d ↦ lt_by_z p q b.0 d.0 d.1 ] ]

pub below_trans : (p q r : Point) → Below p q → Below q r → Below p r
below_trans p q r h k =
    elim h [
      | inl a ↦ elim k [ inl b ↦ inl (omega (arith, a, b)) | inr b ↦ inl (omega (arith, a, b.0)) ]
      | inr a ↦ elim k [
        | inl b ↦ inl (omega (arith, a.0, b))
        | inr b ↦ inr (
          a.0 ∙ b.0,
          elim a.1 [
            | inl c ↦ elim b.1 [ inl d ↦ inl (omega (arith, c, d)) | inr d ↦ inl (omega (arith, c, d.0)) ]
            | inr c ↦ elim b.1 [ inl d ↦ inl (omega (arith, c.0, d)) | inr d ↦ inr (c.0 ∙ d.0, omega (arith, c.1, d.1)) ]
          ],
        )
      ]
    ]

pub below_not : (p : Point) → Below p p → ⊥
below_not p h = elim h [ inl a ↦ absurd (omega (arith, a)) | inr b ↦ elim b.1 [ inl c ↦ absurd (omega (arith, c)) | inr d ↦ absurd (omega (arith, d.1)) ] ]

below_or : (p q : Point) → (p ≡ q) ⊎ (Below p q ⊎ Below q p)
below_or p q =
    elim (cases_order p.x q.x) [
      | inl e ↦ elim (cases_order p.y q.y) [
        | inl f ↦ elim (cases_order p.z q.z) [
          | inl g ↦ inl (point_cong p.x p.y p.z q.x q.y q.z e f g)
          | inr u ↦ elim u [ inl a ↦ inr (inl (inr (e, inr (f, a)))) | inr a ↦ inr (inr (inr (sym e, inr (sym f, a)))) ]
        ]
        | inr u ↦ elim u [ inl a ↦ inr (inl (inr (e, inl a))) | inr a ↦ inr (inr (inr (sym e, inl a))) ]
      ]
      | inr u ↦ elim u [ inl a ↦ inr (inl (inl a)) | inr a ↦ inr (inr (inl a)) ]
    ]

-- lists of points in lexicographic order, as a fact
abbrev pub ListBelow : List Point → List Point → Type 0
ListBelow [] [] = ⊥
ListBelow [] (q ∷ qs) = Unit {0}
ListBelow (p ∷ ps) [] = ⊥
ListBelow (p ∷ ps) (q ∷ qs) = Below p q ⊎ ((p ≡ q) × ListBelow ps qs)

pub list_below-true : (ps qs : List Point) → points_lt ps qs ≡ true → ListBelow ps qs
list_below-true [] [] e = true≢false (sym e)
list_below-true [] (q ∷ qs) e = tt
list_below-true (p ∷ ps) [] e = true≢false (sym e)
list_below-true (p ∷ ps) (q ∷ qs) e =
    elim (or_cases (point_lt p q) (point_eq p q && points_lt ps qs) e) [
      | inl h ↦ inl (below-true p q h)
      | inr h ↦ let k = and_parts (point_eq p q) (points_lt ps qs) h in inr (point_eq-true p q k.0, list_below-true ps qs k.1)
    ]

pub true-list_below : (ps qs : List Point) → ListBelow ps qs → points_lt ps qs ≡ true
true-list_below [] [] e = absurd e
true-list_below [] (q ∷ qs) e = refl
true-list_below (p ∷ ps) [] e = absurd e
true-list_below (p ∷ ps) (q ∷ qs) e =
    elim e [
      | inl h ↦ or_left (point_lt p q) (point_eq p q && points_lt ps qs) (true-below p q h)
      | inr h ↦ or_right (point_lt p q) (point_eq p q && points_lt ps qs) (and_from (point_eq p q) (points_lt ps qs) (eq-point_eq p q h.0) (true-list_below ps qs h.1))
    ]

pub list_below_trans : (ps qs rs : List Point) → ListBelow ps qs → ListBelow qs rs → ListBelow ps rs
list_below_trans [] [] rs h k = absurd h
list_below_trans [] (q ∷ qs) [] h k = absurd k
list_below_trans [] (q ∷ qs) (r ∷ rs) h k = tt
list_below_trans (p ∷ ps) [] rs h k = absurd h
list_below_trans (p ∷ ps) (q ∷ qs) [] h k = absurd k
list_below_trans (p ∷ ps) (q ∷ qs) (r ∷ rs) h k =
    elim h [
      | inl a ↦ elim k [ inl b ↦ inl (below_trans p q r a b) | inr b ↦ inl (subst (λ x. Below p x) b.0 a) ]
      | inr a ↦ elim k [ inl b ↦ inl (subst (λ x. Below x r) (sym a.0) b) | inr b ↦ inr (a.0 ∙ b.0, list_below_trans ps qs rs a.1 b.1) ]
    ]

pub list_below_not : (ps : List Point) → ListBelow ps ps → ⊥
list_below_not [] h = h
list_below_not (p ∷ ps) h = elim h [ inl a ↦ below_not p a | inr b ↦ list_below_not ps b.1 ]

pub list_below_or : (ps qs : List Point) → (ps ≡ qs) ⊎ (ListBelow ps qs ⊎ ListBelow qs ps)
list_below_or [] [] = inl refl
list_below_or [] (q ∷ qs) = inr (inl tt)
list_below_or (p ∷ ps) [] = inr (inr tt)
list_below_or (p ∷ ps) (q ∷ qs) =
    elim (below_or p q) [
      | inl e ↦ elim (list_below_or ps qs) [
        | inl f ↦ inl (ap₂ (λ (x : Point) (xs : List Point). x ∷ xs) e f)
        | inr u ↦ elim u [ inl a ↦ inr (inl (inr (e, a))) | inr a ↦ inr (inr (inr (sym e, a))) ]
      ]
      | inr u ↦ elim u [ inl a ↦ inr (inl (inl a)) | inr a ↦ inr (inr (inl a)) ]
    ]

-- each element is before all that follow it
abbrev pub Strict : {X : Type 0} → (X → X → Type 0) → List X → Type 0
Strict R [] = Unit {0}
Strict {X} R (x ∷ xs) = ((y : X) → Member xs y → R x y) × Strict R xs

-- two strictly sorted lists with the same elements are equal
pub strict_same : {X : Type 0} (R : X → X → Type 0) (irr : (x : X) → R x x → ⊥) (trans : (x y z : X) → R x y → R y z → R x z) (xs ys : List X)
    → Strict R xs → Strict R ys → ((z : X) → Member xs z → Member ys z) → ((z : X) → Member ys z → Member xs z) → xs ≡ ys
strict_same R irr trans [] [] h k f g = refl
strict_same R irr trans [] (y ∷ ys) h k f g = absurd (g y (inl refl))
strict_same R irr trans (x ∷ xs) [] h k f g = absurd (f x (inl refl))
strict_same {X} R irr trans (x ∷ xs) (y ∷ ys) h k f g =
    ap₂ (λ (a : X) (rest : List X). a ∷ rest) heads
    (strict_same R irr trans xs ys h.1 k.1
    (λ z m. elim (f z (inr m)) [ inl e ↦ absurd (irr x (subst (λ a. R x a) (sym e ∙ sym heads) (h.0 z m))) | inr n ↦ n ])
    (λ z m. elim (g z (inr m)) [ inl e ↦ absurd (irr y (subst (λ a. R y a) (sym e ∙ heads) (k.0 z m))) | inr n ↦ n ]))
  where
    heads : x ≡ y
    heads =
        elim (f x (inl refl)) [
          | inl e ↦ sym e
          | inr m ↦ elim (g y (inl refl)) [ inl e ↦ e | inr n ↦ absurd (irr x (trans x y x (h.0 y n) (k.0 x m))) ]
        ]

-- sorting a list of different elements by a total order
module _ {X : Type 0} (below : X → X → Bool) (R : X → X → Type 0) (fact : (x y : X) → below x y ≡ true → R x y) (trans : (x y z : X) → R x y → R y z → R x z) where
  pub insert_member : (x : X) (ys : List X) (z : X) → Member (insert_by below x ys) z → (x ≡ z) ⊎ Member ys z
  insert_member x [] z h = h
  insert_member x (y ∷ ys) z h =
      (elim (below y x) as (λ b. Member (cond b (y ∷ insert_by below x ys) (x ∷ y ∷ ys)) z → (x ≡ z) ⊎ Member (y ∷ ys) z) [
        | true ↦ λ k. elim k [ inl e ↦ inr (inl e) | inr m ↦ elim (insert_member x ys z m) [ inl e ↦ inl e | inr n ↦ inr (inr n) ] ]
        | false ↦ λ k. k
      ]) h

  pub insert_strict : (x : X) (ys : List X) → Strict R ys → ((y : X) → Member ys y → R x y ⊎ (below y x ≡ true)) → Strict R (insert_by below x ys)
  insert_strict x [] h apart = (λ y m. absurd m, tt)
  insert_strict x (y ∷ ys) h apart =
      elim (cases_Bool (below y x)) [
        | inl e ↦ rw e (
          λ z m. elim (insert_member x ys z m) [ inl f ↦ subst (λ a. R y a) f (fact y x e) | inr n ↦ h.0 z n ],
          insert_strict x ys h.1 (λ z m. apart z (inr m)),
        )
        | inr e ↦
            let here : R x y = elim (apart y (inl refl)) [ inl r ↦ r | inr t ↦ absurd (true≢false (sym t ∙ e)) ] in
            rw e (λ z m. elim m [ inl f ↦ subst (λ a. R x a) f here | inr n ↦ trans x y z here (h.0 z n) ], h)
      ]
