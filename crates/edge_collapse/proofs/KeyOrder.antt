-- The order of keys: it is strict, it goes through, and a key between two others is on one side of each. The order of the code is this one.
use Rattle.std.proofs.Common.{◌≡◌, ℕ, Bool, true, false, not, ◌&&◌, ◌||◌, sym, ◌∙◌, ap, inl, inr, ◌⊎◌, true≢false, arith, Option, Some, None, refl}
use Rattle.std.specs.Prelude.{nat_lt, ◌==◌}
use Rattle.std.proofs.lemmas.Bool.{cases_Bool, or_cases, or_left, or_right, or_from, and_parts, and_from, and_right, ltb-true, ltb-false, le-ltb, lt-ltb, eq-eqb, eqb-true, not-true, not_from_false, false_from_ne_true}
use Rattle.tpz_base.specs.declared.shape.Point.{Point}
use Rattle.tpz_base.specs.Points.{point_eq, point_lt}
use Rattle.tpz_base.specs.Collapses.{CollapseKey, key_lt}
use Rattle.tpz_base.proofs.PointLemmas.{point_eq-true, eq-point_eq}
use Rattle.tpz_base.proofs.PointOrder.{through, same_not, point_lt-through, point_lt-same, point_lt_tie}
use Rattle.collapse_queue.specs.Queues.{comes_before}
use Rattle.edge_collapse.specs.declared.keys.Key.{Key}
use Rattle.edge_collapse.specs.contracts.keys.KeyOrd.TheImpl.{cmp-value}
use Rattle.edge_collapse.specs.Keys.{collapse_key}
use Rattle.edge_collapse.specs.Feeds.{is_covered}
use Rattle.edge_collapse.specs.Least.{comes_first}
use Rattle.std.specs.declared.cmp.Ordering.{Ordering}
use Rattle.std.specs.declared.cmp.Ordering.TheVariants.{Less, Equal}
use Rattle.std.specs.Ordering.{nat_cmp, ordering_then, is_lt}

-- the order on pairs of points, by the first and then by the second
abbrev ends_lt : Point → Point → Point → Point → Bool
ends_lt p q r s = point_lt p q || (point_eq p q && point_lt r s)

ends_through : (p q r a b c : Point) → ends_lt p q a b ≡ true → ends_lt q r b c ≡ true → ends_lt p r a c ≡ true
ends_through p q r a b c h k =
    elim (or_cases (point_lt p q) _ h) [
      | inl e ↦ elim (or_cases (point_lt q r) _ k) [
        | inl f ↦ or_left (point_lt p r) _ (point_lt-through p q r e f)
        | inr f ↦ let g = and_parts (point_eq q r) (point_lt b c) f in or_left (point_lt p r) _ (ap (point_lt p) (sym (point_eq-true q r g.0)) ∙ e)
      ]
      | inr e ↦
          let g = and_parts (point_eq p q) (point_lt a b) e in
          let is : p ≡ q = point_eq-true p q g.0 in
          elim (or_cases (point_lt q r) _ k) [
            | inl f ↦ or_left (point_lt p r) _ (ap (λ x. point_lt x r) is ∙ f)
            | inr f ↦
                let i = and_parts (point_eq q r) (point_lt b c) f in
                or_right (point_lt p r) _ (and_from (point_eq p r) (point_lt a c) (ap (λ x. point_eq x r) is ∙ i.0) (point_lt-through a b c g.1 i.1))
          ]
    ]

pub key_through : (a b c : CollapseKey) → key_lt a b ≡ true → key_lt b c ≡ true → key_lt a c ≡ true
key_through a b c h k =
    through a.sweep b.sweep c.sweep _ _ _ h k (λ e f. through a.length b.length c.length _ _ _ e f (λ g i. ends_through a.from b.from c.from a.to b.to c.to g i))

pub key_same : (a : CollapseKey) → key_lt a a ≡ false
key_same a =
    same_not a.sweep _ (same_not a.length _
    (or_from (point_lt a.from a.from) _ (point_lt-same a.from) (and_right (point_eq a.from a.from) (point_lt a.to a.to) (point_lt-same a.to))))

-- what is below c by a number first is below b, or b is below c
between : (a b c : ℕ) (x y z : Bool) → nat_lt a c || (a == c && z) ≡ true → (z ≡ true → (x ≡ true) ⊎ (y ≡ true))
    → (nat_lt a b || (a == b && x) ≡ true) ⊎ (nat_lt b c || (b == c && y) ≡ true)
between a b c x y z h next =
    elim (cases_Bool (nat_lt a b)) [
      | inl e ↦ inl (or_left (nat_lt a b) _ e)
      | inr e ↦ elim (cases_Bool (nat_lt b c)) [
        | inl f ↦ inr (or_left (nat_lt b c) _ f)
        | inr f ↦ elim (or_cases (nat_lt a c) (a == c && z) h) [
          | inl k ↦ absurd (omega (arith, ltb-false a b e, ltb-false b c f, ltb-true a c k))
          | inr k ↦
              let g = and_parts (a == c) z k in
              let ab : a ≡ b = omega (arith, ltb-false a b e, ltb-false b c f, eqb-true a c g.0) in
              let bc : b ≡ c = omega (arith, ltb-false a b e, ltb-false b c f, eqb-true a c g.0) in
              elim (next g.1) [
                | inl l ↦ inl (or_right (nat_lt a b) _ (and_from (a == b) x (eq-eqb a b ab) l))
                | inr l ↦ inr (or_right (nat_lt b c) _ (and_from (b == c) y (eq-eqb b c bc) l))
              ]
        ]
      ]
    ]

point_between : (p q r : Point) → point_lt p r ≡ true → (point_lt p q ≡ true) ⊎ (point_lt q r ≡ true)
point_between p q r h =
    between p.x q.x r.x _ _ _ h (λ e. between p.y q.y r.y _ _ _ e (λ f. last p.z q.z r.z f))
  where
    last : (a b c : ℕ) → nat_lt a c ≡ true → (nat_lt a b ≡ true) ⊎ (nat_lt b c ≡ true)
    last a b c h =
        elim (cases_Bool (nat_lt a b)) [
          | inl e ↦ inl e
          | inr e ↦ inr (lt-ltb b c (omega (arith, ltb-false a b e, ltb-true a c h)))
        ]

ends_between : (p q r a b c : Point) → ends_lt p r a c ≡ true → (ends_lt p q a b ≡ true) ⊎ (ends_lt q r b c ≡ true)
ends_between p q r a b c h =
    elim (cases_Bool (point_lt p q)) [
      | inl e ↦ inl (or_left (point_lt p q) _ e)
      | inr e ↦ elim (cases_Bool (point_lt q r)) [
        | inl f ↦ inr (or_left (point_lt q r) _ f)
        | inr f ↦ elim (or_cases (point_lt p r) _ h) [
          | inl k ↦ absurd (elim (point_between p q r k) [ inl l ↦ true≢false (sym l ∙ e) | inr l ↦ true≢false (sym l ∙ f) ])
          | inr k ↦
              let g = and_parts (point_eq p r) (point_lt a c) k in
              let pr : p ≡ r = point_eq-true p r g.0 in
              let pq : p ≡ q = point_lt_tie p q e (ap (point_lt q) pr ∙ f) in
              let qr : q ≡ r = sym pq ∙ pr in
              elim (point_between a b c g.1) [
                | inl l ↦ inl (or_right (point_lt p q) _ (and_from (point_eq p q) (point_lt a b) (eq-point_eq p q pq) l))
                | inr l ↦ inr (or_right (point_lt q r) _ (and_from (point_eq q r) (point_lt b c) (eq-point_eq q r qr) l))
              ]
        ]
      ]
    ]

pub key_between : (a b c : CollapseKey) → key_lt a c ≡ true → (key_lt a b ≡ true) ⊎ (key_lt b c ≡ true)
key_between a b c h =
    between a.sweep b.sweep c.sweep _ _ _ h (λ e. between a.length b.length c.length _ _ _ e (λ f. ends_between a.from b.from c.from a.to b.to c.to f))

-- a lesser key covers what the other one covers
pub cover_less : (j k : Key) (c : CollapseKey) → key_lt (collapse_key j) (collapse_key k) ≡ true → is_covered (Some k) c ≡ true → is_covered (Some j) c ≡ true
cover_less j k c less h =
    not_from_false (key_lt c (collapse_key j)) (false_from_ne_true (key_lt c (collapse_key j))
    (λ e. true≢false (sym (key_through c (collapse_key j) (collapse_key k) e less) ∙ not-true (key_lt c (collapse_key k)) h)))

-- a key that isn't greater covers what the other one covers
pub cover_more : (j k : Key) (c : CollapseKey) → key_lt (collapse_key k) (collapse_key j) ≡ false → is_covered (Some k) c ≡ true → key_lt c (collapse_key j) ≡ false
cover_more j k c less h =
    false_from_ne_true (key_lt c (collapse_key j))
    (λ e. elim (key_between c (collapse_key k) (collapse_key j) e) [
      | inl l ↦ true≢false (sym l ∙ not-true (key_lt c (collapse_key k)) h)
      | inr l ↦ true≢false (sym l ∙ less)
    ])

-- a key that comes before the best one so far covers what that one covers
pub cover_first : (k : Key) (best : Option Key) (c : CollapseKey) → comes_first k best ≡ true → is_covered best c ≡ true → is_covered (Some k) c ≡ true
cover_first k None c h covered = absurd (true≢false (sym covered))
cover_first k (Some b) c h covered = cover_less k b c h covered

-- a key covers itself
pub cover_self : (k : Key) (c : CollapseKey) → collapse_key k ≡ c → is_covered (Some k) c ≡ true
cover_self k c e = ap (λ d. not (key_lt d (collapse_key k))) (sym e) ∙ ap not (key_same (collapse_key k))

-- so does the best one so far, where no key comes before it
pub cover_best : (k : Key) (best : Option Key) → comes_first k best ≡ false → is_covered best (collapse_key k) ≡ true
cover_best k None h = absurd (true≢false h)
cover_best k (Some b) h = ap not h

less_cmp : (m n : ℕ) → nat_lt m n ≡ true → nat_cmp m n ≡ Less
less_cmp m n e = rw e refl

same_cmp : (m n : ℕ) → m ≡ n → nat_cmp m n ≡ Equal
same_cmp m n e =
    let off : nat_lt m n ≡ false = le-ltb m n (omega (arith, e)) in
    let on : m == n ≡ true = eq-eqb m n e in
    rw (off, on) refl

-- an order by a number first, then by another test
then_less : (m n : ℕ) (b : Bool) (o : Ordering) → nat_lt m n || (m == n && b) ≡ true → (b ≡ true → o ≡ Less) → ordering_then (nat_cmp m n) o ≡ Less
then_less m n b o h k =
    elim (or_cases (nat_lt m n) (m == n && b) h) [
      | inl e ↦ ap (λ r. ordering_then r o) (less_cmp m n e)
      | inr e ↦
          let l = and_parts (m == n) b e in
          ap (λ r. ordering_then r o) (same_cmp m n (eqb-true m n l.0)) ∙ k l.1
    ]

abbrev point_cmp : Point → Point → Ordering
point_cmp p q = ordering_then (nat_cmp p.x q.x) (ordering_then (nat_cmp p.y q.y) (nat_cmp p.z q.z))

point_less : (p q : Point) → point_lt p q ≡ true → point_cmp p q ≡ Less
point_less p q h = then_less p.x q.x _ _ h (λ k. then_less p.y q.y _ _ k (λ l. less_cmp p.z q.z l))

point_same : (p q : Point) → p ≡ q → point_cmp p q ≡ Equal
point_same p q e =
    ap (λ o. ordering_then o (ordering_then (nat_cmp p.y q.y) (nat_cmp p.z q.z))) (same_cmp p.x q.x (ap (λ (r : Point). r.x) e))
    ∙ ap (λ o. ordering_then o (nat_cmp p.z q.z)) (same_cmp p.y q.y (ap (λ (r : Point). r.y) e))
    ∙ same_cmp p.z q.z (ap (λ (r : Point). r.z) e)

ends_less : (p q r s : Point) → point_lt p q || (point_eq p q && point_lt r s) ≡ true → ordering_then (point_cmp p q) (point_cmp r s) ≡ Less
ends_less p q r s h =
    elim (or_cases (point_lt p q) (point_eq p q && point_lt r s) h) [
      | inl e ↦ ap (λ o. ordering_then o (point_cmp r s)) (point_less p q e)
      | inr e ↦
          let l = and_parts (point_eq p q) (point_lt r s) e in
          ap (λ o. ordering_then o (point_cmp r s)) (point_same p q (point_eq-true p q l.0)) ∙ point_less r s l.1
    ]

cmp_less : (a b : Key) → key_lt (collapse_key a) (collapse_key b) ≡ true → cmp-value.it a b ≡ Less
cmp_less a b h =
    then_less a.sweep b.sweep _ _ h (λ k. then_less a.length b.length _ _ k (λ l. ends_less a.from b.from a.to b.to l))

-- an entry that doesn't come before another has no lesser key
pub not_before : (i j : ℕ) (a b : Key) → comes_before cmp-value.it (i, a) (j, b) ≡ false → key_lt (collapse_key a) (collapse_key b) ≡ false
not_before i j a b h =
    false_from_ne_true (key_lt (collapse_key a) (collapse_key b))
    (λ k. true≢false (sym (ap (λ o. is_lt (ordering_then o (nat_cmp i j))) (cmp_less a b k)) ∙ h))
