-- Entries that cover the legal pairs of their vertices: what changes as one is set.
use Rattle.std.proofs.Common.{◌≡◌, ◌≢◌, ℕ, zero, suc, ◌+◌, ◌<◌, ◌≤◌, Bool, true, false, cond, not, ◌||◌, List, [], ◌∷◌, refl, sym, ◌∙◌, ap, ap₂, subst, inl, inr, true≢false, arith, Option, Some, None, length}
use Rattle.std.specs.Prelude.{slice_set, ◌==◌, IsSome}
use Rattle.std.specs.Option.{IfSome}
use Rattle.std.proofs.lemmas.Bool.{cases_Bool, cases_eq, and_parts, and_from, not-true, or_from, eqb-true, eq-eqb, false_from_ne_true}
use Rattle.std.proofs.lemmas.List.{get_or-set_same, get_or-set_other}
use Rattle.tpz_base.specs.declared.shape.Point.{Point}
use Rattle.tpz_base.specs.Lists.{has}
use Rattle.tpz_base.specs.Points.{point_eq}
use Rattle.tpz_base.specs.Meshes.{Mesh, is_outer, has_vertex}
use Rattle.tpz_base.specs.Collapses.{CollapseKey, is_legal, least_pair, key_of, key_lt}
use Rattle.tpz_base.proofs.PointLemmas.{point_eq-true, point_eq_refl}
use Rattle.tpz_base.proofs.FirstLegal.{first_is_least, none_is_least}
use Rattle.collapse_queue.specs.Queues.{key_of as entry_of, empty_queue, comes_before}
use Rattle.collapse_queue.proofs.QueueLaw.{key_of-empty_queue, below_capacity}
use Rattle.patch_mesh.specs.Slots.{point_at, IsDistinct}
use Rattle.edge_collapse.specs.declared.keys.Key.{Key}
use Rattle.edge_collapse.specs.contracts.keys.KeyOrd.TheImpl.{cmp-value}
use Rattle.edge_collapse.specs.Keys.{collapse_key}
use Rattle.edge_collapse.specs.Feeds.{made_key, is_covered, Covers, IsFed, IsFedBut, IsSane, AreSane, is_fresh, is_due, is_undue, undue}
use Rattle.edge_collapse.proofs.KeyOrder.{cover_more, not_before}
use Rattle.edge_collapse.proofs.LeastLaw.{legal_pair}

pub set_there : (q : List (Option Key)) (i c : ℕ) (k : Option Key) → i < length q → c ≡ i → entry_of (slice_set q i k) c ≡ k
set_there q i c k h e = rw e (get_or-set_same q i k None h)

pub set_off : (q : List (Option Key)) (i c : ℕ) (k : Option Key) → c ≢ i → entry_of (slice_set q i k) c ≡ entry_of q c
set_off q i c k ne = get_or-set_other q i c k None ne

-- an outer point has no legal pair
pub covers_outer : (M : Mesh) (p : Point) → is_outer M p ≡ true → Covers M p None
covers_outer M p outer = record {
  pair = λ w legal. absurd (true≢false (sym outer ∙ not-true (is_outer M p) (and_parts (not (is_outer M p)) _ legal).0));
}

-- the point is no longer excepted once its entry was set
pub fed_set : (D : Point → Bool) (vs : List Point) (M : Mesh) (q : List (Option Key)) (v : ℕ) (o : Option Key) → IsDistinct vs → v < length vs → length vs ≤ length q
    → Covers M (point_at vs v) o → IsFedBut (λ x. point_eq (point_at vs v) x || D x) vs M q → IsFedBut D vs M (slice_set q v o)
fed_set D vs M q v o distinct at long covers f = record {
  fed = λ x h off. elim (cases_eq x v) [
    | inl is ↦
        let entry : o ≡ entry_of (slice_set q v o) x = sym (set_there q v x o (omega arith) is) in
        let here : Covers M (point_at vs x) o = subst (λ n. Covers M (point_at vs n) o) (sym is) covers in
        subst (Covers M (point_at vs x)) entry here
    | inr ne ↦
        let apart : point_eq (point_at vs v) (point_at vs x) ≡ false =
        false_from_ne_true (point_eq (point_at vs v) (point_at vs x)) (λ k. ne (sym (distinct.once v x k at h))) in
        subst (Covers M (point_at vs x)) (sym (set_off q v x o ne)) (f.fed x h (or_from (point_eq (point_at vs v) (point_at vs x)) (D (point_at vs x)) apart off))
  ];
}

-- an entry is taken out: its vertex is excepted
pub fed_taken : (vs : List Point) (M : Mesh) (q : List (Option Key)) (v : ℕ) (o : Option Key) → IsFed vs M q → IsFedBut (λ x. point_eq (point_at vs v) x || false) vs M (slice_set q v o)
fed_taken vs M q v o f = record {
  fed = λ x h off. elim (cases_eq x v) [
    | inl is ↦ absurd (true≢false (sym (is_there is) ∙ off))
    | inr ne ↦ subst (Covers M (point_at vs x)) (sym (set_off q v x o ne)) (f.fed x h refl)
  ];
}
  where
    is_there : {x : ℕ} → x ≡ v → point_eq (point_at vs v) (point_at vs x) || false ≡ true
    is_there {x} is = rw is (first (point_eq (point_at vs v) (point_at vs v)) (point_eq_refl (point_at vs v)))
      where
        first : (b : Bool) → b ≡ true → b || false ≡ true
        first true e = refl
        first false e = absurd (true≢false (sym e))

-- the same, as the calls behind it ask
pub fed_excepting : (vs : List Point) (M : Mesh) (q : List (Option Key)) (v : ℕ) (u : Point) → u ≡ point_at vs v → IsFedBut (λ x. point_eq (point_at vs v) x || false) vs M q
    → IsFedBut (point_eq u) vs M q
fed_excepting vs M q v u is f = record {
  fed = λ x h off. f.fed x h (or_from (point_eq (point_at vs v) (point_at vs x)) false (ap (λ p. point_eq p (point_at vs x)) (sym is) ∙ off) refl);
}

pub sane_set : (vs : List Point) (q : List (Option Key)) (v : ℕ) (o : Option Key) → v < length q → IfSome o (IsSane vs v) → AreSane vs q → AreSane vs (slice_set q v o)
sane_set vs q v o h here sane = record {
  sane = λ c j e. elim (cases_eq c v) [
    | inl is ↦
        let at : o ≡ Some j = sym (set_there q v c o h is) ∙ e in
        subst (λ n. IsSane vs n j) (sym is) (subst (λ r. IfSome r (IsSane vs v)) at here)
    | inr ne ↦ sane.sane c j (sym (set_off q v c o ne) ∙ e)
  ];
}

no_key : (k : Key) → ◌≡◌ {A = Option Key} None (Some k) → ⊥
no_key k e = cc

-- an empty queue is sane
pub sane_empty : (vs : List Point) (q : List (Option Key)) (n : ℕ) → q ≡ empty_queue n → AreSane vs q
sane_empty vs q n is = record {
  sane = λ c k e. absurd (no_key k (sym (key_of-empty_queue n c) ∙ ap (λ r. entry_of r c) (sym is) ∙ e));
}

abbrev cost_key : ℕ → ℕ → Point → Point → CollapseKey
cost_key a b p q = record { sweep = a; length = b; from = p; to = q }

-- a key that is that of its pair
pub fresh_is : (M : Mesh) (k : Key) → is_fresh M k ≡ true → collapse_key k ≡ key_of M (k.from, k.to)
fresh_is M k h =
    let now : Key = made_key M (k.from, k.to) in
    let l = and_parts (now.sweep == k.sweep) (now.length == k.length) h in
    ap₂ (λ (x y : ℕ). cost_key x y k.from k.to) (sym (eqb-true now.sweep k.sweep l.0)) (sym (eqb-true now.length k.length l.1))

pub made_fresh : (M : Mesh) (k : Key) → k ≡ made_key M (k.from, k.to) → is_fresh M k ≡ true
made_fresh M k e =
    and_from ((made_key M (k.from, k.to)).sweep == k.sweep) ((made_key M (k.from, k.to)).length == k.length)
    (eq-eqb (made_key M (k.from, k.to)).sweep k.sweep (ap (λ (x : Key). x.sweep) (sym e))) (eq-eqb (made_key M (k.from, k.to)).length k.length (ap (λ (x : Key). x.length) (sym e)))

abbrev one_of : Bool → ℕ
one_of b = cond b 1 0

-- how many entries aren't due, where one is set
pub undue_more : (M : Mesh) (q : List (Option Key)) (i : ℕ) (o : Option Key) → i < length q
    → undue M (slice_set q i o) + cond (is_undue M (entry_of q i)) 1 0 ≡ undue M q + cond (is_undue M o) 1 0
undue_more M [] i o h = absurd (omega arith)
undue_more M (p ∷ q) zero o h = omega arith
undue_more M (p ∷ q) (suc i) o h = omega (arith, undue_more M q i o (omega arith))

-- an entry that is due, or none, adds nothing
pub undue_least : (M : Mesh) (q : List (Option Key)) (i : ℕ) (o : Option Key) → i < length q → is_undue M o ≡ false → undue M (slice_set q i o) ≤ undue M (slice_set q i None)
undue_least M q i o h due =
    let a = undue_more M q i o h in
    let b = undue_more M q i None h in
    let n : one_of (is_undue M o) ≡ 0 = ap one_of due in
    omega (arith, a, b, n)

pub undue_none : (M : Mesh) (o : Option Key) → IfSome o (λ k. is_due M k ≡ true) → is_undue M o ≡ false
undue_none M None h = refl
undue_none M (Some k) h = ap not h

-- an entry that isn't due is taken out
pub undue_fewer : (M : Mesh) (q : List (Option Key)) (i : ℕ) (k : Key) → entry_of q i ≡ Some k → is_due M k ≡ false → undue M (slice_set q i None) < undue M q
undue_fewer M q i k at off =
    let h : i < length q = below_capacity q i (subst (λ o. IsSome o) (sym at) refl) in
    let a = undue_more M q i None h in
    let n : one_of (is_undue M (entry_of q i)) ≡ 1 = ap (λ o. one_of (is_undue M o)) at ∙ ap (λ b. one_of (not b)) off in
    omega (arith, a, n)

-- a vertex has a number
pub number_found : (vs : List Point) (p : Point) → has point_eq vs p ≡ true → (v : ℕ) × (v < length vs) × (point_at vs v ≡ p)
number_found [] p h = cc
number_found (x ∷ vs) p h =
    elim (cases_Bool (point_eq x p)) [
      | inl e ↦ (0, omega arith, point_eq-true x p e)
      | inr e ↦ let k = number_found vs p (rw e at h) in (suc k.0, omega arith, k.2)
    ]

covered_some : (o : Option Key) (c : CollapseKey) → is_covered o c ≡ true → (j : Key) × (o ≡ Some j) × (is_covered (Some j) c ≡ true)
covered_some None c h = absurd (true≢false (sym h))
covered_some (Some j) c h = (j, refl, h)

-- each vertex of the mesh is listed
abbrev pub AreListed : List Point → Mesh → Type 0
AreListed vs M = (p : Point) → has_vertex M p ≡ true → has point_eq vs p ≡ true

-- where no entry is left, no pair is legal
pub none_left : (vs : List Point) (M : Mesh) (q : List (Option Key)) → AreListed vs M → IsFed vs M q → q ≡ empty_queue (length q) → least_pair M ≡ None
none_left vs M q listed f empty =
    none_is_least M (λ e. false_from_ne_true (is_legal M e.0 e.1) (λ legal.
    let x = number_found vs e.0 (listed e.0 (legal_pair M e.0 e.1 legal).from) in
    let c = (f.fed x.0 x.1 refl).pair e.1 (subst (λ p. is_legal M p e.1 ≡ true) (sym x.2) legal) in
    let s = covered_some (entry_of q x.0) _ c in
    no_key s.0 (sym (key_of-empty_queue (length q) x.0) ∙ ap (λ r. entry_of r x.0) (sym empty) ∙ s.1)))

-- the least entry, if it is due, is the legal pair of least key
pub due_is_least : (vs : List Point) (M : Mesh) (q : List (Option Key)) (i : ℕ) (k : Key) → AreListed vs M → IsFed vs M q
    → ((id : ℕ) (j : Key) → entry_of q id ≡ Some j → comes_before cmp-value.it (id, j) (i, k) ≡ false)
    → is_due M k ≡ true → least_pair M ≡ Some (k.from, k.to)
due_is_least vs M q i k listed f least due =
    let d = and_parts (is_legal M k.from k.to) (is_fresh M k) due in
    first_is_least M (k.from, k.to) d.0 (λ e legal.
    let x = number_found vs e.0 (listed e.0 (legal_pair M e.0 e.1 legal).from) in
    let c : is_covered (entry_of q x.0) (key_of M e) ≡ true =
    subst (λ p. is_covered (entry_of q x.0) (key_of M (p, e.1)) ≡ true) x.2 ((f.fed x.0 x.1 refl).pair e.1 (subst (λ p. is_legal M p e.1 ≡ true) (sym x.2) legal)) in
    let s = covered_some (entry_of q x.0) (key_of M e) c in
    let less : key_lt (collapse_key s.0) (collapse_key k) ≡ false = not_before x.0 i s.0 k (least x.0 s.0 s.1) in
    ap (key_lt (key_of M e)) (sym (fresh_is M k d.1)) ∙ cover_more k s.0 (key_of M e) less s.2)
