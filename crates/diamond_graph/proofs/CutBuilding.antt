-- A conforming cut of a closed set is built up one diamond after another, in record order, each behind its parents.
use Rattle.std.proofs.Common.{◌≡◌, ℕ, suc, ◌*◌, ◌<◌, ◌≤◌, ◌⊎◌, Bool, true, false, not, ◌||◌, List, [], ◌∷◌, ◌++◌, refl, sym, ◌∙◌, ap, subst, inl, inr, arith, true≢false, append_assoc}
use Rattle.std.specs.Prelude.{filter}
use Rattle.std.proofs.lemmas.Bool.{or_cases, or_left, or_right, or_parts, and_parts, and_from, false_from_ne_true, not-true, not_from_false}
use Rattle.tpz_base.specs.declared.shape.Point.{Point}
use Rattle.tpz_base.specs.Points.{point_eq}
use Rattle.tpz_base.specs.Tetrahedra.{Tetrahedron, diamond, at_level, descendants, parents}
use Rattle.tpz_base.specs.Cuts.{has_diamond}
use Rattle.tpz_base.specs.Diamonds.{level_of, record_lt}
use Rattle.tpz_base.proofs.PointLemmas.{point_eq-true, point_eq_refl, eq-point_eq}
use Rattle.tpz_base.proofs.CutLaw.{Member, HasParents, is_parent, once, CanJoin}
use Rattle.tpz_base.proofs.Distinct.{at_its_level}
use Rattle.tpz_base.proofs.Members.{member-filter, one_level_of}
use Rattle.tpz_base.proofs.Elements.{Ascending, has-member, member-has, at_all, filter-ascending, once-ascending}
use Rattle.tpz_base.proofs.RecordLt.{record_lt-same, record_lt-level}
use Rattle.tpz_base.proofs.Diamonds.{IsSplittable, member-parents, parent_level, level_of-at, in_levels}
use Rattle.diamond_graph.specs.Closed.{has_parents, IsConforming}

-- R is F without the diamonds that R lacks, in the order of F, and it is conforming
abbrev pub IsCut : ℕ → List Point → List Point → Type 0
IsCut L F R = (filter (has_diamond R) F ≡ R) × IsConforming L R

-- cuts within F that are made by one diamond after another, each behind its parents
pub data BuiltUp (L n : ℕ) (F : List Point) : List Point → Type 0 where
  empty : BuiltUp L n F []
  joined : {R : List Point} {d : Point} → BuiltUp L n F R → has_diamond F d ≡ true → CanJoin L n R (R ++ d ∷ []) d → BuiltUp L n F (R ++ d ∷ [])

pub HasParents-from_IsConforming : (L : ℕ) (R : List Point) → IsConforming L R → (x : Point) → has_diamond R x ≡ true → HasParents L R x
unfolding IsConforming
HasParents-from_IsConforming L R h x in_R P in_list parent =
    at_all (has_diamond R) (parents L x) (diamond P) (at_all (has_parents L R) R x h (has-member R x in_R)) (member-parents L x P in_list parent)

has-append : (R S : List Point) (x : Point) → has_diamond (R ++ S) x ≡ has_diamond R x || has_diamond S x
has-append [] S x = refl
has-append (r ∷ R) S x = ap (λ b. point_eq r x || b) (has-append R S x) ∙ assoc (point_eq r x) (has_diamond R x) (has_diamond S x) where
  assoc : (a b c : Bool) → a || (b || c) ≡ (a || b) || c
  assoc true b c = refl
  assoc false b c = refl

has_one : (d x : Point) → has_diamond (d ∷ []) x ≡ point_eq d x
has_one d x = or_false (point_eq d x) where
  or_false : (b : Bool) → b || false ≡ b
  or_false true = refl
  or_false false = refl

once-front : (R : List Point) (d : Point) → once (R ++ d ∷ []) ≡ true → (once R ≡ true) × (has_diamond R d ≡ false)
once-front [] d h = (refl, refl)
once-front (r ∷ R) d h =
    let a = and_parts (not (has_diamond (R ++ d ∷ []) r)) (once (R ++ d ∷ [])) h in
    let b = once-front R d a.1 in
    let c = or_parts (has_diamond R r) (has_diamond (d ∷ []) r) (sym (has-append R (d ∷ []) r) ∙ not-true (has_diamond (R ++ d ∷ []) r) a.0) in
    let apart : point_eq r d ≡ false = false_from_ne_true (point_eq r d) (λ k. true≢false (sym (eq-point_eq d r (sym (point_eq-true r d k))) ∙ sym (has_one d r) ∙ c.1)) in
    (and_from (not (has_diamond R r)) (once R) (not_from_false (has_diamond R r) c.0) b.0, or_false2 (point_eq r d) (has_diamond R d) apart b.1)
  where
    or_false2 : (x y : Bool) → x ≡ false → y ≡ false → x || y ≡ false
    or_false2 true y e f = e
    or_false2 false y e f = f

-- levels don't fall along the list: every diamond before d is of at most d's level
pub data ByLevel (level : Point → ℕ) : List Point → Type 0 where
  none : ByLevel level []
  more : {R : List Point} {d : Point} → ByLevel level R → ((x : Point) → has_diamond R x ≡ true → level x ≤ level d) → ByLevel level (R ++ d ∷ [])

module _ (L n : ℕ) (F : List Point) (level : Point → ℕ) (levels : 3 * L ≡ suc n)
    (rises : (P : Tetrahedron) (x : Point) → has_diamond F x ≡ true → Member (descendants L) P → is_parent L P x ≡ true → level (diamond P) < level x)
    (above : (P : Tetrahedron) → Member (at_level L (suc n)) P → has_diamond F (diamond P) ≡ false) where
  front-parents : (R : List Point) (d x : Point) → ((y : Point) → has_diamond R y ≡ true → level y ≤ level d) → (has_diamond R x ≡ true) ⊎ (d ≡ x)
      → has_diamond F x ≡ true → HasParents L (R ++ d ∷ []) x → HasParents L R x
  front-parents R d x top at in_F h P in_list parent =
      elim (or_cases (has_diamond R (diamond P)) (has_diamond (d ∷ []) (diamond P)) (sym (has-append R (d ∷ []) (diamond P)) ∙ h P in_list parent)) [
        | inl e ↦ e
        | inr e ↦
            let is : d ≡ diamond P = point_eq-true d (diamond P) (sym (has_one d (diamond P)) ∙ e) in
            let up : level (diamond P) < level x = rises P x in_F in_list parent in
            let up' : level d < level x = subst (λ y. level y < level x) (sym is) up in
            let down : level x ≤ level d = elim at [ inl k ↦ top x k | inr k ↦ subst (λ y. level y ≤ level d) k (omega arith) ] in
            absurd (omega (arith, up', down))
      ]

  -- a conforming cut within F is built up
  pub built_up : {R : List Point} → ByLevel level R → once R ≡ true → ((x : Point) → has_diamond R x ≡ true → HasParents L R x)
      → ((x : Point) → has_diamond R x ≡ true → has_diamond F x ≡ true) → BuiltUp L n F R
  built_up none once_R conforming within = empty
  built_up (more {R = R} {d = d} before top) once_R conforming within =
      let split = once-front R d once_R in
      let in_front : (x : Point) → has_diamond R x ≡ true → has_diamond (R ++ d ∷ []) x ≡ true
      = λ x h. has-append R (d ∷ []) x ∙ or_left (has_diamond R x) (has_diamond (d ∷ []) x) h in
      let at_end : has_diamond (R ++ d ∷ []) d ≡ true
      = has-append R (d ∷ []) d ∙ or_right (has_diamond R d) (has_diamond (d ∷ []) d) (has_one d d ∙ point_eq_refl d) in
      let conforming_front : (x : Point) → has_diamond R x ≡ true → HasParents L R x
      = λ x h. front-parents R d x top (inl h) (within x (in_front x h)) (conforming x (in_front x h)) in
      joined (built_up before split.0 conforming_front (λ x h. within x (in_front x h))) (within d at_end) (record {
        levels = levels;
        absent = split.1;
        joined = λ x. has-append R (d ∷ []) x ∙ ap (λ b. has_diamond R x || b) (has_one d x);
        once_before = split.0;
        once_after = once_R;
        above = λ P m. false_from_ne_true (has_diamond R (diamond P)) (λ k. true≢false (sym (within (diamond P) (in_front (diamond P) k)) ∙ above P m));
        conforming = conforming_front;
        parents_in = front-parents R d d top (inr refl) (within d at_end) (conforming d at_end);
      })

-- a list in record order is by level
by_level : (L : ℕ) (R S : List Point) → ByLevel (level_of L) R → Ascending (record_lt L) S
    → ((x y : Point) → Member R x → Member S y → level_of L x ≤ level_of L y) → ByLevel (level_of L) (R ++ S)
by_level L R [] front h apart = subst (ByLevel (level_of L)) (sym (append-none R)) front where
  append-none : (R : List Point) → R ++ [] ≡ R
  append-none [] = refl
  append-none (r ∷ R) = ap (λ xs. r ∷ xs) (append-none R)
by_level L R (s ∷ S) front h apart =
    subst (ByLevel (level_of L)) (append_assoc R (s ∷ []) S)
    (by_level L (R ++ s ∷ []) S (more front (λ x k. apart x s (has-member R x k) (inl refl))) h.1
    (λ x y m k. elim (at_end R x m) [ inl r ↦ apart x y r (inr k) | inr e ↦ subst (λ v. level_of L v ≤ level_of L y) e (record_lt-level L s y (h.0 y k)) ]))
  where
    at_end : (R : List Point) (x : Point) → Member (R ++ s ∷ []) x → Member R x ⊎ (s ≡ x)
    at_end [] x m = elim m [ inl e ↦ inr e | inr nothing ↦ absurd nothing ]
    at_end (r ∷ R) x m = elim m [ inl e ↦ inl (inl e) | inr k ↦ elim (at_end R x k) [ inl n ↦ inl (inr n) | inr e ↦ inr e ] ]

pub in_cut : (L : ℕ) (F R : List Point) → IsCut L F R → (x : Point) → Member R x → Member F x
in_cut L F R cut x m = (member-filter (has_diamond R) F x (subst (λ S. Member S x) (sym cut.0) m)).0

-- every cut of a list in record order above the last level is built up
pub cut_built_up : (L n : ℕ) (F R : List Point) → 3 * L ≡ suc n → Ascending (record_lt L) F → ((x : Point) → Member F x → IsSplittable L x) → IsCut L F R → BuiltUp L n F R
cut_built_up L n F R levels ascends above cut =
    let ascends_R : Ascending (record_lt L) R = subst (Ascending (record_lt L)) cut.0 (filter-ascending (record_lt L) (has_diamond R) F ascends) in
    built_up L n F (level_of L) levels
    (λ P x in_F m parent.
    let s = above x (has-member F x in_F) in
    let up = parent_level L P s.member m s.within (subst (λ y. is_parent L P y ≡ true) (sym s.named) parent) in
    let a = level_of-at L P (diamond P) m refl in
    let b = level_of-at L s.member x s.within s.named in
    omega (arith, up, a, b))
    (λ P m. false_from_ne_true (has_diamond F (diamond P)) (λ k.
    let s = above (diamond P) (has-member F (diamond P) k) in
    let in_list : Member (descendants L) P = in_levels L (3 * L) (suc n) P (omega (arith, levels)) m in
    let e = one_level_of L s.member P s.within in_list s.named in
    let f = at_its_level L (suc n) P m in
    omega (arith, levels, e, f, s.above)))
    (by_level L [] R none ascends_R (λ x y m k. absurd m))
    (once-ascending (record_lt L) (record_lt-same L) R ascends_R)
    (HasParents-from_IsConforming L R cut.1)
    (λ x h. member-has F x (in_cut L F R cut x (has-member R x h)))
