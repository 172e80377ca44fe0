-- What a binary search of a set's places says of its diamonds.
use Rattle.std.proofs.Common.{◌≡◌, ℕ, zero, suc, ◌<◌, ◌≤◌, Bool, true, false, List, [], ◌∷◌, map, length, get_or, Option, Some, None, Result, Ok, Err, refl, sym, ◌∙◌, ap, subst, inl, inr, arith, true≢false, slice_get}
use Rattle.std.specs.Prelude.{position, is_ok, MatchResult}
use Rattle.std.specs.Ordering.{nat_cmp}
use Rattle.std.specs.List.{filter_map, cons_option}
use Rattle.std.specs.List.Sorted.{IsStrictlyIncreasing, IsBinarySearchResult}
use Rattle.std.proofs.lemmas.Bool.{false_from_ne_true, cases_lt, cases_eq}
use Rattle.std.proofs.lemmas.List.Kept.{AllPairs-from_increasing}
use Rattle.std.proofs.lemmas.List.Quantifiers.{position-Some}
use Rattle.std.proofs.lemmas.List.Sorted.{searched}
use Rattle.std.proofs.lemmas.Option.{same_Some, slice_get-get_or}
use Rattle.tpz_base.specs.declared.shape.Point.{Point}
use Rattle.tpz_base.specs.Points.{point_eq}
use Rattle.tpz_base.specs.Cuts.{has_diamond}
use Rattle.tpz_base.specs.Diamonds.{record_lt}
use Rattle.tpz_base.proofs.PointLemmas.{point_eq-true, eq-point_eq}
use Rattle.tpz_base.proofs.CutLaw.{Member}
use Rattle.tpz_base.proofs.Members.{NoTwice, filter-member}
use Rattle.tpz_base.proofs.Elements.{has-member, member-has, member-map, ascending-no_twice}
use Rattle.tpz_base.proofs.RecordLt.{record_lt-same}
use Rattle.tetra_name.proofs.OneName.{get_member}
use Rattle.diamond_graph.specs.declared.record.Record.{Record}
use Rattle.diamond_graph.specs.Graphs.{GraphState, centre_of, centres, IsGraph}
use Rattle.diamond_graph.proofs.FaultLaw.{record_missing}
use Rattle.view_cut.specs.Sets.{centres_at}
use Rattle.view_cut.proofs.ViewLaw.{centres_ascend}

-- elements of a filtered list of answers
pub member-filter_map : {X Y : Type 0} (h : X → Option Y) (xs : List X) (y : Y) → Member (filter_map h xs) y → (x : X) × Member xs x × (h x ≡ Some y)
member-filter_map h [] y m = absurd m
member-filter_map {X} {Y} h (x ∷ xs) y m = at (h x) refl m (λ k. member-filter_map h xs y k) where
  at : (o : Option Y) → h x ≡ o → Member (cons_option o (filter_map h xs)) y → (Member (filter_map h xs) y → (z : X) × Member xs z × (h z ≡ Some y)) → (z : X) × Member (x ∷ xs) z × (h z ≡ Some y)
  at None e k rest = let r = rest k in (r.0, inr r.1, r.2)
  at (Some w) e k rest = elim k [ inl f ↦ (x, inl refl, e ∙ ap Some f) | inr n ↦ (let r = rest n in (r.0, inr r.1, r.2)) ]

pub filter_map-member : {X Y : Type 0} (h : X → Option Y) (xs : List X) (x : X) (y : Y) → Member xs x → h x ≡ Some y → Member (filter_map h xs) y
filter_map-member h [] x y m e = absurd m
filter_map-member {X} {Y} h (z ∷ zs) x y m e =
    elim m [
      | inl f ↦ subst (λ o. Member (cons_option o (filter_map h zs)) y) (sym (ap h f ∙ e)) (inl refl)
      | inr n ↦ behind (h z) (filter_map-member h zs x y n e)
    ]
  where
    behind : (o : Option Y) → Member (filter_map h zs) y → Member (cons_option o (filter_map h zs)) y
    behind None k = k
    behind (Some w) k = inr k

-- the place of an element of a list without repetition
one_place : {X : Type 0} (xs : List X) (i j : ℕ) (x : X) → NoTwice xs → slice_get xs i ≡ Some x → slice_get xs j ≡ Some x → i ≡ j
one_place [] i j x once e f = absurd cc
one_place (y ∷ ys) zero zero x once e f = refl
one_place (y ∷ ys) zero (suc j) x once e f = absurd (once.0 x (get_member ys j x f) (same_Some y x e))
one_place (y ∷ ys) (suc i) zero x once e f = absurd (once.0 x (get_member ys i x e) (same_Some y x f))
one_place (y ∷ ys) (suc i) (suc j) x once e f = ap suc (one_place ys i j x once.1 e f)

at_place : (xs : List ℕ) (i : ℕ) → Member xs i → (k : ℕ) × (k < length xs) × (get_or xs k 0 ≡ i)
at_place [] i m = absurd m
at_place (x ∷ xs) i m = elim m [ inl e ↦ (0, omega arith, e) | inr n ↦ (let r = at_place xs i n in (suc r.0, (let low = r.1 in omega (arith, low)), r.2)) ]

member_there : (xs : List ℕ) (k i : ℕ) → k < length xs → get_or xs k 0 ≡ i → Member xs i
member_there [] k i low e = absurd (omega (arith, low))
member_there (x ∷ xs) zero i low e = inl e
member_there (x ∷ xs) (suc k) i low e = inr (member_there xs k i (omega (arith, low)) e)

never_falls : (xs : List ℕ) → IsStrictlyIncreasing xs → (i j : ℕ) → i ≤ j → j < length xs → get_or xs i 0 ≤ get_or xs j 0
never_falls xs h i j le low =
    elim (cases_eq i j) [
      | inl e ↦ subst (λ k. get_or xs i 0 ≤ get_or xs k 0) e (omega arith)
      | inr ne ↦ let below = AllPairs-from_increasing xs h i j 0 (omega (arith, le, ne)) low in omega (arith, below)
    ]

-- a search of ascending numbers finds those that are there
pub found_member : (xs : List ℕ) (i : ℕ) (r : Result ℕ ℕ) → IsStrictlyIncreasing xs → IsBinarySearchResult (λ y. nat_cmp y i) xs r
    → (is_ok r ≡ true → Member xs i) × (is_ok r ≡ false → Member xs i → ⊥)
found_member xs i r h result = of_case r (searched xs i r result (never_falls xs h)) where
  of_case : (r : Result ℕ ℕ)
      → MatchResult r (λ k. (k < length xs) × (get_or xs k 0 ≡ i)) (λ k. (k ≤ length xs) × ((j : ℕ) → j < k → get_or xs j 0 < i) × ((j : ℕ) → k ≤ j → j < length xs → i < get_or xs j 0))
      → (is_ok r ≡ true → Member xs i) × (is_ok r ≡ false → Member xs i → ⊥)
  of_case (Ok k) p = (λ e. member_there xs k i p.0 p.1, λ e m. true≢false e)
  of_case (Err k) p = (
    λ e. absurd (true≢false (sym e)),
    λ e m.
        let q = at_place xs i m in
        let is = q.2 in
        elim (cases_lt q.0 k) [
          | inl low ↦ (let below = p.1 q.0 low in omega (arith, below, is))
          | inr high ↦ (let above = p.2 q.0 high q.1 in omega (arith, above, is))
        ],
  )

graph_once : (g : GraphState) → IsGraph g → NoTwice (centres g)
graph_once g h = ascending-no_twice (record_lt g.l) (record_lt-same g.l) (centres g) (centres_ascend g h)

placed_at : (ds : List Point) (d : Point) (i : ℕ) → position (point_eq d) ds ≡ Some i → slice_get ds i ≡ Some d
placed_at ds d i e =
    let at = position-Some (point_eq d) ds i d e in
    slice_get-get_or ds i d at.0 ∙ ap Some (sym (point_eq-true d (get_or ds i d) at.1))

-- the diamond of the record at a place is in a set exactly where the place is
pub found_in : (g : GraphState) (set : List ℕ) (d : Point) (i : ℕ) (r : Result ℕ ℕ) → IsGraph g → position (point_eq d) (centres g) ≡ Some i → IsStrictlyIncreasing set
    → IsBinarySearchResult (λ y. nat_cmp y i) set r → is_ok r ≡ has_diamond (centres_at g.records set) d
unfolding centres_at
found_in g set d i r graph placed rising result =
    let at = placed_at (centres g) d i placed in
    let found = found_member set i r rising result in
    let in_set : has_diamond (centres_at g.records set) d ≡ true → Member set i = λ h.
    let q = member-filter_map (slice_get (centres g)) set d (has-member (centres_at g.records set) d h) in
    subst (Member set) (one_place (centres g) q.0 i d (graph_once g graph) q.2 at) q.1 in
    by_case (is_ok r) (has_diamond (centres_at g.records set) d)
    (λ e. member-has (centres_at g.records set) d (filter_map-member (slice_get (centres g)) set i d (found.0 e) at))
    (λ e. false_from_ne_true (has_diamond (centres_at g.records set) d) (λ h. found.1 e (in_set h)))
  where
    by_case : (a b : Bool) → (a ≡ true → b ≡ true) → (a ≡ false → b ≡ false) → a ≡ b
    by_case true b f g = sym (f refl)
    by_case false b f g = sym (g refl)

no_record_there : (rs : List Record) (d : Point) (i : ℕ) → position (point_eq d) (map centre_of rs) ≡ None → slice_get (map centre_of rs) i ≡ Some d → ⊥
no_record_there rs d i none at =
    let r = member-map centre_of rs d (get_member (map centre_of rs) i d at) in
    subst (λ xs. Member xs r.0) (sym (record_missing rs d (sym none))) (filter-member (λ x. point_eq (centre_of x) d) rs r.0 r.1 (eq-point_eq (centre_of r.0) d r.2))

-- a diamond without a record is in no set
pub missing_in : (g : GraphState) (set : List ℕ) (d : Point) → position (point_eq d) (centres g) ≡ None → has_diamond (centres_at g.records set) d ≡ false
unfolding centres_at
missing_in g set d none =
    false_from_ne_true (has_diamond (centres_at g.records set) d) (λ h.
    let q = member-filter_map (slice_get (centres g)) set d (has-member (centres_at g.records set) d h) in
    no_record_there g.records d q.0 none q.2)
