-- The first record of a list that can't stand in a graph, and the graph of a list that has none.
use Rattle.std.proofs.Common.{◌≡◌, ℕ, zero, suc, ◌+◌, ◌-◌, ◌*◌, ◌<◌, ◌≤◌, ◌^◌, Bool, true, false, cond, not, ◌&&◌, Option, Some, None, List, [], ◌∷◌, ◌++◌, map, max, take, drop, set, length, get_or, fold, refl, sym, ◌∙◌, ap, ap₂, subst, inl, inr, arith, slice_get}
use Rattle.std.specs.Prelude.{All, flat_map, position, nat_lt, ◌==◌, option_map, IfSome}
use Rattle.std.specs.Option.{ForSome}
use Rattle.std.specs.List.{list_all, position_or_len, IsDistinct, AllByRecursion}
use Rattle.std.proofs.lemmas.Bool.{cases_Bool, and_parts, and_from, lt-ltb, ltb-true, ltb-false, eqb-true}
use Rattle.std.proofs.lemmas.List.{length-map, take_more, take_all, map-append, map_more, get_or-map, append-nil, map-set, set-get_or, length-set, get_or_default}
use Rattle.std.proofs.lemmas.Option.{get_or_from_slice_get, slice_get_cases}
use Rattle.std.proofs.lemmas.List.Concat.{flat_map-append}
use Rattle.std.proofs.lemmas.List.Folds.{list_all-append, list_all_more}
use Rattle.std.proofs.lemmas.List.Sums.{fold-append}
use Rattle.std.proofs.lemmas.List.Elements.{All-weaker, All-map, All-set}
use Rattle.tpz_base.specs.declared.shape.Point.{Point}
use Rattle.tpz_base.specs.declared.shape.Cell.{Cell}
use Rattle.tpz_base.specs.Points.{point_eq}
use Rattle.tpz_base.specs.Tetrahedra.{kids, parents}
use Rattle.tpz_base.specs.Cuts.{has_diamond}
use Rattle.tpz_base.specs.Diamonds.{level_of, record_lt}
use Rattle.tpz_base.proofs.PointLemmas.{point_eq-true, ne-point_eq, point_eq_sym}
use Rattle.tpz_base.proofs.CutLaw.{Member}
use Rattle.tpz_base.proofs.Members.{NoTwice, member-filter}
use Rattle.tpz_base.proofs.Distinct.{member-flat_map}
use Rattle.tpz_base.proofs.Elements.{at_all, ascending_from, ascending-no_twice}
use Rattle.tpz_base.proofs.RecordLt.{record_lt-same, record_lt-through}
use Rattle.tpz_base.proofs.Diamonds.{kid_level}
use Rattle.tetra_name.specs.declared.shape.Half.{Half}
use Rattle.tetra_name.specs.Names.{point_of, IsBound}
use Rattle.diamond_graph.specs.declared.record.Record.{Record}
use Rattle.diamond_graph.specs.Closed.{has_parents, CanSplit, IsConforming, IsClosedSet}
use Rattle.diamond_graph.specs.Graphs.{GraphState, centre_of, halved, with_errors, IsStored, IsRecord, IsGraph}
use Rattle.diamond_graph.specs.Saturated.{holds, holds_cell, records_at, kid_records, greatest_err, is_saturated, neighbours, are_in_order, AreInOrder, AreClosed, AreSaturated, first_out_of_order, first_not_closed, first_not_saturated}
use Rattle.indexmap.specs.IndexSet.{insert_key}
use Rattle.diamond_graph.proofs.GraphLaw.{absent_next}
use Rattle.diamond_graph.proofs.SetLaw.{in_order-ascended, no_twice_keys}
use Rattle.diamond_graph.proofs.CentreFacts.{splittable, member_all, all_members}

-- the first element that fails

first_place : {X : Type 0} (p : X → Bool) (xs : List X) (i : ℕ) (d : X) → i < length xs → list_all p (take i xs) ≡ true → p (get_or xs i d) ≡ false → position_or_len (λ x. not (p x)) xs ≡ i
first_place p [] i d low before here = absurd (omega (arith, low))
first_place p (x ∷ xs) zero d low before here = rw here refl
first_place p (x ∷ xs) (suc i) d low before here =
    let k = and_parts (p x) (list_all p (take i xs)) before in
    let rest = first_place p xs i d (omega (arith, low)) k.1 here in
    rw k.0 (omega (arith, rest))

no_place : {X : Type 0} (p : X → Bool) (xs : List X) → list_all p xs ≡ true → position_or_len (λ x. not (p x)) xs ≡ length xs
no_place p [] all = refl
no_place p (x ∷ xs) all =
    let k = and_parts (p x) (list_all p xs) all in
    let rest = no_place p xs k.1 in
    rw k.0 (omega (arith, rest))

at_place : {X : Type 0} (q : X → Bool) (xs : List X) (i : ℕ) → position_or_len q xs ≡ i → i < length xs → position q xs ≡ Some i
at_place q xs i e low = go (position_or_len q xs) e where
  go : (n : ℕ) → n ≡ i → cond (nat_lt n (length xs)) (Some n) None ≡ Some i
  go n e = subst (λ m. cond (nat_lt m (length xs)) (Some m) None ≡ Some i) (sym e) (rw (lt-ltb i (length xs) low) refl)

at_none : {X : Type 0} (q : X → Bool) (xs : List X) → length xs ≤ position_or_len q xs → position q xs ≡ None
at_none q xs high = go (position_or_len q xs) high where
  go : (n : ℕ) → length xs ≤ n → cond (nat_lt n (length xs)) (Some n) None ≡ None
  go n high =
      elim (cases_Bool (nat_lt n (length xs))) [ inl e ↦ absurd (let k = ltb-true n (length xs) e in omega (arith, k, high)) | inr e ↦ rw e refl ]

pub fails_first : {X : Type 0} (p : X → Bool) (xs : List X) (i : ℕ) (d : X) → i < length xs → list_all p (take i xs) ≡ true → p (get_or xs i d) ≡ false → position (λ x. not (p x)) xs ≡ Some i
fails_first p xs i d low before here = at_place (λ x. not (p x)) xs i (first_place p xs i d low before here) low

pub fails_nowhere : {X : Type 0} (p : X → Bool) (xs : List X) → list_all p xs ≡ true → position (λ x. not (p x)) xs ≡ None
fails_nowhere p xs all = at_none (λ x. not (p x)) xs (let e = no_place p xs all in omega (arith, e))

-- a front with one more element that passes
pub passes_more : {X : Type 0} (p : X → Bool) (xs : List X) (i : ℕ) (d : X) → i < length xs → list_all p (take i xs) ≡ true → p (get_or xs i d) ≡ true → list_all p (take (i + 1) xs) ≡ true
passes_more p xs i d low before here = list_all_more p xs i d low ∙ and_from (list_all p (take i xs)) (p (get_or xs i d)) before here

pub passes_all : {X : Type 0} (p : X → Bool) (xs : List X) (i : ℕ) → length xs ≤ i → list_all p (take i xs) ≡ true → list_all p xs ≡ true
passes_all p xs i high before = subst (λ ys. list_all p ys ≡ true) (take_all i xs high) before

none_first : {X : Type 0} (p : X → Bool) (xs : List X) → ((i : ℕ) → position (λ x. not (p x)) xs ≡ Some i → ⊥) → list_all p xs ≡ true
none_first {X} p xs never = go xs zero refl refl where
  go : (ys : List X) (i : ℕ) → drop i xs ≡ ys → list_all p (take i xs) ≡ true → list_all p xs ≡ true
  go ys i e before = passes_all p xs (length xs) (omega arith) (climb (length xs) (omega arith)) where
    climb : (n : ℕ) → n ≤ length xs → list_all p (take n xs) ≡ true
    climb zero h = refl
    climb (suc n) h =
        let low : n < length xs = omega (arith, h) in
        let up : suc n ≡ n + 1 = omega arith in
        let b = climb n (omega (arith, h)) in
        let d = (elim xs as (λ zs. n < length zs → X) [ [] ↦ λ k. absurd (omega (arith, k)) | z ∷ zs ↦ λ k. z ]) low in
        subst (λ m. list_all p (take m xs) ≡ true) (sym up)
        (elim (cases_Bool (p (get_or xs n d))) [
          | inl t ↦ passes_more p xs n d low b t
          | inr f ↦ absurd (never n (fails_first p xs n d low b f))
        ])

-- neighbours

neighbours_length : {X : Type 0} (xs : List X) → length (neighbours xs) ≡ length xs - 1
neighbours_length [] = refl
neighbours_length (x ∷ []) = refl
neighbours_length (x ∷ y ∷ xs) = let e = neighbours_length (y ∷ xs) in omega (arith, e)

neighbours_at : {X : Type 0} (xs : List X) (i : ℕ) (d : X) (e : X × X) → suc i < length xs → get_or (neighbours xs) i e ≡ (get_or xs i d, get_or xs (suc i) d)
neighbours_at [] i d e low = absurd (omega (arith, low))
neighbours_at (x ∷ []) i d e low = absurd (omega (arith, low))
neighbours_at (x ∷ y ∷ xs) zero d e low = refl
neighbours_at (x ∷ y ∷ xs) (suc i) d e low = neighbours_at (y ∷ xs) i d e (omega (arith, low))

-- the test at a place, for the records there
order_at : (L : ℕ) (rs : List Record) (i : ℕ) (d : Record) (b : Bool) → 1 ≤ i → i < length rs → b ≡ record_lt L (centre_of (get_or rs (i - 1) d)) (centre_of (get_or rs i d))
    → are_in_order L (get_or (neighbours (map centre_of rs)) (i - 1) (centre_of d, centre_of d)) ≡ b
order_at L rs i d b least low is =
    let up : suc (i - 1) ≡ i = omega (arith, least) in
    let size = length-map rs centre_of in
    let at = neighbours_at (map centre_of rs) (i - 1) (centre_of d) (centre_of d, centre_of d) (omega (arith, size, low, least)) in
    let one = get_or-map centre_of rs (i - 1) d (centre_of d) (omega (arith, low, least)) in
    let two = ap (λ n. get_or (map centre_of rs) n (centre_of d)) up ∙ get_or-map centre_of rs i d (centre_of d) low in
    ap (are_in_order L) (at ∙ ap₂ (λ (p q : Point). (p, q)) one two) ∙ sym is

abbrev pub InOrderTo : ℕ → List Record → ℕ → Type 0
InOrderTo L rs i = list_all (are_in_order L) (take (i - 1) (neighbours (map centre_of rs))) ≡ true

sized : (rs : List Record) → length (neighbours (map centre_of rs)) ≡ length rs - 1
sized rs = let e = neighbours_length (map centre_of rs) in let f = length-map rs centre_of in omega (arith, e, f)

pub order_more : (L : ℕ) (rs : List Record) (i : ℕ) (d : Record) → 1 ≤ i → i < length rs → InOrderTo L rs i → true ≡ record_lt L (centre_of (get_or rs (i - 1) d)) (centre_of (get_or rs i d)) → InOrderTo L rs (i + 1)
order_more L rs i d least low before is =
    let size = sized rs in
    let up : (i - 1) + 1 ≡ (i + 1) - 1 = omega (arith, least) in
    subst (λ n. list_all (are_in_order L) (take n (neighbours (map centre_of rs))) ≡ true) up
    (passes_more (are_in_order L) (neighbours (map centre_of rs)) (i - 1) (centre_of d, centre_of d) (omega (arith, size, low, least)) before (order_at L rs i d true least low is))

pub order_fails : (L : ℕ) (rs : List Record) (i : ℕ) (d : Record) → 1 ≤ i → i < length rs → InOrderTo L rs i → false ≡ record_lt L (centre_of (get_or rs (i - 1) d)) (centre_of (get_or rs i d)) → Some i ≡ first_out_of_order L rs
unfolding first_out_of_order
order_fails L rs i d least low before is =
    let size = sized rs in
    let up : suc (i - 1) ≡ i = omega (arith, least) in
    sym (ap (option_map suc)
    (fails_first (are_in_order L) (neighbours (map centre_of rs)) (i - 1) (centre_of d, centre_of d) (omega (arith, size, low, least)) before (order_at L rs i d false least low is))
    ∙ ap Some up)

pub order_holds : (L : ℕ) (rs : List Record) (i : ℕ) → length rs ≤ i → InOrderTo L rs i → None ≡ first_out_of_order L rs
unfolding first_out_of_order
order_holds L rs i high before =
    let size = sized rs in
    sym (ap (option_map suc)
    (fails_nowhere (are_in_order L) (neighbours (map centre_of rs)) (passes_all (are_in_order L) (neighbours (map centre_of rs)) (i - 1) (omega (arith, size, high)) before)))

-- the record with a centre

no_record : (rs : List Record) (d : Point) → position_or_len (point_eq d) (map centre_of rs) ≡ length rs → records_at rs d ≡ []
no_record [] d e = refl
no_record (r ∷ rs) d e =
    elim (cases_Bool (point_eq d (centre_of r))) [
      | inl t ↦ absurd (zero_suc (length rs) (sym (rw t refl) ∙ e))
      | inr f ↦
          rw (point_eq_sym (centre_of r) d ∙ f)
          (no_record rs d (suc_same _ (length rs) (sym (rw f refl) ∙ e)))
    ]
  where
    zero_suc : (n : ℕ) → 0 ≡ suc n → ⊥
    zero_suc n e = omega (arith, e)

    suc_same : (m n : ℕ) → 1 + m ≡ suc n → m ≡ n
    suc_same m n e = omega (arith, e)

apart_records : (rs : List Record) (d : Point) → ((y : Point) → Member (map centre_of rs) y → d ≡ y → ⊥) → records_at rs d ≡ []
apart_records [] d apart = refl
apart_records (r ∷ rs) d apart =
    rw (ne-point_eq (centre_of r) d (λ e. apart (centre_of r) (inl refl) (sym e))) (apart_records rs d (λ y m. apart y (inr m)))

one_record : (rs : List Record) (d : Point) (i : ℕ) (x : Record) → NoTwice (map centre_of rs) → position_or_len (point_eq d) (map centre_of rs) ≡ i → i < length rs → records_at rs d ≡ get_or rs i x ∷ []
one_record [] d i x once at low = absurd (omega (arith, low))
one_record (r ∷ rs) d i x once at low =
    elim (cases_Bool (point_eq d (centre_of r))) [
      | inl t ↦
          let same = point_eq-true d (centre_of r) t in
          let here : 0 ≡ i = sym (rw t refl) ∙ at in
          rw (point_eq_sym (centre_of r) d ∙ t)
          (ap (λ ys. r ∷ ys) (apart_records rs d (λ y m e. once.0 y m (sym same ∙ e))) ∙ ap (λ n. get_or (r ∷ rs) n x ∷ []) here)
      | inr f ↦
          let n = position_or_len (point_eq d) (map centre_of rs) in
          let up : 1 + n ≡ i = sym (rw f refl) ∙ at in
          let up' : suc n ≡ i = omega (arith, up) in
          rw (point_eq_sym (centre_of r) d ∙ f)
          (one_record rs d n x once.1 refl (omega (arith, up, low)) ∙ ap (λ m. get_or (r ∷ rs) m x ∷ []) up')
    ]

some_same : (a b : ℕ) → Some a ≡ Some b → a ≡ b
some_same a b e = cc

some_none : (a : ℕ) → Some a ≡ None → ⊥
some_none a e = cc

position_some : (p : Point → Bool) (xs : List Point) (i : ℕ) → Some i ≡ position p xs → (position_or_len p xs ≡ i) × (i < length xs)
position_some p xs i e = go (position_or_len p xs) e where
  go : (n : ℕ) → Some i ≡ cond (nat_lt n (length xs)) (Some n) None → (n ≡ i) × (i < length xs)
  go n e =
      elim (cases_Bool (nat_lt n (length xs))) [
        | inl t ↦ let same : n ≡ i = sym (some_same i n (e ∙ rw t refl)) in (same, subst (λ m. m < length xs) same (ltb-true n (length xs) t))
        | inr f ↦ absurd (some_none i (e ∙ rw f refl))
      ]

position_none : (p : Point → Bool) (xs : List Point) → position_or_len p xs ≤ length xs → None ≡ position p xs → position_or_len p xs ≡ length xs
position_none p xs within e = go (position_or_len p xs) within e where
  go : (n : ℕ) → n ≤ length xs → None ≡ cond (nat_lt n (length xs)) (Some n) None → n ≡ length xs
  go n within e =
      elim (cases_Bool (nat_lt n (length xs))) [
        | inl t ↦ absurd (some_none n (sym (e ∙ rw t refl)))
        | inr f ↦ let k = ltb-false n (length xs) f in omega (arith, k, within)
      ]

place_within : (p : Point → Bool) (xs : List Point) → position_or_len p xs ≤ length xs
place_within p [] = omega arith
place_within p (x ∷ xs) = go (p x) (position_or_len p xs) (place_within p xs) where
  go : (b : Bool) (n : ℕ) → n ≤ length xs → cond (not b) (1 + n) 0 ≤ suc (length xs)
  go true n h = omega arith
  go false n h = omega (arith, h)

-- what the index says of a centre is the record with that centre
pub record_found : (rs : List Record) (d : Point) (i : ℕ) (x : Record) → IsDistinct point_eq (map centre_of rs) → Some i ≡ position (point_eq d) (map centre_of rs) → get_or rs i x ∷ [] ≡ records_at rs d
record_found rs d i x differ e =
    let at = position_some (point_eq d) (map centre_of rs) i e in
    let size = length-map rs centre_of in
    sym (one_record rs d i x (no_twice_keys (map centre_of rs) differ) at.0 (let low = at.1 in omega (arith, low, size)))

pub record_missing : (rs : List Record) (d : Point) → None ≡ position (point_eq d) (map centre_of rs) → [] ≡ records_at rs d
record_missing rs d e =
    sym (no_record rs d (position_none (point_eq d) (map centre_of rs) (place_within (point_eq d) (map centre_of rs)) e ∙ length-map rs centre_of))

-- the kids seen so far, and one more

flat_take : {X Y : Type 0} (f : X → List Y) (xs : List X) (i : ℕ) (d : X) → i < length xs → flat_map f (take (i + 1) xs) ≡ flat_map f (take i xs) ++ f (get_or xs i d)
flat_take f xs i d low =
    ap (flat_map f) (take_more xs i d low) ∙ flat_map-append f (take i xs) (get_or xs i d ∷ []) ∙ ap (λ ys. flat_map f (take i xs) ++ ys) (append-nil (f (get_or xs i d)))

pub kid_point : (ks : List Half) (i : ℕ) (k : Half) → slice_get ks i ≡ Some k → i < length ks → get_or (map point_of ks) i (point_of k) ≡ point_of k
kid_point ks i k at low = get_or-map point_of ks i k (point_of k) low ∙ ap point_of (get_or_from_slice_get ks i k k at)

pub kids_more : (rs : List Record) (ks : List Half) (i : ℕ) (k : Half) (kid : List Record) → slice_get ks i ≡ Some k → i < length ks → kid ≡ records_at rs (point_of k)
    → flat_map (records_at rs) (take i (map point_of ks)) ++ kid ≡ flat_map (records_at rs) (take (i + 1) (map point_of ks))
kids_more rs ks i k kid at low is =
    let size = length-map ks point_of in
    ap (λ ys. flat_map (records_at rs) (take i (map point_of ks)) ++ ys) (is ∙ ap (records_at rs) (sym (kid_point ks i k at low)))
    ∙ sym (flat_take (records_at rs) (map point_of ks) i (point_of k) (omega (arith, size, low)))

pub err_more : (rs : List Record) (ks : List Half) (i : ℕ) (k : Half) (kid : List Record) (m n : ℕ) → slice_get ks i ≡ Some k → i < length ks → kid ≡ records_at rs (point_of k)
    → m ≡ greatest_err (flat_map (records_at rs) (take i (map point_of ks))) → n ≡ fold max m (map (λ (r : Record). r.err) kid)
    → n ≡ greatest_err (flat_map (records_at rs) (take (i + 1) (map point_of ks)))
err_more rs ks i k kid m n at low is before after =
    let xs = flat_map (records_at rs) (take i (map point_of ks)) in
    after ∙ ap (λ a. fold max a (map (λ (r : Record). r.err) kid)) before
    ∙ sym (ap (fold max 0) (map-append (λ (r : Record). r.err) xs kid) ∙ fold-append max 0 (map (λ (r : Record). r.err) xs) (map (λ (r : Record). r.err) kid))
    ∙ ap greatest_err (kids_more rs ks i k kid at low is)

and_assoc : (a b c : Bool) → (a && b) && c ≡ a && (b && c)
and_assoc true b c = refl
and_assoc false b c = refl

pub held_more : (rs : List Record) (p : Record → Bool) (a : Bool) (ks : List Half) (i : ℕ) (k : Half) (kid : List Record) (b h : Bool) → slice_get ks i ≡ Some k → i < length ks → kid ≡ records_at rs (point_of k)
    → b ≡ a && list_all p (flat_map (records_at rs) (take i (map point_of ks))) → h ≡ b && list_all p kid
    → h ≡ a && list_all p (flat_map (records_at rs) (take (i + 1) (map point_of ks)))
held_more rs p a ks i k kid b h at low is before after =
    let xs = flat_map (records_at rs) (take i (map point_of ks)) in
    after ∙ ap (λ c. c && list_all p kid) before ∙ and_assoc a (list_all p xs) (list_all p kid)
    ∙ ap (λ c. a && c) (sym (list_all-append p xs kid) ∙ ap (list_all p) (kids_more rs ks i k kid at low is))

-- all kids were seen
pub saturated_is : (L : ℕ) (rs : List Record) (r : Record) (ks : List Half) (i g : ℕ) (sum held : Bool) → map point_of ks ≡ kids L (centre_of r) → length ks ≤ i
    → g ≡ greatest_err (flat_map (records_at rs) (take i (map point_of ks)))
    → held ≡ holds r.cell (halved (centre_of r)) && list_all (holds_cell r.cell) (flat_map (records_at rs) (take i (map point_of ks)))
    → sum ≡ (r.err == r.own + g) → (sum && held) ≡ is_saturated L rs r
unfolding is_saturated
saturated_is L rs r ks i g sum held are high errs holding sums =
    let size = length-map ks point_of in
    let all : take i (map point_of ks) ≡ kids L (centre_of r) = take_all i (map point_of ks) (omega (arith, size, high)) ∙ are in
    let whole = ap (flat_map (records_at rs)) all in
    ap₂ (λ a b. a && b)
    (sums ∙ ap (λ n. r.err == r.own + n) (errs ∙ ap greatest_err whole))
    (holding ∙ ap (λ xs. holds r.cell (halved (centre_of r)) && list_all (holds_cell r.cell) xs) whole)

-- the parents of a record
closed_at : (L : ℕ) (rs : List Record) (keys ps : List Point) (i : ℕ) (d : Record) (b : Bool) → keys ≡ map centre_of rs → ps ≡ parents L (centre_of (get_or rs i d)) → b ≡ list_all (has_diamond keys) ps
    → i < length rs → has_parents L (map centre_of rs) (get_or (map centre_of rs) i (centre_of d)) ≡ b
closed_at L rs keys ps i d b keyed are is low =
    ap (has_parents L (map centre_of rs)) (get_or-map centre_of rs i d (centre_of d) low)
    ∙ sym (is ∙ ap₂ (λ ks qs. list_all (has_diamond ks) qs) keyed are)

abbrev pub ClosedTo : ℕ → List Record → ℕ → Type 0
ClosedTo L rs i = list_all (has_parents L (map centre_of rs)) (take i (map centre_of rs)) ≡ true

pub closed_more : (L : ℕ) (rs : List Record) (keys ps : List Point) (i : ℕ) (d : Record) → keys ≡ map centre_of rs → ps ≡ parents L (centre_of (get_or rs i d)) → true ≡ list_all (has_diamond keys) ps
    → i < length rs → ClosedTo L rs i → ClosedTo L rs (i + 1)
closed_more L rs keys ps i d keyed are is low before =
    let size = length-map rs centre_of in
    passes_more (has_parents L (map centre_of rs)) (map centre_of rs) i (centre_of d) (omega (arith, size, low)) before (closed_at L rs keys ps i d true keyed are is low)

pub closed_fails : (L : ℕ) (rs : List Record) (keys ps : List Point) (i : ℕ) (d : Record) → keys ≡ map centre_of rs → ps ≡ parents L (centre_of (get_or rs i d)) → false ≡ list_all (has_diamond keys) ps
    → i < length rs → ClosedTo L rs i → Some i ≡ first_not_closed L rs
unfolding first_not_closed
closed_fails L rs keys ps i d keyed are is low before =
    let size = length-map rs centre_of in
    sym (fails_first (has_parents L (map centre_of rs)) (map centre_of rs) i (centre_of d) (omega (arith, size, low)) before (closed_at L rs keys ps i d false keyed are is low))

pub closed_holds : (L : ℕ) (rs : List Record) (i : ℕ) → length rs ≤ i → ClosedTo L rs i → None ≡ first_not_closed L rs
unfolding first_not_closed
closed_holds L rs i high before =
    let size = length-map rs centre_of in
    sym (fails_nowhere (has_parents L (map centre_of rs)) (map centre_of rs) (passes_all (has_parents L (map centre_of rs)) (map centre_of rs) i (omega (arith, size, high)) before))

pub saturated_fails : (L : ℕ) (rs : List Record) (i : ℕ) (d : Record) → i < length rs → list_all (is_saturated L rs) (take i rs) ≡ true → false ≡ is_saturated L rs (get_or rs i d) → Some i ≡ first_not_saturated L rs
unfolding first_not_saturated
saturated_fails L rs i d low before is = sym (fails_first (is_saturated L rs) rs i d low before (sym is))

pub saturated_holds : (L : ℕ) (rs : List Record) (i : ℕ) → length rs ≤ i → list_all (is_saturated L rs) (take i rs) ≡ true → None ≡ first_not_saturated L rs
unfolding first_not_saturated
saturated_holds L rs i high before = sym (fails_nowhere (is_saturated L rs) rs (passes_all (is_saturated L rs) rs i high before))

-- what none of the three finds

pub none_order : (L : ℕ) (rs : List Record) → None ≡ first_out_of_order L rs → AreInOrder L rs
unfolding first_out_of_order
none_order L rs none = none_first (are_in_order L) (neighbours (map centre_of rs)) (λ i e. some_none (suc i) (sym (none ∙ ap (option_map suc) e)))

pub none_closed : (L : ℕ) (rs : List Record) → None ≡ first_not_closed L rs → AreClosed L rs
unfolding first_not_closed IsConforming
none_closed L rs none = none_first (has_parents L (map centre_of rs)) (map centre_of rs) (λ i e. some_none i (sym (none ∙ e)))

pub none_saturated : (L : ℕ) (rs : List Record) → None ≡ first_not_saturated L rs → AreSaturated L rs
unfolding first_not_saturated
none_saturated L rs none = none_first (is_saturated L rs) rs (λ i e. some_none i (sym (none ∙ e)))

-- a list without faults is that of a graph

no_twice_centres : (L : ℕ) (rs : List Record) → AreInOrder L rs → NoTwice (map centre_of rs)
no_twice_centres L rs order =
    ascending-no_twice (record_lt L) (record_lt-same L) (map centre_of rs) (ascending_from (record_lt L) (record_lt-through L) (map centre_of rs) order)

all_apart : (x : Point) (xs : List Point) → ((y : Point) → Member xs y → x ≡ y → ⊥) → AllByRecursion (λ y. point_eq x y ≡ false) xs
all_apart x [] apart = tt
all_apart x (y ∷ ys) apart = (ne-point_eq x y (apart y (inl refl)), all_apart x ys (λ z m. apart z (inr m)))

pub all_distinct : (xs : List Point) → NoTwice xs → IsDistinct point_eq xs
unfolding IsDistinct
all_distinct [] once = tt
all_distinct (x ∷ xs) once = (all_apart x xs once.0, all_distinct xs once.1)

pub order_distinct : (L : ℕ) (rs : List Record) → AreInOrder L rs → IsDistinct point_eq (map centre_of rs)
order_distinct L rs order = all_distinct (map centre_of rs) (no_twice_centres L rs order)

pub greatest_within : (ks : List Record) (a m : ℕ) → a ≤ m → ((k : Record) → Member ks k → k.err ≤ m) → fold max a (map (λ (r : Record). r.err) ks) ≤ m
greatest_within [] a m low each = low
greatest_within (k ∷ ks) a m low each =
    let here = each k (inl refl) in
    greatest_within ks (max a k.err) m (omega (arith, low, here)) (λ q n. each q (inr n))

pub kid_record : (L : ℕ) (rs : List Record) (d : Point) (k : Record) → Member (kid_records L rs d) k → Member rs k × Member (kids L d) (centre_of k)
kid_record L rs d k m =
    let f = member-flat_map (records_at rs) (kids L d) k m in
    let g = member-filter (λ (r : Record). point_eq (centre_of r) f.0) rs k f.2 in
    (g.0, subst (Member (kids L d)) (sym (point_eq-true (centre_of k) f.0 g.1)) f.1)

-- each level adds at most one move to the error
err_within : (L : ℕ) (rs : List Record) → All (IsStored L) rs → AreSaturated L rs → (n : ℕ) (r : Record) → Member rs r → 3 * L ≤ level_of L (centre_of r) + n → r.err ≤ n * 2 ^ 30
unfolding is_saturated
err_within L rs stored right zero r m deep =
    let s = member_all (IsStored L) rs r stored m in
    absurd (let up = s.can_split.1 in omega (arith, up, deep))
err_within L rs stored right (suc n) r m deep =
    let s = member_all (IsStored L) rs r stored m in
    let parts = and_parts _ _ (at_all (is_saturated L rs) rs r right m) in
    let sum : r.err ≡ r.own + greatest_err (kid_records L rs (centre_of r)) = eqb-true r.err (r.own + greatest_err (kid_records L rs (centre_of r))) parts.0 in
    let most : greatest_err (kid_records L rs (centre_of r)) ≤ n * 2 ^ 30 =
    greatest_within (kid_records L rs (centre_of r)) 0 (n * 2 ^ 30) (omega arith) (λ k j.
    let q = kid_record L rs (centre_of r) k j in
    let down = kid_level L (centre_of r) (centre_of k) (splittable L (centre_of r) s.can_split) q.1 in
    err_within L rs stored right n k q.0 (omega (arith, deep, down))) in
    let own = s.own in
    omega (arith, sum, most, own)

pub graph_checked : (L : ℕ) (rs : List Record) → IsBound L → length rs < 2 ^ 32 → All (IsStored L) rs → AreInOrder L rs → AreClosed L rs → AreSaturated L rs
    → IsGraph (record { l = L; records = rs; tests = 0 })
graph_checked L rs bound few stored order closed right = record {
  bound = bound;
  closed = record {
    order = in_order-ascended L (map centre_of rs) (ascending_from (record_lt L) (record_lt-through L) (map centre_of rs) order);
    conforming = closed;
    can_split = All-map (CanSplit L) centre_of rs (All-weaker (IsStored L) (λ r. CanSplit L (centre_of r)) (λ r s. s.can_split) rs stored);
  };
  right = all_members (IsRecord L) rs (λ r m.
      let s = member_all (IsStored L) rs r stored m in
      record {
        own = s.own;
        err = err_within L rs stored right (3 * L - level_of L (centre_of r)) r m (omega arith);
        cell = s.cell;
      });
  few = few;
}

-- one more centre in the index
pub index_more : (rs : List Record) (now new : List Point) (i : ℕ) (d : Record) (p : Point) → IsDistinct point_eq (map centre_of rs) → i < length rs
    → now ≡ map centre_of (take i rs) → p ≡ centre_of (get_or rs i d) → new ≡ insert_key point_eq now p → new ≡ map centre_of (take (i + 1) rs)
index_more rs now new i d p differ low before at inserted =
    inserted ∙ ap₂ (insert_key point_eq) before at
    ∙ rw (absent_next centre_of rs i d (no_twice_keys (map centre_of rs) differ) low) (sym (map_more centre_of rs i d low))

is_low : {X : Type 0} (i : ℕ) (xs : List X) (x : X) → slice_get xs i ≡ Some x → i < length xs
is_low i xs x at = elim (slice_get_cases xs i).1 [ inl w ↦ w.1 | inr w ↦ absurd (cc_none (sym at ∙ w.1)) ] where
  cc_none : Some x ≡ None → ⊥
  cc_none e = cc

-- another error and box at a place
pub set_centres : (rs : List Record) (i : ℕ) (r q : Record) → slice_get rs i ≡ Some r → q.centre ≡ r.centre → map centre_of (set rs i q) ≡ map centre_of rs
set_centres rs i r q at same =
    map-set centre_of rs i q ∙ ap (set (map centre_of rs) i) (ap point_of same ∙ back (is_low i rs r at)) ∙ set-get_or (map centre_of rs) i (centre_of r)
  where
    back : i < length rs → point_of r.centre ≡ get_or (map centre_of rs) i (centre_of r)
    back low = sym (get_or-map centre_of rs i r (centre_of r) low ∙ ap centre_of (get_or_from_slice_get rs i r r at))

pub set_graph : (L t u : ℕ) (rs : List Record) (i : ℕ) (r q : Record) → IsGraph (record { l = L; records = rs; tests = t }) → slice_get rs i ≡ Some r → q.centre ≡ r.centre → IsRecord L q
    → IsGraph (record { l = L; records = set rs i q; tests = u })
set_graph L t u rs i r q g at same right = record {
  bound = g.bound;
  closed = subst (IsClosedSet L) (sym (set_centres rs i r q at same)) g.closed;
  right = All-set (IsRecord L) rs i q right g.right;
  few = (let size = length-set rs i q in let few = g.few in omega (arith, size, few));
}

read_some : {X : Type 0} (xs : List X) (i : ℕ) (y : X) → i < length xs → y ≡ get_or xs i y → slice_get xs i ≡ Some y
read_some xs i y low at =
    elim (slice_get_cases xs i).1 [
      | inl w ↦ w.2 ∙ ap Some (sym w.3 ∙ get_or_default xs i w.0 y w.1 ∙ sym at)
      | inr w ↦ absurd (let high = w.0 in omega (arith, low, high))
    ]

-- what is asked of a record of the graph, of the record that was read
pub asked_of : (before now : GraphState) (i : ℕ) (y : Record) (P : ℕ → Record → Type 0) → before ≡ now → i < length now.records → y ≡ get_or before.records i y
    → IfSome (slice_get now.records i) (P now.l) → (slice_get before.records i ≡ Some y) × P before.l y
asked_of before now i y P same low at h =
    let low' : i < length before.records = subst (λ (s : GraphState). i < length s.records) (sym same) low in
    let h' : IfSome (slice_get before.records i) (P before.l) = subst (λ (s : GraphState). IfSome (slice_get s.records i) (P s.l)) (sym same) h in
    let is = read_some before.records i y low' at in
    (is, asked is h')
  where
    asked : {o : Option Record} → o ≡ Some y → IfSome o (P before.l) → P before.l y
    asked e h = subst (λ o. IfSome o (P before.l)) e h

abbrev pub state : ℕ → List Record → ℕ → GraphState
state L rs t = record { l = L; records = rs; tests = t }

-- the graph with a record that was set
pub set_state : (before now : GraphState) (i own err : ℕ) (cell : Cell) (y : Record) → before ≡ now → slice_get before.records i ≡ Some y
    → ForSome (slice_get now.records i) (λ r. state before.l (set before.records i (with_errors y own err cell)) before.tests ≡ state now.l (set now.records i (with_errors r own err cell)) now.tests)
set_state before now i own err cell y same at =
    subst
    (λ (s : GraphState). ForSome (slice_get s.records i) (λ r. state before.l (set before.records i (with_errors y own err cell)) before.tests ≡ state s.l (set s.records i (with_errors r own err cell)) s.tests))
    same
    (λ r e. ap (λ (q : Record). state before.l (set before.records i (with_errors q own err cell)) before.tests) (same_record r (sym at ∙ e)))
  where
    same_record : (r : Record) → Some y ≡ Some r → y ≡ r
    same_record r e = cc

-- where nothing is wrong, nothing is found

pub none_out_of_order : (L : ℕ) (rs : List Record) → AreInOrder L rs → first_out_of_order L rs ≡ None
unfolding first_out_of_order
none_out_of_order L rs h = ap (option_map suc) (fails_nowhere (are_in_order L) (neighbours (map centre_of rs)) h)

pub none_not_closed : (L : ℕ) (rs : List Record) → AreClosed L rs → first_not_closed L rs ≡ None
unfolding first_not_closed IsConforming
none_not_closed L rs h = fails_nowhere (has_parents L (map centre_of rs)) (map centre_of rs) h

pub none_not_saturated : (L : ℕ) (rs : List Record) → AreSaturated L rs → first_not_saturated L rs ≡ None
unfolding first_not_saturated
none_not_saturated L rs h = fails_nowhere (is_saturated L rs) rs h
