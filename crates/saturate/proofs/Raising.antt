-- A record that is raised is right in its graph, and saturated there.
use Rattle.std.proofs.Common.{None, ◌≡◌, ℕ, zero, suc, ◌+◌, ◌-◌, ◌*◌, ◌<◌, ◌≤◌, ◌^◌, true, false, ◌&&◌, Some, List, [], ◌∷◌, ◌++◌, map, take, set, length, fold, refl, sym, ◌∙◌, ap, ap₂, subst, inl, inr, arith, slice_get}
use Rattle.std.specs.Prelude.{flat_map, option_map, IfSome, IsTrue, ◌==◌}
use Rattle.std.specs.Option.{ForSome}
use Rattle.std.specs.List.{list_all, IsDistinct}
use Rattle.std.proofs.lemmas.Bool.{cases_Bool, and_parts, and_from, leb-true, le-leb, eq-eqb}
use Rattle.std.proofs.lemmas.List.Sums.{fold-append}
use Rattle.std.proofs.lemmas.Option.{get_or_from_slice_get, slice_get_within, slice_get_cases, slice_get-map, same_Some}
use Rattle.tpz_base.specs.declared.shape.Point.{Point}
use Rattle.tpz_base.specs.declared.shape.Cell.{Cell}
use Rattle.tpz_base.specs.Points.{point_eq}
use Rattle.tpz_base.specs.Boxes.{hull}
use Rattle.tpz_base.specs.Lists.{in_order}
use Rattle.tpz_base.specs.Tetrahedra.{kids}
use Rattle.tpz_base.specs.Diamonds.{level_of, record_lt}
use Rattle.tpz_base.proofs.PointLemmas.{ne-point_eq}
use Rattle.tpz_base.proofs.CutLaw.{Member}
use Rattle.tpz_base.proofs.Members.{NoTwice}
use Rattle.tpz_base.proofs.Elements.{all_from, ascending-no_twice, map-member}
use Rattle.tpz_base.proofs.RecordLt.{record_lt-same}
use Rattle.tpz_base.proofs.Diamonds.{kid_level}
use Rattle.tetra_name.specs.declared.shape.Half.{Half}
use Rattle.tetra_name.specs.Names.{point_of}
use Rattle.diamond_graph.specs.declared.record.Record.{Record}
use Rattle.diamond_graph.specs.Graphs.{GraphState, centre_of, centres, halved, with_errors, IsBox, IsRecord, IsGraph}
use Rattle.diamond_graph.specs.Closed.{CanSplit}
use Rattle.diamond_graph.specs.Saturated.{holds, holds_cell, records_at, kid_records, greatest_err, is_saturated}
use Rattle.diamond_graph.proofs.SetLaw.{in_order-ascends}
use Rattle.diamond_graph.proofs.CentreFacts.{member_all, splittable, get_member}
use Rattle.diamond_graph.proofs.FaultLaw.{all_distinct, greatest_within, kid_record, kids_more}
use Rattle.saturate.specs.Raised.{hull_of_all, counted_with, raised, looked_at}

-- the records of a graph have different centres
pub distinct_centres : (g : GraphState) → IsGraph g → IsDistinct point_eq (map centre_of g.records)
distinct_centres g h =
    all_distinct (centres g)
    (subst NoTwice h.closed.order (ascending-no_twice (record_lt g.l) (record_lt-same g.l) (in_order (record_lt g.l) (centres g)) (in_order-ascends g.l (centres g))))

-- the count of tests plays no part
pub looked_graph : (g : GraphState) (rs : List Record) → IsGraph g → IsGraph (looked_at g rs)
looked_graph g rs h = record { bound = h.bound; closed = h.closed; right = h.right; few = h.few }

-- a fold over the kids' records so far, and one kid more
pub fold_kids_more : {B : Type 0} (f : B → Record → B) (z : B) (rs : List Record) (ks : List Half) (i : ℕ) (k : Half) (kid : List Record) (m n : B)
    → slice_get ks i ≡ Some k → i < length ks → kid ≡ records_at rs (point_of k)
    → m ≡ fold f z (flat_map (records_at rs) (take i (map point_of ks))) → n ≡ fold f m kid
    → n ≡ fold f z (flat_map (records_at rs) (take (i + 1) (map point_of ks)))
fold_kids_more f z rs ks i k kid m n at low is before after =
    let xs = flat_map (records_at rs) (take i (map point_of ks)) in
    after ∙ ap (λ a. fold f a kid) before ∙ sym (fold-append f z xs kid) ∙ ap (fold f z) (kids_more rs ks i k kid at low is)

-- what a box holds

pub record Holds (b : Cell) (p : Point) : Type 0 where
  pub low_x : b.lo.x ≤ p.x
  pub low_y : b.lo.y ≤ p.y
  pub low_z : b.lo.z ≤ p.z
  pub high_x : p.x ≤ b.hi.x
  pub high_y : p.y ≤ b.hi.y
  pub high_z : p.z ≤ b.hi.z

pub held : (b : Cell) (p : Point) → holds b p ≡ true → Holds b p
held b p h =
    let both = and_parts _ _ h in
    let low = and_parts _ _ both.0 in
    let low' = and_parts _ _ low.1 in
    let high = and_parts _ _ both.1 in
    let high' = and_parts _ _ high.1 in
    record {
      low_x = leb-true b.lo.x p.x low.0;
      low_y = leb-true b.lo.y p.y low'.0;
      low_z = leb-true b.lo.z p.z low'.1;
      high_x = leb-true p.x b.hi.x high.0;
      high_y = leb-true p.y b.hi.y high'.0;
      high_z = leb-true p.z b.hi.z high'.1;
    }

pub holding : (b : Cell) (p : Point) → Holds b p → holds b p ≡ true
holding b p h =
    and_from _ _
    (and_from _ _ (le-leb b.lo.x p.x h.low_x) (and_from _ _ (le-leb b.lo.y p.y h.low_y) (le-leb b.lo.z p.z h.low_z)))
    (and_from _ _ (le-leb p.x b.hi.x h.high_x) (and_from _ _ (le-leb p.y b.hi.y h.high_y) (le-leb p.z b.hi.z h.high_z)))

hull_keeps : (c d : Cell) (p : Point) → Holds c p → Holds (hull c d) p
hull_keeps c d p h = record {
  low_x = (let k = h.low_x in omega (arith, k));
  low_y = (let k = h.low_y in omega (arith, k));
  low_z = (let k = h.low_z in omega (arith, k));
  high_x = (let k = h.high_x in omega (arith, k));
  high_y = (let k = h.high_y in omega (arith, k));
  high_z = (let k = h.high_z in omega (arith, k));
}

hull_low : (c d : Cell) → Holds (hull c d) d.lo
hull_low c d = record { low_x = omega arith; low_y = omega arith; low_z = omega arith; high_x = omega arith; high_y = omega arith; high_z = omega arith }

hull_high : (c d : Cell) → Holds (hull c d) d.hi
hull_high c d = record { low_x = omega arith; low_y = omega arith; low_z = omega arith; high_x = omega arith; high_y = omega arith; high_z = omega arith }

all_keep : (c : Cell) (ks : List Record) (p : Point) → Holds c p → Holds (hull_of_all c ks) p
all_keep c [] p h = h
all_keep c (k ∷ ks) p h = all_keep (hull c k.cell) ks p (hull_keeps c k.cell p h)

all_hold : (c : Cell) (ks : List Record) (k : Record) → Member ks k → Holds (hull_of_all c ks) k.cell.lo × Holds (hull_of_all c ks) k.cell.hi
all_hold c [] k m = absurd m
all_hold c (j ∷ ks) k m =
    elim m [
      | inl e ↦
          subst (λ (q : Record). Holds (hull_of_all c (j ∷ ks)) q.cell.lo × Holds (hull_of_all c (j ∷ ks)) q.cell.hi) e
          (all_keep (hull c j.cell) ks j.cell.lo (hull_low c j.cell), all_keep (hull c j.cell) ks j.cell.hi (hull_high c j.cell))
      | inr n ↦ all_hold (hull c j.cell) ks k n
    ]

-- hulls of boxes of a cube

pub hull_box : (side : ℕ) (c d : Cell) → IsBox side c → IsBox side d → IsBox side (hull c d)
hull_box side c d h k =
    let hx = h.within.0 in
    let hy = h.within.1 in
    let hz = h.within.2 in
    let kx = k.within.0 in
    let ky = k.within.1 in
    let kz = k.within.2 in
    let lx = k.x in
    let ly = k.y in
    let lz = k.z in
    record { x = omega arith; y = omega arith; z = omega arith; within = (omega (arith, hx, kx, lx), omega (arith, hy, ky, ly), omega (arith, hz, kz, lz)) }

pub all_box : (side : ℕ) (c : Cell) (ks : List Record) → IsBox side c → ((k : Record) → Member ks k → IsBox side k.cell) → IsBox side (hull_of_all c ks)
all_box side c [] h each = h
all_box side c (k ∷ ks) h each = all_box side (hull c k.cell) ks (hull_box side c k.cell h (each k (inl refl))) (λ j m. each j (inr m))

-- the record that is raised

record_member : (rs : List Record) (i : ℕ) (r : Record) → slice_get rs i ≡ Some r → Member rs r
record_member rs i r at = subst (Member rs) (get_or_from_slice_get rs i r r at) (get_member rs i r (slice_get_within rs i r at))

can_split_at : (g : GraphState) (i : ℕ) (r : Record) → IsGraph g → slice_get g.records i ≡ Some r → CanSplit g.l (centre_of r)
can_split_at g i r h at = member_all (CanSplit g.l) (centres g) (centre_of r) h.closed.can_split (map-member centre_of g.records r (record_member g.records i r at))

pub raised_right : (g : GraphState) (i : ℕ) (r : Record) (own : ℕ) (c : Cell) → IsGraph g → slice_get g.records i ≡ Some r → own ≤ 2 ^ 30 → IsBox (2 ^ g.l) c
    → IsRecord g.l (raised r own c (kid_records g.l g.records (centre_of r)))
raised_right g i r own c h at small box =
    let d = centre_of r in
    let ks = kid_records g.l g.records d in
    let split = can_split_at g i r h at in
    let each : (k : Record) → Member ks k → IsRecord g.l k = λ k m. member_all (IsRecord g.l) g.records k h.right (kid_record g.l g.records d k m).0 in
    record {
      own = small;
      err =
          let most : greatest_err ks ≤ (3 * g.l - level_of g.l d - 1) * 2 ^ 30 =
          greatest_within ks 0 ((3 * g.l - level_of g.l d - 1) * 2 ^ 30) (omega arith) (λ k m.
          let down = kid_level g.l d (centre_of k) (splittable g.l d split) (kid_record g.l g.records d k m).1 in
          let low = (each k m).err in
          subst (λ n. k.err ≤ n * 2 ^ 30) (omega (arith, down)) low) in
          let up = split.1 in
          omega (arith, most, small, up);
      cell = all_box (2 ^ g.l) c ks box (λ k m. (each k m).cell);
    }

-- the error that a record is raised to is small
pub sum_small : (g : GraphState) (i : ℕ) (r : Record) (own : ℕ) (c : Cell) → IsGraph g → slice_get g.records i ≡ Some r → own ≤ 2 ^ 30 → IsBox (2 ^ g.l) c
    → own + greatest_err (kid_records g.l g.records (centre_of r)) ≤ 90 * 2 ^ 30
sum_small g i r own c h at small box =
    let low = (raised_right g i r own c h at small box).err in
    let few = h.bound.most in
    omega (arith, low, few)

-- the kids' records stay as another record is replaced

flat_same : {X Y : Type 0} (f e : X → List Y) (xs : List X) → ((x : X) → Member xs x → f x ≡ e x) → flat_map f xs ≡ flat_map e xs
flat_same f e [] h = refl
flat_same f e (x ∷ xs) h = ap₂ (λ a b. a ++ b) (h x (inl refl)) (flat_same f e xs (λ y m. h y (inr m)))

others_stay : (rs : List Record) (i : ℕ) (r q : Record) (d : Point) → slice_get rs i ≡ Some r → point_eq (centre_of r) d ≡ false → point_eq (centre_of q) d ≡ false → records_at (set rs i q) d ≡ records_at rs d
others_stay [] i r q d at h k = refl
others_stay (x ∷ xs) zero r q d at h k =
    let first : point_eq (centre_of x) d ≡ false = subst (λ (y : Record). point_eq (centre_of y) d ≡ false) (sym (same_Some x r at)) h in
    rw k (rw first refl)
others_stay (x ∷ xs) (suc i) r q d at h k =
    let rest = others_stay xs i r q d at h k in
    elim (cases_Bool (point_eq (centre_of x) d)) [
      | inl t ↦ rw t (ap (λ ys. x ∷ ys) rest)
      | inr f ↦ rw f rest
    ]

kids_stay : (g : GraphState) (i : ℕ) (r q : Record) → IsGraph g → slice_get g.records i ≡ Some r → centre_of q ≡ centre_of r
    → kid_records g.l (set g.records i q) (centre_of r) ≡ kid_records g.l g.records (centre_of r)
kids_stay g i r q h at same =
    let d = centre_of r in
    flat_same (records_at (set g.records i q)) (records_at g.records) (kids g.l d) (λ k m.
    let down = kid_level g.l d k (splittable g.l d (can_split_at g i r h at)) m in
    let apart : d ≡ k → ⊥ = λ e. let level = ap (level_of g.l) e in omega (arith, down, level) in
    let other : point_eq d k ≡ false = ne-point_eq d k apart in
    others_stay g.records i r q k at other (subst (λ x. point_eq x k ≡ false) (sym same) other))

-- a record that is raised above its kids' records is saturated
pub saturated_above : (L : ℕ) (rs : List Record) (r : Record) (own : ℕ) (c : Cell) (ks : List Record) → ks ≡ kid_records L rs (centre_of r) → IsTrue (holds c (halved (centre_of r)))
    → IsTrue (is_saturated L rs (raised r own c ks))
unfolding is_saturated
saturated_above L rs r own c ks are inside =
    let d = centre_of r in
    let q = raised r own c ks in
    subst (λ js. (q.err == q.own + greatest_err js) && (holds q.cell (halved d) && list_all (holds_cell q.cell) js) ≡ true) are
    (and_from _ _ (eq-eqb q.err (own + greatest_err ks) refl)
    (and_from _ _ (holding q.cell (halved d) (all_keep c ks (halved d) (held c (halved d) inside)))
    (all_from (holds_cell q.cell) ks (λ k m. let both = all_hold c ks k m in and_from _ _ (holding q.cell k.cell.lo both.0) (holding q.cell k.cell.hi both.1)))))

pub raised_saturated : (g : GraphState) (i : ℕ) (r : Record) (own : ℕ) (c : Cell) → IsGraph g → slice_get g.records i ≡ Some r → IsTrue (holds c (halved (centre_of r)))
    → let q = raised r own c (kid_records g.l g.records (centre_of r)) in IsTrue (is_saturated g.l (set g.records i q) q)
raised_saturated g i r own c h at inside =
    let ks = kid_records g.l g.records (centre_of r) in
    let q = raised r own c ks in
    saturated_above g.l (set g.records i q) r own c ks (sym (kids_stay g i r q h at refl)) inside

-- what is set

abbrev pub state : ℕ → List Record → ℕ → GraphState
state L rs t = record { l = L; records = rs; tests = t }

-- the graph after a record was raised
abbrev pub raised_graph : GraphState → ℕ → Record → ℕ → Cell → GraphState
raised_graph g i r own c =
    let ks = kid_records g.l g.records (centre_of r) in
    state g.l (set g.records i (raised r own c ks)) (fold counted_with g.tests ks)

pub record_there : (rs : List Record) (i : ℕ) → i < length rs → (r : Record) × (slice_get rs i ≡ Some r)
record_there rs i low =
    elim (slice_get_cases rs i).1 [
      | inl w ↦ (w.0, w.2)
      | inr w ↦ absurd (let high = w.0 in omega (arith, low, high))
    ]

centre_there : (g : GraphState) (i : ℕ) (r : Record) (d : Point) → slice_get (centres g) i ≡ Some d → slice_get g.records i ≡ Some r → d ≡ centre_of r
centre_there g i r d named at = same_Some d (centre_of r) (sym named ∙ slice_get-map centre_of g.records i ∙ ap (option_map centre_of) at)

-- what was read of the kids, of the record's own centre
pub seen_at : (g : GraphState) (i : ℕ) (r : Record) (d : Point) → slice_get (centres g) i ≡ Some d → slice_get g.records i ≡ Some r → kid_records g.l g.records d ≡ kid_records g.l g.records (centre_of r)
seen_at g i r d named at = ap (kid_records g.l g.records) (centre_there g i r d named at)

pub raise_sets : (g seen new : GraphState) (i : ℕ) (r : Record) (ks : List Record) (own from err : ℕ) (c cell : Cell) → slice_get g.records i ≡ Some r
    → ks ≡ kid_records g.l g.records (centre_of r) → seen ≡ looked_at g ks → from ≡ own → err ≡ greatest_err ks → cell ≡ hull_of_all c ks
    → ForSome (slice_get seen.records i) (λ x. new ≡ state seen.l (set seen.records i (with_errors x own (from + err) cell)) seen.tests)
    → new ≡ raised_graph g i r own c
raise_sets g seen new i r ks own from err c cell at are looked owned errs boxed h =
    let h' = subst (λ (s : GraphState). ForSome (slice_get s.records i) (λ x. new ≡ state s.l (set s.records i (with_errors x own (from + err) cell)) s.tests)) looked h in
    h' r at
    ∙ ap₂ (λ n b. state g.l (set g.records i (with_errors r own n b)) (fold counted_with g.tests ks)) (ap₂ (λ a b. a + b) owned errs) boxed
    ∙ ap (λ js. state g.l (set g.records i (raised r own c js)) (fold counted_with g.tests js)) are

set_read : {X : Type 0} (xs : List X) (i : ℕ) (x y : X) → slice_get xs i ≡ Some x → slice_get (set xs i y) i ≡ Some y
set_read [] i x y at = absurd (none at) where
  none : None ≡ Some x → ⊥
  none e = cc
set_read (z ∷ zs) zero x y at = refl
set_read (z ∷ zs) (suc i) x y at = set_read zs i x y at

pub raised_there : (g new : GraphState) (i : ℕ) (r : Record) (own : ℕ) (c : Cell) → IsGraph g → slice_get g.records i ≡ Some r → IfSome (slice_get g.records i) (λ x. IsTrue (holds c (halved (centre_of x))))
    → new ≡ raised_graph g i r own c → IfSome (slice_get new.records i) (λ x. IsTrue (is_saturated new.l new.records x))
raised_there g new i r own c h at inside is =
    let q = raised r own c (kid_records g.l g.records (centre_of r)) in
    let here : IsTrue (holds c (halved (centre_of r))) = subst (λ o. IfSome o (λ (x : Record). IsTrue (holds c (halved (centre_of x))))) at inside in
    subst (λ (s : GraphState). IfSome (slice_get s.records i) (λ x. IsTrue (is_saturated s.l s.records x))) (sym is)
    (subst (λ o. IfSome o (λ (x : Record). IsTrue (is_saturated g.l (set g.records i q) x))) (sym (set_read g.records i r q at)) (raised_saturated g i r own c h at here))

pub raise_allowed : (g seen : GraphState) (i : ℕ) (r : Record) (ks : List Record) (own from err : ℕ) (c cell : Cell) → IsGraph g → slice_get g.records i ≡ Some r → own ≤ 2 ^ 30 → IsBox (2 ^ g.l) c
    → ks ≡ kid_records g.l g.records (centre_of r) → seen ≡ looked_at g ks → from ≡ own → err ≡ greatest_err ks → cell ≡ hull_of_all c ks
    → IfSome (slice_get seen.records i) (λ x. IsRecord seen.l (with_errors x own (from + err) cell))
raise_allowed g seen i r ks own from err c cell h at small box are looked owned errs boxed =
    subst (λ (s : GraphState). IfSome (slice_get s.records i) (λ x. IsRecord s.l (with_errors x own (from + err) cell))) (sym looked)
    (subst (λ o. IfSome o (λ (x : Record). IsRecord g.l (with_errors x own (from + err) cell))) (sym at)
    (subst (λ n. IsRecord g.l (with_errors r own n cell)) (sym (ap₂ (λ a b. a + b) owned errs))
    (subst (λ b. IsRecord g.l (with_errors r own (own + greatest_err ks) b)) (sym boxed)
    (subst (λ js. IsRecord g.l (raised r own c js)) (sym are) (raised_right g i r own c h at small box)))))
