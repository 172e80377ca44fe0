-- A graph made of centres in record order.
use Rattle.std.proofs.Common.{◌≡◌, ℕ, zero, suc, ◌+◌, ◌<◌, ◌≤◌, false, ◌||◌, List, [], ◌∷◌, ◌++◌, map, take, length, get_or, refl, sym, ◌∙◌, ap, ap₂, subst, arith}
use Rattle.std.specs.Prelude.{All}
use Rattle.std.specs.List.{list_any}
use Rattle.std.proofs.lemmas.List.{length-map}
use Rattle.std.proofs.lemmas.List.Elements.{All-weaker, All-map}
use Rattle.tpz_base.specs.declared.shape.Point.{Point}
use Rattle.tpz_base.specs.Points.{point_eq}
use Rattle.tpz_base.specs.Lists.{in_order}
use Rattle.tpz_base.specs.Diamonds.{record_lt}
use Rattle.tpz_base.proofs.PointLemmas.{ne-point_eq}
use Rattle.tpz_base.proofs.Members.{NoTwice}
use Rattle.tpz_base.proofs.Elements.{map-member, ascending-no_twice}
use Rattle.tpz_base.proofs.RecordLt.{record_lt-same}
use Rattle.tetra_name.specs.Names.{IsBound, IsCentre}
use Rattle.tetra_name.proofs.NamesLaw.{within_of}
use Rattle.indexmap.specs.IndexSet.{insert_key}
use Rattle.diamond_graph.specs.declared.record.Record.{Record}
use Rattle.diamond_graph.specs.declared.rank.Ranked.{Ranked}
use Rattle.diamond_graph.specs.Closed.{CanSplit, IsClosedSet}
use Rattle.diamond_graph.specs.Adding.{IsKept}
use Rattle.diamond_graph.specs.Ranks.{ranked_point}
use Rattle.diamond_graph.specs.Graphs.{centre_of, fresh_record, IsRecord, IsGraph}
use Rattle.diamond_graph.proofs.SetLaw.{in_order-ascends, in_order-length}
use Rattle.diamond_graph.proofs.CentreFacts.{get_member}
use Rattle.diamond_graph.proofs.ClosingLaw.{closed_set}

pub kept_centres : (L : ℕ) (keys : List Point) → IsKept L keys → All (IsCentre L) keys
kept_centres L keys h = All-weaker (CanSplit L) (IsCentre L) (λ x k. k.0) keys h.can_split

-- the next centre isn't one of those before it
pub absent_next : {X : Type 0} (f : X → Point) (rs : List X) (i : ℕ) (d : X) → NoTwice (map f rs) → i < length rs → list_any (point_eq (f (get_or rs i d))) (map f (take i rs)) ≡ false
absent_next f [] i d once low = absurd (omega (arith, low))
absent_next f (r ∷ rs) zero d once low = refl
absent_next f (r ∷ rs) (suc i) d once low =
    let low' : i < length rs = omega (arith, low) in
    let apart : point_eq (f (get_or rs i d)) (f r) ≡ false
    = ne-point_eq (f (get_or rs i d)) (f r) (λ e. once.0 (f (get_or rs i d)) (map-member f rs (get_or rs i d) (get_member rs i d low')) (sym e)) in
    ap₂ (λ a b. a || b) apart (absent_next f rs i d once.1 low')

take_next : {X Y : Type 0} (f : X → Y) (xs : List X) (i : ℕ) (d : X) → i < length xs → map f (take (suc i) xs) ≡ map f (take i xs) ++ f (get_or xs i d) ∷ []
take_next f [] i d low = absurd (omega (arith, low))
take_next f (x ∷ xs) zero d low = refl
take_next f (x ∷ xs) (suc i) d low = ap (λ ys. f x ∷ ys) (take_next f xs i d (omega (arith, low)))

ordered_once : (L : ℕ) (keys : List Point) (rs : List Ranked) → map ranked_point rs ≡ in_order (record_lt L) keys → NoTwice (map ranked_point rs)
ordered_once L keys rs is = subst NoTwice (sym is) (ascending-no_twice (record_lt L) (record_lt-same L) (in_order (record_lt L) keys) (in_order-ascends L keys))

-- one more centre in the index
pub next_key : (L : ℕ) (keys now new : List Point) (rs : List Ranked) (i : ℕ) (d : Ranked) (p : Point) → map ranked_point rs ≡ in_order (record_lt L) keys → i < length rs
    → now ≡ map ranked_point (take i rs) → p ≡ ranked_point (get_or rs i d) → new ≡ insert_key point_eq now p → new ≡ map ranked_point (take (i + 1) rs)
next_key L keys now new rs i d p is low before at inserted =
    inserted ∙ ap₂ (insert_key point_eq) before at
    ∙ rw (absent_next ranked_point rs i d (ordered_once L keys rs is) low) (let e : suc i ≡ i + 1 = omega arith in sym (take_next ranked_point rs i d low) ∙ ap (λ n. map ranked_point (take n rs)) e)

-- the record of a centre has that centre
fresh_centres : (ds : List Point) → map centre_of (map fresh_record ds) ≡ ds
fresh_centres [] = refl
fresh_centres (d ∷ ds) = ap (λ xs. d ∷ xs) (fresh_centres ds)

-- all centres are in the index
pub whole_index : (L : ℕ) (keys now : List Point) (records : List Record) → now ≡ in_order (record_lt L) keys → records ≡ map fresh_record (in_order (record_lt L) keys) → now ≡ map centre_of records
whole_index L keys now records is made = is ∙ sym (ap (map centre_of) made ∙ fresh_centres (in_order (record_lt L) keys))

-- a fresh record is right
fresh_right : (L : ℕ) (d : Point) → IsBound L → CanSplit L d → IsRecord L (fresh_record d)
fresh_right L d bound h =
    let w = within_of L d bound.most h.0 in
    record {
      own = omega arith;
      err = omega arith;
      cell = record { x = omega arith; y = omega arith; z = omega arith; within = (omega (arith, w.0), omega (arith, w.1), omega (arith, w.2)) };
    }

all_right : (L : ℕ) (ds : List Point) → IsBound L → All (CanSplit L) ds → All (IsRecord L) (map fresh_record ds)
all_right L ds bound h = All-map (IsRecord L) fresh_record ds (All-weaker (CanSplit L) (λ d. IsRecord L (fresh_record d)) (λ d k. fresh_right L d bound k) ds h)

-- the records of a closing are those of a graph
pub graph_made : (L : ℕ) (keys : List Point) (records : List Record) → IsKept L keys → records ≡ map fresh_record (in_order (record_lt L) keys)
    → IsGraph (record { l = L; records = records; tests = 0 })
graph_made L keys records h made =
    let are : map centre_of records ≡ in_order (record_lt L) keys = ap (map centre_of) made ∙ fresh_centres (in_order (record_lt L) keys) in
    let few = in_order-length (record_lt L) keys in
    let same : length records ≡ length (in_order (record_lt L) keys) = ap length made ∙ length-map (in_order (record_lt L) keys) fresh_record in
    record {
      bound = h.bound;
      closed = subst (IsClosedSet L) (sym are) (closed_set L keys h);
      right = subst (All (IsRecord L)) (sym made) (all_right L (in_order (record_lt L) keys) h.bound (closed_set L keys h).can_split);
      few = (let m = h.few in omega (arith, few, same, m));
    }

map-end : {X Y : Type 0} (f : X → Y) (xs : List X) (x : X) → map f (xs ++ x ∷ []) ≡ map f xs ++ f x ∷ []
map-end f [] x = refl
map-end f (y ∷ ys) x = ap (λ zs. f y ∷ zs) (map-end f ys x)

-- one more record
pub next_record : (now new : List Record) (rs : List Ranked) (i : ℕ) (d : Ranked) (r : Record) → i < length rs → now ≡ map fresh_record (map ranked_point (take i rs))
    → r ≡ fresh_record (ranked_point (get_or rs i d)) → new ≡ now ++ r ∷ [] → new ≡ map fresh_record (map ranked_point (take (i + 1) rs))
next_record now new rs i d r low before at pushed =
    pushed ∙ ap₂ (λ xs x. xs ++ x ∷ []) before at ∙ sym (map-end fresh_record (map ranked_point (take i rs)) (ranked_point (get_or rs i d)))
    ∙ ap (map fresh_record) (sym (take_next ranked_point rs i d low)) ∙ (let e : suc i ≡ i + 1 = omega arith in ap (λ n. map fresh_record (map ranked_point (take n rs))) e)

-- at the end of the list the front is all of it
pub front_is_all : {X : Type 0} (xs : List X) (i n : ℕ) → n ≡ length xs → n ≤ i → take i xs ≡ xs
front_is_all [] zero n e h = refl
front_is_all [] (suc i) n e h = refl
front_is_all (x ∷ xs) zero n e h = absurd (omega (arith, e, h))
front_is_all (x ∷ xs) (suc i) n e h = ap (λ ys. x ∷ ys) (front_is_all xs i (length xs) refl (omega (arith, e, h)))
