-- The rows of an element, read one after another.
use Rattle.std.proofs.Common.{◌≡◌, ℕ, suc, ◌+◌, ◌-◌, ◌<◌, List, [], ◌∷◌, ◌++◌, length, map, refl, sym, ◌∙◌, ap, subst, arith, append_assoc}
use Rattle.std.specs.Prelude.{Result, Ok, Err}
use Rattle.std.specs.Option.{ForSome, option_map}
use Rattle.std.specs.declared.option.Option.{Option}
use Rattle.std.specs.declared.option.Option.TheVariants.{None, Some}
use Rattle.std.proofs.lemmas.List.{append-nil, map-append, length_push}
use Rattle.tpz_base.specs.Cubes.{Row}
use Rattle.ply_head.specs.declared.element.Property.{Property}
use Rattle.ply_head.specs.declared.element.Element.{Element}
use Rattle.ply_body.specs.declared.fault.Flaw.{Flaw}
use Rattle.ply_body.specs.declared.fault.Flaw.TheVariants.{Short, Number, Range, BadIndex, TooManyTris, TooLong}
use Rattle.ply_body.specs.declared.item_reader.ItemFault.{ItemFault}
use Rattle.ply_body.specs.declared.item_reader.ItemFault.TheVariants as item_fault
use Rattle.ply_body.specs.declared.fault.BodyFault.{BodyFault}
use Rattle.ply_body.specs.Items.{◌>>=◌, Items}
use Rattle.ply_body.specs.Bodies.{Setting, RowItems, nothing_used, with_properties, fan_count, placed, rows, row_count}
use Rattle.ply_body.specs.Faults.{row_fault}
use Rattle.ply_body.specs.VertexRows.{setting, used_row, with_front, IsOfInput, TakesRow, RefusesRow, RefusesRowAt, RefusesRows, TakesRows, TakesSoFar}
use Rattle.ply_body.specs.Readings.{IsRefusal}
use Rattle.ply_body.proofs.Taking.{refused_behind}

front_none : (r : Result (List RowItems × Items) BodyFault) → with_front [] r ≡ r
front_none (Ok more) = refl
front_none (Err f) = refl

pub none_read : (digits e : ℕ) (ps : List Property) (n : ℕ) (old : Option Items) → TakesSoFar digits e ps n old [] old
none_read digits e ps n None = λ vertices left is. refl
none_read digits e ps n (Some items) = λ vertices left is.
    let all : n ≡ left = omega (arith, is) in
    ap (λ (m : ℕ). Some (rows (setting digits vertices) e ps 0 0 m items)) all
    ∙ ap Some (sym (front_none (rows (setting digits vertices) e ps 0 0 left items)))

-- a row in front of those behind it
front_more : (us : List RowItems) (u : RowItems) (r : Result (List RowItems × Items) BodyFault)
    → with_front us (r >>= λ more. Ok (u ∷ more.0, more.1)) ≡ with_front (us ++ u ∷ []) r
front_more us u (Ok more) = ap (λ (l : List RowItems). Ok (l, more.1)) (sym (append_assoc us (u ∷ []) more.0))
front_more us u (Err f) = refl

one_read : (s : Setting) (e k left : ℕ) (ps : List Property) (us : List RowItems) (r : Row) (now new : Option Items)
    → option_map (with_properties s 0 ps nothing_used) now ≡ option_map (λ i. Ok (used_row r, i)) new
    → option_map (λ items. with_front us (rows s e ps k 0 (suc left) items)) now
    ≡ option_map (λ items. with_front (us ++ used_row r ∷ []) (rows s e ps (suc k) 0 left items)) new
one_read s e k left ps us r None None is = refl
one_read s e k left ps us r None (Some b) is = absurd (cc)
one_read s e k left ps us r (Some a) None is = absurd (cc)
one_read s e k left ps us r (Some a) (Some b) is =
    let here : with_properties s 0 ps nothing_used a ≡ Ok (used_row r, b) = cc in
    ap Some (ap (λ (v : Result (RowItems × Items) Flaw). with_front us (placed e k v >>= after)) here ∙ front_more us (used_row r) (rows s e ps (suc k) 0 left b))
  where
    after : RowItems × Items → Result (List RowItems × Items) BodyFault
    after row = rows s e ps (suc k) (0 + fan_count (length row.0.corners)) left row.1 >>= λ more. Ok (row.0 ∷ more.0, more.1)

pub more_read : (digits e : ℕ) (ps : List Property) (n : ℕ) (old now new : Option Items) (rs : List Row) (r : Row)
    → TakesSoFar digits e ps n old rs now → TakesRow digits ps now r new → TakesSoFar digits e ps n old (rs ++ r ∷ []) new
more_read digits e ps n old now new rs r so_far row = λ vertices left is.
    let s = setting digits vertices in
    let long = length_push rs r in
    let all : length rs + suc left ≡ n = omega (arith, long, is) in
    let next : suc (length rs) ≡ length (rs ++ r ∷ []) = omega (arith, long) in
    so_far vertices (suc left) all
    ∙ one_read s e (length rs) left ps (map used_row rs) r now new (row vertices)
    ∙ ap (λ (us : List RowItems). option_map (λ items. with_front us (rows s e ps (suc (length rs)) 0 left items)) new) (sym (map-append used_row rs (r ∷ [])))
    ∙ ap (λ (k : ℕ). option_map (λ items. with_front (map used_row (rs ++ r ∷ [])) (rows s e ps k 0 left items)) new) next

pub all_read : (digits e n : ℕ) (el : Element) (old now : Option Items) (rs : List Row) → n ≡ row_count el → TakesSoFar digits e el.properties n old rs now
    → length rs ≡ n → TakesRows digits e el old rs now
all_read digits e n el old now rs all so_far is = λ vertices.
    subst (λ (m : ℕ). option_map (rows (setting digits vertices) e el.properties 0 0 m) old ≡ option_map (ended (map used_row rs)) now) all
    (so_far vertices 0 (omega arith) ∙ ap (λ (us : List RowItems). option_map (ended us) now) (append-nil (map used_row rs)))
  where
    ended : List RowItems → Items → Result (List RowItems × Items) BodyFault
    ended us items = Ok (us, items)

refused_at : (digits e n : ℕ) (el : Element) (old now : Option Items) (rs : List Row) (f : BodyFault) → n ≡ row_count el
    → TakesSoFar digits e el.properties n old rs now → length rs < n → RefusesRowAt digits el.properties e (length rs) now f → RefusesRows digits e el old f
refused_at digits e n el old now rs f all so_far below (flaw, is, refused) = λ vertices.
    let s = setting digits vertices in
    let left = n - suc (length rs) in
    subst (λ (m : ℕ). ForSome old (λ items. rows s e el.properties 0 0 m items ≡ Err f)) all
    (refused_behind _ _ _ _ _ (so_far vertices (suc left) (omega arith))
    (λ items told. ap (λ (v : Result (RowItems × Items) Flaw). with_front (map used_row rs) (placed e (length rs) v >>= after s left)) (refused vertices items told)
    ∙ ap Err (sym is)))
  where
    after : Setting → ℕ → RowItems × Items → Result (List RowItems × Items) BodyFault
    after s left row = rows s e el.properties (suc (length rs)) (0 + fan_count (length row.0.corners)) left row.1 >>= λ more. Ok (row.0 ∷ more.0, more.1)

pub row_is_refused : (digits e n r : ℕ) (el : Element) (old now : Option Items) (rs : List Row) (f : BodyFault) → n ≡ row_count el
    → TakesSoFar digits e el.properties n old rs now → length rs ≡ r → r < n → RefusesRowAt digits el.properties e r now f → RefusesRows digits e el old f
row_is_refused digits e n r el old now rs f all so_far is below refused =
    refused_at digits e n el old now rs f all so_far (omega arith) (subst (λ (k : ℕ). RefusesRowAt digits el.properties e k now f) (sym is) refused)

-- a refusal of a row is that of an item in it
pub row_fault_is : (digits e r : ℕ) (ps : List Property) (old : Option Items) (fault : ItemFault) (f : BodyFault) → row_fault e r fault ≡ f → IsRefusal f
    → ((flaw : Flaw) → fault ≡ item_fault.Flaw flaw → RefusesRow digits ps old flaw) → RefusesRowAt digits ps e r old f
row_fault_is digits e r ps old (item_fault.Flaw flaw) f is refusal refused = (flaw, sym is, refused flaw refl)
row_fault_is digits e r ps old item_fault.Input f is refusal refused = absurd (subst IsRefusal (sym is) refusal)

pub of_input : (e r : ℕ) (fault : ItemFault) (f : BodyFault) → row_fault e r fault ≡ f → IsOfInput f
of_input e r (item_fault.Flaw Short) f is = subst IsOfInput is (record {})
of_input e r (item_fault.Flaw Number) f is = subst IsOfInput is (record {})
of_input e r (item_fault.Flaw Range) f is = subst IsOfInput is (record {})
of_input e r (item_fault.Flaw (BadIndex i)) f is = subst IsOfInput is (record {})
of_input e r (item_fault.Flaw TooManyTris) f is = subst IsOfInput is (record {})
of_input e r (item_fault.Flaw TooLong) f is = subst IsOfInput is (record {})
of_input e r item_fault.Input f is = subst IsOfInput is (record {})
