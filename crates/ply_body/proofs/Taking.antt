-- One reading of items behind another.
use Rattle.std.proofs.Common.{◌≡◌, ◌≢◌, ℕ, ◌+◌, ◌<◌, ◌≤◌, List, length, drop, get_or, refl, sym, ◌∙◌, ap, subst}
use Rattle.std.proofs.lemmas.List.{drop_more, drop_all}
use Rattle.std.specs.Prelude.{Result, Ok, Err}
use Rattle.std.specs.Option.{ForSome, option_map}
use Rattle.std.specs.declared.option.Option.{Option}
use Rattle.std.specs.declared.option.Option.TheVariants.{None, Some}
use Rattle.ply_body.specs.declared.fault.Flaw.{Flaw}
use Rattle.ply_head.specs.declared.element.Kind.{Kind}
use Rattle.ply_head.specs.declared.element.Role.{Role}
use Rattle.ply_head.specs.declared.element.Role.TheVariants.{X, Y, Z, Indices, Skip}
use Rattle.ply_head.specs.declared.element.Property.{Property}
use Rattle.ply_head.specs.Heads.{IsOfVertex, IsSkipped}
use Rattle.ply_body.specs.Items.{◌>>=◌, Items, coordinate_of, item_as, pass_one, Takes, Refuses}
use Rattle.ply_body.specs.Bodies.{Setting, RowItems, scalar, with_property, with_properties}
use Rattle.ply_body.proofs.Binds.{passes_same}
use Rattle.ply_body.proofs.Passing.{skips_property}

pub chain : {X Y E : Type 0} (f : Items → Result (X × Items) E) (g : X × Items → Result Y E) (old mid : Option Items) (x : X)
    → option_map f old ≡ option_map (λ i. Ok (x, i)) mid → option_map (λ i. f i >>= g) old ≡ option_map (λ i. g (x, i)) mid
chain f g None None x is = refl
chain f g None (Some m) x is = absurd (cc)
chain f g (Some o) None x is = absurd (cc)
chain f g (Some o) (Some m) x is = (let e : f o ≡ Ok (x, m) = cc in ap (λ r. Some (r >>= g)) e)

-- the first is refused
pub refused_first : {X Y E : Type 0} (f : Items → Result (X × Items) E) (g : X × Items → Result Y E) (old : Option Items) (e : E)
    → ForSome old (λ i. f i ≡ Err e) → ForSome old (λ i. (f i >>= g) ≡ Err e)
refused_first f g old e is = λ items told. ap (λ r. r >>= g) (is items told)

-- what is left behind the first is refused
pub refused_behind : {A : Type 0} (f g : Items → A) (old mid : Option Items) (a : A) → option_map f old ≡ option_map g mid
    → ForSome mid (λ i. g i ≡ a) → ForSome old (λ i. f i ≡ a)
refused_behind f g None mid a is refused = λ items told. absurd (cc)
refused_behind f g (Some o) None a is refused = absurd (cc)
refused_behind f g (Some o) (Some m) a is refused = λ items told.
    let there = refused m refl in
    let both : f o ≡ g m = cc in
    let here : items ≡ o = cc in
    ap f here ∙ both ∙ there

-- The properties of a row, from the number i on.

pub row_step : (s : Setting) (ps : List Property) (i : ℕ) (d : Property) (u v : RowItems) (old mid : Option Items) → i < length ps
    → Takes (with_property s 0 (get_or ps i d) u) old v mid
    → option_map (with_properties s 0 (drop i ps) u) old ≡ option_map (with_properties s 0 (drop (i + 1) ps) v) mid
row_step s ps i d u v old mid below is =
    ap (λ (l : List Property). option_map (with_properties s 0 l u) old) (drop_more ps i d below)
    ∙ chain (with_property s 0 (get_or ps i d) u) (λ w. with_properties s 0 (drop (i + 1) ps) w.0 w.1) old mid v is

pub row_refused : (s : Setting) (ps : List Property) (i : ℕ) (d : Property) (u : RowItems) (old : Option Items) (flaw : Flaw) → i < length ps
    → Refuses (with_property s 0 (get_or ps i d) u) old flaw → Refuses (with_properties s 0 (drop i ps) u) old flaw
row_refused s ps i d u old flaw below is =
    subst (λ (l : List Property). Refuses (with_properties s 0 l u) old flaw) (sym (drop_more ps i d below))
    (refused_first (with_property s 0 (get_or ps i d) u) (λ w. with_properties s 0 (drop (i + 1) ps) w.0 w.1) old flaw is)

pub row_ends : (s : Setting) (ps : List Property) (i : ℕ) (u : RowItems) (old : Option Items) → length ps ≤ i
    → option_map (with_properties s 0 (drop i ps) u) old ≡ option_map (λ items. Ok (u, items)) old
row_ends s ps i u old past = ap (λ (l : List Property). option_map (with_properties s 0 l u) old) (drop_all i ps past)

-- A property that isn't used leaves what was used.

pub unused_taken : (s : Setting) (p : Property) (u : RowItems) (old new : Option Items) → IsSkipped p
    → option_map (pass_one p) old ≡ option_map Ok new → Takes (with_property s 0 p u) old u new
unused_taken s p u old new skip taken =
    passes_same (pass_one p) (with_property s 0 p u) (λ items. Ok (u, items)) old new taken (λ o n e. skips_property s 0 p u o skip ∙ rw e refl)

pub unused_refused : (s : Setting) (p : Property) (u : RowItems) (old : Option Items) (flaw : Flaw) → IsSkipped p
    → Refuses (pass_one p) old flaw → Refuses (with_property s 0 p u) old flaw
unused_refused s p u old flaw skip refused = λ items told. skips_property s 0 p u items skip ∙ rw (refused items told) refl

-- Another property of a vertex is a coordinate.

scalar_is : (s : Setting) (p : Property) (u : RowItems) (items : Items) → IsOfVertex p → p.role ≢ Skip
    → with_property s 0 p u items ≡ scalar s p.role p.kind u items
scalar_is s p u items vertex used = by_count p.count_kind refl
  where
    by_count : (k : Option Kind) → p.count_kind ≡ k → with_property s 0 p u items ≡ scalar s p.role p.kind u items
    by_count None is = rw is refl
    by_count (Some k) is = absurd (used (vertex.lists (λ none. let both : Some k ≡ None = sym is ∙ none in cc)))

value_refused : (s : Setting) (role : Role) (kind : Kind) (u : RowItems) (items : Items) (flaw : Flaw) → role ≢ Skip
    → item_as (coordinate_of s.digits) kind items ≡ Err flaw → scalar s role kind u items ≡ Err flaw
value_refused s X kind u items flaw used is = rw is refl
value_refused s Y kind u items flaw used is = rw is refl
value_refused s Z kind u items flaw used is = rw is refl
value_refused s Indices kind u items flaw used is = rw is refl
value_refused s Skip kind u items flaw used is = absurd (used refl)

pub coordinate_refused : (s : Setting) (p : Property) (u : RowItems) (old : Option Items) (flaw : Flaw) → IsOfVertex p → p.role ≢ Skip
    → Refuses (item_as (coordinate_of s.digits) p.kind) old flaw → Refuses (with_property s 0 p u) old flaw
coordinate_refused s p u old flaw vertex used refused = λ items told.
    scalar_is s p u items vertex used ∙ value_refused s p.role p.kind u items flaw used (refused items told)
