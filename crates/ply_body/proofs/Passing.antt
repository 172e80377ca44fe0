-- What is read of a row beside its list of indices.
use Rattle.std.proofs.Common.{◌≡◌, inl, inr, ℕ, zero, suc, ◌+◌, ◌<◌, List, [], ◌∷◌, ◌++◌, length, get_or, drop, refl, sym, ◌∙◌, ap, arith}
use Rattle.std.specs.Prelude.{All, Ok, Err}
use Rattle.std.specs.declared.option.Option.{Option}
use Rattle.std.specs.declared.option.Option.TheVariants.{None, Some}
use Rattle.std.proofs.lemmas.List.{drop_more}
use Rattle.std.proofs.lemmas.List.Elements.{All-head, All-tail, All-drop}
use Rattle.ply_head.specs.declared.element.Kind.{Kind}
use Rattle.ply_head.specs.declared.element.Kind.TheVariants.{I8}
use Rattle.ply_head.specs.declared.element.Role.TheVariants.{X}
use Rattle.ply_head.specs.declared.element.Property.{Property}
use Rattle.ply_head.specs.Heads.{IsSkipped}
use Rattle.ply_body.specs.declared.fault.Flaw.{Flaw}
use Rattle.ply_body.specs.Items.{◌>>=◌, Items, item, item_as, count_of, pass_one, passed, skipped}
use Rattle.ply_body.specs.Bodies.{Setting, RowItems, with_property, with_properties}
use Rattle.ply_body.specs.Places.{indices_kind, front_of, IsRowLayout}
use Rattle.ply_body.proofs.Binds.{bind_assoc, bind_same}

-- what stands for a property where there is none
abbrev pub no_property : Property
no_property = record { count_kind = None; kind = I8; role = X }

pub passed_refused : (ps : List Property) (i : ℕ) (x : Items) (flaw : Flaw) → i < length ps
    → pass_one (get_or ps i no_property) x ≡ Err flaw → passed (drop i ps) x ≡ Err flaw
passed_refused ps i x flaw h e = rw (drop_more ps i no_property h, e) refl

-- A property that isn't used leaves what was used.
pub skips_property : (s : Setting) (formed : ℕ) (p : Property) (u : RowItems) (items : Items) → IsSkipped p
    → with_property s formed p u items ≡ (pass_one p items >>= λ rest. Ok (u, rest))
skips_property s formed p u items skip = by_count p.count_kind refl where
  by_count : (k : Option Kind) → p.count_kind ≡ k → with_property s formed p u items ≡ (pass_one p items >>= λ rest. Ok (u, rest))
  by_count None is = rw (is, skip) (sym (bind_assoc (item p.kind items) (λ i. Ok i.1) (λ rest. Ok (u, rest))))
  by_count (Some k) is = rw (is, skip) (sym (bind_assoc (item_as count_of k items) (λ n. skipped p.kind n.0 n.1) (λ rest. Ok (u, rest))))

pub skips_all : (s : Setting) (formed : ℕ) (ps : List Property) (u : RowItems) (items : Items) → All IsSkipped ps
    → with_properties s formed ps u items ≡ (passed ps items >>= λ rest. Ok (u, rest))
skips_all s formed [] u items skip = refl
skips_all s formed (p ∷ ps) u items skip =
    rw (skips_property s formed p u items (All-head IsSkipped p ps skip))
    (bind_assoc (pass_one p items) (λ rest. Ok (u, rest)) (λ v. with_properties s formed ps v.0 v.1)
    ∙ (bind_same (pass_one p items) (λ rest. with_properties s formed ps u rest) (λ rest. passed ps rest >>= λ r. Ok (u, r))
    (λ rest is. skips_all s formed ps u rest (All-tail IsSkipped p ps skip))
    ∙ sym (bind_assoc (pass_one p items) (λ rest. passed ps rest) (λ r. Ok (u, r)))))

-- properties one after another
pub both_properties : (s : Setting) (formed : ℕ) (ps qs : List Property) (u : RowItems) (items : Items)
    → with_properties s formed (ps ++ qs) u items ≡ (with_properties s formed ps u items >>= λ v. with_properties s formed qs v.0 v.1)
both_properties s formed [] qs u items = refl
both_properties s formed (p ∷ ps) qs u items =
    bind_same (with_property s formed p u items) (λ v. with_properties s formed (ps ++ qs) v.0 v.1)
    (λ v. with_properties s formed ps v.0 v.1 >>= λ w. with_properties s formed qs w.0 w.1)
    (λ v is. both_properties s formed ps qs v.0 v.1)
    ∙ sym (bind_assoc (with_property s formed p u items) (λ v. with_properties s formed ps v.0 v.1) (λ w. with_properties s formed qs w.0 w.1))

-- a front of properties that aren't used
pub front_behind : (ps qs : List Property) (items : Items) → All IsSkipped ps
    → front_of (ps ++ qs) items ≡ (passed ps items >>= λ rest. front_of qs rest)
front_behind [] qs items skip = refl
front_behind (p ∷ ps) qs items skip =
    let skips = All-head IsSkipped p ps skip in
    rw skips
    (bind_same (pass_one p items) (λ rest. front_of (ps ++ qs) rest) (λ rest. passed ps rest >>= λ r. front_of qs r)
    (λ rest is. front_behind ps qs rest (All-tail IsSkipped p ps skip))
    ∙ sym (bind_assoc (pass_one p items) (λ rest. passed ps rest) (λ r. front_of qs r)))

pub front_refused_at_list : (ps : List Property) (i : ℕ) (k : Kind) (x : Items) (flaw : Flaw) → i < length ps → Some k ≡ indices_kind (get_or ps i no_property)
    → item_as count_of k x ≡ Err flaw → front_of (drop i ps) x ≡ Err flaw
front_refused_at_list ps i k x flaw h is e = rw (drop_more ps i no_property h, ← is, e) refl

pub front_refused_before : (ps : List Property) (i : ℕ) (x : Items) (flaw : Flaw) → i < length ps → None ≡ indices_kind (get_or ps i no_property)
    → pass_one (get_or ps i no_property) x ≡ Err flaw → front_of (drop i ps) x ≡ Err flaw
front_refused_before ps i x flaw h is e = rw (drop_more ps i no_property h, ← is, e) refl

no_list : (p : Property) (k : Kind) → IsSkipped p → Some k ≡ indices_kind p → ⊥
no_list p k skip is = let e : indices_kind p ≡ None = rw skip refl in cc

behind_at : (before behind : List Property) (ix : Property) (i : ℕ) (k : Kind) → All IsSkipped before → All IsSkipped behind
    → Some k ≡ indices_kind (get_or (before ++ ix ∷ behind) i no_property) → All IsSkipped (drop (i + 1) (before ++ ix ∷ behind))
behind_at [] behind ix zero k here there is = there
behind_at [] behind ix (suc i) k here there is = let e : suc i + 1 ≡ suc (suc i) = omega arith in rw e (All-drop IsSkipped (suc i) behind there)
behind_at (b ∷ before) behind ix zero k here there is = absurd (no_list b k (All-head IsSkipped b before here) is)
behind_at (b ∷ before) behind ix (suc i) k here there is =
    let e : suc i + 1 ≡ suc (i + 1) = omega arith in rw e (behind_at before behind ix i k (All-tail IsSkipped b before here) there is)

-- Behind the list of indices nothing is used,
pub behind_list : (ps : List Property) (i : ℕ) (k : Kind) → IsRowLayout ps → i < length ps → Some k ≡ indices_kind (get_or ps i no_property) → All IsSkipped (drop (i + 1) ps)
behind_list ps i k (inl skip) h is = absurd (no_list (get_or ps i no_property) k (skip i no_property h) is)
behind_list ps i k (inr it) h is =
    let is' : Some k ≡ indices_kind (get_or (it.before ++ it.indices ∷ it.behind) i no_property) = is ∙ ap (λ (qs : List Property). indices_kind (get_or qs i no_property)) it.properties in
    rw it.properties (behind_at it.before it.behind it.indices i k it.before_skipped it.behind_skipped is')

-- and where nothing is used there is none.
pub list_used : (ps : List Property) (i : ℕ) (k : Kind) → All IsSkipped ps → i < length ps → Some k ≡ indices_kind (get_or ps i no_property) → ⊥
list_used ps i k skip h is = no_list (get_or ps i no_property) k (skip i no_property h) is
