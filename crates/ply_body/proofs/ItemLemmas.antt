-- How an item is taken, and what it means.
use Rattle.std.proofs.Common.{◌≡◌, ℕ, suc, refl, ◌∙◌, ap, subst}
use Rattle.std.specs.Prelude.{Result, Ok, Err}
use Rattle.std.specs.Option.{option_map}
use Rattle.std.specs.declared.option.Option.{Option}
use Rattle.std.specs.declared.option.Option.TheVariants.{None, Some}
use Rattle.ply_head.specs.declared.element.Kind.{Kind}
use Rattle.ply_body.specs.declared.fault.Flaw.{Flaw}
use Rattle.ply_body.specs.declared.item.Item.{Item}
use Rattle.ply_body.specs.Items.{◌>>=◌, Items, item, item_as, skipped, Refuses, Takes}

pub refused_here : {X : Type 0} (read : Items → Result X Flaw) (x : Items) (flaw : Flaw) → read x ≡ Err flaw → Refuses read (Some x) flaw
refused_here read x flaw h items is =
    let same : x ≡ items = cc in
    subst (λ (y : Items). read y ≡ Err flaw) same h

pub meant : {X : Type 0} (meaning : Item → Result X Flaw) (kind : Kind) (old new : Option Items) (i : Item) (x : X)
    → Takes (item kind) old i new → meaning i ≡ Ok x → Takes (item_as meaning kind) old x new
meant meaning kind None None i x taken means = refl
meant meaning kind None (Some b) i x taken means = absurd (cc)
meant meaning kind (Some a) None i x taken means = absurd (cc)
meant {X} meaning kind (Some a) (Some b) i x taken means =
    let here : item kind a ≡ Ok (i, b) = cc in
    ap Some (ap (λ (r : Result (Item × Items) Flaw). r >>= (λ j. meaning j.0 >>= (λ y. Ok (y, j.1)))) here
    ∙ ap (λ (r : Result X Flaw). r >>= (λ y. Ok (y, b))) means)

pub meaningless : {X : Type 0} (meaning : Item → Result X Flaw) (kind : Kind) (old new : Option Items) (i : Item) (flaw : Flaw)
    → Takes (item kind) old i new → meaning i ≡ Err flaw → Refuses (item_as meaning kind) old flaw
meaningless meaning kind None new i flaw taken means items is = absurd (cc)
meaningless meaning kind (Some a) None i flaw taken means items is = absurd (cc)
meaningless {X} meaning kind (Some a) (Some b) i flaw taken means items is =
    let here : item kind items ≡ Ok (i, b) = cc in
    ap (λ (r : Result (Item × Items) Flaw). r >>= (λ j. meaning j.0 >>= (λ y. Ok (y, j.1)))) here
    ∙ ap (λ (r : Result X Flaw). r >>= (λ y. Ok (y, b))) means

pub not_taken : {X : Type 0} (meaning : Item → Result X Flaw) (kind : Kind) (old : Option Items) (flaw : Flaw)
    → Refuses (item kind) old flaw → Refuses (item_as meaning kind) old flaw
not_taken meaning kind old flaw refused items is =
    ap (λ (r : Result (Item × Items) Flaw). r >>= (λ j. meaning j.0 >>= (λ y. Ok (y, j.1)))) (refused items is)

pub one_skipped : (kind : Kind) (n : ℕ) (old new : Option Items) (i : Item) → Takes (item kind) old i new
    → option_map (skipped kind (suc n)) old ≡ option_map (skipped kind n) new
one_skipped kind n None None i taken = refl
one_skipped kind n None (Some b) i taken = absurd (cc)
one_skipped kind n (Some a) None i taken = absurd (cc)
one_skipped kind n (Some a) (Some b) i taken =
    let here : item kind a ≡ Ok (i, b) = cc in
    ap Some (ap (λ (r : Result (Item × Items) Flaw). r >>= (λ j. skipped kind n j.1)) here)

-- where an item among those that are skipped is refused, so are they
pub none_skipped : (kind : Kind) (n count : ℕ) (start now : Option Items) (flaw : Flaw)
    → option_map (skipped kind count) start ≡ option_map (skipped kind (suc n)) now → Refuses (item kind) now flaw → Refuses (skipped kind count) start flaw
none_skipped kind n count None now flaw same refused items is = absurd (cc)
none_skipped kind n count (Some a) None flaw same refused items is = absurd (cc)
none_skipped kind n count (Some a) (Some b) flaw same refused items is =
    let here : skipped kind count items ≡ skipped kind (suc n) b = cc in
    here ∙ ap (λ (r : Result (Item × Items) Flaw). r >>= (λ j. skipped kind n j.1)) (refused b refl)
