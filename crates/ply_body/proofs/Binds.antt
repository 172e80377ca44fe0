-- Readings that follow one another.
use Rattle.std.proofs.Common.{◌≡◌, ℕ, ◌≤◌, arith, List, [], ◌++◌, refl, sym, ◌∙◌, ap, append_assoc}
use Rattle.std.specs.Prelude.{Result, Ok, Err}
use Rattle.std.specs.Option.{option_map, ForSome}
use Rattle.std.specs.declared.option.Option.{Option}
use Rattle.std.specs.declared.option.Option.TheVariants.{None, Some}
use Rattle.tpz_io.specs.Causes.{Rose}
use Rattle.tpz_base.specs.Texts.{Bytes, Face}
use Rattle.ply_head.specs.declared.element.Property.{Property}
use Rattle.ply_body.specs.declared.fault.Flaw.{Flaw}
use Rattle.ply_body.specs.declared.fault.Flaw.TheVariants.{Short, Number, Range, BadIndex, TooManyTris, TooLong}
use Rattle.ply_body.specs.declared.fault.BodyFault.{BodyFault}
use Rattle.ply_body.specs.declared.fault.BodyFault.TheVariants.{InputFault, WorkFault, WorkDamage}
use Rattle.ply_body.specs.declared.fault.BodyFault.TheVariants as fault
use Rattle.ply_body.specs.declared.item_reader.ItemFault.{ItemFault}
use Rattle.ply_body.specs.declared.item_reader.ItemFault.TheVariants as item_faults
use Rattle.ply_body.specs.declared.place.Place.{Place}
use Rattle.ply_body.specs.Items.{◌>>=◌, Items, ItemPlace}
use Rattle.ply_body.specs.Bodies.{placed, fault_of}
use Rattle.ply_body.specs.Readings.{with_faces}
use Rattle.ply_body.specs.Faults.{row_fault}
use Rattle.ply_body.specs.Places.{told_at, IsReason, Moves, Fails}

pub bind_ok : {A B E : Type 0} (r : Result A E) (f : A → Result B E) (x : A) → r ≡ Ok x → (r >>= f) ≡ f x
bind_ok r f x e = rw e refl

pub bind_err : {A B E : Type 0} (r : Result A E) (f : A → Result B E) (e : E) → r ≡ Err e → (r >>= f) ≡ Err e
bind_err r f e is = rw is refl

pub bind_assoc : {A B C E : Type 0} (r : Result A E) (f : A → Result B E) (g : B → Result C E) → ((r >>= f) >>= g) ≡ (r >>= λ x. f x >>= g)
bind_assoc (Ok x) f g = refl
bind_assoc (Err e) f g = refl

pub bind_same : {A B E : Type 0} (r : Result A E) (f g : A → Result B E) → ((x : A) → r ≡ Ok x → f x ≡ g x) → (r >>= f) ≡ (r >>= g)
bind_same (Ok x) f g h = h x refl
bind_same (Err e) f g h = refl

pub placed_ok : {A : Type 0} (e r : ℕ) (q : Result A Flaw) (x : A) → q ≡ Ok x → placed e r q ≡ Ok x
placed_ok e r q x is = rw is refl

pub placed_err : {A : Type 0} (e r : ℕ) (q : Result A Flaw) (flaw : Flaw) → q ≡ Err flaw → placed e r q ≡ Err (fault_of e r flaw)
placed_err e r q flaw is = rw is refl

pub placed_bind : {A B : Type 0} (e r : ℕ) (q : Result A Flaw) (f : A → Result B Flaw) → placed e r (q >>= f) ≡ (placed e r q >>= λ x. placed e r (f x))
placed_bind e r (Ok x) f = refl
placed_bind e r (Err flaw) f = refl

-- with faces in front, where each reading behind has them in front
pub with_bind : {A : Type 0} (fs : List Face) (r : Result A BodyFault) (f g : A → Result (List Face) BodyFault)
    → ((x : A) → f x ≡ with_faces fs (g x)) → (r >>= f) ≡ with_faces fs (r >>= g)
with_bind fs (Ok x) f g h = h x
with_bind fs (Err e) f g h = refl

pub with_none : (r : Result (List Face) BodyFault) → with_faces [] r ≡ r
with_none (Ok gs) = refl
with_none (Err e) = refl

pub with_both : (fs gs : List Face) (r : Result (List Face) BodyFault) → with_faces fs (with_faces gs r) ≡ with_faces (fs ++ gs) r
with_both fs gs (Ok hs) = ap Ok (sym (append_assoc fs gs hs))
with_both fs gs (Err e) = refl

-- The same over what is told, where it is.
pub told_none : (r : Option (Result (List Face) BodyFault)) → option_map (with_faces []) r ≡ r
told_none None = refl
told_none (Some r) = ap Some (with_none r)

pub told_both : (fs gs : List Face) (a b c : Option (Result (List Face) BodyFault))
    → a ≡ option_map (with_faces fs) b → b ≡ option_map (with_faces gs) c → a ≡ option_map (with_faces (fs ++ gs)) c
told_both fs gs a b None p q = cc
told_both fs gs a b (Some c) p q = p ∙ (ap (option_map (with_faces fs)) q ∙ ap Some (with_both fs gs c))

-- a step over what is told, from the step over items
pub takes_step : {X A B : Type 0} (read : Items → Result (X × Items) Flaw) (x : X) (f : Items → A) (g : Items → B) (h : B → A) (old new : Option Items)
    → option_map read old ≡ option_map (λ (items : Items). Ok (x, items)) new → ((o n : Items) → read o ≡ Ok (x, n) → f o ≡ h (g n))
    → option_map f old ≡ option_map h (option_map g new)
takes_step read x f g h None None is step = refl
takes_step read x f g h None (Some n) is step = cc
takes_step read x f g h (Some o) None is step = cc
takes_step read x f g h (Some o) (Some n) is step = let e : read o ≡ Ok (x, n) = cc in ap Some (step o n e)

pub passes_step : {A B : Type 0} (read : Items → Result Items Flaw) (f : Items → A) (g : Items → B) (h : B → A) (old new : Option Items)
    → option_map read old ≡ option_map Ok new → ((o n : Items) → read o ≡ Ok n → f o ≡ h (g n))
    → option_map f old ≡ option_map h (option_map g new)
passes_step read f g h None None is step = refl
passes_step read f g h None (Some n) is step = cc
passes_step read f g h (Some o) None is step = cc
passes_step read f g h (Some o) (Some n) is step = let e : read o ≡ Ok n = cc in ap Some (step o n e)

pub takes_same : {X B : Type 0} (read : Items → Result (X × Items) Flaw) (x : X) (f g : Items → B) (old new : Option Items)
    → option_map read old ≡ option_map (λ (items : Items). Ok (x, items)) new → ((o n : Items) → read o ≡ Ok (x, n) → f o ≡ g n)
    → option_map f old ≡ option_map g new
takes_same read x f g None None is step = refl
takes_same read x f g None (Some n) is step = cc
takes_same read x f g (Some o) None is step = cc
takes_same read x f g (Some o) (Some n) is step = let e : read o ≡ Ok (x, n) = cc in ap Some (step o n e)

pub passes_same : {B : Type 0} (read : Items → Result Items Flaw) (f g : Items → B) (old new : Option Items)
    → option_map read old ≡ option_map Ok new → ((o n : Items) → read o ≡ Ok n → f o ≡ g n)
    → option_map f old ≡ option_map g new
passes_same read f g None None is step = refl
passes_same read f g None (Some n) is step = cc
passes_same read f g (Some o) None is step = cc
passes_same read f g (Some o) (Some n) is step = let e : read o ≡ Ok n = cc in ap Some (step o n e)

-- what a later reading is refused for, from the place before
pub same_refused : {B : Type 0} (f g : Items → B) (y : B) (old new : Option Items)
    → option_map f old ≡ option_map g new → ForSome new (λ n. g n ≡ y) → ForSome old (λ o. f o ≡ y)
same_refused f g y old None is late o told = cc
same_refused f g y old (Some n) is late o told = let e : f o ≡ g n = cc in e ∙ late n refl

-- what a reading took that went on to its end
pub bind_taken : {A B E : Type 0} (r : Result A E) (f : A → Result B E) (y : B) → (r >>= f) ≡ Ok y → (x : A) × (r ≡ Ok x) × (f x ≡ Ok y)
bind_taken (Ok x) f y is = (x, refl, is)
bind_taken (Err e) f y is = absurd (cc)

pub ok_first : {A B E : Type 0} (x x' : A) (y y' : B) → ◌≡◌ {A = Result (A × B) E} (Ok (x, y)) (Ok (x', y')) → x ≡ x'
ok_first {A} {B} {E} x x' y y' is = let e : ◌≡◌ {A = A × B} (x, y) (x', y') = cc in ap (λ (p : A × B). p.0) e

-- a refusal of what is told, from the refusal of an item
pub refused_told : {X : Type 0} (read : Items → Result X Flaw) (f : Items → Result (List Face) BodyFault) (old : Option Items) (flaw : Flaw) (y : Result (List Face) BodyFault)
    → ForSome old (λ o. read o ≡ Err flaw) → ((o : Items) → read o ≡ Err flaw → f o ≡ y) → ForSome (option_map f old) (λ x. x ≡ y)
refused_told read f None flaw y refused step x is = absurd (cc)
refused_told read f (Some o) flaw y refused step x is = let e = step o (refused o refl) in cc

pub taken_told : {X : Type 0} (read : Items → Result (X × Items) Flaw) (x : X) (f : Items → Result (List Face) BodyFault) (old new : Option Items) (y : Result (List Face) BodyFault)
    → option_map read old ≡ option_map (λ (items : Items). Ok (x, items)) new → ((o n : Items) → read o ≡ Ok (x, n) → f o ≡ y) → ForSome (option_map f old) (λ z. z ≡ y)
taken_told read x f None new y taken step z is = absurd (cc)
taken_told read x f (Some o) None y taken step z is = absurd (cc)
taken_told read x f (Some o) (Some n) y taken step z is = let r : read o ≡ Ok (x, n) = cc in let e = step o n r in cc

-- Reasons of faults.
pub flaw_reason : (e r : ℕ) (coming : Option (Result (List Face) BodyFault)) (before now : ℕ) (flaw : Flaw)
    → ForSome coming (λ x. x ≡ Err (fault_of e r flaw)) → IsReason coming before now (fault_of e r flaw)
flaw_reason e r coming before now Short h = h
flaw_reason e r coming before now Number h = h
flaw_reason e r coming before now Range h = h
flaw_reason e r coming before now (BadIndex i) h = h
flaw_reason e r coming before now TooManyTris h = h
flaw_reason e r coming before now TooLong h = h

pub item_reason : (e r : ℕ) (coming : Option (Result (List Face) BodyFault)) (before now : ℕ) (fault : ItemFault)
    → ((flaw : Flaw) → fault ≡ item_faults.Flaw flaw → ForSome coming (λ x. x ≡ Err (fault_of e r flaw))) → (fault ≡ item_faults.Input → Rose before now)
    → IsReason coming before now (row_fault e r fault)
item_reason e r coming before now (item_faults.Flaw flaw) refused input = flaw_reason e r coming before now flaw (refused flaw refl)
item_reason e r coming before now item_faults.Input refused input = input refl

with_refused : (a b : Option (Result (List Face) BodyFault)) (fs : List Face) (f : BodyFault)
    → a ≡ option_map (with_faces fs) b → ForSome b (λ x. x ≡ Err f) → ForSome a (λ x. x ≡ Err f)
with_refused a None fs f is late x told = absurd (cc)
with_refused a (Some y) fs f is late x told =
    let h : y ≡ Err f = late y refl in
    let e : with_faces fs y ≡ Err f = rw h refl in
    cc

-- the reason from a later place
pub later_reason : (a b : Option (Result (List Face) BodyFault)) (fs : List Face) (before mid now : ℕ) (f : BodyFault)
    → a ≡ option_map (with_faces fs) b → before ≤ mid → IsReason b mid now f → IsReason a before now f
later_reason a b fs before mid now InputFault is le h = omega arith
later_reason a b fs before mid now WorkFault is le h = h
later_reason a b fs before mid now (WorkDamage offset) is le h = h
later_reason a b fs before mid now (fault.Short e r) is le h = with_refused a b fs (fault.Short e r) is h
later_reason a b fs before mid now (fault.Number e r) is le h = with_refused a b fs (fault.Number e r) is h
later_reason a b fs before mid now (fault.Range e r) is le h = with_refused a b fs (fault.Range e r) is h
later_reason a b fs before mid now (fault.BadIndex e r i) is le h = with_refused a b fs (fault.BadIndex e r i) is h
later_reason a b fs before mid now (fault.Extent x y z) is le h = with_refused a b fs (fault.Extent x y z) is h
later_reason a b fs before mid now (fault.TooManyTris e r) is le h = with_refused a b fs (fault.TooManyTris e r) is h
later_reason a b fs before mid now (fault.TooLong e r) is le h = with_refused a b fs (fault.TooLong e r) is h

-- Steps one after another.
pub no_step : (v : ℕ) (ps : List Property) (p : Place) (items : ItemPlace) (left : Option Bytes) → Moves v ps p items left p items left []
no_step v ps p items left = record { told = λ s es is. sym (told_none (told_at s ps es p items left)) }

pub then_moves : {v : ℕ} {ps : List Property} {p p1 p2 : Place} {i i1 i2 : ItemPlace} {l l1 l2 : Option Bytes} {fs : List Face}
    → Moves v ps p i l p1 i1 l1 [] → Moves v ps p1 i1 l1 p2 i2 l2 fs → Moves v ps p i l p2 i2 l2 fs
then_moves {v} {ps} {p} {p1} {p2} {i} {i1} {i2} {l} {l1} {l2} {fs} a b =
    record { told = λ s es is. told_both [] fs _ _ _ (a.told s es is) (b.told s es is) }

pub then_fails : {v : ℕ} {ps : List Property} {p p1 : Place} {i i1 : ItemPlace} {l l1 : Option Bytes} {fs : List Face} {before mid now : ℕ} {f : BodyFault}
    → Moves v ps p i l p1 i1 l1 fs → before ≤ mid → Fails v ps p1 i1 l1 mid now f → Fails v ps p i l before now f
then_fails {fs = fs} {before = before} {mid = mid} {now = now} {f = f} a le b =
    record { reason = λ s es is. later_reason _ _ fs before mid now f (a.told s es is) le (b.reason s es is) }

-- no step, where the same comes from each list of items
pub map_same : (f g : Items → Result (List Face) BodyFault) (o : Option Items) → ((items : Items) → f items ≡ g items)
    → option_map f o ≡ option_map (with_faces []) (option_map g o)
map_same f g None same = refl
map_same f g (Some items) same = ap Some (same items ∙ sym (with_none (g items)))
