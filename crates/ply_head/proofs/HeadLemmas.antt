-- Which test of a line holds, and what a line keeps.
use Rattle.std.proofs.Common.{◌≡◌, ℕ, suc, ◌<◌, ◌≤◌, Bool, true, false, ◌&&◌, ◌||◌, refl, List, [], ◌∷◌, ◌++◌, length, arith, ap, subst, length-append}
use Rattle.std.specs.Prelude.{◌==◌, nat_lt, nat_le, not, bytes_eq, codes, find, Option, Some, None, option_map, take, All}
use Rattle.std.specs.List.{after_first}
use Rattle.std.proofs.lemmas.Bool.Decides.{nat_tests}
use Rattle.std.proofs.lemmas.List.Elements.{All-append, All-cons, All-head, All-tail, All-nil, All-push}
use Rattle.ply_head.specs.Numbers.{value}
use Rattle.ply_head.specs.declared.element.Kind.{Kind}
use Rattle.ply_head.specs.declared.element.Role.TheVariants.{Skip}
use Rattle.ply_head.specs.declared.fault.HeadFault.{HeadFault}
use Rattle.ply_head.specs.declared.fault.HeadFault.TheVariants as fault
use Rattle.ply_head.specs.declared.text.Line.{Line}
use Rattle.ply_head.specs.Headers.{Seen, Named, Declared, fault_in, faults, form, Form, Passed, FormatLine, ElementLine, ScalarLine, ListLine, EndLine, NoForm, is_end, is_vertex, is_face, has_too_many, with_form, with_last, declared, kind_of, used_elements}
use Rattle.ply_head.specs.Heads.{IsRefusal, IsLaidOut, IsSmall}
use Rattle.ply_head.specs.Steps.{first_of}
use Rattle.ply_head.proofs.LayoutLemmas.{IsTidy, IsTidyElement, IsPlain, parted_any, vertex_parts, laid_out, small}

-- a line past the limit behind the first
pub too_many : (s : Seen) (l : Line) → (l.number == 1) ≡ false → nat_lt 1048576 l.end ≡ true → fault_in s l ≡ Some (fault.TooMany l.number)
too_many s l later past = rw (later, past) refl

-- a first line that isn't `ply`
pub not_ply : (s : Seen) (l : Line) → (l.number == 1) ≡ true → bytes_eq l.text (codes "ply") ≡ false → fault_in s l ≡ Some (fault.NotPly l.number)
not_ply s l first other = rw (first, other) refl

-- no test of a line that is taken holds
NoneHolds : List (Bool × HeadFault) → Type 0
NoneHolds [] = Unit {0}
NoneHolds (e ∷ es) = (e.0 ≡ false) × NoneHolds es

none_holds : (es : List (Bool × HeadFault)) → option_map (λ (e : Bool × HeadFault). e.1) (find (λ (e : Bool × HeadFault). e.0) es) ≡ None → NoneHolds es
unfolding NoneHolds
none_holds [] none = tt
none_holds ((false, f) ∷ es) none = (refl, none_holds es none)
none_holds ((true, f) ∷ es) none = absurd (cc)

not_false : (b : Bool) → not b ≡ false → b ≡ true
not_false true not_b = refl
not_false false not_b = absurd (cc)

-- a line that isn't ended is refused
pub ended : (s : Seen) (l : Line) → fault_in s l ≡ None → l.is_ended ≡ true
unfolding NoneHolds
ended s l none = not_false l.is_ended (none_holds (faults s l) none).1.1.0

-- a line that is refused by none of the first nine tests brings not too many
pub few_step : (s : Seen) (l : Line) → first_of (take 9 (faults s l)) ≡ None → has_too_many s (form l) ≡ false
unfolding NoneHolds
few_step s l none = (none_holds (take 9 (faults s l)) none).1.1.1.1.1.1.0

-- what is refused stands at a line
AllRefuse : List (Bool × HeadFault) → Type 0
AllRefuse [] = Unit {0}
AllRefuse (e ∷ es) = IsRefusal e.1 × AllRefuse es

refused_at : (es : List (Bool × HeadFault)) (f : HeadFault) → AllRefuse es
    → option_map (λ (e : Bool × HeadFault). e.1) (find (λ (e : Bool × HeadFault). e.0) es) ≡ Some f → IsRefusal f
unfolding AllRefuse
refused_at [] f all some = absurd (cc)
refused_at ((false, g) ∷ es) f all some = refused_at es f all.1 some
refused_at ((true, g) ∷ es) f all some = let same : g ≡ f = cc in subst IsRefusal same all.0

pub is_refusal : (s : Seen) (l : Line) (f : HeadFault) → fault_in s l ≡ Some f → IsRefusal f
unfolding AllRefuse
is_refusal s l f some = refused_at (faults s l) f (tt, (tt, (tt, (tt, (tt, (tt, (tt, (tt, (tt, (tt, tt)))))))))) some

-- A line that is taken keeps the elements tidy.
plain_declared : (name : List ℕ) (count_kind kind : Option Kind) → All IsPlain (declared name count_kind kind)
plain_declared name count_kind None = All-nil IsPlain
plain_declared name count_kind (Some k) = All-cons IsPlain (record { name = name; property = record { count_kind = count_kind; kind = k; role = Skip } }) [] refl (All-nil IsPlain)

length_with_last : (ns : List Named) (es : List Declared) → length (with_last ns es) ≡ length es
length_with_last ns [] = refl
length_with_last ns (e ∷ []) = refl
length_with_last ns (e ∷ f ∷ es) = ap suc (length_with_last ns (f ∷ es))

tidy_with_last : (ns : List Named) → All IsPlain ns → (es : List Declared) → All IsTidyElement es → All IsTidyElement (with_last ns es)
tidy_with_last ns plain [] each = each
tidy_with_last ns plain (e ∷ []) each =
    let tidy = All-head IsTidyElement e [] each in
    All-cons IsTidyElement (record e { properties = e.properties ++ ns }) []
    (record { rows = tidy.rows; plain = All-append IsPlain e.properties ns tidy.plain plain }) (All-nil IsTidyElement)
tidy_with_last ns plain (e ∷ f ∷ es) each =
    All-cons IsTidyElement e (with_last ns (f ∷ es)) (All-head IsTidyElement e (f ∷ es) each)
    (tidy_with_last ns plain (f ∷ es) (All-tail IsTidyElement e (f ∷ es) each))

first_false : (a b : Bool) → (a || b) ≡ false → a ≡ false
first_false true b either = absurd (cc)
first_false false b either = refl

second_false : (a b : Bool) → (a || b) ≡ false → b ≡ false
second_false true b either = absurd (cc)
second_false false b either = either

not_above : (n m : ℕ) → nat_lt n m ≡ false → m ≤ n
not_above n m fails = grind (arith, nat_tests)

not_full : (n m : ℕ) → nat_le n m ≡ false → m < n
not_full n m fails = grind (arith, nat_tests)

tidy_property : (s : Seen) (name : List ℕ) (count_kind kind : Option Kind) → IsTidy s
    → IsTidy (record s { elements = with_last (declared name count_kind kind) s.elements })
tidy_property s name count_kind kind tidy = record {
  few = rw (length_with_last (declared name count_kind kind) s.elements) tidy.few;
  each = tidy_with_last (declared name count_kind kind) (plain_declared name count_kind kind) s.elements tidy.each;
}

tidy_element : (s : Seen) (name count : List ℕ) → (nat_lt 2147483648 (value count) || nat_le 64 (length s.elements)) ≡ false → IsTidy s
    → IsTidy (record s { elements = s.elements ++ record { name = name; count = value count; properties = [] } ∷ [] })
tidy_element s name count room tidy =
    let added : Declared = record { name = name; count = value count; properties = [] } in
    let rows = not_above 2147483648 (value count) (first_false _ _ room) in
    let below = not_full 64 (length s.elements) (second_false (nat_lt 2147483648 (value count)) _ room) in
    record {
      few = omega (arith, length-append s.elements (added ∷ []));
      each = All-push IsTidyElement s.elements added tidy.each (record { rows = rows; plain = All-nil IsPlain });
    }

tidy_form : (s : Seen) (f : Form) → has_too_many s f ≡ false → IsTidy s → IsTidy (with_form s f)
tidy_form s Passed room tidy = tidy
tidy_form s (FormatLine f v) room tidy = record { few = tidy.few; each = tidy.each }
tidy_form s (ElementLine n c) room tidy = tidy_element s n c room tidy
tidy_form s (ScalarLine t n) room tidy = tidy_property s n None (kind_of t) tidy
tidy_form s (ListLine c i n) room tidy = tidy_property s n (kind_of c) (kind_of i) tidy
tidy_form s EndLine room tidy = tidy
tidy_form s NoForm room tidy = tidy

pub tidy_step : (s : Seen) (l : Line) → fault_in s l ≡ None → IsTidy s → IsTidy (with_form s (form l))
unfolding NoneHolds
tidy_step s l none tidy = tidy_form s (form l) (none_holds (faults s l) none).1.1.1.1.1.1.0 tidy

-- The elements at the end.
end_test : (b c : Bool) → b ≡ true → (b && not c) ≡ false → c ≡ true
end_test true c end fails = not_false c fails
end_test false c end fails = absurd (cc)

pub at_the_end : (s : Seen) (l : Line) → fault_in s l ≡ None → is_end (form l) ≡ true → IsTidy s
    → IsLaidOut (used_elements s.elements) × IsSmall (used_elements s.elements)
unfolding NoneHolds
at_the_end s l none end tidy =
    let holds = none_holds (faults s l) none in
    let (vertex, coordinates) = vertex_parts s.elements (end_test (is_end (form l)) _ end holds.1.1.1.1.1.1.1.0) in
    let face = parted_any is_face (after_first is_vertex s.elements) (end_test (is_end (form l)) _ end holds.1.1.1.1.1.1.1.1.0) in
    (laid_out s.elements vertex face tidy.each coordinates, small s.elements vertex face tidy.each tidy.few)
