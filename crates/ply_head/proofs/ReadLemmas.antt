-- How one line after another says what the whole header says.
use Rattle.std.proofs.Common.{◌≡◌, ℕ, ◌+◌, ◌<◌, ◌-◌, Bool, true, false, cond, MatchBool, get_or, refl, List, [], ◌∷◌, length, take, arith, ap, ◌∙◌, subst}
use Rattle.std.specs.Prelude.{◌==◌, nat_lt, bytes_eq, codes, Option, Some, None, option_map, Err, if◌then◌else◌}
use Rattle.std.specs.Option.{ForSome}
use Rattle.std.specs.Str.Lines.{strip_carriage_return}
use Rattle.std.proofs.lemmas.Bool.Decides.{nat_tests}
use Rattle.std.proofs.lemmas.Slice.Eq.{bytes_eq-Decides}
use Rattle.std.proofs.lemmas.List.{length-take-le}
use Rattle.ply_head.specs.declared.fault.HeadFault.TheVariants.{NotPly, TooMany}
use Rattle.ply_head.specs.declared.text.Line.{Line}
use Rattle.tpz_base.specs.Texts.{Bytes}
use Rattle.ply_head.specs.Lines.{parts, numbered, lines_told, with_line, EndsPast}
use Rattle.ply_head.specs.Headers.{Seen, nothing_seen, fault_in, form, is_end, with_form, heading_from, heading}
use Rattle.ply_head.specs.Steps.{full_fault}
use Rattle.ply_head.proofs.HeadLemmas.{too_many, not_ply}

with_taken : (s : Seen) (l : Line) (rest : Option (List Line)) → fault_in s l ≡ None → is_end (form l) ≡ false
    → option_map (heading_from s) (with_line l rest) ≡ option_map (heading_from (with_form s (form l))) rest
with_taken s l None none going = refl
with_taken s l (Some ls) none going = rw (none, going) refl

at_true : (b : Bool) (P Q : Type 0) → MatchBool b P Q → b ≡ true → P
at_true true P Q fact holds = fact
at_true false P Q fact holds = absurd (cc)

-- a line that is taken
pub more_told : (s : Seen) (l : Line) (old rest : Option (List Line))
    → MatchBool l.is_ended (old ≡ with_line l rest) (ForSome old (λ ls. ls ≡ l ∷ [])) → l.is_ended ≡ true
    → fault_in s l ≡ None → is_end (form l) ≡ false → option_map (heading_from s) old ≡ option_map (heading_from (with_form s (form l))) rest
more_told s l old rest told whole none going =
    ap (option_map (heading_from s)) (at_true l.is_ended (old ≡ with_line l rest) (ForSome old (λ ls. ls ≡ l ∷ [])) told whole)
    ∙ with_taken s l rest none going

test_holds : (a b : ℕ) → a < b → nat_lt a b ≡ true
test_holds a b lt = grind (arith, nat_tests)

-- a long text isn't `ply`
long_other : (text : Bytes) → 3 < length text → bytes_eq text (codes "ply") ≡ false
long_other text long = go (bytes_eq text (codes "ply")) (bytes_eq-Decides text (codes "ply")).0 where
  go : (b : Bool) → (b ≡ true → text ≡ codes "ply") → b ≡ false
  go true same = absurd (let three : length text ≡ 3 = ap length (same refl) in omega arith)
  go false same = refl

strip_long : (text : Bytes) → 4 < length text → 3 < length (strip_carriage_return text)
strip_long text long = go (get_or text (length text - 1) 0 == 13) where
  go : (b : Bool) → 3 < length (cond b (take (length text - 1) text) text)
  go true = omega (arith, length-take-le (length text - 1) text (omega arith))
  go false = omega arith

is_one : (n : ℕ) → (n == 1) ≡ true → n ≡ 1
is_one n test = grind (arith, nat_tests)

-- a line that ends past the limit
past_one : (s : Seen) (l : Line) (ls : List Line) → 1048576 < l.end → (l.number ≡ 1 → 3 < length l.text)
    → heading_from s (l ∷ ls) ≡ Err (full_fault l.number)
past_one s l ls past long = go (l.number == 1) refl where
  go : (b : Bool) → (l.number == 1) ≡ b → heading_from s (l ∷ ls) ≡ Err (if b then NotPly l.number else TooMany l.number)
  go true first = rw (not_ply s l first (long_other l.text (long (is_one l.number first)))) refl
  go false later = rw (too_many s l later (test_holds 1048576 l.end past)) refl

at_line : (s : Seen) (number at : ℕ) (ps : List Bytes) → (number ≡ 1 → at ≡ 0) → EndsPast 1048576 (numbered number at ps)
    → heading_from s (numbered number at ps) ≡ Err (full_fault number)
at_line s number at [] first past = absurd past
at_line s number at (p ∷ []) first past =
    past_one s (record { number = number; text = p; is_ended = false; end = at + length p }) [] past
    (λ one. let start : at ≡ 0 = first one in omega arith)
at_line s number at (p ∷ q ∷ ps) first past =
    past_one s (record { number = number; text = strip_carriage_return p; is_ended = true; end = at + (length p + 1) })
    (numbered (number + 1) (at + (length p + 1)) (q ∷ ps)) past
    (λ one. let start : at ≡ 0 = first one in strip_long p (omega arith))

pub full_refused : (s : Seen) (start left : Option Bytes) (number at : ℕ)
    → option_map (heading_from nothing_seen) (lines_told 1 0 start) ≡ option_map (heading_from s) (lines_told number at left)
    → ((ls : List Line) → lines_told number at left ≡ Some ls → EndsPast 1048576 ls) → (number ≡ 1 → at ≡ 0)
    → (bytes : Bytes) → start ≡ Some bytes → heading bytes ≡ Err (full_fault number)
full_refused s None left number at told past first bytes is = absurd (cc)
full_refused s (Some start) None number at told past first bytes is = absurd (cc)
full_refused s (Some start) (Some rest) number at told past first bytes is =
    let same : start ≡ bytes = cc in
    let here : heading start ≡ heading_from s (numbered number at (parts rest)) = cc in
    subst (λ (b : Bytes). heading b ≡ Err (full_fault number)) same
    (here ∙ at_line s number at (parts rest) first (past (numbered number at (parts rest)) refl))
