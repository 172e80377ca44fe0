-- The command that bytes spell is the one that their definition finds.
use Rattle.std.proofs.Common.{◌≡◌, ◌≢◌, ◌↔◌, ℕ, ◌<◌, ◌≤◌, ◌^◌, List, [], ◌∷◌, ◌++◌, length, get_or, refl, sym, ◌∙◌, ap, subst, arith, Bool, true, false, cond, ◌&&◌, Option, Some, None}
use Rattle.std.specs.Prelude.{codes, decimal, find, ℤ, pos, unsigned_abs, nat_lt}
use Rattle.std.specs.Fmt.{signed_decimal}
use Rattle.std.specs.List.{All, slice_split}
use Rattle.std.specs.Str.{bytes_eq}
use Rattle.std.proofs.lemmas.Slice.Eq.{bytes_eq-Decides}
use Rattle.std.proofs.lemmas.List.Elements.{All-from_get_or}
use Rattle.std.proofs.lemmas.List.Splits.{slice_split_at, slice_split_none}
use Rattle.std.proofs.lemmas.Bool.Decides.{nat_tests}
use Rattle.tpz_base.specs.Texts.{Bytes}
use Rattle.script_text.specs.declared.line.Line.{Line}
use Rattle.script_text.specs.declared.line.Line.TheVariants.{Look, Write}
use Rattle.script_text.specs.Commands.{IsSpelled, candidates, is_in_bounds, is_near, is_space, is_spelled, read_line, spelling}
use Rattle.script_text.proofs.NumberWords.{near_fits, no_space, value_of_decimal}

pub both_hold : (a b : Bool) → (a && b) ≡ true → (a ≡ true) × (b ≡ true)
both_hold a b h = (grind (arith, nat_tests), grind (arith, nat_tests))

near : (z : ℤ) → is_near z ≡ true → unsigned_abs z ≤ 2 ^ 40
near z h = grind (arith, nat_tests)

fits : (tol : ℕ) → nat_lt tol (2 ^ 32) ≡ true → tol < 2 ^ 32
fits tol h = grind (arith, nat_tests)

-- the numbers of a view are in their bounds
pub record LookBounds (x y z : ℤ) (tol : ℕ) : Type 0 where
  pub x_near : unsigned_abs x ≤ 2 ^ 40
  pub y_near : unsigned_abs y ≤ 2 ^ 40
  pub z_near : unsigned_abs z ≤ 2 ^ 40
  pub tol_fits : tol < 2 ^ 32

pub look_bounds : (x y z : ℤ) (tol : ℕ) → is_in_bounds (Look x y z tol) ≡ true → LookBounds x y z tol
look_bounds x y z tol h =
    let a = both_hold (is_near x && is_near y && is_near z) (nat_lt tol (2 ^ 32)) h in
    let b = both_hold (is_near x && is_near y) (is_near z) a.0 in
    let c = both_hold (is_near x) (is_near y) b.0 in
    record { x_near = near x c.0; y_near = near y c.1; z_near = near z b.1; tol_fits = fits tol a.1 }

test_near : (z : ℤ) → unsigned_abs z ≤ 2 ^ 40 → is_near z ≡ true
test_near z h = grind (arith, nat_tests)

test_fits : (tol : ℕ) → tol < 2 ^ 32 → nat_lt tol (2 ^ 32) ≡ true
test_fits tol h = grind (arith, nat_tests)

pub in_bounds_of : (x y z : ℤ) (tol : ℕ) → LookBounds x y z tol → is_in_bounds (Look x y z tol) ≡ true
in_bounds_of x y z tol h = rw (test_near x h.x_near, test_near y h.y_near, test_near z h.z_near, test_fits tol h.tol_fits) refl

no_spaces : (bytes : Bytes) → ((i : ℕ) → i < length bytes → get_or bytes i 0 ≢ 32) → All (λ b. is_space b ≡ false) bytes
no_spaces bytes none = All-from_get_or (λ b. is_space b ≡ false) bytes 0 (λ i within. other (get_or bytes i 0) (none i within)) where
  other : (b : ℕ) → b ≢ 32 → is_space b ≡ false
  other b h = grind (arith, nat_tests)

-- the words of a view
words_of_look : (x y z : ℤ) (tol : ℕ) → LookBounds x y z tol
    → slice_split is_space (spelling (Look x y z tol)) ≡ codes "view" ∷ signed_decimal x ∷ signed_decimal y ∷ signed_decimal z ∷ decimal tol ∷ []
words_of_look x y z tol h =
    ap (λ (ws : List Bytes). codes "view" ∷ ws)
    (slice_split_at is_space (signed_decimal x) 32 (signed_decimal y ++ 32 ∷ (signed_decimal z ++ 32 ∷ decimal tol)) (free x h.x_near) refl
    ∙ ap (λ (ws : List Bytes). signed_decimal x ∷ ws)
    (slice_split_at is_space (signed_decimal y) 32 (signed_decimal z ++ 32 ∷ decimal tol) (free y h.y_near) refl
    ∙ ap (λ (ws : List Bytes). signed_decimal y ∷ ws)
    (slice_split_at is_space (signed_decimal z) 32 (decimal tol) (free z h.z_near) refl
    ∙ ap (λ (ws : List Bytes). signed_decimal z ∷ ws)
    (slice_split_none is_space (decimal tol) (no_spaces (decimal tol) (no_space (pos tol) (omega (arith, h.tol_fits))))))))
  where
    free : (w : ℤ) → unsigned_abs w ≤ 2 ^ 40 → All (λ b. is_space b ≡ false) (signed_decimal w)
    free w within = no_spaces (signed_decimal w) (no_space w (near_fits w within))

candidates_of_look : (x y z : ℤ) (tol : ℕ) → LookBounds x y z tol → candidates (spelling (Look x y z tol)) ≡ Look x y z tol ∷ Write ∷ []
candidates_of_look x y z tol h =
    rw (words_of_look x y z tol h)
    (rw (
      value_of_decimal x (near_fits x h.x_near),
      value_of_decimal y (near_fits y h.y_near),
      value_of_decimal z (near_fits z h.z_near),
      value_of_decimal (pos tol) (omega (arith, h.tol_fits)),
    ) refl)

spelled_test : (line : Line) → is_in_bounds line ≡ true → is_spelled (spelling line) line ≡ true
spelled_test line bounds = rw ((bytes_eq-Decides (spelling line) (spelling line)).1 refl, bounds) refl

first_found : (p : Line → Bool) (line : Line) (lines : List Line) → p line ≡ true → find p (line ∷ lines) ≡ Some line
first_found p line lines h = rw h refl

read_spelling : (line : Line) → is_in_bounds line ≡ true → read_line (spelling line) ≡ Some line
unfolding read_line
read_spelling (Look x y z tol) bounds =
    ap (find (is_spelled (spelling (Look x y z tol)))) (candidates_of_look x y z tol (look_bounds x y z tol bounds))
    ∙ first_found (is_spelled (spelling (Look x y z tol))) (Look x y z tol) (Write ∷ []) (spelled_test (Look x y z tol) bounds)
read_spelling Write bounds = refl

pub spelled_is_read : (line : Line) (bytes : Bytes) → IsSpelled line bytes → read_line bytes ≡ Some line
spelled_is_read line bytes h = ap read_line h.text ∙ read_spelling line h.bounds

passes : (p : Line → Bool) (lines : List Line) (line : Line) → find p lines ≡ Some line → p line ≡ true
passes p [] line e = absurd cc
passes p (l ∷ ls) line e = go (p l) refl (passes p ls line) e where
  go : (b : Bool) → p l ≡ b → (find p ls ≡ Some line → p line ≡ true) → cond b (Some l) (find p ls) ≡ Some line → p line ≡ true
  go true is later e = let same : l ≡ line = cc in ap p (sym same) ∙ is
  go false is later e = later e

pub read_is_spelled : (line : Line) (bytes : Bytes) → read_line bytes ≡ Some line → IsSpelled line bytes
unfolding read_line
read_is_spelled line bytes e =
    let test = both_hold (bytes_eq bytes (spelling line)) (is_in_bounds line) (passes (is_spelled bytes) (candidates bytes) line e) in
    record { text = (bytes_eq-Decides bytes (spelling line)).0 test.0; bounds = test.1 }

-- an answer by spellings is the one by the definition
pub same_answer : (bytes : Bytes) (answer : Option Line) → ((line : Line) → (answer ≡ Some line) ↔ IsSpelled line bytes) → answer ≡ read_line bytes
same_answer bytes (Some line) tells = sym (spelled_is_read line bytes ((tells line).0 refl))
same_answer bytes None tells = go (read_line bytes) refl where
  go : (found : Option Line) → read_line bytes ≡ found → None ≡ found
  go None is = refl
  go (Some line) is = let no : None ≡ Some line = (tells line).1 (read_is_spelled line bytes is) in absurd cc

-- the command that was found is the only one
pub spelled_only : (found : Line) (bytes : Bytes) → IsSpelled found bytes → (line : Line) → (Some found ≡ Some line) ↔ IsSpelled line bytes
spelled_only found bytes h line = (to, λ other. sym (spelled_is_read found bytes h) ∙ spelled_is_read line bytes other) where
  to : Some found ≡ Some line → IsSpelled line bytes
  to e = let same : found ≡ line = cc in subst (λ (l : Line). IsSpelled l bytes) same h

-- None is right where no command is spelled
pub refuses : (bytes : Bytes) → ((line : Line) → IsSpelled line bytes → ⊥) → (line : Line) → (None ≡ Some line) ↔ IsSpelled line bytes
refuses bytes none line = (λ e. absurd cc, λ h. absurd (none line h))
