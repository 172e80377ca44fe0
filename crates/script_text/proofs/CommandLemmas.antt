-- What parsing and splitting say of the spelling of a view.
use Rattle.std.proofs.Common.{◌≡◌, ◌≢◌, ◌↔◌, ℕ, suc, ◌<◌, ◌≤◌, ◌^◌, [], ◌∷◌, ◌++◌, length, get_or, drop, refl, sym, ◌∙◌, ap, subst, arith, true, lit<, Some, None, Result, Ok, Err, MatchResult, Bor, w64, to_z, of_z}
use Rattle.std.specs.Prelude.{codes, decimal, ℤ, unsigned_abs, FitsSigned}
use Rattle.std.specs.Fmt.{signed_decimal}
use Rattle.std.specs.Result.{result_ok}
use Rattle.std.specs.Str.{IsAscii, IsUtf8, bytes_eq}
use Rattle.std.specs.Str.Pattern.{StripsPrefix, FindsTextPrefix}
use Rattle.std.specs.Str.Parse.{ParsesSigned, ParsesUnsigned}
use Rattle.std.proofs.lemmas.Fmt.{parse-signed_decimal, parse-decimal, signed_decimal_injective, IsAscii-signed, IsAscii-decimal}
use Rattle.std.proofs.lemmas.Int.{to_z-of_z}
use Rattle.std.proofs.lemmas.Slice.Eq.{bytes_eq-Decides}
use Rattle.std.proofs.lemmas.Str.{IsUtf8-from_ascii, IsAscii-append}
use Rattle.std.proofs.lemmas.Str.Ascii.{IsAscii-nil, IsAscii-cons}
use Rattle.tpz_base.specs.Texts.{Bytes}
use Rattle.script_text.specs.declared.line.Line.{Line}
use Rattle.script_text.specs.declared.line.Line.TheVariants.{Look, Write}
use Rattle.script_text.specs.Commands.{IsSpelled, is_in_bounds, spelling}
use Rattle.script_text.proofs.NumberWords.{near_fits, no_space}
use Rattle.script_text.proofs.Spellings.{LookBounds, look_bounds, in_bounds_of, refuses}

-- what was parsed of a coordinate's spelling is the coordinate
pub parsed_coordinate : {E : Type 0} (word : Bytes) (r : Result ℤ E) → ParsesSigned w64 10 word r
    → (z : ℤ) → unsigned_abs z ≤ 2 ^ 40 → word ≡ signed_decimal z → result_ok r ≡ Some z
parsed_coordinate word r parses z near is =
    ap result_ok (parse-signed_decimal w64 z word r (record { sfits = near_fits z near }) (near_fits z near) is parses)

pub parsed_tolerance : {E : Type 0} (word : Bytes) (r : Result ℕ E) → ParsesUnsigned 32 10 word r
    → (n : ℕ) → n < 2 ^ 32 → word ≡ decimal n → result_ok r ≡ Some n
parsed_tolerance word r parses n small is = ap result_ok (parse-decimal 32 n word r small (omega arith) is parses)

-- a coordinate is the same in 64 bits
pub same_bits : (z found : ℤ) → unsigned_abs z ≤ 2 ^ 40 → z ≡ found → to_z w64 (of_z w64 found) ≡ z
same_bits z found near same =
    let fits : FitsSigned w64 z = record { sfits = near_fits z near } in
    ap (λ (y : ℤ). to_z w64 (of_z w64 y)) (sym same) ∙ to_z-of_z w64 z fits

-- what is written of a coordinate that was read is its spelling
pub same_text : (word text : Bytes) (z found : ℤ) → unsigned_abs z ≤ 2 ^ 40 → z ≡ found → word ≡ signed_decimal z
    → text ≡ signed_decimal (to_z w64 (of_z w64 found)) → bytes_eq text word ≡ true
same_text word text z found near same is written =
    (bytes_eq-Decides text word).1 (written ∙ ap signed_decimal (same_bits z found near same) ∙ sym is)

abbrev HasNoSpace : Bytes → Type 0
HasNoSpace bytes = (i : ℕ) → i < length bytes → get_or bytes i 0 ≢ 32

behind_first : (c : ℕ) (cs : Bytes) → HasNoSpace (c ∷ cs) → HasNoSpace cs
behind_first c cs none = λ i within. none (suc i) (omega arith)

head_of : (a b : ℕ) (xs ys : Bytes) → a ∷ xs ≡ b ∷ ys → a ≡ b
head_of a b xs ys e = cc

tail_of : (a b : ℕ) (xs ys : Bytes) → a ∷ xs ≡ b ∷ ys → xs ≡ ys
tail_of a b xs ys e = cc

-- a text is cut at its first space in one way
same_cut : (xs ys us vs : Bytes) → HasNoSpace xs → HasNoSpace us → xs ++ 32 ∷ ys ≡ us ++ 32 ∷ vs → (xs ≡ us) × (ys ≡ vs)
same_cut [] ys [] vs none none' e = (refl, tail_of 32 32 ys vs e)
same_cut [] ys (u ∷ us) vs none none' e = absurd (none' 0 (omega arith) (sym (head_of 32 u ys (us ++ 32 ∷ vs) e)))
same_cut (x ∷ xs) ys [] vs none none' e = absurd (none 0 (omega arith) (head_of x 32 (xs ++ 32 ∷ ys) vs e))
same_cut (x ∷ xs) ys (u ∷ us) vs none none' e =
    let rest = same_cut xs ys us vs (behind_first x xs none) (behind_first u us none') (tail_of x u (xs ++ 32 ∷ ys) (us ++ 32 ∷ vs) e) in
    let first = head_of x u (xs ++ 32 ∷ ys) (us ++ 32 ∷ vs) e in
    (ap (λ (c : ℕ). c ∷ xs) first ∙ ap (λ (cs : Bytes). u ∷ cs) rest.0, rest.1)

-- a text begins with one coordinate and a space in one way
pub same_first : (text : Bytes) (x y : ℤ) (rest more : Bytes) → unsigned_abs x ≤ 2 ^ 40 → unsigned_abs y ≤ 2 ^ 40
    → text ≡ signed_decimal x ++ 32 ∷ rest → text ≡ signed_decimal y ++ 32 ∷ more → (x ≡ y) × (rest ≡ more)
same_first text x y rest more x_near y_near first second =
    let same = same_cut (signed_decimal x) rest (signed_decimal y) more (no_space x (near_fits x x_near)) (no_space y (near_fits y y_near)) (sym first ∙ second) in
    (signed_decimal_injective x y (near_fits x x_near) (near_fits y y_near) same.0, same.1)

-- the numbers of a view
pub record IsViewOf (numbers : Bytes) (line : Line) : Type 0 where
  pub x : ℤ
  pub y : ℤ
  pub z : ℤ
  pub tol : ℕ
  pub line_is : line ≡ Look x y z tol
  pub text : numbers ≡ signed_decimal x ++ 32 ∷ (signed_decimal y ++ 32 ∷ (signed_decimal z ++ 32 ∷ decimal tol))
  pub bounds : LookBounds x y z tol

pub view_of : (line : Line) (numbers : Bytes) → IsSpelled line (codes "view " ++ numbers) → IsViewOf numbers line
view_of (Look x y z tol) numbers h =
    record { x = x; y = y; z = z; tol = tol; line_is = refl; text = ap (drop 5) h.text; bounds = look_bounds x y z tol h.bounds }
view_of Write numbers h = absurd (omega (arith, head_of 118 119 _ _ h.text))

-- where the numbers of a view begin with x, the rest is that behind its first number
pub behind_x : (numbers : Bytes) (line : Line) (v : IsViewOf numbers line) (x : ℤ) (rest : Bytes) → unsigned_abs x ≤ 2 ^ 40
    → numbers ≡ signed_decimal x ++ 32 ∷ rest → (x ≡ v.x) × (rest ≡ signed_decimal v.y ++ 32 ∷ (signed_decimal v.z ++ 32 ∷ decimal v.tol))
behind_x numbers line v x rest near is = same_first numbers x v.x rest _ near v.bounds.x_near is v.text

pub behind_y : (numbers : Bytes) (line : Line) (v : IsViewOf numbers line) (x y : ℤ) (more rest : Bytes) → unsigned_abs x ≤ 2 ^ 40
    → unsigned_abs y ≤ 2 ^ 40 → numbers ≡ signed_decimal x ++ 32 ∷ more → more ≡ signed_decimal y ++ 32 ∷ rest
    → (y ≡ v.y) × (rest ≡ signed_decimal v.z ++ 32 ∷ decimal v.tol)
behind_y numbers line v x y more rest x_near y_near first second =
    same_first more y v.y rest _ y_near v.bounds.y_near second (behind_x numbers line v x more x_near first).1

pub behind_z : (numbers : Bytes) (line : Line) (v : IsViewOf numbers line) (x y z : ℤ) (more rest last : Bytes) → unsigned_abs x ≤ 2 ^ 40
    → unsigned_abs y ≤ 2 ^ 40 → unsigned_abs z ≤ 2 ^ 40 → numbers ≡ signed_decimal x ++ 32 ∷ more → more ≡ signed_decimal y ++ 32 ∷ rest
    → rest ≡ signed_decimal z ++ 32 ∷ last → (z ≡ v.z) × (last ≡ decimal v.tol)
behind_z numbers line v x y z more rest last x_near y_near z_near first second third =
    same_first rest z v.z last _ z_near v.bounds.z_near third (behind_y numbers line v x y more rest x_near y_near first second).1

-- a view whose four numbers were read
pub view_is : (numbers more rest last : Bytes) (x y z : ℤ) (tol : ℕ) → unsigned_abs x ≤ 2 ^ 40 → unsigned_abs y ≤ 2 ^ 40
    → unsigned_abs z ≤ 2 ^ 40 → tol < 2 ^ 32 → numbers ≡ signed_decimal x ++ 32 ∷ more → more ≡ signed_decimal y ++ 32 ∷ rest
    → rest ≡ signed_decimal z ++ 32 ∷ last → last ≡ decimal tol
    → IsSpelled (Look (to_z w64 (of_z w64 x)) (to_z w64 (of_z w64 y)) (to_z w64 (of_z w64 z)) tol) (codes "view " ++ numbers)
view_is numbers more rest last x y z tol x_near y_near z_near small first second third fourth =
    rw (same_bits x x x_near refl, same_bits y y y_near refl, same_bits z z z_near refl) spelled where
      whole : numbers ≡ signed_decimal x ++ 32 ∷ (signed_decimal y ++ 32 ∷ (signed_decimal z ++ 32 ∷ decimal tol))
      whole = first ∙ ap (λ (t : Bytes). signed_decimal x ++ 32 ∷ t) (second ∙ ap (λ (t : Bytes). signed_decimal y ++ 32 ∷ t)
          (third ∙ ap (λ (t : Bytes). signed_decimal z ++ 32 ∷ t) fourth))

      spelled : IsSpelled (Look x y z tol) (codes "view " ++ numbers)
      spelled = record {
        text = ap (λ (t : Bytes). codes "view " ++ t) whole;
        bounds = in_bounds_of x y z tol (record { x_near = x_near; y_near = y_near; z_near = z_near; tol_fits = small });
      }

ascii_word : (w rest : Bytes) → IsAscii w → IsAscii rest → IsAscii (w ++ 32 ∷ rest)
ascii_word w rest first second = IsAscii-append w (32 ∷ rest) first (IsAscii-cons 32 rest (lit< tt) second)

ascii_coordinate : (z : ℤ) (rest : Bytes) → unsigned_abs z ≤ 2 ^ 40 → IsAscii rest → IsAscii (signed_decimal z ++ 32 ∷ rest)
ascii_coordinate z rest near second = ascii_word (signed_decimal z) rest (IsAscii-signed z (near_fits z near)) second

ascii_view : (rest : Bytes) → IsAscii rest → IsAscii (codes "view " ++ rest)
ascii_view rest h =
    IsAscii-cons 118 (105 ∷ 101 ∷ 119 ∷ 32 ∷ rest) (lit< tt) (IsAscii-cons 105 (101 ∷ 119 ∷ 32 ∷ rest) (lit< tt)
    (IsAscii-cons 101 (119 ∷ 32 ∷ rest) (lit< tt) (IsAscii-cons 119 (32 ∷ rest) (lit< tt) (IsAscii-cons 32 rest (lit< tt) h))))

ascii_write : IsAscii (codes "write")
ascii_write =
    IsAscii-cons 119 (114 ∷ 105 ∷ 116 ∷ 101 ∷ []) (lit< tt) (IsAscii-cons 114 (105 ∷ 116 ∷ 101 ∷ []) (lit< tt)
    (IsAscii-cons 105 (116 ∷ 101 ∷ []) (lit< tt) (IsAscii-cons 116 (101 ∷ []) (lit< tt) (IsAscii-cons 101 [] (lit< tt) IsAscii-nil))))

ascii_spelling : (line : Line) → is_in_bounds line ≡ true → IsAscii (spelling line)
ascii_spelling (Look x y z tol) bounds =
    let h = look_bounds x y z tol bounds in
    ascii_view (signed_decimal x ++ 32 ∷ (signed_decimal y ++ 32 ∷ (signed_decimal z ++ 32 ∷ decimal tol)))
    (ascii_coordinate x (signed_decimal y ++ 32 ∷ (signed_decimal z ++ 32 ∷ decimal tol)) h.x_near
    (ascii_coordinate y (signed_decimal z ++ 32 ∷ decimal tol) h.y_near
    (ascii_coordinate z (decimal tol) h.z_near (IsAscii-decimal tol (omega (arith, h.tol_fits))))))
ascii_spelling Write bounds = ascii_write

pub spelled_utf8 : (line : Line) (bytes : Bytes) → IsSpelled line bytes → IsUtf8 bytes
spelled_utf8 line bytes h = IsUtf8-from_ascii bytes (subst IsAscii (sym h.text) (ascii_spelling line h.bounds))

-- None is right where the numbers are of no view
pub refuses_view : (numbers : Bytes) → ((line : Line) → IsViewOf numbers line → ⊥)
    → (line : Line) → (None ≡ Some line) ↔ IsSpelled line (codes "view " ++ numbers)
refuses_view numbers none = refuses (codes "view " ++ numbers) (λ line h. none line (view_of line numbers h))

pub not_utf8 : {A E : Type 0} (bytes : Bytes) (r : Result A E) (P : A → Type 0) (Q : E → Type 0) → result_ok r ≡ None
    → MatchResult r P (λ e. (¬ IsUtf8 bytes) × Q e) → ¬ IsUtf8 bytes
not_utf8 bytes (Ok a) P Q none h = absurd cc
not_utf8 bytes (Err e) P Q none h = h.0

pub same_utf8 : {E : Type 0} (bytes : Bytes) (r : Result (Bor Bytes) E) (text : Bor Bytes) (P : Type 0) (Q : E → Type 0)
    → result_ok r ≡ Some text → MatchResult r (λ s. (s.now ≡ bytes) × P) Q → text.now ≡ bytes
same_utf8 bytes (Ok s) text P Q some h = let same : s ≡ text = cc in ap (λ (t : Bor Bytes). t.now) (sym same) ∙ h.0
same_utf8 bytes (Err e) text P Q some h = absurd cc

-- what spells neither command spells none
pub spells_none : (bytes : Bytes) → (bytes ≡ codes "write" → ⊥) → ((rest : Bytes) → bytes ≢ codes "view " ++ rest)
    → (line : Line) → IsSpelled line bytes → ⊥
spells_none bytes no_write no_view (Look x y z tol) h =
    no_view (signed_decimal x ++ 32 ∷ (signed_decimal y ++ 32 ∷ (signed_decimal z ++ 32 ∷ decimal tol))) h.text
spells_none bytes no_write no_view Write h = no_write h.text

pub spelled_write : (bytes : Bytes) → bytes ≡ codes "write" → IsSpelled Write bytes
spelled_write bytes is = record { text = is; bounds = refl }

pub stripped : (text rest : Bytes) → StripsPrefix (FindsTextPrefix (codes "view ")) text rest → text ≡ codes "view " ++ rest
stripped text rest h = h.1.1 ∙ ap (λ (t : Bytes). codes "view " ++ t) (sym h.2)
