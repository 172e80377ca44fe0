-- Where the first element stands that passes a test, and the last element.
use Rattle.std.proofs.Common.{◌≡◌, ℕ, suc, ◌+◌, ◌-◌, ◌<◌, ◌≤◌, Bool, true, false, List, [], ◌∷◌, length, get_or, refl, sym, ◌∙◌, ap, below_more, arith}
use Rattle.std.specs.Prelude.{Some, None, Option, find}
use Rattle.std.specs.List.{position_or_len, last_or}
use Rattle.std.proofs.lemmas.List.{get_or_default}
use Rattle.std.proofs.lemmas.List.Sums.{position_or_len_is}
use Rattle.std.proofs.lemmas.List.Folds.{find_at}
use Rattle.std.proofs.lemmas.Option.{slice_get_read, slice_get_past}

-- what was read at a place, at any default
pub read_is : {X : Type 0} (xs : List X) (i : ℕ) (x d : X) → x ≡ get_or xs i x → i < length xs → get_or xs i d ≡ x
read_is xs i x d is within = get_or_default xs i d x within ∙ sym is

pub passed_more : {X : Type 0} (p : X → Bool) (xs : List X) (i : ℕ) (x : X) → x ≡ get_or xs i x → i < length xs → p x ≡ false
    → ((d : X) (k : ℕ) → k < i → p (get_or xs k d) ≡ false) → (d : X) (k : ℕ) → k < i + 1 → p (get_or xs k d) ≡ false
passed_more p xs i x is within fails passed d = below_more _ _ (passed d) (ap p (read_is xs i x d is within) ∙ fails)

pub first_found : {X : Type 0} (p : X → Bool) (xs : List X) (i : ℕ) (x : X) → x ≡ get_or xs i x → i < length xs → p x ≡ true
    → ((d : X) (k : ℕ) → k < i → p (get_or xs k d) ≡ false) → i ≡ position_or_len p xs
first_found p xs i x is within holds passed =
    sym (position_or_len_is p xs i x (omega arith) (passed x) (λ _. ap p (read_is xs i x x is within) ∙ holds))

pub none_found : {X : Type 0} (p : X → Bool) (xs : List X) (i : ℕ) → length xs ≤ i
    → ((d : X) (k : ℕ) → k < i → p (get_or xs k d) ≡ false) → length xs ≡ position_or_len p xs
none_found p [] i past passed = refl
none_found p (x ∷ xs) i past passed =
    sym (position_or_len_is p (x ∷ xs) (length (x ∷ xs)) x (omega arith) (λ k below. passed x k (omega arith)) (λ h. absurd (omega arith)))

-- the first that passes, by its place
pub find_read : {X : Type 0} (p : X → Bool) (xs : List X) (i : ℕ) (x : X) → i ≡ position_or_len p xs → x ≡ get_or xs i x → i < length xs
    → find p xs ≡ Some x
find_read p xs i x place is within =
    find_at p xs ∙ rw (← place) (slice_get_read xs (length xs) i x refl within is)

pub find_none : {X : Type 0} (p : X → Bool) (xs : List X) (i : ℕ) → i ≡ position_or_len p xs → length xs ≤ i → find p xs ≡ None
find_none p xs i place past = find_at p xs ∙ rw (← place) (slice_get_past xs i past)

-- the last element
last_at : {X : Type 0} (o : Option X) (xs : List X) (x : X) → 1 ≤ length xs → last_or o xs ≡ Some (get_or xs (length xs - 1) x)
last_at o [] x some = absurd (omega arith)
last_at o (y ∷ []) x some = refl
last_at o (y ∷ z ∷ zs) x some =
    let same : suc (suc (length zs)) - 1 ≡ suc (suc (length zs) - 1) = omega arith in
    rw same (last_at (Some y) (z ∷ zs) x (omega arith))

pub last_read : {X : Type 0} (xs : List X) (x : X) → 1 ≤ length xs → x ≡ get_or xs (length xs - 1) x → last_or None xs ≡ Some x
last_read xs x some is = last_at None xs x some ∙ ap Some (sym is)
