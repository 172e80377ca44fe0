-- Roles that are put on properties.
use Rattle.std.proofs.Common.{◌≡◌, ℕ, zero, suc, ◌+◌, ◌<◌, ◌≤◌, Bool, true, false, cond, List, [], ◌∷◌, ◌++◌, length, take, drop, get_or, set, refl, sym, ◌∙◌, ap, arith, add-one}
use Rattle.std.specs.Prelude.{not, map}
use Rattle.std.specs.List.{position_or_len}
use Rattle.std.proofs.lemmas.List.{length-take-le}
use Rattle.ply_head.specs.declared.element.Role.{Role}
use Rattle.ply_head.specs.declared.element.Property.{Property}
use Rattle.ply_head.specs.Headers.{Named, with_role}
use Rattle.ply_head.specs.Roles.{put_role}

abbrev with_new : Role → Property → Property
with_new role p = record p { role = role }

abbrev of_role : Role → Named → Named
of_role role n = record n { property = with_new role n.property }

-- an element at a place, changed
abbrev changed : {X : Type 0} → (X → X) → ℕ → List X → List X
changed f at xs = take at xs ++ map f (take 1 (drop at xs)) ++ drop (suc at) xs

changed_role : (role : Role) (at : ℕ) (ps : List Property) → changed (with_new role) at ps ≡ put_role at role ps
changed_role role at ps = ap (λ (k : ℕ). take at ps ++ map (with_new role) (take 1 (drop at ps)) ++ drop k ps) (sym (add-one at))

-- a role that is written
set_changed : (ps : List Property) (i : ℕ) (p : Property) (role : Role) → i < length ps → set ps i (with_new role (get_or ps i p)) ≡ changed (with_new role) i ps
set_changed [] i p role within = absurd (omega arith)
set_changed (q ∷ ps) zero p role within = refl
set_changed (q ∷ ps) (suc i) p role within = ap (λ (xs : List Property). q ∷ xs) (set_changed ps i p role (omega arith))

pub set_role : (ps : List Property) (i : ℕ) (p : Property) (role : Role) → i < length ps → set ps i (record (get_or ps i p) { role = role }) ≡ put_role i role ps
set_role ps i p role within = set_changed ps i p role within ∙ changed_role role i ps

named_put : (role : Role) (ns : List Named) (at : ℕ)
    → map (λ (n : Named). n.property) (changed (of_role role) at ns) ≡ changed (with_new role) at (map (λ (n : Named). n.property) ns)
named_put role [] zero = refl
named_put role [] (suc i) = refl
named_put role (n ∷ ns) zero = refl
named_put role (n ∷ ns) (suc i) = ap (λ (ps : List Property). n.property ∷ ps) (named_put role ns i)

named_kept : (q : Named → Bool) (role : Role) → ((n : Named) → q (of_role role n) ≡ q n)
    → (ns : List Named) (at : ℕ) → position_or_len q (changed (of_role role) at ns) ≡ position_or_len q ns
named_kept q role blind [] zero = refl
named_kept q role blind [] (suc i) = refl
named_kept q role blind (n ∷ ns) zero = ap (λ (b : Bool). cond (not b) (1 + position_or_len q ns) 0) (blind n)
named_kept q role blind (n ∷ ns) (suc i) = ap (λ (k : ℕ). cond (not (q n)) (1 + k) 0) (named_kept q role blind ns i)

place_within : (p : Named → Bool) (ns : List Named) → position_or_len p ns ≤ length ns
place_within p [] = omega arith
place_within p (n ∷ ns) = go (p n) (place_within p ns) where
  go : (b : Bool) → position_or_len p ns ≤ length ns → cond (not b) (1 + position_or_len p ns) 0 ≤ suc (length ns)
  go true below = omega arith
  go false below = omega arith

with_role-changed : (p : Named → Bool) (role : Role) (ns : List Named) → with_role role p ns ≡ changed (of_role role) (position_or_len p ns) ns
with_role-changed p role ns =
    let at = position_or_len p ns in
    ap (λ (k : ℕ). take at ns ++ map (of_role role) (take 1 (drop k ns)) ++ drop (at + 1) ns) (length-take-le at ns (place_within p ns))
    ∙ ap (λ (k : ℕ). take at ns ++ map (of_role role) (take 1 (drop at ns)) ++ drop k ns) (add-one at)

-- with names or without
pub role_put : (p : Named → Bool) (role : Role) (ns : List Named)
    → map (λ (n : Named). n.property) (with_role role p ns) ≡ put_role (position_or_len p ns) role (map (λ (n : Named). n.property) ns)
role_put p role ns =
    ap (map (λ (n : Named). n.property)) (with_role-changed p role ns) ∙ named_put role ns (position_or_len p ns)
    ∙ changed_role role (position_or_len p ns) (map (λ (n : Named). n.property) ns)

-- a test that doesn't read roles finds the same place
pub place_kept : (p q : Named → Bool) (role : Role) → ((n : Named) → q (record n { property = record n.property { role = role } }) ≡ q n)
    → (ns : List Named) → position_or_len q (with_role role p ns) ≡ position_or_len q ns
place_kept p q role blind ns = ap (position_or_len q) (with_role-changed p role ns) ∙ named_kept q role blind ns (position_or_len p ns)

-- three roles, put one after another
pub roles_put : (p q r : Named → Bool) (P Q R : Role) → ((n : Named) → p (of_role Q n) ≡ p n) → ((n : Named) → p (of_role R n) ≡ p n)
    → ((n : Named) → q (of_role R n) ≡ q n) → (ns : List Named)
    → map (λ (n : Named). n.property) (with_role P p (with_role Q q (with_role R r ns)))
    ≡ put_role (position_or_len p ns) P (put_role (position_or_len q ns) Q (put_role (position_or_len r ns) R (map (λ (n : Named). n.property) ns)))
roles_put p q r P Q R blind_pq blind_pr blind_qr ns =
    let inner = with_role R r ns in
    let place_p : position_or_len p (with_role Q q inner) ≡ position_or_len p ns = place_kept q p Q blind_pq inner ∙ place_kept r p R blind_pr ns in
    let place_q : position_or_len q inner ≡ position_or_len q ns = place_kept r q R blind_qr ns in
    role_put p P (with_role Q q inner) ∙ rw (place_p, role_put q Q inner, place_q, role_put r R ns) refl
