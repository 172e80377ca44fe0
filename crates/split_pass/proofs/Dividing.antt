-- A triangle goes to one of the two children.
use Rattle.std.proofs.Common.{◌≡◌, ◌≢◌, ℕ, ◌++◌, ◌∷◌, [], Option, Some, None, Bool, true, false, refl, sym, ◌∙◌, ap, subst, inl, inr, arith, append-nil, cond, get_or, length, ◌+◌, ◌≤◌}
use Rattle.std.specs.Prelude.{filter, IfSome, slice_get, take}
use Rattle.std.proofs.lemmas.Option.{slice_get_cases, slice_get_within, get_or_from_slice_get}
use Rattle.std.proofs.lemmas.List.{take_more, take_all, append_assoc}
use Rattle.std.proofs.lemmas.List.Elements.{filter-append}
use Rattle.std.specs.Option.{option_map}
use Rattle.std.proofs.lemmas.Bool.{cases_Bool}
use Rattle.tpz_base.specs.declared.shape.Tri.{Tri}
use Rattle.tpz_base.specs.Meshes.{Mesh}
use Rattle.tpz_base.specs.Tetrahedra.{Tetrahedron}
use Rattle.assign.specs.Paths.{is_beyond, side_of}
use Rattle.split_pass.specs.Crowds.{first_part, second_part}

pub at_some : {X : Type 0} (o : Option X) (P : X → Type 0) (x : X) → IfSome o P → o ≡ Some x → P x
at_some None P x h is = absurd cc
at_some (Some y) P x h is = let e : y ≡ x = cc in subst P e h

-- side 0 is child 0
pub not_beyond : (t : Tri) (T : Tetrahedron) (n : ℕ) → n ≡ side_of t T → n ≡ 0 → is_beyond t T ≡ false
unfolding side_of
not_beyond t T n is zero =
    elim (cases_Bool (is_beyond t T)) [
      | inl b ↦ let one : n ≡ 1 = is ∙ ap (λ (x : Bool). cond x 1 0) b in absurd (omega arith)
      | inr b ↦ b
    ]

pub beyond : (t : Tri) (T : Tetrahedron) (n : ℕ) → n ≡ side_of t T → n ≢ 0 → is_beyond t T ≡ true
unfolding side_of
beyond t T n is more =
    elim (cases_Bool (is_beyond t T)) [
      | inl b ↦ b
      | inr b ↦ absurd (more (is ∙ ap (λ (x : Bool). cond x 1 0) b))
    ]

pub first_has : (t : Tri) (T : Tetrahedron) → is_beyond t T ≡ false → first_part T (t ∷ []) ≡ t ∷ []
first_has t T b = rw b refl

pub first_lacks : (t : Tri) (T : Tetrahedron) → is_beyond t T ≡ true → first_part T (t ∷ []) ≡ []
first_lacks t T b = rw b refl

pub second_has : (t : Tri) (T : Tetrahedron) → is_beyond t T ≡ true → second_part T (t ∷ []) ≡ t ∷ []
second_has t T b = rw b refl

pub second_lacks : (t : Tri) (T : Tetrahedron) → is_beyond t T ≡ false → second_part T (t ∷ []) ≡ []
second_lacks t T b = rw b refl

-- nothing is added
pub nothing_more : (o : Option Mesh) (more : Mesh) → more ≡ [] → option_map (λ list. list ++ more) o ≡ o
nothing_more None more none = refl
nothing_more (Some list) more none = ap Some (rw none (append-nil list))

-- one triangle more has been read, and gone to its child
pub more_gone : (p : Tri → Bool) (M : Mesh) (k : ℕ) (t : Tri) (start now next : Option Mesh) → slice_get M k ≡ Some t
    → now ≡ option_map (λ list. list ++ filter p (take k M)) start → next ≡ option_map (λ list. list ++ filter p (t ∷ [])) now
    → next ≡ option_map (λ list. list ++ filter p (take (k + 1) M)) start
more_gone p M k t None now next is a b = b ∙ ap (option_map (λ list. list ++ filter p (t ∷ []))) a
more_gone p M k t (Some list) now next is a b =
    let within = slice_get_within M k t is in
    let here : get_or M k t ≡ t = get_or_from_slice_get M k t t is in
    let one : take (k + 1) M ≡ take k M ++ t ∷ [] = take_more M k t within ∙ ap (λ y. take k M ++ y ∷ []) here in
    b ∙ ap (option_map (λ list. list ++ filter p (t ∷ []))) a
    ∙ ap Some (append_assoc list (filter p (take k M)) (filter p (t ∷ [])) ∙ ap (λ ys. list ++ ys) (sym (filter-append p (take k M) (t ∷ [])) ∙ ap (filter p) (sym one)))

-- all have been read
pub all_gone : (p : Tri → Bool) (M : Mesh) (k : ℕ) (start now : Option Mesh) → slice_get M k ≡ None
    → now ≡ option_map (λ list. list ++ filter p (take k M)) start → now ≡ option_map (λ list. list ++ filter p M) start
all_gone p M k start now none is =
    let all : take k M ≡ M = take_all k M (past M k none) in
    rw (← all) is
  where
    past : (M : Mesh) (k : ℕ) → slice_get M k ≡ None → length M ≤ k
    past M k none = elim (slice_get_cases M k).1 [ inl w ↦ let some = w.2 in absurd cc | inr w ↦ w.0 ]
