-- What the lines of a header have declared.
use Rattle.std.proofs.Common.{◌≡◌, List, [], ◌∷◌, ◌++◌, refl, ap}
use Rattle.std.proofs.lemmas.List.{append-nil}
use Rattle.ply_head.specs.Headers.{Named, Declared, with_last}

-- properties that come behind those of the last element
pub with_last-front : (ns : List Named) (front : List Declared) (e : Declared)
    → with_last ns (front ++ e ∷ []) ≡ front ++ record e { properties = e.properties ++ ns } ∷ []
with_last-front ns [] e = refl
with_last-front ns (f ∷ []) e = refl
with_last-front ns (f ∷ g ∷ fs) e = ap (λ (es : List Declared). f ∷ es) (with_last-front ns (g ∷ fs) e)

-- no properties
pub with_last-none : (es : List Declared) → with_last [] es ≡ es
with_last-none [] = refl
with_last-none (e ∷ []) = ap (λ (ns : List Named). record e { properties = ns } ∷ []) (append-nil e.properties)
with_last-none (e ∷ f ∷ es) = ap (λ (fs : List Declared). e ∷ fs) (with_last-none (f ∷ es))
