-- Every triangle has a leaf. Where nothing is split it is a root, and the mesh of the finest cut is that of the roots.
use Rattle.std.proofs.Common.{◌≡◌, ◌<◌, ℕ, zero, suc, ◌+◌, ◌*◌, Bool, true, false, not, List, [], ◌∷◌, ◌++◌, refl, sym, ◌∙◌, ap, ap₂, inl, inr, arith}
use Rattle.std.specs.Prelude.{filter, flat_map, find, Option, Some}
use Rattle.std.specs.Option.{option_map_or}
use Rattle.std.proofs.lemmas.Bool.{cases_Bool}
use Rattle.tpz_base.specs.declared.shape.Point.{Point}
use Rattle.tpz_base.specs.declared.shape.Tri.{Tri}
use Rattle.tpz_base.specs.Meshes.{Mesh}
use Rattle.tpz_base.specs.Roots.{root_of, root_patch, root_mesh}
use Rattle.tpz_base.specs.Tetrahedra.{Tetrahedron, diamond, at_level, descendants, tetrahedron_eq}
use Rattle.tpz_base.specs.Cuts.{has_diamond, active, cut_mesh}
use Rattle.tpz_base.proofs.CutLaw.{Member}
use Rattle.tpz_base.proofs.Diamonds.{in_levels}
use Rattle.tpz_base.proofs.Distinct.{at_its_level}
use Rattle.assign.specs.Leaf.{leaf, leaf_patch}
use Rattle.assign.specs.Paths.{entered, path, path_below}
use Rattle.assign.proofs.LeafLaw.{is_out, find_on, find_here}
use Rattle.assign.proofs.PathLaw.{walk, walk_member, entered_child, in_children}

-- where nothing is split
pub leaf-none : (L : ℕ) (t : Tri) → leaf L [] t ≡ Some (root_of L t)
unfolding leaf path is_out
leaf-none L t = find_here [] t (3 * L) (root_of L t) refl

filter_same : {X : Type 0} (p q : X → Bool) (xs : List X) → ((x : X) → p x ≡ q x) → filter p xs ≡ filter q xs
filter_same p q [] h = refl
filter_same p q (x ∷ xs) h =
    elim (cases_Bool (p x)) [
      | inl e ↦ let f : q x ≡ true = sym (h x) ∙ e in rw (e, f) (ap (λ ys. x ∷ ys) (filter_same p q xs h))
      | inr e ↦ let f : q x ≡ false = sym (h x) ∙ e in rw (e, f) (filter_same p q xs h)
    ]

pub leaf_patch-none : (L : ℕ) (M : Mesh) (T : Tetrahedron) → leaf_patch L [] M T ≡ root_patch L M T
unfolding leaf_patch
leaf_patch-none L M T =
    filter_same (λ t. option_map_or (tetrahedron_eq T) (leaf L [] t) false) (λ t. tetrahedron_eq T (root_of L t)) M (λ t. ap (λ o. option_map_or (tetrahedron_eq T) o false) (leaf-none L t))

flat_map_same : {X Y : Type 0} (f g : X → List Y) (xs : List X) → ((x : X) → f x ≡ g x) → flat_map f xs ≡ flat_map g xs
flat_map_same f g [] h = refl
flat_map_same f g (x ∷ xs) h = ap₂ (λ u v. u ++ v) (h x) (flat_map_same f g xs h)

-- the mesh of the roots is that of the finest cut where nothing is split
pub finest-none : (L : ℕ) (M : Mesh) → cut_mesh L (leaf_patch L [] M) [] ≡ root_mesh L M
unfolding root_mesh
finest-none L M = flat_map_same (leaf_patch L [] M) (root_patch L M) (active L []) (leaf_patch-none L M)

-- a tetrahedron on the way on that is the leaf
record Found (L : ℕ) (F : List Point) (o : Option Tetrahedron) : Type 0 where
  at : Tetrahedron
  is : o ≡ Some at
  within : Member (descendants L) at

module _ (L : ℕ) (F : List Point) (t : Tri) (above : (P : Tetrahedron) → Member (descendants L) P → has_diamond F (diamond P) ≡ true → P.level < 3 * L) where
  found : (n k : ℕ) (T : Tetrahedron) → k + n ≡ 3 * L → Member (at_level L k) T → Found L F (find (is_out F) (path_below n t T))
  unfolding is_out
  found zero k T sum m =
      let placed = in_levels L (3 * L) k T (omega (arith, sum)) m in
      elim (cases_Bool (has_diamond F (diamond T))) [
        | inl e ↦ absurd (omega (arith, above T placed e, at_its_level L k T m, sum))
        | inr e ↦ record { at = T; is = find_here F t zero T (ap not e); within = placed }
      ]
  found (suc n) k T sum m =
      elim (cases_Bool (has_diamond F (diamond T))) [
        | inl e ↦
            let r = found n (suc k) (entered t T) (omega (arith, sum)) (in_children (at_level L k) T (entered t T) m (entered_child t T)) in
            record { at = r.at; is = find_on F t n T (ap not e) ∙ r.is; within = r.within }
        | inr e ↦ record { at = T; is = find_here F t (suc n) T (ap not e); within = in_levels L (3 * L) k T (omega (arith, sum)) m }
      ]

  -- every triangle has a leaf
  pub leaf_found : (T : Tetrahedron) × (leaf L F t ≡ Some T) × Member (descendants L) T
  unfolding leaf path is_out walk
  leaf_found = let r = found (3 * L) 0 (root_of L t) (omega arith) (walk_member L t 0) in (r.at, r.is, r.within)
