-- The roots are active in the empty cut alone: every other conforming cut holds their diamond.
use Rattle.std.proofs.Common.{◌≡◌, ℕ, zero, suc, ◌+◌, ◌/◌, ◌^◌, ◌≤◌, Bool, true, false, not, List, [], ◌∷◌, ◌++◌, refl, sym, ◌∙◌, ap, ap₂, subst, inl, inr, arith, slice_get}
use Rattle.std.specs.Prelude.{filter, flat_map}
use Rattle.std.proofs.lemmas.List.{append-nil}
use Rattle.std.proofs.lemmas.List.Elements.{filter-append}
use Rattle.tpz_base.specs.declared.shape.Point.{Point}
use Rattle.tpz_base.specs.Points.{point}
use Rattle.tpz_base.specs.Tetrahedra.{Tetrahedron, diamond, children, descendants, parts, parents, roots, roots_of_side}
use Rattle.tpz_base.specs.Cuts.{has_diamond, active}
use Rattle.tpz_base.proofs.PointLemmas.{point_cong}
use Rattle.tpz_base.proofs.CutLaw.{Member}
use Rattle.tpz_base.proofs.Elements.{has-member, member-has, at_all}
use Rattle.tpz_base.proofs.Diamonds.{root_or_part, part-parent}
use Rattle.diamond_graph.specs.Closed.{has_parents, IsConforming, CanSplit}
use Rattle.diamond_graph.specs.Graphs.{GraphState, centres, IsGraph}
use Rattle.diamond_graph.proofs.CentreFacts.{splittable}
use Rattle.view_cut.specs.Sets.{centres_at, IsConformingSet}
use Rattle.view_cut.proofs.PlaceSets.{member-filter_map}
use Rattle.view_cut.proofs.ActiveLaw.{splits_at}

-- the roots have one diamond
root_diamond : (s : ℕ) (T : Tetrahedron) → Member (roots_of_side s) T → diamond T ≡ point (s / 2) (s / 2) (s / 2)
root_diamond s T m = elim m [
  | inl e ↦ sym (ap diamond e) ∙ point_cong _ _ _ _ _ _ (omega arith) (omega arith) (omega arith)
  | inr m1 ↦ elim m1 [
    | inl e ↦ sym (ap diamond e) ∙ point_cong _ _ _ _ _ _ (omega arith) (omega arith) (omega arith)
    | inr m2 ↦ elim m2 [
      | inl e ↦ sym (ap diamond e) ∙ point_cong _ _ _ _ _ _ (omega arith) (omega arith) (omega arith)
      | inr m3 ↦ elim m3 [
        | inl e ↦ sym (ap diamond e) ∙ point_cong _ _ _ _ _ _ (omega arith) (omega arith) (omega arith)
        | inr m4 ↦ elim m4 [
          | inl e ↦ sym (ap diamond e) ∙ point_cong _ _ _ _ _ _ (omega arith) (omega arith) (omega arith)
          | inr m5 ↦ elim m5 [
            | inl e ↦ sym (ap diamond e) ∙ point_cong _ _ _ _ _ _ (omega arith) (omega arith) (omega arith)
            | inr none ↦ absurd none
          ]
        ]
      ]
    ]
  ]
]

child_below : (P T : Tetrahedron) → Member (children P) T → T.level ≡ suc P.level
child_below P T m =
    elim m [
      | inl e ↦ ap (λ (S : Tetrahedron). S.level) (sym e)
      | inr k ↦ elim k [ inl e ↦ ap (λ (S : Tetrahedron). S.level) (sym e) | inr none ↦ absurd none ]
    ]

module _ (L : ℕ) (R : List Point) (conforming : IsConforming L R) where
  -- from a diamond of the cut up to the roots'
  up_to_roots : (n : ℕ) (T : Tetrahedron) → Member (descendants L) T → T.level ≤ n → Member R (diamond T) → (S : Tetrahedron) → Member (roots L) S → has_diamond R (diamond S) ≡ true
  unfolding IsConforming
  up_to_roots zero T within low held S root =
      elim (root_or_part L T within) [
        | inl is_root ↦ member-has R (diamond S) (subst (Member R) (root_diamond (2 ^ (L + 1)) T is_root ∙ sym (root_diamond (2 ^ (L + 1)) S root)) held)
        | inr part ↦
            let up = part-parent L part.0 T part.2 in
            let below = child_below up.0 T up.3 in
            absurd (omega (arith, low, below))
      ]
  up_to_roots (suc n) T within low held S root =
      elim (root_or_part L T within) [
        | inl is_root ↦ member-has R (diamond S) (subst (Member R) (root_diamond (2 ^ (L + 1)) T is_root ∙ sym (root_diamond (2 ^ (L + 1)) S root)) held)
        | inr part ↦
            let up = part-parent L part.0 T part.2 in
            let below = child_below up.0 T up.3 in
            let parent = has-member R part.0 (at_all (has_diamond R) (parents L (diamond T)) part.0 (at_all (has_parents L R) R (diamond T) conforming held) part.1) in
            up_to_roots n up.0 up.1 (omega (arith, low, below)) (subst (Member R) (sym up.2) parent) S root
      ]

  pub roots_held : (d : Point) → CanSplit L d → Member R d → (S : Tetrahedron) → Member (roots L) S → has_diamond R (diamond S) ≡ true
  roots_held d split held S root =
      let s = splittable L d split in
      up_to_roots s.member.level s.member s.within (omega arith) (subst (Member R) (sym s.named) held) S root

-- the parts of d whose own diamond isn't in R
abbrev pub outer_parts : ℕ → List Point → Point → List Tetrahedron
outer_parts L R d = filter (λ T. not (has_diamond R (diamond T))) (parts L d)

filter_none : {X : Type 0} (p : X → Bool) (xs : List X) → ((x : X) → Member xs x → p x ≡ false) → filter p xs ≡ []
filter_none p [] h = refl
filter_none p (x ∷ xs) h = (let here = h x (inl refl) in rw here (filter_none p xs (λ y m. h y (inr m))))

filter_all : {X : Type 0} (xs : List X) → filter (λ _. true) xs ≡ xs
filter_all [] = refl
filter_all (x ∷ xs) = ap (λ ys. x ∷ ys) (filter_all xs)

filter-flat_map : {X Y : Type 0} (p : Y → Bool) (f : X → List Y) (xs : List X) → filter p (flat_map f xs) ≡ flat_map (λ x. filter p (f x)) xs
filter-flat_map p f [] = refl
filter-flat_map p f (x ∷ xs) = filter-append p (f x) (flat_map f xs) ∙ ap (λ ys. filter p (f x) ++ ys) (filter-flat_map p f xs)

-- in the empty cut the roots are active
pub active_of_none : (L : ℕ) → active L [] ≡ roots L
active_of_none L = filter_all (roots L ++ []) ∙ append-nil (roots L)

-- in every other, the outer parts of its diamonds
pub active_of_some : (L : ℕ) (R : List Point) (d : Point) → IsConforming L R → CanSplit L d → Member R d → active L R ≡ flat_map (outer_parts L R) R
active_of_some L R d conforming split held =
    let p : Tetrahedron → Bool = λ T. not (has_diamond R (diamond T)) in
    filter-append p (roots L) (flat_map (parts L) R)
    ∙ ap₂ (λ xs ys. xs ++ ys) (filter_none p (roots L) (λ S root. ap not (roots_held L R conforming d split held S root))) (filter-flat_map p (parts L) R)

-- so of a graph's set with a place in it
pub active_of_set : (g : GraphState) (places : List ℕ) (d : Point) → IsGraph g → IsConformingSet g places → Member (centres_at g.records places) d
    → active g.l (centres_at g.records places) ≡ flat_map (outer_parts g.l (centres_at g.records places)) (centres_at g.records places)
unfolding centres_at
active_of_set g places d graph set held =
    let at = member-filter_map (slice_get (centres g)) places d held in
    active_of_some g.l (centres_at g.records places) d set.conforming (splits_at g g.l at.0 d refl graph at.2) held
