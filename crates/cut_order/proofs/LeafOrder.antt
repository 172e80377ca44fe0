-- What the leaves of a split mesh add to the mesh of its finest cut.
use Rattle.std.proofs.Common.{◌≡◌, ℕ, ◌+◌, ◌<◌, ◌≤◌, true, false, not, List, [], ◌∷◌, ◌++◌, take, refl, sym, ◌∙◌, ap, subst, append_assoc, inl, inr, Option, Some, None, get_or, arith}
use Rattle.std.specs.Prelude.{filter, flat_map, slice_get, All, IfSome, OnOk, Result, Ok, Err}
use Rattle.std.specs.FinMap as map
use Rattle.std.specs.Option.{ForSome, option_map_or}
use Rattle.std.proofs.lemmas.Bool.{cases_Bool}
use Rattle.std.proofs.lemmas.List.{append-nil, take_all, take_more}
use Rattle.std.proofs.lemmas.Option.{slice_get_cases, slice_get_within, get_or_from_slice_get}
use Rattle.std.proofs.lemmas.Grind.{flat_map-append}
use Rattle.tpz_base.specs.declared.shape.Point.{Point}
use Rattle.tpz_base.specs.Meshes.{Mesh}
use Rattle.tpz_base.specs.Tetrahedra.{Tetrahedron, child_0, child_1, children, diamond, members, parts, roots}
use Rattle.tpz_base.specs.Cuts.{cut_mesh, has_diamond}
use Rattle.tpz_base.specs.Texts.{Bytes}
use Rattle.tetra_name.specs.declared.shape.Tet.{Tet}
use Rattle.tetra_name.specs.declared.shape.Half.{Half}
use Rattle.tetra_name.specs.Names.{child_of, count_of, point_of, root_at, tetrahedron_of, IsName}
use Rattle.tetra_name.proofs.NameFacts.{some_of}
use Rattle.tri_stream.specs.declared.names.StreamId.{StreamId}
use Rattle.tri_stream.specs.Streams.{StreamsState, told_list, Stands}
use Rattle.assign.specs.Names.{LeafTable}
use Rattle.assign.specs.Leaf.{leaf_patch}
use Rattle.assign.specs.Standing.{named_patch, HoldsPatches}
use Rattle.split_pass.proofs.Dividing.{at_some}
use Rattle.cut_order.specs.Leaves.{part_of, Adds, AreLive, KeepsStreams}

-- Streams that are as before.

pub keeps_both : {a b c : StreamsState} {x y z : Option Bytes} → KeepsStreams a b x y → KeepsStreams b c y z → KeepsStreams a c x z
keeps_both first last = record {
  counts = λ id. last.counts id ∙ first.counts id;
  lists = λ id. last.lists id ∙ first.lists id;
  stands = last.stands;
}

pub live_still : (leaves : LeafTable) {a b : StreamsState} {x y : Option Bytes} → KeepsStreams a b x y → AreLive leaves a → AreLive leaves b
live_still leaves kept live = λ name id is. rw (kept.counts id) (live name id is)

leaves_still : {L : ℕ} {F : List Point} {M : Mesh} {leaves : LeafTable} {a b : StreamsState} {x y : Option Bytes}
    → KeepsStreams a b x y → HoldsPatches L F M leaves a x → HoldsPatches L F M leaves b y
leaves_still kept has = record { named = has.named; lists = λ name id found. kept.lists id ∙ has.lists name id found }

-- the triangles of a leaf by its name
patch_named : (L : ℕ) (F : List Point) (M : Mesh) (name : Tet) (T : Tetrahedron) → tetrahedron_of L name ≡ Some T → named_patch L F M name ≡ leaf_patch L F M T
patch_named L F M name T is = ap (λ o. option_map_or (leaf_patch L F M) o []) is

-- What some tetrahedra add, and then others.

module _ (L : ℕ) (F : List Point) (leaves : LeafTable) where
  pub adds_none : (s : StreamsState) (told : Option Bytes) (old : Mesh) → Adds L F leaves s told [] old old
  adds_none s told old = record { added = λ M has. sym (append-nil old) }

  pub adds_more : {a b : StreamsState} {x y : Option Bytes} (ts us : List Tetrahedron) (old mid new : Mesh) → KeepsStreams a b x y
      → Adds L F leaves a x ts old mid → Adds L F leaves b y us mid new → Adds L F leaves a x (ts ++ us) old new
  adds_more ts us old mid new kept first last = record {
    added = λ M has.
        last.added M (leaves_still kept has)
        ∙ ap (λ (l : Mesh). l ++ flat_map (part_of L F M) us) (first.added M has)
        ∙ append_assoc old (flat_map (part_of L F M) ts) (flat_map (part_of L F M) us)
        ∙ ap (λ (l : Mesh). old ++ l) (sym (flat_map-append (part_of L F M) ts us));
  }

  -- a tetrahedron whose own diamond is split adds nothing
  pub adds_split : (s : StreamsState) (told : Option Bytes) (T : Tetrahedron) (old : Mesh) → has_diamond F (diamond T) ≡ true
      → Adds L F leaves s told (T ∷ []) old old
  unfolding part_of
  adds_split s told T old is = record { added = λ M has. rw is (sym (append-nil old)) }

  alone : (M : Mesh) (T : Tetrahedron) → has_diamond F (diamond T) ≡ false → flat_map (part_of L F M) (T ∷ []) ≡ leaf_patch L F M T
  unfolding part_of
  alone M T out = rw out (append-nil (leaf_patch L F M T))

  -- a leaf adds its stream's triangles
  pub adds_stream : (s : StreamsState) (told : Option Bytes) (name : Tet) (T : Tetrahedron) (id : StreamId) (old new : Mesh) → tetrahedron_of L name ≡ Some T
      → has_diamond F (diamond T) ≡ false → map.get leaves name ≡ Some id → ForSome (told_list s told id) (λ M. new ≡ old ++ M)
      → Adds L F leaves s told (T ∷ []) old new
  adds_stream s told name T id old new is out found added = record {
    added = λ M has. added (leaf_patch L F M T) (has.lists name id found ∙ ap Some (patch_named L F M name T is)) ∙ ap (λ (l : Mesh). old ++ l) (sym (alone M T out));
  }

  -- one without a stream adds none
  pub adds_empty : (s : StreamsState) (told : Option Bytes) (name : Tet) (T : Tetrahedron) (old : Mesh) → tetrahedron_of L name ≡ Some T
      → has_diamond F (diamond T) ≡ false → map.get leaves name ≡ None → Adds L F leaves s told (T ∷ []) old old
  adds_empty s told name T old is out none = record {
    added = λ M has. sym (append-nil old) ∙ ap (λ (l : Mesh). old ++ l) (sym (alone M T out ∙ sym (patch_named L F M name T is) ∙ (has.named name).0 none));
  }

-- what all add is the mesh of the cut
parts_are : (L : ℕ) (F : List Point) (M : Mesh) (ts : List Tetrahedron)
    → flat_map (part_of L F M) ts ≡ flat_map (leaf_patch L F M) (filter (λ T. not (has_diamond F (diamond T))) ts)
unfolding part_of
parts_are L F M [] = refl
parts_are L F M (T ∷ ts) =
    elim (cases_Bool (has_diamond F (diamond T))) [
      | inl e ↦ rw e (parts_are L F M ts)
      | inr e ↦ rw e (ap (λ (l : Mesh). leaf_patch L F M T ++ l) (parts_are L F M ts))
    ]

pub cut_added : (L : ℕ) (F : List Point) (leaves : LeafTable) (s : StreamsState) (told : Option Bytes) (new : Mesh)
    → Adds L F leaves s told (roots L ++ flat_map (parts L) F) [] new → (M : Mesh) → HoldsPatches L F M leaves s told → new ≡ cut_mesh L (leaf_patch L F M) F
cut_added L F leaves s told new adds M has = adds.added M has ∙ parts_are L F M (roots L ++ flat_map (parts L) F)

-- What was read of a list.

pub one_taken : {X : Type 0} (M : List X) (i : ℕ) (t : X) → slice_get M i ≡ Some t → take (i + 1) M ≡ take i M ++ t ∷ []
one_taken M i t is =
    let within = slice_get_within M i t is in
    let here : get_or M i t ≡ t = get_or_from_slice_get M i t t is in
    take_more M i t within ∙ ap (λ x. take i M ++ x ∷ []) here

-- Cases of answers.

pub in_some : {X : Type 0} (o : Option X) (P : X → Type 0) → ((x : X) → o ≡ Some x → P x) → IfSome o P
in_some None P f = tt
in_some (Some x) P f = f x refl

pub on_ok : {T E : Type 0} (r : Result T E) (P Q : Type 0) → (P → Q) → OnOk r P → OnOk r Q
on_ok (Ok x) P Q f p = f p
on_ok (Err e) P Q f p = tt

-- The children of a tetrahedron.

pub first_child : (T : Tetrahedron) → child_of 0 (Some T) ≡ Some (child_0 T)
unfolding child_of
first_child T = refl

pub second_child : (T : Tetrahedron) → child_of 1 (Some T) ≡ Some (child_1 T)
unfolding child_of
second_child T = refl

-- What loops have added.

pub joined_more : {X : Type 0} (f : X → List Tetrahedron) (xs : List X) (i : ℕ) (x : X) → slice_get xs i ≡ Some x
    → flat_map f (take (i + 1) xs) ≡ flat_map f (take i xs) ++ f x
joined_more f xs i x is =
    ap (flat_map f) (one_taken xs i x is) ∙ flat_map-append f (take i xs) (x ∷ []) ∙ ap (λ (l : List Tetrahedron). flat_map f (take i xs) ++ l) (append-nil (f x))

pub named_member : (L : ℕ) (c : Half) (slot : ℕ) → IsName L (record { centre = c; slot = slot })
    → (T : Tetrahedron) × (tetrahedron_of L (record { centre = c; slot = slot }) ≡ Some T) × (slice_get (members L (point_of c)) slot ≡ Some T)
unfolding IsName tetrahedron_of
named_member L c slot h = let r = some_of (slice_get (members L (point_of c)) slot) h in (r.0, r.1, r.1)

pub members_done : (L : ℕ) (d : Point) (i : ℕ) → count_of L d ≤ i → flat_map children (take i (members L d)) ≡ parts L d
unfolding count_of
members_done L d i h = ap (flat_map children) (take_all i (members L d) h)

pub all_at : {X : Type 0} (P : X → Type 0) (xs : List X) (i : ℕ) (x : X) → All P xs → slice_get xs i ≡ Some x → P x
all_at P xs i x all is =
    let here : get_or xs i x ≡ x = get_or_from_slice_get xs i x x is in
    subst P here (all i x (slice_get_within xs i x is))

module _ (L : ℕ) (F : List Point) (leaves : LeafTable) where
  -- one root more
  pub roots_more : {a b : StreamsState} {x y : Option Bytes} (i : ℕ) (name : Tet) (old mid new : Mesh) → i < 6 → tetrahedron_of L name ≡ root_at L i
      → KeepsStreams a b x y → Adds L F leaves a x (take i (roots L)) old mid
      → IfSome (tetrahedron_of L name) (λ T. Adds L F leaves b y (T ∷ []) mid new) → Adds L F leaves a x (take (i + 1) (roots L)) old new
  unfolding root_at
  roots_more {a} {x = x} i name old mid new below is kept first last =
      elim (slice_get_cases (roots L) i).1 [
        | inl w ↦
            let here : slice_get (roots L) i ≡ Some w.0 = w.2 in
            subst (λ ts. Adds L F leaves a x ts old new) (sym (one_taken (roots L) i w.0 here))
            (adds_more L F leaves (take i (roots L)) (w.0 ∷ []) old mid new kept first (at_some (tetrahedron_of L name) _ w.0 last (is ∙ here)))
        | inr w ↦ absurd (omega arith)
      ]

  pub roots_done : (s : StreamsState) (told : Option Bytes) (i : ℕ) (old new : Mesh) → 6 ≤ i → Adds L F leaves s told (take i (roots L)) old new
      → Adds L F leaves s told (roots L) old new
  roots_done s told i old new h adds = subst (λ ts. Adds L F leaves s told ts old new) (take_all i (roots L) h) adds

pub keeps_self : (s : StreamsState) (told : Option Bytes) → ForSome told (Stands s) → KeepsStreams s s told told
keeps_self s told stands = record { counts = λ x. refl; lists = λ x. refl; stands = stands }

pub on_any : {T E : Type 0} (r : Result T E) (P : Type 0) → P → OnOk r P
on_any (Ok x) P p = p
on_any (Err e) P p = tt
