-- A collapse leaves the entries right but for those of the points that shared a triangle with the vertex that moved, which are those that followed it.
use Rattle.std.proofs.Common.{◌≡◌, true, false, not, ◌&&◌, List, [], ◌∷◌, map, refl, sym, ◌∙◌, ap, inl, inr, true≢false, Option}
use Rattle.std.specs.Prelude.{flat_map}
use Rattle.std.specs.List.{list_any, list_all}
use Rattle.std.proofs.lemmas.Bool.{cases_Bool, and_parts, and_from, and_right, not-true, or_cases, or_left, or_from, false_from_ne_true}
use Rattle.tpz_base.specs.declared.shape.Point.{Point}
use Rattle.tpz_base.specs.declared.shape.Tri.{Tri}
use Rattle.tpz_base.specs.Lists.{has}
use Rattle.tpz_base.specs.Points.{point_eq}
use Rattle.tpz_base.specs.Meshes.{Mesh, edge_eq, is_whole, is_outer, has_corner, has_vertex}
use Rattle.tpz_base.specs.Collapses.{image, replaced, replaced_in, is_legal, are_neighbours}
use Rattle.tpz_base.proofs.PointLemmas.{point_eq-true, point_eq_sym, eq-point_eq}
use Rattle.tpz_base.proofs.ListTests.{list_any-flat_map, list_any-filter_map}
use Rattle.tpz_base.proofs.BorderLaw.{outer_kept}
use Rattle.tpz_base.proofs.Locality.{IsApart, key_kept}
use Rattle.tpz_base.proofs.StillLegal.{found, LeavesStar, legal_before}
use Rattle.tpz_base.proofs.FirstLegal.{edge_of_joined, turns}
use Rattle.patch_mesh.specs.Slots.{point_at}
use Rattle.edge_collapse.specs.declared.keys.Key.{Key}
use Rattle.edge_collapse.specs.Feeds.{is_covered, IsFedBut, follower}
use Rattle.edge_collapse.proofs.LeastLaw.{apart_ab, apart_bc, apart_ca, legal_pair}
use Rattle.collapse_queue.specs.Queues.{key_of as entry_of}

other : (x y p : Point) → point_eq x y ≡ false → point_eq y p ≡ true → point_eq x p ≡ false
other x y p n h = false_from_ne_true (point_eq x p) (λ k. true≢false (sym (eq-point_eq x y (point_eq-true x p k ∙ sym (point_eq-true y p h))) ∙ n))

-- an edge from u ends at a follower of u
follower_has : (t : Tri) (u p : Point) → is_whole t ≡ true → list_any (λ f. edge_eq f (u, p)) (turns t) ≡ true → list_any (λ y. point_eq y p) (follower u t) ≡ true
follower_has t u p whole h =
    let one : (x : Point) → point_eq x p ≡ true → list_any (λ y. point_eq y p) (x ∷ []) ≡ true = λ x k. or_left (point_eq x p) false k in
    elim (or_cases (edge_eq (t.a, t.b) (u, p)) _ h) [
      | inl k ↦ let l = and_parts (point_eq t.a u) (point_eq t.b p) k in rw l.0 (one t.b l.1)
      | inr h1 ↦ elim (or_cases (edge_eq (t.b, t.c) (u, p)) _ h1) [
        | inl k ↦
            let l = and_parts (point_eq t.b u) (point_eq t.c p) k in
            let a : point_eq t.a u ≡ false = other t.a t.b u (apart_ab t whole) l.0 in
            rw (a, l.0) (one t.c l.1)
        | inr h2 ↦ elim (or_cases (edge_eq (t.c, t.a) (u, p)) false h2) [
          | inl k ↦
              let l = and_parts (point_eq t.c u) (point_eq t.a p) k in
              let a : point_eq t.a u ≡ false = other t.a t.c u (point_eq_sym t.a t.c ∙ apart_ca t whole) l.0 in
              let b : point_eq t.b u ≡ false = other t.b t.c u (apart_bc t whole) l.0 in
              rw (a, b, l.0) (one t.a l.1)
          | inr h3 ↦ cc
        ]
      ]
    ]

-- each point that shares a triangle with u follows it somewhere
pub follows : (M : Mesh) (u p : Point) → list_all is_whole M ≡ true → is_outer M u ≡ false → point_eq u p ≡ false
    → list_any (λ t. has_corner u t && has_corner p t) M ≡ true → has point_eq (flat_map (follower u) M) p ≡ true
follows M u p whole inner differ joined =
    let h : list_any (λ t. list_any (λ f. edge_eq f (u, p)) (turns t)) M ≡ true =
    sym (list_any-flat_map (λ f. edge_eq f (u, p)) turns M) ∙ edge_of_joined M u p inner differ joined in
    let x = found (λ t. list_any (λ f. edge_eq f (u, p)) (turns t)) M h in
    list_any-flat_map (λ y. point_eq y p) (follower u) M
    ∙ x.2.any (λ t. list_any (λ y. point_eq y p) (follower u t)) (follower_has x.0 u p (x.2.all is_whole whole) x.1)

-- what a legal pair is
pub record IsLegalPair (M : Mesh) (u w : Point) : Type 0 where
  pub inner : is_outer M u ≡ false
  pub differ : point_eq u w ≡ false
  pub joined : list_any (λ t. has_corner u t && has_corner w t) M ≡ true

pub parts_of : (M : Mesh) (u w : Point) → is_legal M u w ≡ true → IsLegalPair M u w
parts_of M u w legal =
    let a = and_parts (not (is_outer M u)) _ legal in
    let b = and_parts (are_neighbours M u w) _ a.1 in
    let n = and_parts (not (point_eq u w)) _ b.0 in
    record { inner = not-true (is_outer M u) a.0; differ = not-true (point_eq u w) n.0; joined = n.1 }

-- the end of a legal pair follows its start
pub follows_legal : (M : Mesh) (u w : Point) → list_all is_whole M ≡ true → is_legal M u w ≡ true → has point_eq (flat_map (follower u) M) w ≡ true
follows_legal M u w whole legal = let k = parts_of M u w legal in follows M u w whole k.inner k.differ k.joined

joined_back : (M : Mesh) (u p : Point) → list_any (λ t. has_corner p t && has_corner u t) M ≡ true → list_any (λ t. has_corner u t && has_corner p t) M ≡ true
joined_back M u p h =
    let x = found (λ t. has_corner p t && has_corner u t) M h in
    let k = and_parts (has_corner p x.0) (has_corner u x.0) x.1 in
    x.2.any (λ t. has_corner u t && has_corner p t) (and_from (has_corner u x.0) (has_corner p x.0) k.1 k.0)

-- the vertex that moved is no vertex any more
not_here : (u w x : Point) → point_eq u w ≡ false → point_eq (replaced u w x) u ≡ false
not_here u w x n =
    elim (cases_Bool (point_eq x u)) [ inl e ↦ rw e (point_eq_sym w u ∙ n) | inr e ↦ rw e e ]

pub moved_away : (M : Mesh) (u w : Point) → point_eq u w ≡ false → has_vertex (image M u w) u ≡ false
moved_away M u w n = list_any-filter_map (has_corner u) is_whole (replaced_in u w) M ∙ none M
  where
    none : (N : Mesh) → list_any (λ t. is_whole (replaced_in u w t) && has_corner u (replaced_in u w t)) N ≡ false
    none [] = refl
    none (t ∷ N) =
        or_from (is_whole (replaced_in u w t) && has_corner u (replaced_in u w t)) _
        (and_right (is_whole (replaced_in u w t)) (has_corner u (replaced_in u w t))
        (or_from (point_eq (replaced u w t.a) u) _ (not_here u w t.a n) (or_from (point_eq (replaced u w t.b) u) _ (not_here u w t.b n) (not_here u w t.c n))))
        (none N)

pub fed_after : (vs : List Point) (M : Mesh) (u w : Point) (q : List (Option Key)) → list_all is_whole M ≡ true → is_legal M u w ≡ true
    → IsFedBut (point_eq u) vs M q → IsFedBut (λ p. has point_eq (flat_map (follower u) M) p) vs (image M u w) q
fed_after vs M u w q whole legal f =
    let N = image M u w in
    let near : List Point = flat_map (follower u) M in
    let k = parts_of M u w legal in
    let w_near : has point_eq near w ≡ true = follows M u w whole k.inner k.differ k.joined in
    record {
      fed = λ v h off. record {
        pair = λ x legal'.
            let p = point_at vs v in
            elim (cases_Bool (point_eq u p)) [
              | inl e ↦
                  let gone : has_vertex N u ≡ false = moved_away M u w k.differ in
                  absurd (true≢false (sym (legal_pair N p x legal').from ∙ ap (has_vertex N) (sym (point_eq-true u p e)) ∙ gone))
              | inr e ↦
                  let apart : IsApart M p u = false_from_ne_true (list_any (λ s. has_corner p s && has_corner u s) M) (λ j.
                  true≢false (sym (follows M u p whole k.inner e (joined_back M u p j)) ∙ off)) in
                  let w_off : point_eq w p ≡ false = false_from_ne_true (point_eq w p) (λ j.
                  true≢false (sym w_near ∙ ap (has point_eq near) (point_eq-true w p j) ∙ off)) in
                  let L : LeavesStar M u w p = record { whole = whole; inner = k.inner; differ = k.differ; joined = k.joined; away = w_off; apart = apart } in
                  let before : is_legal M p x ≡ true = legal_before M u w p x L legal' in
                  ap (is_covered (entry_of q v)) (key_kept M u w p x whole w_off apart) ∙ (f.fed v h e).pair x before
            ];
      };
    }

-- the same of what the calls left
pub fed_here : (vs : List Point) (M N : Mesh) (u w : Point) (q : List (Option Key)) (near : List Point) → list_all is_whole M ≡ true → is_legal M u w ≡ true
    → IsFedBut (point_eq u) vs M q → near ≡ flat_map (follower u) M → N ≡ image M u w → IsFedBut (λ p. has point_eq near p) vs N q
fed_here vs M N u w q near whole legal f a b = rw (a, b) (fed_after vs M u w q whole legal f)

-- which vertices are outer stays
pub outer_same : (vs : List Point) (M : Mesh) (u w : Point) → is_legal M u w ≡ true → map (is_outer (image M u w)) vs ≡ map (is_outer M) vs
outer_same vs M u w legal = each vs
  where
    each : (ps : List Point) → map (is_outer (image M u w)) ps ≡ map (is_outer M) ps
    each [] = refl
    each (p ∷ ps) = let k = parts_of M u w legal in rw (outer_kept M u w p k.inner k.differ) (ap (λ bs. is_outer M p ∷ bs) (each ps))
