-- What a search keeps from call to call.
use Rattle.std.proofs.Common.{◌≡◌, ℕ, zero, suc, ◌+◌, ◌<◌, ◌≤◌, true, List, [], ◌∷◌, map, drop, length, refl, sym, ◌∙◌, ap, ap₂, subst, arith, add-one, Option, Some, None, vec_capacity, get_or}
use Rattle.std.proofs.lemmas.List.{length-map, get_or_default}
use Rattle.std.specs.Prelude.{slice_set, flat_map, IsSome, slice_index}
use Rattle.std.specs.List.{list_all}
use Rattle.tpz_base.specs.declared.shape.Point.{Point}
use Rattle.tpz_base.specs.Lists.{has}
use Rattle.tpz_base.specs.Points.{point_eq}
use Rattle.tpz_base.specs.Meshes.{Mesh, is_whole, is_outer}
use Rattle.tpz_base.specs.Collapses.{is_legal, image}
use Rattle.collapse_queue.specs.Queues.{key_of as entry_of}
use Rattle.collapse_queue.proofs.QueueLaw.{below_capacity}
use Rattle.patch_mesh.specs.Shops.{Shop, collapsed_shop}
use Rattle.patch_mesh.specs.Slots.{point_at}
use Rattle.patch_mesh.proofs.Keeping.{image_le}
use Rattle.edge_collapse.specs.declared.keys.Key.{Key}
use Rattle.edge_collapse.specs.declared.search.Search.{Search}
use Rattle.edge_collapse.specs.Feeds.{IsFedBut, AreSane, follower, undue}
use Rattle.edge_collapse.specs.Searches.{IsRoomy, KeepsRoom}
use Rattle.edge_collapse.proofs.Covering.{sane_set, undue_more}
use Rattle.edge_collapse.proofs.FedAfter.{fed_here, outer_same}

pub room_then : (a b c : Search) → KeepsRoom a b → KeepsRoom b c → KeepsRoom a c
room_then a b c h k = record {
  queue = k.queue ∙ h.queue;
  outer = k.outer ∙ h.outer;
  outer_room = omega (arith, h.outer_room, k.outer_room);
  faces = omega (arith, h.faces, k.faces);
  near = omega (arith, h.near, k.near);
}

pub roomy_kept : (s : Shop) (a b : Search) → IsRoomy s a → KeepsRoom a b → IsRoomy s b
roomy_kept s a b h k = record {
  long = omega (arith, h.long, k.queue);
  outer = k.outer ∙ h.outer;
  faces = omega (arith, h.faces, k.faces);
  near = omega (arith, h.near, k.near);
}

-- behind a collapse
pub roomy_after : (s s' : Shop) (u w : Point) (x x' : Search) → is_legal s.mesh u w ≡ true → s' ≡ collapsed_shop s u w → IsRoomy s x
    → length x'.queue ≡ length x.queue → x'.outer.items ≡ x.outer.items → vec_capacity x.faces ≤ vec_capacity x'.faces → vec_capacity x.near ≤ vec_capacity x'.near → IsRoomy s' x'
roomy_after s s' u w x x' legal is h q o f n =
    let mesh : s'.mesh ≡ image s.mesh u w = ap (λ (z : Shop). z.mesh) is in
    let vs : s'.vertices ≡ s.vertices = ap (λ (z : Shop). z.vertices) is in
    let fewer = image_le s.mesh u w in
    record {
      long = omega (arith, h.long, q, ap length vs);
      outer = o ∙ h.outer ∙ sym (outer_same s.vertices s.mesh u w legal) ∙ ap₂ (λ M ps. map (is_outer M) ps) (sym mesh) (sym vs);
      faces = omega (arith, h.faces, f, ap length mesh, fewer);
      near = omega (arith, h.near, n, ap length mesh, fewer);
    }

pub fed_collapsed : (s s' : Shop) (u w : Point) (q : List (Option Key)) (near : List ℕ) → list_all is_whole s.mesh ≡ true → is_legal s.mesh u w ≡ true
    → IsFedBut (point_eq u) s.vertices s.mesh q → map (point_at s.vertices) near ≡ flat_map (follower u) s.mesh → s' ≡ collapsed_shop s u w
    → IsFedBut (λ p. has point_eq (map (point_at s'.vertices) near) p) s'.vertices s'.mesh q
fed_collapsed s s' u w q near whole legal f items is =
    subst (λ (z : Shop). IsFedBut (λ p. has point_eq (map (point_at z.vertices) near) p) z.vertices z.mesh q) (sym is)
    (fed_here s.vertices s.mesh (image s.mesh u w) u w q (map (point_at s.vertices) near) whole legal f items refl)

-- an entry is taken out
pub sane_without : (vs : List Point) (q : List (Option Key)) (v : ℕ) (k : Key) → entry_of q v ≡ Some k → AreSane vs q → AreSane vs (slice_set q v None)
sane_without vs q v k at sane = sane_set vs q v None (below_capacity q v (subst (λ o. IsSome o) (sym at) refl)) tt sane

-- an entry less leaves no more that aren't due
pub undue_drop : (M : Mesh) (q : List (Option Key)) (i : ℕ) → i < length q → undue M (slice_set q i None) ≤ undue M q
undue_drop M q i h = omega (arith, undue_more M q i None h)

pub less_in_three : (a b c d : ℕ) → a ≤ b → b ≤ c → c < d → a < d
less_in_three a b c d h k l = omega (arith, h, k, l)

-- the queue alone was changed
pub room_taken : (a b : Search) (q : List (Option Key)) → length q ≡ length a.queue
    → KeepsRoom (record { queue = q; outer = a.outer; faces = a.faces; near = a.near }) b → KeepsRoom a b
room_taken a b q h k = record { queue = k.queue ∙ h; outer = k.outer; outer_room = k.outer_room; faces = k.faces; near = k.near }

-- the vertices from a number on
rest_suc : (vs : List Point) (v : ℕ) → v < length vs → drop v vs ≡ point_at vs v ∷ drop (suc v) vs
rest_suc [] v h = absurd (omega arith)
rest_suc (p ∷ vs) zero h = refl
rest_suc (p ∷ vs) (suc v) h = rest_suc vs v (omega arith)

pub rest_is : (vs : List Point) (v : ℕ) → v < length vs → drop v vs ≡ point_at vs v ∷ drop (v + 1) vs
rest_is vs v h = rw add-one (rest_suc vs v h)

point_mapped : (vs : List Point) (ns : List ℕ) (i : ℕ) → i < length ns → point_at (map (point_at vs) ns) i ≡ point_at vs (slice_index ns i)
point_mapped vs [] i h = absurd (omega arith)
point_mapped vs (n ∷ ns) zero h = refl
point_mapped vs (n ∷ ns) (suc i) h = point_mapped vs ns i (omega arith)

-- the points of the numbers from an index on
pub near_is : (vs : List Point) (ns : List ℕ) (i : ℕ) → i < length ns → drop i (map (point_at vs) ns) ≡ point_at vs (slice_index ns i) ∷ drop (i + 1) (map (point_at vs) ns)
near_is vs ns i h =
    rest_is (map (point_at vs) ns) i (omega (arith, length-map ns (point_at vs))) ∙ ap (λ p. p ∷ drop (i + 1) (map (point_at vs) ns)) (point_mapped vs ns i h)

pub same_le : (n : ℕ) → n ≤ n
same_le n = omega arith

-- what an index reads
pub index_is : (xs : List ℕ) (i x : ℕ) → i < length xs → x ≡ get_or xs i x → slice_index xs i ≡ x
index_is xs i x h e = get_or_default xs i 0 x h ∙ sym e
