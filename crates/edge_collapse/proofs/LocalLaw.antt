-- What only the triangles at u, and those at their corners, tell: whether u may collapse into w.
use Rattle.std.proofs.Common.{◌≡◌, Bool, true, false, not, ◌&&◌, ◌||◌, List, [], ◌∷◌, refl, sym, ◌∙◌, ap, inl, inr, filter}
use Rattle.std.specs.List.{list_any, list_all}
use Rattle.std.proofs.lemmas.Bool.{cases_Bool, or_parts}
use Rattle.tpz_base.specs.declared.shape.Point.{Point}
use Rattle.tpz_base.specs.declared.shape.Tri.{Tri}
use Rattle.tpz_base.specs.Points.{point_eq}
use Rattle.tpz_base.specs.Meshes.{Mesh, is_whole, has_corner, corners_of, is_outer}
use Rattle.tpz_base.specs.Collapses.{replaced, replaced_in, is_legal}
use Rattle.tpz_base.proofs.PointLemmas.{point_eq_refl}
use Rattle.tpz_base.proofs.CutLaw.{Member}
use Rattle.std.specs.Prelude.{All, sum_by}
use Rattle.std.proofs.lemmas.List.Elements.{All-head, All-tail}
use Rattle.patch_mesh.specs.Shops.{IsPlain}
use Rattle.edge_collapse.specs.Keys.{sweep_part}
use Rattle.patch_mesh.proofs.Local.{at_point, sum_filtered, any_filtered, all_filtered, outer_at}
use Rattle.tpz_base.proofs.ListTests.{list_all-flat_map}
use Rattle.edge_collapse.specs.Pairs.{side_kept_at, has_after, joins, stays_vertex, corners_stay}
use Rattle.edge_collapse.proofs.Scans.{image_has, all_stay_is}

-- the sides of the triangles at u
pub sides_at : (M : Mesh) (u w : Point) → list_all (side_kept_at u w) (at_point u M) ≡ list_all (side_kept_at u w) M
unfolding side_kept_at
sides_at M u w = all_filtered (side_kept_at u w) (has_corner u) out M
  where
    out : (t : Tri) → has_corner u t ≡ false → side_kept_at u w t ≡ true
    out t h = rw h refl

-- a triangle with both
pub joins_at : (M : Mesh) (u w : Point) → list_any (joins u w) (at_point u M) ≡ list_any (joins u w) M
unfolding joins
joins_at M u w = any_filtered (joins u w) (has_corner u) out M
  where
    out : (t : Tri) → has_corner u t ≡ false → joins u w t ≡ false
    out t h = rw h refl

-- v isn't a corner after the collapse, where it is neither before it nor the point that u goes to
replaced_none : (u w v p : Point) → point_eq w v ≡ false → point_eq p v ≡ false → point_eq (replaced u w p) v ≡ false
replaced_none u w v p f g = elim (cases_Bool (point_eq p u)) [ inl e ↦ rw e f | inr e ↦ rw e g ]

none_after : (u w v : Point) → point_eq w v ≡ false → (t : Tri) → has_corner v t ≡ false → has_after u w v t ≡ false
unfolding has_after
none_after u w v f t h =
    let one = or_parts (point_eq t.a v) (point_eq t.b v || point_eq t.c v) h in
    let two = or_parts (point_eq t.b v) (point_eq t.c v) one.1 in
    let gone : has_corner v (replaced_in u w t) ≡ false =
    rw (replaced_none u w v t.a f one.0, replaced_none u w v t.b f two.0, replaced_none u w v t.c f two.1) refl in
    elim (cases_Bool (is_whole (replaced_in u w t))) [ inl e ↦ rw (e, gone) refl | inr e ↦ rw e refl ]

-- whether another vertex than w stays: its own triangles tell
pub stays_at : (M : Mesh) (u w v : Point) → point_eq v u ≡ false → point_eq w v ≡ false
    → stays_vertex M u w v ≡ list_any (has_after u w v) (at_point v M)
stays_at M u w v other f =
    rw other (image_has M u w v ∙ sym (any_filtered (has_after u w v) (has_corner v) (none_after u w v f) M))

-- whether w stays: its triangles and those at u tell
abbrev pub at_either : Point → Point → Mesh → Mesh
at_either u w M = filter (λ t. has_corner u t || has_corner w t) M

none_after_w : (u w : Point) (t : Tri) → has_corner u t || has_corner w t ≡ false → has_after u w w t ≡ false
unfolding has_after
none_after_w u w t h =
    let both = or_parts (has_corner u t) (has_corner w t) h in
    let at_u = or_parts (point_eq t.a u) (point_eq t.b u || point_eq t.c u) both.0 in
    let at_u2 = or_parts (point_eq t.b u) (point_eq t.c u) at_u.1 in
    let at_w = or_parts (point_eq t.a w) (point_eq t.b w || point_eq t.c w) both.1 in
    let at_w2 = or_parts (point_eq t.b w) (point_eq t.c w) at_w.1 in
    rw (at_u.0, at_u2.0, at_u2.1) (rw (at_w.0, at_w2.0, at_w2.1) (ends (is_whole t)))
  where
    ends : (b : Bool) → b && (false || (false || false)) ≡ false
    ends true = refl
    ends false = refl

pub w_stays_at : (M : Mesh) (u w : Point) → point_eq w u ≡ false → stays_vertex M u w w ≡ list_any (has_after u w w) (at_either u w M)
w_stays_at M u w other =
    rw other (image_has M u w w ∙ sym (any_filtered (has_after u w w) (λ t. has_corner u t || has_corner w t) (none_after_w u w) M))

-- a triangle without u stays as it is, so its corners stay
any_member : {X : Type 0} (f : X → Bool) (xs : List X) (x : X) → Member xs x → f x ≡ true → list_any f xs ≡ true
any_member f [] x m h = absurd m
any_member f (y ∷ xs) x (inl e) h = rw (ap f e ∙ h) refl
any_member f (y ∷ xs) x (inr m) h = elim (cases_Bool (f y)) [ inl g ↦ rw g refl | inr g ↦ rw g (any_member f xs x m h) ]

all_but_members : {X : Type 0} (f q : X → Bool) (xs : List X) → ((x : X) → Member xs x → q x ≡ false → f x ≡ true) → list_all f (filter q xs) ≡ list_all f xs
all_but_members f q [] h = refl
all_but_members f q (x ∷ xs) h =
    let rest = all_but_members f q xs (λ y m. h y (inr m)) in
    elim (cases_Bool (q x)) [
      | inl e ↦ rw e (ap (λ b. f x && b) rest)
      | inr e ↦ let z = h x (inl refl) e in rw (e, z) rest
    ]

stays_beside : (M : Mesh) (u w v : Point) (t : Tri) → Member M t → is_whole t ≡ true → has_corner u t ≡ false → has_corner v t ≡ true → stays_vertex M u w v ≡ true
unfolding has_after
stays_beside M u w v t m whole out here =
    let at_u = or_parts (point_eq t.a u) (point_eq t.b u || point_eq t.c u) out in
    let at_u2 = or_parts (point_eq t.b u) (point_eq t.c u) at_u.1 in
    let after : has_after u w v t ≡ true = rw (at_u.0, at_u2.0, at_u2.1) (rw (whole, here) refl) in
    let is = image_has M u w v ∙ any_member (has_after u w v) M t m after in
    elim (cases_Bool (point_eq v u)) [ inl e ↦ rw e refl | inr e ↦ rw (e, is) refl ]

pub corners_at_u : (M : Mesh) (u w : Point) → ((t : Tri) → Member M t → is_whole t ≡ true)
    → list_all (stays_vertex M u w) (corners_of (at_point u M)) ≡ list_all (stays_vertex M u w) (corners_of M)
unfolding corners_stay
corners_at_u M u w whole =
    let out : (t : Tri) → Member M t → has_corner u t ≡ false → corners_stay M u w t ≡ true =
    λ t m h.
    let a = stays_beside M u w t.a t m (whole t m) h (rw (point_eq_refl t.a) refl) in
    let b = stays_beside M u w t.b t m (whole t m) h (second t) in
    let c = stays_beside M u w t.c t m (whole t m) h (third t) in
    rw (a, b, c) refl in
    list_all-flat_map (stays_vertex M u w) (λ t. t.a ∷ t.b ∷ t.c ∷ []) (at_point u M)
    ∙ all_but_members (corners_stay M u w) (has_corner u) M out ∙ sym (all_stay_is M u w)
  where
    second : (t : Tri) → has_corner t.b t ≡ true
    second t = elim (cases_Bool (point_eq t.a t.b)) [ inl e ↦ rw e refl | inr e ↦ rw (e, point_eq_refl t.b) refl ]

    third : (t : Tri) → has_corner t.c t ≡ true
    third t =
        elim (cases_Bool (point_eq t.a t.c)) [
          | inl e ↦ rw e refl
          | inr e ↦ elim (cases_Bool (point_eq t.b t.c)) [ inl f ↦ rw (e, f) refl | inr f ↦ rw (e, f, point_eq_refl t.c) refl ]
        ]

-- whether u may collapse into w
pub legal_at : (M : Mesh) (u w : Point) → ((t : Tri) → Member M t → is_whole t ≡ true)
    → is_legal M u w
    ≡ not (is_outer (at_point u M) u) && ((not (point_eq u w) && list_any (joins u w) (at_point u M))
    && (list_all (side_kept_at u w) (at_point u M) && list_all (stays_vertex M u w) (corners_of (at_point u M))))
unfolding side_kept_at joins
legal_at M u w whole =
    rw (outer_at M u, joins_at M u w, sides_at M u w, corners_at_u M u w whole) refl

-- so do the corners of the triangles at u
member_whole : (M : Mesh) → All IsPlain M → (t : Tri) → Member M t → is_whole t ≡ true
member_whole [] all t m = absurd m
member_whole (s ∷ M) all t (inl e) = ap is_whole (sym e) ∙ (All-head IsPlain s M all).whole
member_whole (s ∷ M) all t (inr m) = member_whole M (All-tail IsPlain s M all) t m

pub corners_by_star : (M : Mesh) (u w : Point) → All IsPlain M → list_all (corners_stay M u w) (filter (has_corner u) M) ≡ list_all (stays_vertex M u w) (corners_of M)
unfolding corners_stay
corners_by_star M u w plain =
    sym (list_all-flat_map (stays_vertex M u w) (λ t. t.a ∷ t.b ∷ t.c ∷ []) (at_point u M)) ∙ corners_at_u M u w (member_whole M plain)

-- the sweep
pub sweep_at_u : (M : Mesh) (u w : Point) → sum_by (sweep_part u w) (filter (has_corner u) M) ≡ sum_by (sweep_part u w) M
unfolding sweep_part
sweep_at_u M u w = sum_filtered (sweep_part u w) (has_corner u) (λ t out. rw out refl) M

-- which triangles survive with a corner
pub after_at : (M : Mesh) (u w v : Point) → point_eq w v ≡ false → list_any (has_after u w v) (filter (has_corner v) M) ≡ list_any (has_after u w v) M
after_at M u w v f = any_filtered (has_after u w v) (has_corner v) (none_after u w v f) M

both_ways : (x a b : Bool) → x || (a || b) ≡ (x || a) || (x || b)
both_ways true a b = refl
both_ways false a b = refl

left_way : (x a b : Bool) → x || (a || b) ≡ (x || a) || b
left_way true a b = refl
left_way false a b = refl

right_way : (x a b : Bool) → x || (a || b) ≡ a || (x || b)
right_way true true b = refl
right_way true false b = refl
right_way false a b = refl

either : {X : Type 0} (f p q : X → Bool) (xs : List X) → list_any f (filter (λ x. p x || q x) xs) ≡ (list_any f (filter p xs) || list_any f (filter q xs))
either f p q [] = refl
either f p q (x ∷ xs) =
    let A = list_any f (filter p xs) in
    let B = list_any f (filter q xs) in
    let rest = either f p q xs in
    elim (cases_Bool (p x)) [
      | inl e ↦ elim (cases_Bool (q x)) [
        | inl g ↦ rw (e, g) (ap (λ b. f x || b) rest ∙ both_ways (f x) A B)
        | inr g ↦ rw (e, g) (ap (λ b. f x || b) rest ∙ left_way (f x) A B)
      ]
      | inr e ↦ elim (cases_Bool (q x)) [
        | inl g ↦ rw (e, g) (ap (λ b. f x || b) rest ∙ right_way (f x) A B)
        | inr g ↦ rw (e, g) rest
      ]
    ]

pub after_at_w : (M : Mesh) (u w : Point)
    → (list_any (has_after u w w) (filter (has_corner u) M) || list_any (has_after u w w) (filter (has_corner w) M)) ≡ list_any (has_after u w w) M
after_at_w M u w =
    sym (either (has_after u w w) (has_corner u) (has_corner w) M) ∙ any_filtered (has_after u w w) (λ t. has_corner u t || has_corner w t) (none_after_w u w) M
