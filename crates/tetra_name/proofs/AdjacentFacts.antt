-- What `kids_of` and `parents_of` need.
use Rattle.std.proofs.Common.{◌≡◌, ℕ, suc, ◌+◌, ◌-◌, ◌*◌, ◌%◌, ◌^◌, ◌≤◌, ◌<◌, ◌≢◌, List, [], ◌∷◌, map, refl, sym, ◌∙◌, ap, subst, inl, inr, arith, Bool, true, pow-add}
use Rattle.std.specs.Prelude.{filter, All}
use Rattle.std.proofs.lemmas.List.Elements.{All-nil, All-cons}
use Rattle.std.proofs.lemmas.Bool.{cases_Bool}
use Rattle.std.proofs.Math.Pow.{pow_mono}
use Rattle.tpz_base.specs.declared.shape.Point.{Point}
use Rattle.tpz_base.specs.Points.{point_scale}
use Rattle.tpz_base.specs.Tetrahedra.{Tetrahedron, members, kids, parents}
use Rattle.tpz_base.specs.Diamonds.{level_of}
use Rattle.tpz_base.proofs.CutLaw.{Member, is_parent}
use Rattle.tpz_base.proofs.Members.{member_named, named_member}
use Rattle.tpz_base.proofs.Elements.{map-member}
use Rattle.tpz_base.proofs.Diamonds.{IsSplittable, level_at, child_at, in_levels, kid_level, kid-part, part-parent, parents-member, parent_level, level_of-at}
use Rattle.tetra_name.specs.declared.shape.Half.{Half}
use Rattle.tetra_name.specs.Names.{count_of, point_of, IsCentre, IsWithin}
use Rattle.tetra_name.specs.Steps.{half_offsets, half_step, is_half_step, is_kid_step, is_parent_step, long_axes, moved, start_point, start, step_directions}
use Rattle.tetra_name.specs.Places.{IsScale}
use Rattle.tetra_name.proofs.NamesLaw.{first_member, some_member}
use Rattle.tetra_name.proofs.PlaceLaw.{centre_of_scale, level_of_scale, fits_of_scale, side_small, box_of_scale, even_of_scale}
use Rattle.tetra_name.proofs.KidsLaw.{flat_kids, edge_kids}
use Rattle.tetra_name.proofs.ParentsLaw.{flat_parents, cube_parents, root_parents}

all_members : {X : Type 0} (P : X → Type 0) (xs : List X) → ((x : X) → Member xs x → P x) → All P xs
all_members P [] h = All-nil P
all_members P (x ∷ xs) h = All-cons P x xs (h x (inl refl)) (all_members P xs (λ y m. h y (inr m)))

pub map-filter-map : {X Y Z : Type 0} (f : X → Y) (g : Y → Z) (p : Y → Bool) (xs : List X) → map (λ x. g (f x)) (filter (λ x. p (f x)) xs) ≡ map g (filter p (map f xs))
map-filter-map f g p [] = refl
map-filter-map f g p (x ∷ xs) =
    elim (cases_Bool (p (f x))) [
      | inl e ↦ rw (e) (ap (λ ys. g (f x) ∷ ys) (map-filter-map f g p xs))
      | inr e ↦ rw (e) (map-filter-map f g p xs)
    ]

is_centre : (L : ℕ) (T : Tetrahedron) (c : Point) → Member (members L c) T → IsCentre L c
unfolding IsCentre count_of
is_centre L T c m = some_member (members L c) T m

a_member : (L : ℕ) (c : Point) → IsCentre L c → (T : Tetrahedron) × Member (members L c) T
unfolding IsCentre count_of
a_member L c h = first_member (members L c) h

kid_facts : (L : ℕ) (c k : Point) → IsCentre L c → level_of L c < 3 * L → Member (kids L c) k → IsCentre L k × (level_of L k ≡ suc (level_of L c))
kid_facts L c k h low m =
    let a = a_member L c h in
    let n = member_named L c a.0 a.1 in
    let level = level_of-at L a.0 c n.0 n.1 in
    let s : IsSplittable L c = record { member = a.0; within = n.0; named = n.1; above = omega (arith, low, level) } in
    let r = kid-part L c k m in
    let p = part-parent L c r.0 r.1 in
    let at = level_at L p.0 p.1 in
    let up = level_of-at L p.0 c p.1 p.2 in
    let within = in_levels L (3 * L) (suc p.0.level) r.0 (omega (arith, up, low)) (child_at L p.0 r.0 at.1 p.3) in
    (is_centre L r.0 k (subst (λ d. Member (members L d) r.0) r.2 (named_member L r.0 within)), kid_level L c k s m)

parent_facts : (L : ℕ) (c p : Point) → IsCentre L c → Member (parents L c) p → IsCentre L p × (level_of L c ≡ suc (level_of L p))
parent_facts L c p h m =
    let a = a_member L c h in
    let n = member_named L c a.0 a.1 in
    let r = parents-member L c p m in
    let up = parent_level L r.0 a.0 r.1 n.0 (subst (λ x. is_parent L r.0 x ≡ true) (sym n.1) r.2) in
    let below = level_of-at L a.0 c n.0 n.1 in
    let above = level_of-at L r.0 p r.1 r.3 in
    (is_centre L r.0 p (subst (λ d. Member (members L d) r.0) r.3 (named_member L r.0 r.1)), below ∙ sym up ∙ ap suc (sym above))

-- a list of kids
pub record AreKids (L : ℕ) (c : Point) (hs : List Half) : Type 0 where
  pub kids_are : map point_of hs ≡ kids L c
  pub centres : All (λ k. IsCentre L (point_of k)) hs
  pub level : All (λ k. level_of L (point_of k) ≡ suc (level_of L c)) hs

are_kids : (L : ℕ) (c : Point) (hs : List Half) → IsCentre L c → level_of L c < 3 * L → map point_of hs ≡ kids L c → AreKids L c hs
are_kids L c hs h low e =
    let fact : (k : Half) → Member hs k → IsCentre L (point_of k) × (level_of L (point_of k) ≡ suc (level_of L c)) =
    λ k m. kid_facts L c (point_of k) h low (subst (λ xs. Member xs (point_of k)) e (map-member point_of hs k m)) in
    record { kids_are = e; centres = all_members (λ k. IsCentre L (point_of k)) hs (λ k m. (fact k m).0); level = all_members (λ k. level_of L (point_of k) ≡ suc (level_of L c)) hs (λ k m. (fact k m).1) }

-- a list of parents
pub record AreParents (L : ℕ) (c : Point) (hs : List Half) : Type 0 where
  pub parents_are : map point_of hs ≡ parents L c
  pub centres : All (λ p. IsCentre L (point_of p)) hs
  pub level : All (λ p. level_of L c ≡ suc (level_of L (point_of p))) hs

are_parents : (L : ℕ) (c : Point) (hs : List Half) → IsCentre L c → map point_of hs ≡ parents L c → AreParents L c hs
are_parents L c hs h e =
    let fact : (p : Half) → Member hs p → IsCentre L (point_of p) × (level_of L c ≡ suc (level_of L (point_of p))) =
    λ p m. parent_facts L c (point_of p) h (subst (λ xs. Member xs (point_of p)) e (map-member point_of hs p m)) in
    record { parents_are = e; centres = all_members (λ p. IsCentre L (point_of p)) hs (λ p m. (fact p m).0); level = all_members (λ p. level_of L c ≡ suc (level_of L (point_of p))) hs (λ p m. (fact p m).1) }

start_in : (N n : ℕ) → N % 2 ≡ 0 → n ≤ N → start n ≤ N
unfolding start
start_in N n even le = grind arith

module _ (L : ℕ) (c : Point) (j N : ℕ) (u : Point) (S : IsScale L c j N u) (most : L ≤ 30) where
  whole : 2 ^ j * N < 2 ^ 32
  whole = fits_of_scale L c j N u S most

  pub start_within : IsWithin N (start_point u)
  unfolding start_point
  start_within =
      let b = box_of_scale L c j N u S in
      let even = even_of_scale L c j N u S in
      (start_in N u.x even b.x, start_in N u.y even b.y, start_in N u.z even b.z)

  -- one unit past the cube, and two where there was a round before
  cube_side : N * 2 ^ j ≤ 2 ^ 31
  cube_side =
      let up : j + suc S.k ≡ suc L = omega (arith, S.unit.sum) in
      let p : 2 ^ suc L ≤ 2 ^ 31 = (let le : suc L ≤ 31 = omega (arith, most) in pow_mono le) in
      let s : 2 ^ j * 2 ^ suc S.k ≡ 2 ^ suc L = sym (pow-add 2 j (suc S.k)) ∙ ap (λ n. 2 ^ n) up in
      rw S.side (omega (arith, s, p))

  pub room_1 : (N + 1) * 2 ^ j < 2 ^ 32
  room_1 = let le : j ≤ 30 = omega (arith, S.unit.sum, most) in let p : 2 ^ j ≤ 2 ^ 30 = pow_mono le in omega (arith, p, cube_side)

  pub room_2 : j ≢ L → (N + 2) * 2 ^ j < 2 ^ 32
  room_2 n = let le : j ≤ 29 = omega (arith, S.unit.sum, most, n) in let p : 2 ^ j ≤ 2 ^ 29 = pow_mono le in omega (arith, p, cube_side)

  module _ (low : level_of L c < 3 * L) where
    deep : S.n < 3 * L
    deep = omega (arith, low, level_of_scale L c j N u S)

    pub small : N ≤ 1073741824
    small = side_small L c j N u S most deep

    pub room_half : long_axes u ≡ 1 → 2 * N * 2 ^ (j - 1) < 2 ^ 32
    room_half o =
        let up : j ≡ suc (j - 1) = omega (arith, o, S.unit.level, S.unit.sum, deep) in
        let double : 2 ^ j ≡ 2 * 2 ^ (j - 1) = ap (λ x. 2 ^ x) up ∙ omega arith in
        omega (arith, whole, ap (λ x. x * N) double)

    pub power_up : long_axes u ≡ 1 → 1 ≤ j
    power_up o = omega (arith, o, S.unit.level, S.unit.sum, deep)

    pub flat_kids_are : (hs : List Half) → long_axes u ≢ 1 → map point_of hs ≡ map (λ d. point_scale (2 ^ j) (moved 1 d u)) (filter (is_kid_step u) step_directions) → AreKids L c hs
    flat_kids_are hs n e = are_kids L c hs (centre_of_scale L c j N u S) low (e ∙ sym (flat_kids L c j N u S most deep n))

    pub edge_kids_are : (hs : List Half) → long_axes u ≡ 1 → map point_of hs ≡ map (λ o. point_scale (2 ^ (j - 1)) (half_step u o)) (filter (is_half_step N u) half_offsets) → AreKids L c hs
    edge_kids_are hs o e = are_kids L c hs (centre_of_scale L c j N u S) low (e ∙ sym (edge_kids L c j N u S most deep o))

  pub flat_parents_are : (hs : List Half) → long_axes u ≢ 3 → map point_of hs ≡ map (λ d. point_scale (2 ^ j) (moved 1 d u)) (filter (is_parent_step N u) step_directions) → AreParents L c hs
  flat_parents_are hs n e = are_parents L c hs (centre_of_scale L c j N u S) (e ∙ sym (flat_parents L c j N u S most n))

  pub cube_parents_are : (hs : List Half) (from : Point) → from ≡ start_point u → long_axes u ≡ 3 → j ≢ L → map point_of hs ≡ map (λ d. point_scale (2 ^ j) (moved 2 d from)) (filter (is_parent_step N u) step_directions) → AreParents L c hs
  cube_parents_are hs from at o n e =
      are_parents L c hs (centre_of_scale L c j N u S)
      (e ∙ ap (λ p. map (λ d. point_scale (2 ^ j) (moved 2 d p)) (filter (is_parent_step N u) step_directions)) at ∙ sym (cube_parents L c j N u S most o n))

  pub root_parents_are : (hs : List Half) → hs ≡ [] → long_axes u ≡ 3 → j ≡ L → AreParents L c hs
  root_parents_are hs none o e = subst (AreParents L c) (sym none) (are_parents L c [] (centre_of_scale L c j N u S) (sym (root_parents L c j N u S most o e)))
