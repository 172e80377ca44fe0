-- Kids and parents of a diamond by the pairs of directions of its members.
use Rattle.std.proofs.Common.{◌≡◌, ℕ, zero, suc, ◌+◌, ◌-◌, ◌*◌, ◌/◌, ◌^◌, ◌≤◌, ◌<◌, ◌≢◌, true, List, [], ◌∷◌, map, refl, sym, ◌∙◌, ap, subst, inl, inr, arith}
use Rattle.std.specs.Prelude.{filter, Some}
use Rattle.tpz_base.specs.declared.shape.Point.{Point}
use Rattle.tpz_base.specs.Lists.{in_order}
use Rattle.tpz_base.specs.Points.{point_lt, point_scale}
use Rattle.tpz_base.specs.Tetrahedra.{Tetrahedron, diamond, children, at_level, descendants, members, parts, kids, parents}
use Rattle.tpz_base.specs.Diamonds.{level_of}
use Rattle.tpz_base.proofs.CutLaw.{Member, is_parent}
use Rattle.tpz_base.proofs.PointOrder.{point_lt_tie, point_lt-through}
use Rattle.tpz_base.proofs.Distinct.{member-flat_map}
use Rattle.tpz_base.proofs.Levels.{IsCentreOf, one_level}
use Rattle.tpz_base.proofs.Members.{member-filter, filter-member, member_named, named_member, centre_of_level}
use Rattle.tpz_base.proofs.Elements.{Ascending, in_order-ascending, member-in_order, in_order-member, member-map, map-member, flat_map-member}
use Rattle.tpz_base.proofs.Diamonds.{level_at, child-is_parent, is_parent-child, child_at as child_in_level, in_levels, parent_once}
use Rattle.tetra_name.specs.declared.shape.Tet.{Tet}
use Rattle.tetra_name.specs.Names.{child_of, half_of, point_of, tetrahedron_of, IsName}
use Rattle.tetra_name.specs.Steps.{is_member, long_axes, pairs, member_at, slot_at, child_pair, child_point, parent_which, parent_pair, parent_point}
use Rattle.tetra_name.specs.Places.{IsScale, IsPlace}
use Rattle.tetra_name.proofs.Sorting.{Below, Strict, strict_same, below-true, below_not, below_trans}
use Rattle.tetra_name.proofs.OneName.{get_member}
use Rattle.tetra_name.proofs.MembersLaw.{unit_centre}
use Rattle.tetra_name.proofs.PlaceLaw.{members_in, level_of_scale, stands, in_its_level}
use Rattle.tetra_name.proofs.SlotLaw.{slot_of_pair}
use Rattle.tetra_name.proofs.NameFacts.{child_at, child_of-some, child_at-level, some_of}
use Rattle.tetra_name.proofs.ChildFacts.{named, edge_named}
use Rattle.tetra_name.proofs.ParentFacts.{IsParent, flat_named, cube_parent}

ascending_strict : (ps : List Point) → Ascending point_lt ps → Strict Below ps
ascending_strict [] h = tt
ascending_strict (p ∷ ps) h = (λ q m. below-true p q (h.0 q m), ascending_strict ps h.1)

-- an ascending list with the elements of another is that list in order
pub in_order_is : (ys zs : List Point) → Strict Below zs → ((z : Point) → Member ys z → Member zs z) → ((z : Point) → Member zs z → Member ys z) → in_order point_lt ys ≡ zs
in_order_is ys zs strict to from =
    strict_same Below below_not below_trans (in_order point_lt ys) zs (ascending_strict (in_order point_lt ys) (in_order-ascending point_lt point_lt-through ys)) strict
    (λ z m. to z (member-in_order point_lt ys z m)) (λ z m. in_order-member point_lt point_lt_tie ys z (from z m))

-- a pair of directions that tells a member
pub record IsPair (N : ℕ) (u : Point) (q : ℕ × ℕ) : Type 0 where
  pub has : Member pairs q
  pub valid : is_member N u q ≡ true

child_member : (which : ℕ) (T : Tetrahedron) → which < 2 → Member (children T) (child_at which T)
unfolding child_at
child_member zero T lt = inl refl
child_member (suc zero) T lt = inr (inl refl)
child_member (suc (suc w)) T lt = absurd (omega (arith, lt))

-- which child it is
which_child : (T S : Tetrahedron) → Member (children T) S → (which : ℕ) × (which < 2) × (child_at which T ≡ S)
unfolding child_at
which_child T S m = elim m [ inl e ↦ (0, omega arith, e) | inr k ↦ elim k [ inl e ↦ (1, omega arith, e) | inr none ↦ absurd none ] ]

module _ (L : ℕ) (c : Point) (j N : ℕ) (u : Point) (S : IsScale L c j N u) where
  name_at : ℕ × ℕ → Tet
  name_at q = record { centre = half_of c; slot = slot_at N u q }

  place_at : (q : ℕ × ℕ) → IsPair N u q → IsPlace L (name_at q) j N u q
  unfolding name_at
  place_at q v = record { scale = S; slot = slot_of_pair N u q v.has v.valid }

  pub T_of : ℕ × ℕ → Tetrahedron
  T_of q = member_at S.n (2 ^ j) u q

  listed : (q : ℕ × ℕ) → IsPair N u q → Member (members L c) (T_of q)
  unfolding T_of
  listed q v =
      subst (λ xs. Member xs (member_at S.n (2 ^ j) u q)) (sym (members_in L c j N u S))
      (map-member (member_at S.n (2 ^ j) u) (filter (is_member N u) pairs) q (filter-member (is_member N u) pairs q v.has v.valid))

  pair_of : (T : Tetrahedron) → Member (members L c) T → (q : ℕ × ℕ) × IsPair N u q × (T_of q ≡ T)
  unfolding T_of
  pair_of T m =
      let r = member-map (member_at S.n (2 ^ j) u) (filter (is_member N u) pairs) T (subst (λ xs. Member xs T) (members_in L c j N u S) m) in
      let k = member-filter (is_member N u) pairs r.0 r.1 in
      (r.0, record { has = k.0; valid = k.1 }, r.2)

  T_stands : (q : ℕ × ℕ) (v : IsPair N u q) → tetrahedron_of L (name_at q) ≡ Some (T_of q)
  unfolding T_of place_at
  T_stands q v = stands L (name_at q) j N u q (place_at q v)

  T_in_level : (q : ℕ × ℕ) (v : IsPair N u q) → Member (at_level L S.n) (T_of q)
  unfolding T_of place_at
  T_in_level q v = in_its_level L (name_at q) j N u q (place_at q v)

  T_level : (q : ℕ × ℕ) → (T_of q).level ≡ S.n
  unfolding T_of member_at
  T_level q = refl

  -- a name tells the centre
  named_centre : (t : Tet) (T : Tetrahedron) → tetrahedron_of L t ≡ Some T → Member (descendants L) T × (diamond T ≡ point_of t.centre)
  unfolding tetrahedron_of
  named_centre t T e = member_named L (point_of t.centre) T (get_member (members L (point_of t.centre)) t.slot T e)

  -- kids
  module _ (most : L ≤ 30) (low : S.n < 3 * L) where
    above : level_of L c < 3 * L
    above = omega (arith, low, level_of_scale L c j N u S)

    child_centre : (q : ℕ × ℕ) (v : IsPair N u q) (which : ℕ) (r : Tet) → tetrahedron_of L r ≡ child_of which (tetrahedron_of L (name_at q)) → diamond (child_at which (T_of q)) ≡ point_of r.centre
    child_centre q v which r e = (named_centre r (child_at which (T_of q)) (e ∙ ap (child_of which) (T_stands q v) ∙ child_of-some which (T_of q))).1

    pub flat_child : (q : ℕ × ℕ) → IsPair N u q → (which : ℕ) → which < 2 → long_axes u ≢ 1 → diamond (child_at which (T_of q)) ≡ point_scale (2 ^ j) (child_point which u q)
    unfolding name_at
    flat_child q v which lt n =
        let r : Tet = record { centre = half_of (point_scale (2 ^ j) (child_point which u q)); slot = slot_at N (child_point which u q) (child_pair which u q) } in
        child_centre q v which r (named L (name_at q) j N u q most (place_at q v) above which r lt n refl refl)

    pub edge_child : (q : ℕ × ℕ) → IsPair N u q → (which : ℕ) → which < 2 → long_axes u ≡ 1 → diamond (child_at which (T_of q)) ≡ point_scale (2 ^ (j - 1)) (child_point which u q)
    unfolding name_at
    edge_child q v which lt o =
        let r : Tet = record { centre = half_of (point_scale (2 ^ (j - 1)) (child_point which u q)); slot = slot_at (2 * N) (child_point which u q) (child_pair which u q) } in
        child_centre q v which r (edge_named L (name_at q) j N u q most (place_at q v) above which r lt o refl refl)

    -- the kids are the children's centres
    pub kids_are : (i : ℕ) → ((q : ℕ × ℕ) → IsPair N u q → (which : ℕ) → which < 2 → diamond (child_at which (T_of q)) ≡ point_scale (2 ^ i) (child_point which u q))
        → (zs : List Point) → Strict Below zs
        → ((q : ℕ × ℕ) → IsPair N u q → (which : ℕ) → which < 2 → Member zs (point_scale (2 ^ i) (child_point which u q)))
        → ((z : Point) → Member zs z → (q : ℕ × ℕ) × IsPair N u q × ((which : ℕ) × (which < 2) × (point_scale (2 ^ i) (child_point which u q) ≡ z)))
        → kids L c ≡ zs
    kids_are i law zs strict to from =
        in_order_is (map diamond (parts L c)) zs strict
        (λ z m. let r = member-map diamond (parts L c) z m in
        let f = member-flat_map children (members L c) r.0 r.1 in
        let p = pair_of f.0 f.1 in
        let w = which_child f.0 r.0 f.2 in
        let is : point_scale (2 ^ i) (child_point w.0 u p.0) ≡ z = sym (law p.0 p.1 w.0 w.1) ∙ ap (λ T. diamond (child_at w.0 T)) p.2 ∙ ap diamond w.2 ∙ r.2 in
        subst (Member zs) is (to p.0 p.1 w.0 w.1))
        (λ z m. let r = from z m in
        let T = T_of r.0 in
        let part : Member (parts L c) (child_at r.2.0 T) = flat_map-member children (members L c) T (child_at r.2.0 T) (listed r.0 r.1) (child_member r.2.0 T r.2.1) in
        subst (Member (map diamond (parts L c))) (law r.0 r.1 r.2.0 r.2.1 ∙ r.2.2) (map-member diamond (parts L c) (child_at r.2.0 T) part))

  -- parents
  module _ (most : L ≤ 30) where
    -- the parent of a member
    pub record Above (q : ℕ × ℕ) (z : Point) : Type 0 where
      pub P : Tetrahedron
      pub within : Member (descendants L) P
      pub which : ℕ
      pub few : which < 2
      pub child : child_at which P ≡ T_of q
      pub centre : diamond P ≡ z

    above_of : (q : ℕ × ℕ) (v : IsPair N u q) (which : ℕ) (r : Tet) → IsParent L which (name_at q) r → Above q (point_of r.centre)
    unfolding IsName
    above_of q v which r F =
        let s = some_of (tetrahedron_of L r) F.name in
        let k = named_centre r s.0 s.1 in
        let both : Some (child_at which s.0) ≡ Some (T_of q) = sym (ap (child_of which) s.1 ∙ child_of-some which s.0) ∙ F.child ∙ T_stands q v in
        record { P = s.0; within = k.0; which = which; few = F.few; child = cc; centre = k.1 }

    pub flat_above : (q : ℕ × ℕ) → IsPair N u q → long_axes u ≢ 3 → Above q (point_scale (2 ^ j) (parent_point u q))
    flat_above q v n =
        let r : Tet = record { centre = half_of (point_scale (2 ^ j) (parent_point u q)); slot = slot_at N (parent_point u q) (parent_pair u q) } in
        above_of q v (parent_which u q) r (flat_named L (name_at q) j N u q most (place_at q v) r n refl refl)

    pub cube_above : (q : ℕ × ℕ) → IsPair N u q → long_axes u ≡ 3 → j ≢ L → Above q (point_scale (2 ^ (j + 1)) (parent_point u q))
    cube_above q v o n =
        let r : Tet = record { centre = half_of (point_scale (2 ^ (j + 1)) (parent_point u q)); slot = slot_at (N / 2) (parent_point u q) (parent_pair u q) } in
        above_of q v (parent_which u q) r (cube_parent L (name_at q) j N u q most (place_at q v) r o n refl refl)

    -- a tetrahedron with a child of this centre is a member's parent
    record Below_of (P : Tetrahedron) : Type 0 where
      q : ℕ × ℕ
      pair : IsPair N u q
      child : Member (children P) (T_of q)

    centre_is : IsCentreOf L S.n c
    centre_is = subst (IsCentreOf L S.n) (sym S.is) (unit_centre L S.k j S.n u S.unit)

    below_of : (P : Tetrahedron) → Member (descendants L) P → is_parent L P c ≡ true → Below_of P
    below_of P m h =
        let a = level_at L P m in
        let r = child-is_parent L P c h in
        let level : suc P.level ≡ S.n = one_level L (suc P.level) S.n c (subst (IsCentreOf L (suc P.level)) r.2 (centre_of_level L (suc P.level) r.0 (omega (arith, a.0)) (child_in_level L P r.0 a.1 r.1))) centre_is in
        let within : Member (descendants L) r.0 = in_levels L (3 * L) (suc P.level) r.0 (omega (arith, level, S.unit.within)) (child_in_level L P r.0 a.1 r.1) in
        let p = pair_of r.0 (subst (λ d. Member (members L d) r.0) r.2 (named_member L r.0 within)) in
        record { q = p.0; pair = p.1; child = subst (Member (children P)) (sym p.2) r.1 }

    same_parent : (P Q : Tetrahedron) (q : ℕ × ℕ) → IsPair N u q → Member (descendants L) P → Member (descendants L) Q → Member (children P) (T_of q) → Member (children Q) (T_of q) → P ≡ Q
    same_parent P Q q v p k a b =
        let m = S.n - 1 in
        let x = level_at L P p in
        let y = level_at L Q k in
        let up : (R : Tetrahedron) → Member (children R) (T_of q) → suc R.level ≡ S.n = λ R h. (let w = which_child R (T_of q) h in sym (child_at-level w.0 R) ∙ ap (λ (X : Tetrahedron). X.level) w.2 ∙ T_level q) in
        let one : P.level ≡ Q.level = omega (arith, up P a, up Q b) in
        parent_once L P.level P Q (T_of q) (omega (arith, up P a, S.unit.within)) x.1 (subst (λ n. Member (at_level L n) Q) (sym one) y.1) a b

    -- the parents are the parents' centres
    pub parents_are : (at : (ℕ × ℕ) → Point) → ((q : ℕ × ℕ) → IsPair N u q → Above q (at q)) → (zs : List Point) → Strict Below zs
        → ((q : ℕ × ℕ) → IsPair N u q → Member zs (at q))
        → ((z : Point) → Member zs z → (q : ℕ × ℕ) × IsPair N u q × (at q ≡ z))
        → parents L c ≡ zs
    parents_are at law zs strict to from =
        in_order_is (map diamond (filter (λ P. is_parent L P c) (descendants L))) zs strict
        (λ z m. let r = member-map diamond (filter (λ P. is_parent L P c) (descendants L)) z m in
        let f = member-filter (λ P. is_parent L P c) (descendants L) r.0 r.1 in
        let b = below_of r.0 f.0 f.1 in
        let A = law b.q b.pair in
        let mine : Member (children A.P) (T_of b.q) = subst (Member (children A.P)) A.child (child_member A.which A.P A.few) in
        let same : A.P ≡ r.0 = same_parent A.P r.0 b.q b.pair A.within f.0 mine b.child in
        subst (Member zs) (sym A.centre ∙ ap diamond same ∙ r.2) (to b.q b.pair))
        (λ z m. let r = from z m in
        let A = law r.0 r.1 in
        let mine : Member (children A.P) (T_of r.0) = subst (Member (children A.P)) A.child (child_member A.which A.P A.few) in
        let named : diamond (T_of r.0) ≡ c = (member_named L c (T_of r.0) (listed r.0 r.1)).1 in
        let parent : is_parent L A.P c ≡ true = subst (λ x. is_parent L A.P x ≡ true) named (is_parent-child L A.P (T_of r.0) mine) in
        subst (Member (map diamond (filter (λ P. is_parent L P c) (descendants L)))) (A.centre ∙ r.2)
        (map-member diamond (filter (λ P. is_parent L P c) (descendants L)) A.P (filter-member (λ P. is_parent L P c) (descendants L) A.P A.within parent)))

    -- nothing is above the roots
    pub no_parents : S.n ≡ 0 → parents L c ≡ []
    no_parents top =
        in_order_is (map diamond (filter (λ P. is_parent L P c) (descendants L))) [] tt
        (λ z m. let r = member-map diamond (filter (λ P. is_parent L P c) (descendants L)) z m in
        let f = member-filter (λ P. is_parent L P c) (descendants L) r.0 r.1 in
        let b = below_of r.0 f.0 f.1 in
        let w = which_child r.0 (T_of b.q) b.child in
        let up : suc r.0.level ≡ S.n = sym (child_at-level w.0 r.0) ∙ ap (λ (X : Tetrahedron). X.level) w.2 ∙ T_level b.q in
        absurd (omega (arith, up, top)))
        (λ z m. absurd m)
