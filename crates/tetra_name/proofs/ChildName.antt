-- A child's name: its point, and the slot of its pair.
use Rattle.std.proofs.Common.{◌≡◌, ℕ, suc, ◌-◌, ◌*◌, ◌^◌, ◌≤◌, ◌<◌, map, refl, sym, ◌∙◌, ap, subst, arith, pow_pos}
use Rattle.std.specs.Prelude.{filter, slice_get, Some}
use Rattle.std.specs.Option.{option_map}
use Rattle.std.proofs.lemmas.Option.{slice_get-map}
use Rattle.tpz_base.specs.declared.shape.Point.{Point}
use Rattle.tpz_base.specs.Points.{point_scale}
use Rattle.tpz_base.specs.Tetrahedra.{Tetrahedron, diamond, child_0, child_1, at_level, members}
use Rattle.tpz_base.proofs.CutLaw.{Member}
use Rattle.tpz_base.proofs.Distinct.{at_its_level, tetrahedron_cong}
use Rattle.tpz_base.proofs.Levels.{IsCentreOf, one_level}
use Rattle.tpz_base.proofs.Members.{member_named, level_within, centre_of_level}
use Rattle.tetra_name.specs.Places.{InBox}
use Rattle.tetra_name.specs.declared.shape.Tet.{Tet}
use Rattle.tetra_name.specs.Names.{point_of, power_of, tetrahedron_of}
use Rattle.tetra_name.specs.Steps.{is_member, long_axes, pairs, member_at, members_closed, slot_at}
use Rattle.tetra_name.proofs.Rounds.{child_in_0, child_in_1}
use Rattle.tetra_name.proofs.MembersLaw.{unit_centre, scale_cancel}
use Rattle.tetra_name.proofs.Units.{unit_of_level}
use Rattle.tetra_name.proofs.NamesLaw.{members_of, power_is, power_scaled}
use Rattle.tetra_name.proofs.SlotLaw.{slot_of_pair}
use Rattle.tetra_name.proofs.OneName.{get_member}
use Rattle.tetra_name.proofs.ChildLaw.{Child}

-- a named tetrahedron is one of its level
pub level_of_name : (L : ℕ) (t : Tet) (T : Tetrahedron) → tetrahedron_of L t ≡ Some T → Member (at_level L T.level) T
unfolding tetrahedron_of
level_of_name L t T e =
    let r = member_named L (point_of t.centre) T (get_member (members L (point_of t.centre)) t.slot T e) in
    let v = level_within L (3 * L) T r.0 in
    subst (λ n. Member (at_level L n) T) (sym (at_its_level L v.0 T v.2)) v.2

pub child_0_in : (L n : ℕ) (T : Tetrahedron) → Member (at_level L n) T → Member (at_level L (suc n)) (child_0 T)
child_0_in L n T m = child_in_0 (at_level L n) T m

pub child_1_in : (L n : ℕ) (T : Tetrahedron) → Member (at_level L n) T → Member (at_level L (suc n)) (child_1 T)
child_1_in L n T m = child_in_1 (at_level L n) T m

-- a tetrahedron in closed form has the name of its point and its pair's slot
pub name_of_closed : (L n j N o : ℕ) (S : Tetrahedron) (u : Point) (q : ℕ × ℕ) (t : Tet) → L ≤ 30 → n ≤ 3 * L → Member (at_level L n) S → j ≤ L → N ≡ 2 ^ suc (L - j) → Child (2 ^ j) N o S u q → 0 < o
    → diamond S ≡ point_scale (2 ^ j) u → point_of t.centre ≡ point_scale (2 ^ j) u → t.slot ≡ slot_at N u q → tetrahedron_of L t ≡ Some S
unfolding tetrahedron_of members_closed member_at
name_of_closed L n j N o S u q t most within m below side C pos centre at slot =
    let V = unit_of_level L n S within m in
    let some : 0 < long_axes u = omega (arith, C.axes, pos) in
    let p : V.j ≡ j = sym (power_is L (diamond S) most V) ∙ ap power_of centre ∙ power_scaled j u (omega (arith, most, below)) some in
    let v : V.u ≡ u = scale_cancel (2 ^ j) (pow_pos j) V.u u (ap (λ i. point_scale (2 ^ i) V.u) (sym p) ∙ sym V.is ∙ centre) in
    let k : V.k ≡ L - j = omega (arith, p, V.unit.sum) in
    let whole : 2 ^ suc V.k ≡ N = ap (λ i. 2 ^ suc i) k ∙ sym side in
    let level : V.n ≡ n = one_level L V.n n (diamond S) (subst (IsCentreOf L V.n) (sym V.is) (unit_centre L V.k V.j V.n V.u V.unit)) (centre_of_level L n S (omega (arith, within)) m) in
    let list : members L (point_of t.centre) ≡ map (member_at n (2 ^ j) u) (filter (is_member N u) pairs) =
    ap (members L) (at ∙ sym centre) ∙ members_of L (diamond S) V ∙ rw (level, p, whole, v) refl in
    let found : slice_get (filter (is_member N u) pairs) t.slot ≡ Some q = rw slot (slot_of_pair N u q C.has C.valid) in
    let is : member_at n (2 ^ j) u q ≡ S = tetrahedron_cong (member_at n (2 ^ j) u q) S (sym (at_its_level L n S m)) (sym C.is) in
    ap (λ xs. slice_get xs t.slot) list ∙ slice_get-map (member_at n (2 ^ j) u) (filter (is_member N u) pairs) t.slot ∙ ap (option_map (member_at n (2 ^ j) u)) found ∙ ap Some is

pub inside_of_closed : (L n j N o : ℕ) (S : Tetrahedron) (u : Point) (q : ℕ × ℕ) → L ≤ 30 → n ≤ 3 * L → Member (at_level L n) S → j ≤ L → N ≡ 2 ^ suc (L - j) → Child (2 ^ j) N o S u q → 0 < o
    → diamond S ≡ point_scale (2 ^ j) u → InBox N u
inside_of_closed L n j N o S u q most within m below side C pos centre =
    let V = unit_of_level L n S within m in
    let some : 0 < long_axes u = omega (arith, C.axes, pos) in
    let p : V.j ≡ j = sym (power_is L (diamond S) most V) ∙ ap power_of centre ∙ power_scaled j u (omega (arith, most, below)) some in
    let v : V.u ≡ u = scale_cancel (2 ^ j) (pow_pos j) V.u u (ap (λ i. point_scale (2 ^ i) V.u) (sym p) ∙ sym V.is ∙ centre) in
    let k : V.k ≡ L - j = omega (arith, p, V.unit.sum) in
    let whole : 2 ^ suc V.k ≡ N = ap (λ i. 2 ^ suc i) k ∙ sym side in
    subst (InBox N) v (subst (λ x. InBox x V.u) whole V.unit.box)
