-- The members of the whole cube's centre are the roots, in their order.
use Rattle.std.proofs.Common.{◌≡◌, ℕ, zero, suc, ◌<◌, ◌*◌, ◌^◌, refl, sym, ◌∙◌, ap, subst, arith, zero-add, add-zero}
use Rattle.std.specs.Prelude.{slice_get, IsSome}
use Rattle.tpz_base.specs.Diamonds.{level_of}
use Rattle.tpz_base.specs.Points.{point}
use Rattle.tpz_base.specs.Tetrahedra.{members, roots, roots_of_side}
use Rattle.tpz_base.proofs.PointLemmas.{point_cong}
use Rattle.tetra_name.specs.Places.{IsUnit, IsScale}
use Rattle.tetra_name.specs.declared.shape.Tet.{Tet}
use Rattle.tetra_name.specs.Names.{point_of, tetrahedron_of, root_at, IsName}
use Rattle.tetra_name.specs.Steps.{moved, coordinate, is_forwards, start, finish, start_point, finish_point, allows, is_allowed, is_member, long_axes, pairs, cube_corners, face_corners, edge_corners, corners_at, member_at, members_closed}
use Rattle.tetra_name.proofs.Rounds.{side}
use Rattle.tetra_name.proofs.MembersLaw.{members_are}
use Rattle.tetra_name.proofs.PlaceLaw.{level_of_scale}

times_zero : (h : ℕ) → h * 0 ≡ 0
times_zero h = omega arith

closed_roots : (h : ℕ) → members_closed 0 h 2 (point 1 1 1) ≡ roots_of_side (h * 2)
unfolding moved coordinate is_forwards start finish start_point finish_point allows is_allowed is_member long_axes pairs cube_corners face_corners edge_corners corners_at member_at members_closed
closed_roots h = simp (zero-add, add-zero, times_zero) refl

root_unit : (L : ℕ) → IsUnit L 0 L 0 (point 1 1 1)
unfolding long_axes
root_unit L = record { sum = omega arith; box = record { x = omega arith; y = omega arith; z = omega arith }; some = omega arith; level = omega arith; within = omega arith }

pub members_of_root : (L : ℕ) → members L (point (2 ^ L) (2 ^ L) (2 ^ L)) ≡ roots L
members_of_root L =
    let one : 2 ^ L * 1 ≡ 2 ^ L = omega arith in
    ap (members L) (point_cong _ _ _ _ _ _ (sym one) (sym one) (sym one)) ∙ members_are L 0 L 0 (point 1 1 1) (root_unit L) ∙ closed_roots (2 ^ L) ∙ ap roots_of_side (sym (side L))

pub root_named : (L : ℕ) (t : Tet) → point_of t.centre ≡ point (2 ^ L) (2 ^ L) (2 ^ L) → tetrahedron_of L t ≡ root_at L t.slot
unfolding tetrahedron_of root_at
root_named L t e = ap (λ c. slice_get (members L c) t.slot) e ∙ ap (λ xs. slice_get xs t.slot) (members_of_root L)

pub record RootFacts (L : ℕ) (t : Tet) : Type 0 where
  pub root : tetrahedron_of L t ≡ root_at L t.slot
  pub name : IsName L t
  pub level : level_of L (point_of t.centre) ≡ 0

some_root : (L i : ℕ) → i < 6 → IsSome (root_at L i)
unfolding root_at
some_root L zero h = refl
some_root L (suc zero) h = refl
some_root L (suc (suc zero)) h = refl
some_root L (suc (suc (suc zero))) h = refl
some_root L (suc (suc (suc (suc zero)))) h = refl
some_root L (suc (suc (suc (suc (suc zero))))) h = refl
some_root L (suc (suc (suc (suc (suc (suc i)))))) h = absurd (omega (arith, h))

pub root_facts : (L : ℕ) (t : Tet) → t.slot < 6 → point_of t.centre ≡ point (2 ^ L) (2 ^ L) (2 ^ L) → RootFacts L t
unfolding IsName
root_facts L t h e =
    let named = root_named L t e in
    let one : 2 ^ L * 1 ≡ 2 ^ L = omega arith in
    let S : IsScale L (point_of t.centre) L 2 (point 1 1 1) = record { k = 0; n = 0; unit = root_unit L; side = refl; is = e ∙ point_cong _ _ _ _ _ _ (sym one) (sym one) (sym one) } in
    record { root = named; name = subst IsSome (sym named) (some_root L t.slot h); level = level_of_scale L (point_of t.centre) L 2 (point 1 1 1) S }
