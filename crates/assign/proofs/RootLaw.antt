-- The root at the slot that the order of the coordinates tells.
use Rattle.std.proofs.Common.{◌≡◌, ℕ, Bool, true, false, cond, [], refl, ◌∙◌, ap, leb}
use Rattle.std.specs.Prelude.{Some}
use Rattle.std.specs.List.{slice_index_or}
use Rattle.tpz_base.specs.declared.shape.Tri.{Tri}
use Rattle.tpz_base.specs.Roots.{corner_sum, root_slot, root_of}
use Rattle.tpz_base.specs.Tetrahedra.{roots}
use Rattle.tetra_name.specs.Names.{root_at}

by_tests : (L : ℕ) (b1 b2 b3 b4 b5 : Bool) → let i : ℕ = cond b1 (cond b2 0 (cond b3 1 4)) (cond b4 2 (cond b5 3 5)) in
    root_at L i ≡ Some (slice_index_or (roots L) i (record { level = 0; corners = [] }))
unfolding root_at
by_tests L true true b3 b4 b5 = refl
by_tests L true false true b4 b5 = refl
by_tests L true false false b4 b5 = refl
by_tests L false b2 b3 true b5 = refl
by_tests L false b2 b3 false true = refl
by_tests L false b2 b3 false false = refl

pub root_is : (L : ℕ) (t : Tri) (i : ℕ) → i ≡ root_slot (corner_sum t) → root_at L i ≡ Some (root_of L t)
root_is L t i e =
    ap (root_at L) e
    ∙ by_tests L (leb (corner_sum t).y (corner_sum t).x) (leb (corner_sum t).z (corner_sum t).y) (leb (corner_sum t).z (corner_sum t).x) (leb (corner_sum t).z (corner_sum t).x)
    (leb (corner_sum t).z (corner_sum t).y)
