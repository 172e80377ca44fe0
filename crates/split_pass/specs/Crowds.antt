-- The crowded diamonds below a tetrahedron, as triangles are divided among its children.
use Rattle.std.specs.Prelude.{ℕ, zero, suc, ◌*◌, Bool, not, List, [], ◌∷◌, length, filter, nat_lt, if◌then◌else◌}
use Rattle.std.specs.List.{slice_index_or}
use Rattle.tpz_base.specs.declared.shape.Point.{Point}
use Rattle.tpz_base.specs.declared.shape.Tri.{Tri}
use Rattle.tpz_base.specs.Lists.{has}
use Rattle.tpz_base.specs.Meshes.{Mesh}
use Rattle.tpz_base.specs.Roots.{root_part}
use Rattle.tpz_base.specs.Tetrahedra.{Tetrahedron, child_0, child_1, diamond, roots, tetrahedron_eq}
use Rattle.assign.specs.Paths.{is_beyond, path}

-- whether the path of t goes through T
unfoldable pub goes_through : ℕ → Tri → Tetrahedron → Bool
goes_through L t T = has tetrahedron_eq (path L t) T

-- the triangles that go through T, in order
abbrev pub through : ℕ → Mesh → Tetrahedron → Mesh
through L M T = filter (λ t. goes_through L t T) M

-- the triangles that go to child 0, and those that go to child 1
abbrev pub first_part : Tetrahedron → Mesh → Mesh
first_part T M = filter (λ t. not (is_beyond t T)) M

abbrev pub second_part : Tetrahedron → Mesh → Mesh
second_part T M = filter (λ t. is_beyond t T) M

-- the diamonds of T and of its descendants, up to n levels down and without the last, that more than `cap` triangles of M go through
-- before any that doesn't, in front of V
unfoldable pub with_crowded : ℕ → ℕ → Tetrahedron → Mesh → List Point → List Point
with_crowded zero cap T M V = V
with_crowded (suc n) cap T M V =
    if nat_lt cap (length M)
    then with_crowded n cap (child_1 T) (second_part T M) (with_crowded n cap (child_0 T) (first_part T M) (diamond T ∷ V))
    else V

-- those below the first roots, as many as there are so
unfoldable pub with_roots : ℕ → ℕ → Mesh → ℕ → List Point
with_roots L cap M zero = []
with_roots L cap M (suc slot) =
    with_crowded (3 * L) cap (slice_index_or (roots L) slot (record { level = 0; corners = [] })) (root_part M slot) (with_roots L cap M slot)
