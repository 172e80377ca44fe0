-- The diamonds that are split where each leaf is to hold at most `cap` triangles.
use Rattle.std.specs.Prelude.{ℕ, ◌*◌, List, map, take, nat_lt, filter, flat_map, count_by}
use Rattle.tpz_base.specs.declared.shape.Point.{Point}
use Rattle.tpz_base.specs.Lists.{has}
use Rattle.tpz_base.specs.Meshes.{Mesh}
use Rattle.tpz_base.specs.Tetrahedra.{Tetrahedron, diamond, tetrahedron_eq}
use Rattle.diamond_graph.specs.Closed.{closure}
use Rattle.assign.specs.Paths.{path}

-- how many triangles go through T
unfoldable pub visitors : ℕ → Mesh → Tetrahedron → ℕ
visitors L M T = count_by (λ t. has tetrahedron_eq (path L t) T) M

-- the diamonds of the tetrahedra, above the last level, that more than `cap` triangles go through
unfoldable pub crowded : ℕ → ℕ → Mesh → List Point
crowded L cap M =
    map diamond (filter (λ T. nat_lt cap (visitors L M T)) (flat_map (λ t. take (3 * L) (path L t)) M))

-- the diamonds that are split: these, and the parents of each that is split
unfoldable pub split_set : ℕ → ℕ → Mesh → List Point
split_set L cap M = closure L (crowded L cap M)
