-- The leaf of a triangle, the patch of a leaf, and the nearest member of a diamond.
use Rattle.std.specs.Prelude.{ℕ, not, false, List, nat_lt, filter, find, Option, if◌then◌else◌}
use Rattle.std.specs.List.{reduce}
use Rattle.std.specs.Option.{option_map_or}
use Rattle.tpz_base.specs.declared.shape.Point.{Point}
use Rattle.tpz_base.specs.declared.shape.Tri.{Tri}
use Rattle.tpz_base.specs.Points.{point_add, point_scale, max_dist}
use Rattle.tpz_base.specs.Meshes.{Mesh}
use Rattle.tpz_base.specs.Roots.{corner_sum}
use Rattle.tpz_base.specs.Tetrahedra.{Tetrahedron, diamond, members, tetrahedron_eq, corner}
use Rattle.tpz_base.specs.Cuts.{has_diamond}
use Rattle.assign.specs.Paths.{path}

-- the first tetrahedron on the path whose diamond isn't in F
unfoldable pub leaf : ℕ → List Point → Tri → Option Tetrahedron
leaf L F t = find (λ T. not (has_diamond F (diamond T))) (path L t)

-- the triangles with this leaf, in order
unfoldable pub leaf_patch : ℕ → List Point → Mesh → Tetrahedron → Mesh
leaf_patch L F M T = filter (λ t. option_map_or (tetrahedron_eq T) (leaf L F t) false) M

-- twelve times the distance, in half-units and in the max-norm, of the centre of T from the barycentre of a triangle whose corners' sum is p:
-- half-units have twice the coordinates, the centre is a quarter of the sum of four corners, and the barycentre a third of the sum of three
unfoldable pub centre_dist : Point → Tetrahedron → ℕ
centre_dist p T =
    max_dist (point_scale 8 p) (point_scale 3 (point_add (point_add (corner T 0) (corner T 1)) (point_add (corner T 2) (corner T 3))))

-- the second where it is strictly nearer, and else the first
unfoldable pub nearer : Point → Tetrahedron → Tetrahedron → Tetrahedron
nearer p S T = if nat_lt (centre_dist p T) (centre_dist p S) then T else S

-- the first of the nearest members of the diamond d
unfoldable pub nearest : ℕ → Point → Tri → Option Tetrahedron
nearest L d t = reduce (nearer (corner_sum t)) (members L d)
