-- Paths and leaves of the worked meshes: a square of four triangles, and a triangle that stands twice.
use Rattle.std.proofs.Common.{◌≡◌, [], ◌∷◌, map, refl}
use Rattle.std.specs.Option.{option_map_or}
use Rattle.tpz_base.specs.declared.shape.Point.{Point}
use Rattle.tpz_base.specs.Points.{point}
use Rattle.tpz_base.specs.Meshes.{Mesh, triangle}
use Rattle.tpz_base.specs.Roots.{corner_sum, root_slot}
use Rattle.tpz_base.specs.Tetrahedra.{Tetrahedron, diamond}
use Rattle.assign.specs.Paths.{height, tripled, is_beyond, entered, path_below, path}
use Rattle.tpz_base.specs.Diamonds.{level_of}
use Rattle.diamond_graph.specs.Closed.{closure}
use Rattle.assign.specs.Leaf.{leaf, centre_dist, nearer, nearest}
use Rattle.assign.specs.Splits.{visitors, crowded, split_set}

abbrev a : Point
a = point 0 0 0

abbrev b : Point
b = point 4 0 0

abbrev c : Point
c = point 4 4 0

abbrev d : Point
d = point 0 4 0

abbrev m : Point
m = point 2 2 0

abbrev square : Mesh
square = triangle a b m ∷ triangle b c m ∷ triangle c d m ∷ triangle d a m ∷ []

abbrev half_square : Mesh
half_square = triangle (point 0 0 0) (point 2 0 0) (point 2 2 0) ∷ []

square_roots : map (λ t. root_slot (corner_sum t)) square ≡ 0 ∷ 0 ∷ 2 ∷ 2 ∷ []
square_roots = refl

-- where the cube's centre and that of its lower face are split, each triangle is the only one of its leaf
square_leaves : map (λ t. option_map_or diamond (leaf 2 (point 4 4 4 ∷ point 4 4 0 ∷ []) t) (point 0 0 0)) square ≡ point 4 0 0 ∷ point 8 4 0 ∷ point 4 8 0 ∷ point 0 4 0 ∷ []
unfolding height tripled is_beyond entered path_below path leaf
square_leaves = refl

-- where nothing is split the roots are the leaves
root_leaves : map (λ t. option_map_or diamond (leaf 2 [] t) (point 0 0 0)) square ≡ point 4 4 4 ∷ point 4 4 4 ∷ point 4 4 4 ∷ point 4 4 4 ∷ []
unfolding height tripled is_beyond entered path_below path leaf
root_leaves = refl

-- the barycentre lies on the plane through the middle of the lower face's edge, and goes to the child that begins at the start of the edge
half_square_path : map (λ t. map diamond (path 1 t)) half_square ≡ (point 2 2 2 ∷ point 2 2 0 ∷ point 2 0 0 ∷ point 3 1 1 ∷ []) ∷ []
unfolding height tripled is_beyond entered path_below path
half_square_path = refl

abbrev twice : Mesh
twice =
    let t = triangle (point 0 0 0) (point 2 0 0) (point 2 2 0) in
    t ∷ t ∷ []

-- with at most one triangle a leaf the square splits the centres of the cube and of its lower face
square_split : split_set 2 1 square ≡ point 4 4 4 ∷ point 4 4 0 ∷ []
unfolding height tripled is_beyond entered path_below path visitors crowded split_set closure level_of
square_split = refl

-- two triangles at one place share their path to its end, and the diamonds on it have parents beside it
twice_split : split_set 1 1 twice ≡ point 2 2 2 ∷ point 2 0 2 ∷ point 2 2 0 ∷ point 2 0 0 ∷ []
unfolding height tripled is_beyond entered path_below path visitors crowded split_set closure level_of
twice_split = refl

-- they share a leaf of the last level
twice_leaves : map (λ t. option_map_or diamond (leaf 1 (point 2 2 2 ∷ point 2 0 2 ∷ point 2 2 0 ∷ point 2 0 0 ∷ []) t) (point 0 0 0)) twice ≡ point 3 1 1 ∷ point 3 1 1 ∷ []
unfolding height tripled is_beyond entered path_below path leaf
twice_leaves = refl

-- the nearest member of the face's diamond
square_nearest : map (λ t. option_map_or (λ (T : Tetrahedron). T.corners) (nearest 2 (point 4 4 0) t) []) square ≡
    (point 0 0 0 ∷ point 8 0 0 ∷ point 8 8 0 ∷ point 4 4 4 ∷ []) ∷ (point 0 0 0 ∷ point 8 0 0 ∷ point 8 8 0 ∷ point 4 4 4 ∷ [])
    ∷ (point 0 0 0 ∷ point 0 8 0 ∷ point 8 8 0 ∷ point 4 4 4 ∷ []) ∷ (point 0 0 0 ∷ point 0 8 0 ∷ point 8 8 0 ∷ point 4 4 4 ∷ []) ∷ []
unfolding centre_dist nearer nearest
square_nearest = refl

-- a triangle that is as near to both members goes to the first
tie_nearest : option_map_or (λ (T : Tetrahedron). T.corners) (nearest 2 (point 4 4 0) (triangle b d m)) [] ≡ point 0 0 0 ∷ point 8 0 0 ∷ point 8 8 0 ∷ point 4 4 4 ∷ []
unfolding centre_dist nearer nearest
tie_nearest = refl
