-- Where a list of collapses takes a point, and the moves of those that it takes elsewhere.
use Rattle.std.specs.Prelude.{◌≡◌, ◌<◌, ℕ, Bool, not, List, [], ◌∷◌, length, map, filter, slice_index, if◌then◌else◌}
use Rattle.tpz_base.specs.declared.shape.Point.{Point}
use Rattle.tpz_base.specs.declared.shape.Move.{Move}
use Rattle.tpz_base.specs.Points.{point_eq, point_lt}
use Rattle.tpz_base.specs.Meshes.{Edge}
use Rattle.std.specs.Option.{option_map_or}
use Rattle.tpz_base.specs.Collapses.{replaced, move_to, next_pair}
use Rattle.patch_mesh.specs.Shops.{Shop, collapsed_shop}
use Rattle.patch_mesh.specs.Slots.{point_at}
use Rattle.edge_collapse.specs.declared.pair.Pair.{Pair}

-- the ends of a pair of vertex numbers
abbrev pub ends_at : List Point → Pair → Edge
ends_at vs k = (point_at vs k.from, point_at vs k.to)

-- both numbers are those of vertices
abbrev pub IsNumbered : List Point → Pair → Type 0
IsNumbered vs k = (k.from < length vs) × (k.to < length vs)

-- where the collapses take v, the first one first
unfoldable pub taken_by : List Edge → Point → Point
taken_by [] v = v
taken_by (e ∷ es) v = taken_by es (replaced e.0 e.1 v)

-- each vertex has, by its number, the number of the vertex to which the collapses take it
pub record AreLed (vs : List Point) (es : List Edge) (places : List ℕ) : Type 0 where
  pub long : length places ≡ length vs
  pub within : (v : ℕ) → v < length vs → slice_index places v < length vs
  pub led : (v : ℕ) → v < length vs → point_at vs (slice_index places v) ≡ taken_by es (point_at vs v)

-- the move from p to q, if these differ
abbrev pub moves_between : Point → Point → List Move
moves_between p q = if point_eq p q then [] else record { from = p; to = q } ∷ []

-- the moves of the points that f takes elsewhere
abbrev pub moves_among : (Point → Point) → List Point → List Move
moves_among f vs = map (move_to f) (filter (λ v. not (point_eq v (f v))) vs)

-- m starts at a lesser point than n
abbrev pub starts_below : Move → Move → Bool
starts_below m n = point_lt m.from n.from

-- the workshop behind the next collapse, if there is one
abbrev pub next_shop : ℕ → Shop → Shop
next_shop target s = option_map_or (λ e. collapsed_shop s e.0 e.1) (next_pair target s.mesh) s
