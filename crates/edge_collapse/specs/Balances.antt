-- A table of signed sums, one for each vertex by its number.
use Rattle.std.specs.Prelude.{ℕ, List, map, ℤ, pos}
use Rattle.std.specs.List.{slice_index_or}
use Rattle.tpz_base.specs.declared.shape.Point.{Point}
use Rattle.tpz_base.specs.Meshes.{Mesh, edge_sum}

-- the sum of the vertex with the number n
abbrev pub balance_at : List ℤ → ℕ → ℤ
balance_at zs n = slice_index_or zs n (pos 0)

-- the signed sum of the edge from p to each vertex
abbrev pub sums_at : Mesh → Point → List Point → List ℤ
sums_at M p vs = map (edge_sum M p) vs

-- a 0 for each vertex
abbrev pub zeros : List Point → List ℤ
zeros vs = map (λ v. pos 0) vs
