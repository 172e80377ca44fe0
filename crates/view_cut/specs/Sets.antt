-- Sets of a graph's diamonds, by the places of their records, and the cuts that they are.
use Rattle.std.specs.Prelude.{◌≡◌, ◌<◌, ℕ, List, [], length, map, filter, slice_get, All, if◌then◌else◌}
use Rattle.std.specs.List.{filter_map}
use Rattle.std.specs.List.Sorted.{IsStrictlyIncreasing}
use Rattle.std.specs.Option.{option_map_or}
use Rattle.tpz_base.specs.declared.shape.Point.{Point}
use Rattle.tpz_base.specs.Lists.{has}
use Rattle.tpz_base.specs.Tetrahedra.{Tetrahedron, diamond, parts, tetrahedron_eq}
use Rattle.tpz_base.specs.Cuts.{has_diamond, active}
use Rattle.diamond_graph.specs.declared.record.Record.{Record}
use Rattle.diamond_graph.specs.Closed.{IsConforming}
use Rattle.diamond_graph.specs.Graphs.{GraphState, centre_of, centres}

-- the diamonds of the records at these places
unfoldable pub centres_at : List Record → List ℕ → List Point
centres_at rs places = filter_map (slice_get (map centre_of rs)) places

-- places of records, ascending, whose diamonds hold the parents of each of them
pub record IsConformingSet (g : GraphState) (places : List ℕ) : Type 0 where
  pub ascending : IsStrictlyIncreasing places
  pub within : All (λ i. i < length g.records) places
  pub conforming : IsConforming g.l (centres_at g.records places)

-- R is the graph's diamonds without those that it lacks, in their order, and it is conforming
abbrev pub IsGraphCut : GraphState → List Point → Type 0
IsGraphCut g R = (filter (has_diamond R) (centres g) ≡ R) × IsConforming g.l R

-- the children of the members of the diamond at a place, members by slot, child 0 before child 1; none where there is no record
abbrev pub parts_at : GraphState → ℕ → List Tetrahedron
parts_at g i = option_map_or (parts g.l) (slice_get (centres g) i) []

-- the bit of a tetrahedron whose own diamond isn't in R is 1
abbrev pub outer_bit : List Point → Tetrahedron → ℕ
outer_bit R T = if has_diamond R (diamond T) then 0 else 1

-- the bit of a tetrahedron that is active for the cut R is 1
abbrev pub active_bit : ℕ → List Point → Tetrahedron → ℕ
active_bit L R T = if has tetrahedron_eq (active L R) T then 1 else 0
