-- A table that names streams for the leaves of a set of split diamonds, and the triangles that these streams hold.
use Rattle.std.specs.Prelude.{◌≡◌, ◌↔◌, ◌⊎◌, ℕ, false, true, List, [], Option, Contains}
use Rattle.std.specs.Option.{option_map_or}
use Rattle.std.specs.FinMap.{get}
use Rattle.std.specs.declared.option.Option.TheVariants.{None, Some}
use Rattle.tpz_base.specs.declared.shape.Point.{Point}
use Rattle.tpz_base.specs.Meshes.{Mesh}
use Rattle.tpz_base.specs.Cuts.{has_diamond}
use Rattle.tpz_base.specs.Tetrahedra.{Tetrahedron, children, descendants, diamond, roots}
use Rattle.tetra_name.specs.declared.shape.Tet.{Tet}
use Rattle.tetra_name.specs.Names.{tetrahedron_of}
use Rattle.tri_stream.specs.declared.names.StreamId.{StreamId}
use Rattle.tri_stream.specs.Streams.{StreamsState, told_list, IsLive}
use Rattle.assign.specs.Leaf.{leaf_patch}
use Rattle.assign.specs.Names.{LeafTable}

-- T isn't split, and it is a root or its parent is split
pub record IsLeafOf (L : ℕ) (F : List Point) (T : Tetrahedron) : Type 0 where
  pub whole : has_diamond F (diamond T) ≡ false
  pub below : Contains (roots L) T ⊎ ((P : Tetrahedron) × Contains (descendants L) P × Contains (children P) T × (has_diamond F (diamond P) ≡ true))

-- the triangles of M whose leaf has this name, in order; none where the name isn't that of a tetrahedron
abbrev pub named_patch : ℕ → List Point → Mesh → Tet → Mesh
named_patch L F M name = option_map_or (leaf_patch L F M) (tetrahedron_of L name) []

-- The names are those of leaves, and their streams are live and differ.
pub record NamesStreams (L : ℕ) (F : List Point) (leaves : LeafTable) (s : StreamsState) : Type 0 where
  pub leaf : (name : Tet) (id : StreamId) → get leaves name ≡ Some id → (T : Tetrahedron) × (tetrahedron_of L name ≡ Some T) × IsLeafOf L F T
  pub live : (name : Tet) (id : StreamId) → get leaves name ≡ Some id → IsLive s id
  pub one : (a b : Tet) (id : StreamId) → get leaves a ≡ Some id → get leaves b ≡ Some id → a ≡ b

-- Exactly the leaves with triangles are named, and the stream of each holds them, in order.
pub record HoldsPatches (L : ℕ) (F : List Point) (M : Mesh) (leaves : LeafTable) (s : StreamsState) (told : Option (List ℕ)) : Type 0 where
  pub named : (name : Tet) → get leaves name ≡ None ↔ (named_patch L F M name ≡ [])
  pub lists : (name : Tet) (id : StreamId) → get leaves name ≡ Some id → told_list s told id ≡ Some (named_patch L F M name)
