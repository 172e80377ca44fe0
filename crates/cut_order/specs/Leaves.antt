-- The leaves of a mesh that is split, and the order in which its finest cut goes through them.
use Rattle.std.specs.Prelude.{◌≡◌, ℕ, List, [], ◌++◌, flat_map, Option, Some, if◌then◌else◌}
use Rattle.std.specs.FinMap as map
use Rattle.std.specs.Option.{ForSome}
use Rattle.tpz_base.specs.declared.shape.Point.{Point}
use Rattle.tpz_base.specs.Meshes.{Mesh}
use Rattle.tpz_base.specs.Tetrahedra.{Tetrahedron, diamond}
use Rattle.tpz_base.specs.Cuts.{has_diamond}
use Rattle.tpz_base.specs.Texts.{Bytes}
use Rattle.tetra_name.specs.declared.shape.Tet.{Tet}
use Rattle.tri_stream.specs.declared.names.StreamId.{StreamId}
use Rattle.tri_stream.specs.Streams.{StreamsState, count_of, told_list, IsLive, Stands}
use Rattle.assign.specs.Names.{LeafTable}
use Rattle.assign.specs.Leaf.{leaf_patch}
use Rattle.assign.specs.Standing.{HoldsPatches}

-- what a tetrahedron adds to the mesh of the cut F: nothing where its own diamond is in F, else the triangles whose leaf it is
unfoldable pub part_of : ℕ → List Point → Mesh → Tetrahedron → Mesh
part_of L F M T = if has_diamond F (diamond T) then [] else leaf_patch L F M T

-- Each entry of the table names a stream.
abbrev pub AreLive : LeafTable → StreamsState → Type 0
AreLive leaves s = (name : Tet) (id : StreamId) → map.get leaves name ≡ Some id → IsLive s id

-- Where the table has the leaves of a mesh, the new mesh is the old one, and then what these tetrahedra add.
pub record Adds (L : ℕ) (F : List Point) (leaves : LeafTable) (s : StreamsState) (told : Option Bytes) (ts : List Tetrahedron) (old new : Mesh) : Type 0 where
  pub added : (M : Mesh) → HoldsPatches L F M leaves s told → new ≡ old ++ flat_map (part_of L F M) ts

-- Every stream is as before.
pub record KeepsStreams (old new : StreamsState) (before now : Option Bytes) : Type 0 where
  pub counts : (x : StreamId) → count_of new x ≡ count_of old x
  pub lists : (x : StreamId) → told_list new now x ≡ told_list old before x
  pub stands : ForSome now (Stands new)
