-- The patches that a cut shows of a store's blocks.
use Rattle.std.specs.Prelude.{◌≡◌, ◌==◌, ℕ, suc, Bool, true, false, List, [], ◌∷◌, length, flat_map, slice_get, Option, Result, Ok, Err, if◌then◌else◌}
use Rattle.std.specs.Int.{bit_at}
use Rattle.std.specs.Option.{option_map_or}
use Rattle.tpz_base.specs.declared.shape.Point.{Point}
use Rattle.tpz_base.specs.Meshes.{Mesh}
use Rattle.tpz_base.specs.Tetrahedra.{parts}
use Rattle.tetra_name.specs.Names.{point_of}
use Rattle.diamond_graph.specs.Closed.{CanSplit}
use Rattle.diamond_graph.specs.Graphs.{GraphState}
use Rattle.patch_file.specs.Patches.{outer_patches}
use Rattle.patch_file.specs.Reading.{ReaderState, IsOpened}
use Rattle.patch_file.specs.Stores.{table_of}
use Rattle.patch_file.specs.Tables.{Table}
use Rattle.patch_file.specs.Asking.{risen}
use Rattle.tpz_base.specs.Texts.{Bytes}
use Rattle.view_cut.specs.Views.{counted_by}
use Rattle.cut_blocks.specs.declared.blocks.Shown.{Shown}
use Rattle.run_status.specs.declared.status.Status.{Status}
use Rattle.run_status.specs.declared.status.Status.TheVariants as status
use Rattle.cut_blocks.specs.WrongBlocks.{Stored}

-- the reader and the graph are those of bytes that are read as a store, which are the store's where it tells its own; some records may have been looked at
abbrev pub IsOpen : Option Bytes → ReaderState → GraphState → Type 0
IsOpen told reader graph = IsOpened told reader (record { l = graph.l; records = graph.records; tests = 0 })

-- what these bytes are read as
abbrev pub stored_in : ReaderState → Bytes → Stored
stored_in reader bytes = table_of bytes reader.base.patches

-- the patches whose bit is 1, where the first has the bit n
abbrev pub bit_picked : ℕ → ℕ → List Mesh → List Mesh
bit_picked bits n [] = []
bit_picked bits n (N ∷ Ns) = if bit_at bits n == 1 then N ∷ bit_picked bits (suc n) Ns else bit_picked bits (suc n) Ns

abbrev pub shown_patches : Shown → List Mesh
shown_patches s = bit_picked s.bits 0 s.block.patches

-- two patches a member of a diamond above the last level
pub record IsNamed (l : ℕ) (s : Shown) : Type 0 where
  pub can_split : CanSplit l (point_of s.centre)
  pub patches : length s.block.patches ≡ length (parts l (point_of s.centre))

-- the outer patches of the record with this number
abbrev pub outer_patches_at : Table → List Point → ℕ → List Mesh
outer_patches_at tb R i = option_map_or (outer_patches tb.l R) (slice_get tb.records i) []

-- the base, where nothing else is shown, and else what is shown
abbrev pub all_patches : List Mesh → List Shown → List Mesh
all_patches base [] = base
all_patches base (s ∷ shown) = flat_map shown_patches (s ∷ shown)

-- reads were made, and each was counted
pub record AreCounted (count count' reads reads' : ℕ) : Type 0 where
  pub number : ℕ
  pub counted : count' ≡ counted_by number count
  pub read : reads' ≡ risen number reads

-- a read failed to the end
abbrev pub is_read_fault : Status → Bool
is_read_fault (status.ReadFault at) = true
is_read_fault _ = false

abbrev pub is_unread : {T : Type 0} → Result T Status → Bool
is_unread (Ok x) = false
is_unread (Err s) = is_read_fault s
