-- Streams that triangles are put into.
use Rattle.std.specs.Prelude.{◌≡◌, ◌≢◌, ℕ, ◌+◌, ◌++◌, length, is_some, Option, Some}
use Rattle.std.specs.Option.{ForSome, option_map}
use Rattle.tpz_base.specs.Meshes.{Mesh}
use Rattle.tpz_base.specs.Texts.{Bytes}
use Rattle.tri_stream.specs.declared.names.StreamId.{StreamId}
use Rattle.tri_stream.specs.Streams.{StreamsState, count_of, told_list, total, IsLive, Stands}

-- These triangles are at the end of one stream, and the cube is as before. The bytes are told as before or not.
pub record Fills (id : StreamId) (tris : Mesh) (old new : StreamsState) (before now : Option Bytes) : Type 0 where
  pub list : told_list new now id ≡ option_map (λ M. M ++ tris) (told_list old before id)
  pub count : count_of new id ≡ option_map (λ n. n + length tris) (count_of old id)
  pub others : (x : StreamId) → x ≢ id → count_of new x ≡ count_of old x
  pub total : total new ≡ total old + length tris
  pub l : new.l ≡ old.l
  pub stands : ForSome now (Stands new)
  pub telling : is_some now ≡ is_some before

-- One stream alone is live, and holds these triangles of the cube. The bytes are told as before or not.
pub record IsSourceOf (l : ℕ) (tris : Mesh) (s : StreamsState) (whole : StreamId) (before now : Option Bytes) : Type 0 where
  pub level : s.l ≡ l
  pub list : ForSome now (λ bytes. told_list s now whole ≡ Some tris)
  pub count : count_of s whole ≡ Some (length tris)
  pub only : (id : StreamId) → IsLive s id → id ≡ whole
  pub stands : ForSome now (Stands s)
  pub telling : is_some now ≡ is_some before
