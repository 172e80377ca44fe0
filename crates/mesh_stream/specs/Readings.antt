-- What was read of an input.
use Rattle.std.specs.Prelude.{◌≡◌, ◌≤◌, ◌+◌, ◌^◌, ℕ, List, length, All, Option, Some, None, Result, Ok, Err, ℤ, pos, unsigned_abs}
use Rattle.std.specs.List.{slice_index_or}
use Rattle.std.specs.Option.{ForSome}
use Rattle.tpz_base.specs.Meshes.{Mesh}
use Rattle.tpz_base.specs.Cubes.{Row, low_of, level_bound}
use Rattle.tpz_base.specs.Texts.{Bytes, Face}
use Rattle.ply_body.specs.declared.fault.BodyFault.{BodyFault}
use Rattle.ply_body.specs.declared.frame.Frame.{Frame}
use Rattle.ply_body.specs.Inputs.{whole_of, broken_of, mesh_of, dropped_of, refused_as, InBody}
use Rattle.ply_body.specs.Spots.{coordinates, spots_of, AreSpots, HoldsRows, IsFrameOf}
use Rattle.ply_body.specs.Readings.{Reading, coming_told, with_spots}
use Rattle.tri_stream.specs.Lists.{IsHeld}
use Rattle.tri_stream.specs.declared.names.StreamId.{StreamId}
use Rattle.tri_stream.specs.Streams.{count_of, told_list, total, IsLive, Stands}
use Rattle.mesh_stream.specs.declared.reading.InputMesh.{InputMesh}
use Rattle.mesh_stream.specs.declared.reading.InputStream.{InputStream}
use Rattle.run_status.specs.declared.status.Status.{Status}
use Rattle.mesh_stream.specs.Digits.{digits_of, input_for}
use Rattle.run_status.specs.Statuses.{body_status}

-- The whole triangles among those of some faces, by the points that are held, and how many aren't whole.
abbrev pub AreWhole : Frame → Option Bytes → List Face → Mesh → ℕ → Type 0
AreWhole frame held faces tris dropped = ForSome held (λ bytes. (low : Row) (rows : List Row) → AreSpots frame low rows → HoldsRows rows bytes
    → (tris ≡ whole_of (spots_of low rows) faces) × (dropped ≡ broken_of (spots_of low rows) faces))

-- These are the whole triangles among those that were to come, and no other is to come.
pub record TrisTold (old new : Reading) (told : Option Bytes) (held : Option Bytes) (frame : Frame) (tris : Mesh) : Type 0 where
  pub faces : List Face
  pub all : ForSome (coming_told old told) (λ coming. coming ≡ Ok faces)
  pub whole : AreWhole frame held faces tris new.dropped

-- what is to come is refused, and this is the status of the refusal
abbrev pub IsRefusalTold : {X : Type 0} → Result X BodyFault → Status → Type 0
IsRefusalTold result status = (f : BodyFault) × (result ≡ Err f) × (status ≡ body_status f)

-- Each of the least coordinates of an input is at most 2,147,483,647 in absolute value.
pub record IsInputLow (zs : List ℤ) : Type 0 where
  pub x : unsigned_abs (slice_index_or zs 0 (pos 0)) ≤ 2147483647
  pub y : unsigned_abs (slice_index_or zs 1 (pos 0)) ≤ 2147483647
  pub z : unsigned_abs (slice_index_or zs 2 (pos 0)) ≤ 2147483647

-- The bounds of a mesh that was read, whatever source and blob tell.
pub record IsSmallMesh (mesh : InputMesh) : Type 0 where
  pub level : (1 ≤ mesh.l) × (mesh.l ≤ 30)
  pub end : mesh.end ≤ 2 ^ 62
  pub low : IsInputLow mesh.low
  pub plain : All (IsHeld mesh.l) mesh.tris.items
  pub few : length mesh.tris.items ≤ 2147483648

-- The header and the points of an input were read. The frame is that of some rows, which the blob holds, no triangle came so far, and the input means
-- these rows with the triangles that are still to come.
pub record HasOpened (chosen : Option ℕ) (told left held : Option Bytes) (scale : ℕ) (frame : Frame) (reading : Reading) : Type 0 where
  pub rows : List Row
  pub framed : IsFrameOf frame rows
  pub points : ForSome held (HoldsRows rows)
  pub kept : reading.frame ≡ Some frame
  pub opened : reading.refusal ≡ None
  pub given : reading.given ≡ 0
  pub dropped : reading.dropped ≡ 0
  pub digits : ForSome told (λ bytes. scale ≡ digits_of chosen bytes)
  pub means : ForSome told (λ bytes. (coming : Result (List Face) BodyFault) × (coming_told reading left ≡ Some coming)
      × (input_for chosen bytes ≡ refused_as InBody (with_spots rows coming)))

-- The stream that was read is that of these digits, rows and faces.
pub record IsStreamOf (read : InputStream) (now : Option Bytes) (scale : ℕ) (rows : List Row) (faces : List Face) : Type 0 where
  pub l : read.l ≡ level_bound rows
  pub digits : read.digits ≡ scale
  pub low : read.low ≡ coordinates (low_of rows)
  pub list : told_list read.streams now read.whole ≡ Some (mesh_of rows faces)
  pub tris : read.tris ≡ length (mesh_of rows faces)
  pub dropped : read.dropped ≡ dropped_of rows faces

-- The bounds of a stream that was read, whatever source and blob tell, and that there is no other.
pub record IsSmallStream (now : Option Bytes) (read : InputStream) : Type 0 where
  pub level : (1 ≤ read.l) × (read.l ≤ 30)
  pub l : read.streams.l ≡ read.l
  pub low : IsInputLow read.low
  pub count : count_of read.streams read.whole ≡ Some read.tris
  pub total : total read.streams ≡ read.tris
  pub only : (id : StreamId) → IsLive read.streams id → id ≡ read.whole
  pub stands : ForSome now (Stands read.streams)
  pub few : read.tris + read.dropped ≤ 2147483648
  pub digits : read.digits ≤ 9
  pub held : ForSome (told_list read.streams now read.whole) (All (IsHeld read.l))

-- the mesh that was read is that of these digits, rows and faces
pub record IsMeshOf (mesh : InputMesh) (scale : ℕ) (rows : List Row) (faces : List Face) : Type 0 where
  pub l : mesh.l ≡ level_bound rows
  pub digits : mesh.digits ≡ scale
  pub low : mesh.low ≡ coordinates (low_of rows)
  pub tris : mesh.tris.items ≡ mesh_of rows faces
  pub dropped : mesh.dropped ≡ dropped_of rows faces
