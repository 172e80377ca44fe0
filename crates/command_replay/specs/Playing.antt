-- A replay on its way.
use Rattle.std.specs.Prelude.{◌≡◌, ◌*◌, List, None, length}
use Rattle.std.specs.declared.option.Option.{Option}
use Rattle.tpz_io.specs.Writes.{Wrote}
use Rattle.tpz_base.specs.Texts.{Bytes}
use Rattle.diamond_graph.specs.Saturated.{AreSaturated}
use Rattle.patch_file.specs.Reading.{ReaderState, IsRightBase, IsRightParams}
use Rattle.view_cut.specs.Sets.{IsConformingSet}
use Rattle.view_cut.specs.Views.{counted_by}
use Rattle.command_replay.specs.declared.replay.Player.{Player}
use Rattle.command_replay.specs.Plays.{Play, numbers_of}
use Rattle.cut_blocks.specs.WrongBlocks.{Stored, first_wrong}
use Rattle.cut_blocks.specs.Shown.{IsOpen}

-- the reader and the graph are those of the store, and the records that the last view wants are a conforming set
pub record IsReady (told : Option Bytes) (reader : ReaderState) (player : Player) : Type 0 where
  pub reader_of : IsOpen told reader player.graph
  pub params : IsRightParams reader.params
  pub base : IsRightBase reader.params.l reader.base
  pub set : IsConformingSet player.graph player.front
  pub saturated : AreSaturated player.graph.l player.graph.records

-- this was played
pub record IsPlaying (out : Stored) (p : Play) (player : Player) : Type 0 where
  pub places : player.front ≡ numbers_of out.0 p.view
  pub parts : player.parts ≡ length p.items
  pub tests : player.graph.tests ≡ counted_by (p.looks * length out.0.records) 0

-- .. and all that it wrote was written, and no block that it read is wrong
pub record HasPlayed (out : Stored) (p : Play) (player : Player) (p0 p1 : Option (List Bytes)) (n0 n1 : Option Bytes) : Type 0 where
  pub playing : IsPlaying out p player
  pub right : first_wrong out.0 p.reads ≡ None
  pub wrote : Wrote p.items p0 p1 n0 n1
