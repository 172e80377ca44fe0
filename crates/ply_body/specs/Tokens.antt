-- Items where some bytes of a token were taken.
use Rattle.std.specs.Prelude.{◌≡◌, ◌<◌, ℕ, ◌+◌, false, length, Option}
use Rattle.std.specs.List.{list_any}
use Rattle.std.specs.Option.{option_map}
use Rattle.tpz_io.specs.Told.{ahead}
use Rattle.tpz_base.specs.Texts.{Bytes}
use Rattle.ply_head.specs.declared.element.Format.{Format}
use Rattle.ply_head.specs.declared.element.Format.TheVariants.{Ascii}
use Rattle.ply_body.specs.Items.{Items, is_gap, items_of}

-- the items of bytes that are told
abbrev pub items_ahead : Format → ℕ → Option Bytes → Option Items
items_ahead format room told = option_map (items_of format room) told

-- the items with this text in front, where the room is what is left behind it
abbrev pub items_behind : Bytes → ℕ → Option Bytes → Option Items
items_behind text room told = items_ahead Ascii (length text + room) (ahead text told)

-- the front of a token that has too many bytes
pub record IsLong (text : Bytes) : Type 0 where
  pub no_gap : list_any is_gap text ≡ false
  pub long : 64 < length text
