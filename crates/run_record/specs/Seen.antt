-- What the devices of a run say at one moment, where they tell it, and whether they are as they were.
use Rattle.std.specs.Prelude.{ℕ, Bool, List, Option}
use Rattle.tpz_base.specs.Texts.{Bytes}

-- a source: what is left of it, and how often it failed
pub record SourceSeen : Type 0 where
  pub left : Option Bytes
  pub faults : ℕ

-- a blob: what it holds, how often it was read, how each call ended, and how often it failed
pub record BlobSeen : Type 0 where
  pub held : Option Bytes
  pub reads : ℕ
  pub outcomes : Option (List Bool)
  pub faults : ℕ

-- the output: the parts that were finished, the notes, and how often it failed
pub record OutSeen : Type 0 where
  pub parts : Option (List Bytes)
  pub notes : Option Bytes
  pub faults : ℕ

-- the five devices of a run
pub record Seen : Type 0 where
  pub input : SourceSeen
  pub script : SourceSeen
  pub work : BlobSeen
  pub store : BlobSeen
  pub out : OutSeen

-- of each of them, that it is as it was
pub record Untouched : Type 1 where
  pub input : Type 0
  pub script : Type 0
  pub work : Type 0
  pub store : Type 0
  pub out : Type 0
