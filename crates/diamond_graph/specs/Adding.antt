-- How a set of diamonds grows as a diamond and its ancestors are added.
use Rattle.std.specs.Prelude.{◌≡◌, ◌≤◌, ℕ, true, ◌||◌, List, length, All}
use Rattle.tpz_base.specs.declared.shape.Point.{Point}
use Rattle.tpz_base.specs.Cuts.{has_diamond}
use Rattle.tpz_base.specs.Diamonds.{ancestry}
use Rattle.tetra_name.specs.Names.{IsBound}
use Rattle.diamond_graph.specs.Closed.{IsConforming, IsPartOf, CanSplit}

-- a level bound, and a set
pub record ClosingState : Type 0 where
  pub l : ℕ
  pub set : List Point

-- the most centres that a set may have
abbrev pub most_centres : ℕ
most_centres = 67108864

-- a conforming set that holds what the old one held, and else only d and ancestors of d
pub record GrowsTowards (L : ℕ) (d : Point) (old new : List Point) : Type 0 where
  pub conforming : IsConforming L new
  pub kept : IsPartOf old new
  pub others : (x : Point) → has_diamond new x ≡ true → has_diamond old x || has_diamond (ancestry L d) x ≡ true

-- the facts that a set keeps while it is made: its members stand in any order
pub record IsKept (L : ℕ) (keys : List Point) : Type 0 where
  pub bound : IsBound L
  pub conforming : IsConforming L keys
  pub can_split : All (CanSplit L) keys
  pub few : length keys ≤ most_centres
