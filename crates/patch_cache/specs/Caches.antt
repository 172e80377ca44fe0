-- What a cache holds.
use Rattle.std.specs.Prelude.{ℕ, ◌≤◌, Bool, not, List, ◌++◌, length, filter}
use Rattle.std.specs.List.{IsDistinct}
use Rattle.std.specs.Map.{keys_of}
use Rattle.tpz_base.specs.declared.shape.Point.{Point}
use Rattle.tpz_base.specs.Points.{point_eq}

-- the values with their centres, most recent first, and how many there may be
pub record CacheState (V : Type 0) : Type 0 where
  pub entries : List (Point × V)
  pub cap : ℕ

module _ {V : Type 0} where
  abbrev pub cache_state : List (Point × V) → ℕ → CacheState V
  cache_state es n = record { entries = es; cap = n }

  -- the entry has this centre
  abbrev pub is_at : Point → Point × V → Bool
  is_at d e = point_eq d e.0

  -- the entry with this centre, if there is one, and then the others in their order
  abbrev pub to_front : Point → List (Point × V) → List (Point × V)
  to_front d es = filter (is_at d) es ++ filter (λ e. not (is_at d e)) es

  -- the facts that every cache keeps
  pub record IsCache (c : CacheState V) : Type 0 where
    pub differ : IsDistinct point_eq (keys_of c.entries)
    pub few : length c.entries ≤ c.cap
    pub least : 1 ≤ c.cap
    pub most : c.cap ≤ 1048576
