-- Centres with their levels.
use Rattle.std.specs.Prelude.{ℕ}
use Rattle.tpz_base.specs.declared.shape.Point.{Point}
use Rattle.tpz_base.specs.Diamonds.{level_of}
use Rattle.tetra_name.specs.Names.{point_of, half_of}
use Rattle.diamond_graph.specs.declared.rank.Ranked.{Ranked}

abbrev pub rank_of : ℕ → Point → Ranked
rank_of L d = record { level = level_of L d; centre = half_of d }

abbrev pub ranked_point : Ranked → Point
ranked_point r = point_of r.centre
