use Rattle.std.proofs.Common.{◌≡◌, map, take}
use Rattle.diamond_graph.specs.Ranks.{rank_of}
use Rattle.diamond_graph.proofs.rank.rank.Given as goal

abbrev pub invariant-points : goal.invariant-points
invariant-points l = l.ranked.items ≡ map (rank_of l.l) (take l.p-index l.points)
