use Rattle.std.proofs.Common.{◌≡◌, map, take}
use Rattle.diamond_graph.specs.Graphs.{fresh_record}
use Rattle.diamond_graph.specs.Ranks.{ranked_point}
use Rattle.diamond_graph.proofs.graph.Graph.with_centres.Given as goal

abbrev pub invariant-ranked : goal.invariant-ranked
invariant-ranked l = record {
  index : l.centres.keys ≡ map ranked_point (take l.r-index l.r-items);
  records : l.records.items ≡ map fresh_record (map ranked_point (take l.r-index l.r-items));
}
