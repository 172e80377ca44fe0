use Rattle.std.proofs.Common.{◌≡◌, map, take}
use Rattle.diamond_graph.specs.Graphs.{centre_of}
use Rattle.diamond_graph.proofs.graph.index.Given as goal

abbrev pub invariant-records : goal.invariant-records
invariant-records l = l.centres.keys ≡ map centre_of (take l.r-index l.records)
