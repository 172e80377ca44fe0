use Rattle.std.proofs.Common.{◌≡◌, true, map, take}
use Rattle.std.specs.List.{list_all}
use Rattle.tpz_base.specs.Cuts.{has_diamond}
use Rattle.tetra_name.specs.Names.{point_of}
use Rattle.diamond_graph.proofs.fault.has_all.Given as goal

abbrev pub invariant-wanted : goal.invariant-wanted
invariant-wanted l = list_all (has_diamond l.centres.keys) (take l.i (map point_of l.wanted)) ≡ true
