use Rattle.std.proofs.Common.{◌≡◌, true, take}
use Rattle.std.specs.List.{list_all}
use Rattle.diamond_graph.specs.Saturated.{is_saturated}
use Rattle.diamond_graph.proofs.fault.find_not_saturated.Given as goal

abbrev pub invariant-records : goal.invariant-records
invariant-records l = list_all (is_saturated l.l l.records) (take l.i l.records) ≡ true
