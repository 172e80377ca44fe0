use Rattle.std.proofs.Common.{◌≡◌, length, take}
use Rattle.view_cut.specs.Views.{wanted_places, after_tests}
use Rattle.view_cut.proofs.looking.find_wanted.Given as goal

abbrev pub invariant-records : goal.invariant-records
invariant-records l = record {
  end : l.i-end ≡ length l.fn.graph.records;
  found : l.found.items ≡ wanted_places l.view (take l.i l.fn.graph.records);
  graph : l.graph ≡ after_tests l.i l.fn.graph;
}
