use Rattle.std.proofs.Common.{◌≡◌, ◌≤◌, ◌-◌, length}
use Rattle.tpz_io.specs.Told.{ahead}
use Rattle.script_text.proofs.LineLemmas.{HasNoFeed}
use Rattle.script_text.proofs.script.take_line.Given as goal

abbrev pub invariant-bytes : goal.invariant-bytes
invariant-bytes g l = record {
  taken : ahead l.initial.reader (g.C.Source.left l.initial.src) ≡ ahead l.text (ahead l.reader (g.C.Source.left l.src));
  none : HasNoFeed l.text;
  within : length l.text ≤ 257;
  later : g.C.Source.faults l.initial.src ≤ g.C.Source.faults l.src;
}

abbrev pub decreases-bytes : goal.decreases-bytes
decreases-bytes g l = 257 - length l.text
