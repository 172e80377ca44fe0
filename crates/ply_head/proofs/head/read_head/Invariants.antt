use Rattle.std.proofs.Common.{◌≡◌, ◌≤◌, ◌<◌, ◌-◌, drop}
use Rattle.std.specs.Option.{option_map}
use Rattle.tpz_io.specs.Told.{ahead}
use Rattle.ply_head.specs.Lines.{lines_told}
use Rattle.ply_head.specs.Headers.{nothing_seen, heading_from}
use Rattle.ply_head.proofs.LayoutLemmas.{IsTidy}
use Rattle.ply_head.proofs.head.read_head.Given as goal

abbrev pub invariant-lines : goal.invariant-lines
invariant-lines g l = record {
  told : option_map (heading_from nothing_seen) (lines_told 1 0 (g.I.Source.left l.initial.src))
      ≡ option_map (heading_from l.seen) (lines_told l.lines.number l.lines.taken (ahead l.lines.held (g.I.Source.left l.src)));
  rest : ahead l.lines.held (g.I.Source.left l.src) ≡ option_map (drop l.lines.taken) (g.I.Source.left l.initial.src);
  tidy : IsTidy l.seen;
  first : l.lines.number ≡ 1 → l.lines.taken ≡ 0;
  numbered : 0 < l.lines.number;
  later : g.I.Source.faults l.initial.src ≤ g.I.Source.faults l.src;
}

abbrev pub decreases-lines : goal.decreases-lines
decreases-lines g l = 1048576 - l.lines.taken
