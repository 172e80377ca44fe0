use Rattle.std.proofs.Common.{◌≡◌, ◌≤◌, ◌-◌}
use Rattle.script_text.specs.Commands.{read_line}
use Rattle.script_text.specs.Scripts.{script_left}
use Rattle.command_replay.specs.Playing.{IsReady}
use Rattle.cut_blocks.specs.Shown.{AreCounted}
use Rattle.command_replay.proofs.Progress.{Progress}
use Rattle.command_replay.proofs.replay.play.Given as goal

abbrev pub invariant-lines : goal.invariant-lines
invariant-lines g l = record {
  held : g.S.Blob.held l.store ≡ g.S.Blob.held l.initial.store;
  ready : IsReady (g.S.Blob.held l.store) l.reader l.player;
  parts : l.player.parts ≤ l.lines.number;
  counted : AreCounted l.initial.player.reads l.player.reads (g.S.Blob.reads l.initial.store) (g.S.Blob.reads l.store);
  script_later : g.C.Source.faults l.initial.script ≤ g.C.Source.faults l.script;
  out_later : g.O.Out.faults l.initial.out ≤ g.O.Out.faults l.out;
  progress : Progress (script_left read_line l.initial.lines (g.C.Source.left l.initial.script)) (script_left read_line l.lines (g.C.Source.left l.script)) (g.S.Blob.held l.initial.store) l.reader l.player
      l.tries (g.S.Blob.faults l.initial.store) (g.S.Blob.faults l.store) (g.S.Blob.reads l.initial.store) (g.S.Blob.reads l.store)
      (g.S.Blob.outcomes l.initial.store) (g.S.Blob.outcomes l.store) (g.O.Out.parts l.initial.out) (g.O.Out.parts l.out) (g.O.Out.notes l.initial.out) (g.O.Out.notes l.out);
}

abbrev pub decreases-lines : goal.decreases-lines
decreases-lines g l = 1048576 - l.lines.number
