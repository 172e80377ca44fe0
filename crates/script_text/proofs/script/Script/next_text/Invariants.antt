use Rattle.std.proofs.Common.{◌≡◌, ◌≤◌, ◌-◌, Some}
use Rattle.std.specs.Option.{option_map}
use Rattle.tpz_base.specs.Texts.{Bytes}
use Rattle.script_text.specs.Scripts.{passed_over, script_left, with_lines}
use Rattle.script_text.proofs.script.Script.next_text.Given as goal

abbrev pub invariant-lines : goal.invariant-lines
invariant-lines g l = record {
  passed : script_left (λ (t : Bytes). Some t) l.initial.self (g.C.Source.left l.initial.src)
      ≡ option_map (with_lines (passed_over (l.self.number - l.initial.self.number))) (script_left (λ (t : Bytes). Some t) l.self (g.C.Source.left l.src));
  stays : l.initial.self.number ≤ l.self.number;
  later : g.C.Source.faults l.initial.src ≤ g.C.Source.faults l.src;
}

abbrev pub decreases-lines : goal.decreases-lines
decreases-lines g l = 1048576 - l.self.number
