use Rattle.std.proofs.Common.{◌≡◌, ◌++◌, take}
use Rattle.std.specs.Prelude.{map}
use Rattle.ply_head.specs.declared.element.Used.TheVariants.{Other}
use Rattle.ply_head.specs.Headers.{element_of}
use Rattle.ply_head.proofs.used.push_others.Given as goal

abbrev pub invariant-loop-element : goal.invariant-loop-element
invariant-loop-element l = l.elements.items ≡ l.initial.elements.items ++ map (element_of Other) (take l.element-index l.declared)
