use Rattle.std.proofs.Common.{◌≡◌, ◌≤◌, ◌++◌, ℕ, List, drop}
use Rattle.std.specs.Option.{option_map}
use Rattle.ply_head.specs.declared.element.Element.{Element}
use Rattle.ply_body.specs.Bodies.{elements, no_input}
use Rattle.ply_body.specs.Items.{items_told}
use Rattle.ply_body.specs.VertexRows.{setting}
use Rattle.ply_body.proofs.points.skip_elements.Given as goal

abbrev pub invariant-elements : goal.invariant-elements
invariant-elements g l = record {
  passed : (vertices : ℕ) (behind : List Element)
      → option_map (elements (setting l.digits vertices) 0 (l.elements ++ behind) no_input) (items_told l.initial.items (g.I.Source.left l.initial.src))
      ≡ option_map (elements (setting l.digits vertices) l.number (drop l.number l.elements ++ behind) no_input) (items_told l.items (g.I.Source.left l.src));
  later : g.I.Source.faults l.initial.src ≤ g.I.Source.faults l.src;
}
