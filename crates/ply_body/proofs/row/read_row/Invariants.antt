use Rattle.std.proofs.Common.{◌≡◌, ℕ, ◌≤◌, drop}
use Rattle.std.specs.Option.{option_map}
use Rattle.ply_body.specs.Items.{items_told}
use Rattle.ply_body.specs.Bodies.{nothing_used, with_properties}
use Rattle.ply_body.specs.Spots.{row_of, IsSmallRow}
use Rattle.ply_body.specs.VertexRows.{setting, used_row}
use Rattle.ply_body.proofs.row.read_row.Given as goal

abbrev pub invariant-row : goal.invariant-row
invariant-row g l = record {
  taken : (vertices : ℕ) → option_map (with_properties (setting l.digits vertices) 0 l.properties nothing_used) (items_told l.initial.items (g.I.Source.left l.initial.src))
      ≡ option_map (with_properties (setting l.digits vertices) 0 (drop l.property-index l.properties) (used_row (row_of l.spot))) (items_told l.items (g.I.Source.left l.src));
  small : IsSmallRow (row_of l.spot);
  later : g.I.Source.faults l.initial.src ≤ g.I.Source.faults l.src;
}
