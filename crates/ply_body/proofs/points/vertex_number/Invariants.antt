use Rattle.std.proofs.Common.{◌≢◌, ◌<◌, ℕ, get_or}
use Rattle.ply_head.specs.declared.element.Used.TheVariants.{Vertex}
use Rattle.ply_head.specs.declared.element.Element.{Element}
use Rattle.ply_body.proofs.points.vertex_number.Given as goal

abbrev pub invariant-elements : goal.invariant-elements
invariant-elements l = (k : ℕ) (d : Element) → k < l.number → (get_or l.elements k d).used ≢ Vertex
