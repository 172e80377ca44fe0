use Rattle.std.proofs.Common.{◌≡◌, drop}
use Rattle.ply_body.specs.Inputs.{vertex_count}
use Rattle.ply_body.proofs.faces.vertices_of.Given as goal

abbrev pub invariant-elements : goal.invariant-elements
invariant-elements l = vertex_count l.elements ≡ vertex_count (drop l.element-index l.elements)
