use Rattle.std.proofs.Common.{◌∙◌, ap, arith, List}
use Rattle.ply_head.specs.declared.element.Element.{Element}
use Rattle.ply_body.specs.Inputs.{vertex_count}
use Rattle.ply_body.proofs.VertexCounts.{few_vertices}
use Rattle.ply_body.proofs.faces.Faces.open.Goals as goal

pub invariant_of-result : goal.invariant_of-result
invariant_of-result c =
    let es = c.into_parts-parts.result.elements.items in
    let are = c.vertices_of-vertices.ensures ∙ ap (λ (l : List Element). vertex_count l) c.as_slice.ensures.value in
    let few = few_vertices es c.into_parts-parts.ensures.small in record {
      digits_few = c.requires;
      small = c.into_parts-parts.ensures.small;
      laid_out = c.into_parts-parts.ensures.laid_out;
      vertices_are = are;
      vertices_few = omega (arith, are, few);
      counts_few = omega arith;
      fresh = λ _ _. c.in_ok-buffer.ensures;
      ready = λ frame none. cc;
    }
