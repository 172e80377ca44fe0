use Rattle.std.proofs.Common.{◌≡◌, ap, sym, ◌∙◌, rules, arith}
use Rattle.ply_head.specs.declared.element.Used.TheVariants.{Vertex}
use Rattle.ply_head.specs.declared.element.Element.{Element}
use Rattle.ply_body.proofs.Layouts.{first_vertex, no_vertex}
use Rattle.ply_body.proofs.points.vertex_number.Goals as goal

pub returns-then-eq : goal.returns-then-eq
returns-then-eq c =
    let el = c.index-elements-number.result in
    let used : c.used.result ≡ Vertex = search rules in
    let here = ap (λ (e : Element). e.used) (sym c.index-elements-number.is) ∙ sym c.used.ensures ∙ used in
    first_vertex c.args.elements.now c.elements.number el c.requires (omega arith) here c.elements.invariant

pub unreachable-requires : goal.unreachable-requires
unreachable-requires c = no_vertex c.args.elements.now c.elements.number c.requires (omega arith) c.elements.invariant
