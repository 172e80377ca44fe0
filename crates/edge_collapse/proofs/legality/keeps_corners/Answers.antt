-- The two other corners tell.
use Rattle.std.proofs.Common.{◌&&◌, sym, ◌∙◌, ap}
use Rattle.tpz_base.specs.Collapses.{opposite_edge}
use Rattle.edge_collapse.specs.Pairs.{stays_vertex}
use Rattle.edge_collapse.proofs.StarLaw.{others_stay}
use Rattle.edge_collapse.proofs.legality.keeps_corners.Goals as goal

pub returns-then-stays : goal.returns-then-stays
returns-then-stays c =
    let f = stays_vertex c.args.shop.now.mesh c.args.u c.args.w in
    let next = sym c.stays.ensures ∙ c.if-stays.true in
    c.stays-then-stays.ensures ∙ ap f c.requires.last ∙ ap (λ b. b && f (opposite_edge c.args.u c.args.k.now.tri).1) (sym (sym (ap f c.requires.next) ∙ next))
    ∙ sym (others_stay c.args.shop.now.mesh c.args.u c.args.w c.args.k.now.tri c.requires.at)

pub returns-else-stays : goal.returns-else-stays
returns-else-stays c =
    let f = stays_vertex c.args.shop.now.mesh c.args.u c.args.w in
    let next = sym c.stays.ensures ∙ c.if-stays.false in
    c.if-stays.false ∙ ap (λ b. b && f (opposite_edge c.args.u c.args.k.now.tri).1) (sym (sym (ap f c.requires.next) ∙ next))
    ∙ sym (others_stay c.args.shop.now.mesh c.args.u c.args.w c.args.k.now.tri c.requires.at)
