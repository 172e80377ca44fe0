-- What the three searches didn't find makes the records those of a graph.
use Rattle.std.proofs.Common.{◌≡◌, None, sym, ◌∙◌, ap}
use Rattle.diamond_graph.specs.Saturated.{first_out_of_order, first_not_closed, first_not_saturated}
use Rattle.diamond_graph.proofs.FaultLaw.{none_order, none_closed, none_saturated, order_distinct, graph_checked}
use Rattle.diamond_graph.proofs.graph.Graph.from_records.Goals as goal

pub index-requires : goal.index-requires
index-requires c =
    let none : c.find_out_of_order.result ≡ None = cc in
    let a = none_order c.args.l c.args.records.items (sym none ∙ c.find_out_of_order.ensures ∙ ap (first_out_of_order c.args.l) c.deref.ensures.value) in
    let d = order_distinct c.args.l c.args.records.items a in
    rw c.deref-2.ensures.value d

pub invariant_of-result : goal.invariant_of-result
invariant_of-result c =
    let none : c.find_out_of_order.result ≡ None = cc in
    let none' : c.find_not_closed.result ≡ None = cc in
    let none'' : c.find_not_saturated.result ≡ None = cc in
    let a = none_order c.args.l c.args.records.items (sym none ∙ c.find_out_of_order.ensures ∙ ap (first_out_of_order c.args.l) c.deref.ensures.value) in
    let b = none_closed c.args.l c.args.records.items (sym none' ∙ c.find_not_closed.ensures ∙ ap (first_not_closed c.args.l) c.deref-3.ensures.value) in
    let s = none_saturated c.args.l c.args.records.items (sym none'' ∙ c.find_not_saturated.ensures ∙ ap (first_not_saturated c.args.l) c.deref-4.ensures.value) in
    let i = c.in-Ok.ensures in
    (graph_checked c.args.l c.args.records.items c.requires.bound c.requires.few c.requires.stored a b s, rw c.deref-2.ensures.value at i)

pub returns-clause-saturated : goal.returns-clause-saturated
returns-clause-saturated c =
    let none'' : c.find_not_saturated.result ≡ None = cc in
    none_saturated c.args.l c.args.records.items (sym none'' ∙ c.find_not_saturated.ensures ∙ ap (first_not_saturated c.args.l) c.deref-4.ensures.value)
