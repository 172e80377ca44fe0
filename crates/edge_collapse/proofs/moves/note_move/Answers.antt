-- Different numbers are those of different points.
use Rattle.std.proofs.Common.{◌≡◌, List, [], ◌∷◌, ◌++◌, append-nil, rules, ◌∙◌, sym, ap}
use Rattle.tpz_base.specs.declared.shape.Move.{Move}
use Rattle.edge_collapse.proofs.PlaceLaw.{between_same, between_other}
use Rattle.edge_collapse.proofs.moves.note_move.Goals as goal

pub returns-then-v-w-clause-items : goal.returns-then-v-w-clause-items
returns-then-v-w-clause-items c =
    let here = between_other c.args.list.now.vertices c.args.v c.args.w c.vertex-from.result c.vertex-to.result c.vertex_count.ensures.distinct c.if-v-w.true
    c.requires.from c.requires.to c.vertex-from.ensures c.vertex-to.ensures in
    let pushed : c.push.new.self.items ≡ c.args.moves.now.items ++ record { from = c.vertex-from.result; to = c.vertex-to.result } ∷ [] = search rules in
    pushed ∙ ap (λ (ms : List Move). c.args.moves.now.items ++ ms) (sym here)

pub returns-else-v-w-clause-items : goal.returns-else-v-w-clause-items
returns-else-v-w-clause-items c =
    sym (append-nil c.args.moves.now.items)
    ∙ ap (λ (ms : List Move). c.args.moves.now.items ++ ms) (sym (between_same c.args.list.now.vertices c.args.v c.args.w c.if-v-w.false))
