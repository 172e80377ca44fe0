-- The sorted moves are those of the definition.
use Rattle.std.proofs.Common.{◌≡◌, map, sym, ◌∙◌, subst, arith}
use Rattle.edge_collapse.specs.Places.{ends_at, taken_by, AreLed}
use Rattle.edge_collapse.proofs.PlaceLaw.{sorted_moves, written_back}
use Rattle.edge_collapse.proofs.moves.list_moves.Goals as goal

pub returns-clause-moves : goal.returns-clause-moves
returns-clause-moves c =
    let vs = c.args.list.now.vertices in
    let es = map (ends_at vs) c.args.pairs.now in
    let read : c.follow_all.new.places ≡ c.deref.result.now = sym (c.deref.ensures.value ∙ written_back c.follow_all.new.places c.start_places.new.places.items _ (omega arith)) in
    λ M f listed same rests.
    sorted_moves vs (taken_by es) c.note_moves.new.moves.items c.sort_moves.new.moves.items c.vertex_count.ensures.distinct
    (c.note_moves.ensures.items es (subst (AreLed vs es) read c.follow_all.ensures)) c.sort_moves.ensures.permutation c.sort_moves.ensures.sorted M f listed same rests
