use Rattle.std.proofs.Common.{◌≡◌, ℕ, ◌+◌, ◌-◌, ◌*◌, List, length, subst, sym, arith}
use Rattle.std.proofs.lemmas.Grind.{common_steps}
use Rattle.std.specs.Option.{ForSome}
use Rattle.std.specs.declared.option.Option.{Option}
use Rattle.ply_body.specs.Spots.{HoldsRows}
use Rattle.ply_body.proofs.SpotRows.{holds_written}
use Rattle.ply_body.proofs.spots.PointBuffer.flush.Goals as goal

pub returns-clause-kept : goal.returns-clause-kept
returns-clause-kept g c = λ rows count kept.
    let start : 12 * c.args.count - c.len.result + length c.args.self.now ≡ 12 * length rows = grind (arith, common_steps) in
    subst (λ (told : Option (List ℕ)). ForSome told (HoldsRows rows)) (sym c.in_ok-write_at.ensures.written)
    (rw (c.deref.ensures.value, c.self.view_is) (holds_written rows c.args.self.now _ _ kept start))
