-- The triangle stands in the buffer as it stood in the block.
use Rattle.std.proofs.Common.{◌≡◌, ◌+◌, ◌-◌, ◌*◌, ℕ, List, ap, sym, arith, ◌∙◌, Some}
use Rattle.std.specs.Prelude.{slice_get}
use Rattle.tpz_base.specs.declared.shape.Tri.{Tri}
use Rattle.tri_stream.specs.Blocks.{piece, tri_in}
use Rattle.tri_stream.proofs.Buffers.{held_number, tris_get}
use Rattle.tri_stream.proofs.buffer.Buffer.get.Goals as goal

pub overflow_mul-at : goal.overflow_mul-at
overflow_mul-at c = let low = held_number c.self.inside.count c.self.inside.bytes c.args.self.now c.args.number c.self.view_is c.requires in omega (arith, low, c.self.invariant)

pub overflow_add-at : goal.overflow_add-at
overflow_add-at c = let low = held_number c.self.inside.count c.self.inside.bytes c.args.self.now c.args.number c.self.view_is c.requires in omega (arith, low, c.self.invariant)

pub slice_bounds-tri_from-end : goal.slice_bounds-tri_from-end
slice_bounds-tri_from-end c = let low = held_number c.self.inside.count c.self.inside.bytes c.args.self.now c.args.number c.self.view_is c.requires in omega (arith, low, c.self.invariant)

pub returns : goal.returns
returns c =
    let i = c.self.inside in
    let n = c.args.number in
    let low = held_number i.count i.bytes c.args.self.now n c.self.view_is c.requires in
    let size : 36 ≡ 36 * n + 36 - 36 * n = omega arith in
    let e = ap (λ (m : ℕ). Some (tri_in (piece i.bytes (36 * n) m))) size in
    ap (λ (x : List Tri). slice_get x n) (sym c.self.view_is) ∙ tris_get i.count i.bytes n low ∙ e ∙ ap Some (sym c.tri_from.ensures)
