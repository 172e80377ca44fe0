-- The corner in the slot that was read.
use Rattle.std.proofs.Common.{◌≡◌, true, subst, sym}
use Rattle.patch_mesh.specs.Sheets.{Sheet}
use Rattle.patch_mesh.specs.Slots.{slot_at}
use Rattle.patch_mesh.proofs.NearLaw.{own_a, own_b, own_c}
use Rattle.patch_mesh.proofs.faces.Faces.corner_at.Goals as goal

pub returns-then-s-v : goal.returns-then-s-v
returns-then-s-v c =
    let live : (slot_at c.self.inside.slots.items c.args.n).alive ≡ true = subst (λ (s : Sheet). (slot_at s.slots c.args.n).alive ≡ true) (sym c.self.view_is) c.requires in
    rw (← c.self.view_is) (own_a c.args.v c.args.n c.self.inside.slots.items c.index-s.result.now c.index-s.ensures live c.if-s-v.true)

pub returns-then-s-v-2 : goal.returns-then-s-v-2
returns-then-s-v-2 c =
    let live : (slot_at c.self.inside.slots.items c.args.n).alive ≡ true = subst (λ (s : Sheet). (slot_at s.slots c.args.n).alive ≡ true) (sym c.self.view_is) c.requires in
    rw (← c.self.view_is) (own_b c.args.v c.args.n c.self.inside.slots.items c.index-s.result.now c.index-s.ensures live c.if-s-v.false c.if-s-v-2.true)

pub returns-then-s-v-3 : goal.returns-then-s-v-3
returns-then-s-v-3 c =
    let live : (slot_at c.self.inside.slots.items c.args.n).alive ≡ true = subst (λ (s : Sheet). (slot_at s.slots c.args.n).alive ≡ true) (sym c.self.view_is) c.requires in
    rw (← c.self.view_is) (own_c c.args.v c.args.n c.self.inside.slots.items c.index-s.result.now c.index-s.ensures live c.if-s-v.false c.if-s-v-2.false c.if-s-v-3.true)
