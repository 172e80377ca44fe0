-- A vertex of the image is a corner of a triangle that survives.
use Rattle.std.proofs.Common.{◌≡◌, ◌||◌, sym, ◌∙◌, ap}
use Rattle.tpz_base.specs.Meshes.{has_vertex}
use Rattle.tpz_base.specs.Collapses.{image}
use Rattle.patch_mesh.specs.Slots.{point_at}
use Rattle.patch_mesh.proofs.PlaceLaw.{got_point}
use Rattle.edge_collapse.specs.Pairs.{stays_vertex}
use Rattle.edge_collapse.proofs.Scans.{image_has}
use Rattle.edge_collapse.proofs.legality.stays.Goals as goal

pub returns-else-eq : goal.returns-else-eq
returns-else-eq c =
    let M = c.args.shop.now.mesh in
    let v = c.vertex-v.result in
    let is : point_at c.args.shop.now.vertices c.args.n ≡ v = got_point c.args.shop.now.vertices c.args.n v c.vertex-v.ensures in
    c.survives.ensures ∙ sym (image_has M c.args.u c.args.w v)
    ∙ ap (λ b. b || has_vertex (image M c.args.u c.args.w) v) (sym (sym c.eq.ensures ∙ c.if-eq.false))
    ∙ ap (stays_vertex M c.args.u c.args.w) (sym is)
