-- Each vertex of the list has a number.
use Rattle.std.proofs.Common.{◌≡◌, true, sym, subst}
use Rattle.tpz_base.specs.Meshes.{has_vertex}
use Rattle.patch_mesh.specs.Shops.{Shop}
use Rattle.patch_mesh.proofs.CornerLaw.{vertex_known, known_some}
use Rattle.patch_mesh.proofs.workshop.Workshop.number_of.Goals as goal

pub unwrap-requires : goal.unwrap-requires
unwrap-requires c =
    known_some _ c.find.result c.find.ensures.none (vertex_known c.self.inside.places.points c.self.inside.faces.slots c.args.p c.self.invariant.good (subst (λ (s : Shop). has_vertex s.mesh c.args.p ≡ true) (sym c.self.view_is) c.requires))
