-- The star of the vertex is that of its number.
use Rattle.std.proofs.Common.{refl, sym, ◌∙◌, ap, length, ◌<◌, subst}
use Rattle.std.specs.Prelude.{slice_get}
use Rattle.patch_mesh.specs.Shops.{Shop}
use Rattle.patch_mesh.proofs.CornerLaw.{seen_at}
use Rattle.patch_mesh.proofs.workshop.Workshop.walk_at.Goals as goal

pub returns-clause-walk : goal.returns-clause-walk
returns-clause-walk c =
    rw (← c.self.view_is) (record {
      here = c.first.ensures
          ∙ ap (λ xs. slice_get xs 0) (sym (seen_at c.self.inside.places.points c.self.inside.faces.slots _ c.args.v c.self.invariant.distinct c.self.invariant.good
          (subst (λ (s : Shop). c.args.v < length s.vertices) (sym c.self.view_is) c.requires) refl));
    })
