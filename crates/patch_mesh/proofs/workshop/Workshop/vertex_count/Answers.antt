-- What every workshop keeps of its points.
use Rattle.patch_mesh.proofs.CornerLaw.{vertex_known}
use Rattle.patch_mesh.proofs.workshop.Workshop.vertex_count.Goals as goal

pub returns-clause-listed : goal.returns-clause-listed
returns-clause-listed c = rw (← c.self.view_is) (λ p here. vertex_known c.self.inside.places.points c.self.inside.faces.slots p c.self.invariant.good here)
