-- Without a cap the mesh is that of the roots, and no diamond is split.
use Rattle.std.proofs.Common.{◌≡◌, ℕ, ◌∙◌, sym, subst, Option}
use Rattle.tpz_base.specs.Roots.{mesh_by_roots}
use Rattle.finest_cut.specs.Cuts.{mesh_for}
use Rattle.finest_cut.proofs.RootCut.{by_roots}
use Rattle.finest_cut.proofs.splitting.number.Goals as goal

pub returns-in_ok-number_by_roots-in-None-clause-mesh : goal.returns-in_ok-number_by_roots-in-None-clause-mesh
returns-in_ok-number_by_roots-in-None-clause-mesh g c = λ held keeps.
    c.in_ok-number_by_roots-in-None.ensures.mesh
    ∙ sym (subst (λ (cap : Option ℕ). mesh_for cap c.args.mesh.l c.args.mesh.tris.items ≡ mesh_by_roots c.args.mesh.tris.items) (sym c.in-None.is) (by_roots c.args.mesh.l c.args.mesh.tris.items))
