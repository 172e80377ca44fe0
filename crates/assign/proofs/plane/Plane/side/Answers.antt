use Rattle.std.proofs.Common.{◌∙◌, ap, subst, sym}
use Rattle.std.specs.Prelude.{◌≡◌, ◌<◌, IfSome}
use Rattle.tetra_name.specs.Names.{child_of, tetrahedron_of}
use Rattle.assign.specs.Paths.{side_of}
use Rattle.assign.proofs.Sides.{side_number, side_child, few_sides}
use Rattle.assign.proofs.plane.Plane.side.Goals as goal

pub returns-clause-side : goal.returns-clause-side
returns-clause-side c =
    subst (λ n. IfSome (tetrahedron_of c.args.self.now.l c.args.self.now.name) (λ T. n ≡ side_of c.args.t.now T)) (sym c.from.ensures)
    (side_number c.args.t.now (tetrahedron_of c.args.self.now.l c.args.self.now.name) c.is_beyond.result c.is_beyond.ensures)

pub returns-clause-few : goal.returns-clause-few
returns-clause-few c = subst (λ n. n < 2) (sym c.from.ensures) (few_sides c.is_beyond.result)

pub returns-clause-child : goal.returns-clause-child
returns-clause-child c =
    ap (λ n. child_of n (tetrahedron_of c.args.self.now.l c.args.self.now.name)) c.from.ensures
    ∙ side_child c.args.t.now (tetrahedron_of c.args.self.now.l c.args.self.now.name) c.is_beyond.result c.is_beyond.ensures
