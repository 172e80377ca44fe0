use Rattle.std.proofs.Common.{w64, refl, sym, subst, ap, ◌∙◌}
use Rattle.std.specs.Prelude.{◌≡◌, pos, int_lt, IfSome}
use Rattle.std.proofs.lemmas.Int.{to_z-of_z}
use Rattle.tetra_name.specs.Names.{point_of, tetrahedron_of}
use Rattle.assign.specs.Paths.{is_beyond}
use Rattle.assign.specs.Planes.{Bisected}
use Rattle.assign.proofs.LeanLaw.{by_three, by_fewer, fewer_steps, three_steps, read_back, outer_same, total_same}
use Rattle.assign.proofs.plane.Plane.is_beyond.Goals as goal

pub returns-in-Some : goal.returns-in-Some
returns-in-Some c =
    let i = c.self.inside in
    let inv = c.self.invariant in
    let three = three_steps _ (point_of i.unit) i.name.slot c.in-Some.axis (sym c.in-Some.is ∙ inv.steps) in
    subst (λ (p : Bisected). IfSome (tetrahedron_of p.l p.name) (λ T. c.is_positive.result ≡ is_beyond c.args.t.now T)) c.self.view_is
    (by_three i.l i.name c.args.t.now inv.named _ _ refl refl three.0 i.unit inv.units _ c.corner_sum-sum.ensures.value
    c.in-Some.axis three.1 c.lean-x.result c.lean-y.result c.lean-z.result c.outer.result
    c.lean-x.ensures.value c.lean-y.ensures.value c.lean-z.ensures.value
    (c.outer.ensures ∙ outer_same _ (read_back c.lean-x.result c.lean-x.ensures.bound) (read_back c.lean-y.result c.lean-y.ensures.bound) (read_back c.lean-z.result c.lean-z.ensures.bound))
    c.is_positive.result (c.is_positive.ensures ∙ ap (int_lt (pos 0)) (to_z-of_z w64 c.outer.result (record { sfits = c.outer.type_inv }))))

pub returns-in-None : goal.returns-in-None
returns-in-None c =
    let i = c.self.inside in
    let inv = c.self.invariant in
    let fewer = fewer_steps _ (point_of i.unit) i.name.slot (sym c.in-None.is ∙ inv.steps) in
    subst (λ (p : Bisected). IfSome (tetrahedron_of p.l p.name) (λ T. c.is_positive-in-None.result ≡ is_beyond c.args.t.now T)) c.self.view_is
    (by_fewer i.l i.name c.args.t.now inv.named _ _ refl refl fewer i.unit inv.units _ c.corner_sum-sum.ensures.value
    c.lean-x.result c.lean-y.result c.lean-z.result c.total.result
    c.lean-x.ensures.value c.lean-y.ensures.value c.lean-z.ensures.value
    (c.total.ensures ∙ total_same (read_back c.lean-x.result c.lean-x.ensures.bound) (read_back c.lean-y.result c.lean-y.ensures.bound) (read_back c.lean-z.result c.lean-z.ensures.bound))
    c.is_positive-in-None.result (c.is_positive-in-None.ensures ∙ ap (int_lt (pos 0)) (to_z-of_z w64 c.total.result (record { sfits = c.total.type_inv }))))
