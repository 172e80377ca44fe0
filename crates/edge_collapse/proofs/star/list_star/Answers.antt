-- One more triangle.
use Rattle.std.proofs.Common.{arith, ◌≡◌, ◌++◌, ◌∷◌, [], ℕ, take, map, List, sym, ◌∙◌, ap, ap₂, subst}
use Rattle.std.specs.Prelude.{filter, All}
use Rattle.std.proofs.lemmas.List.Elements.{All-push}
use Rattle.std.proofs.lemmas.List.{map-append}
use Rattle.tpz_base.specs.Points.{point_eq}
use Rattle.tpz_base.specs.Meshes.{has_corner}
use Rattle.tpz_base.specs.Collapses.{opposite_edge}
use Rattle.tpz_base.specs.Reach.{IsNear}
use Rattle.patch_mesh.proofs.PlaceLaw.{got_point}
use Rattle.patch_mesh.proofs.ShopLaw.{near_at}
use Rattle.patch_mesh.proofs.WalkLaw.{all_taken, taken_next, filter_most}
use Rattle.edge_collapse.specs.declared.star.StarFace.{StarFace}
use Rattle.edge_collapse.specs.Sweeps.{star_face, IsStarFace}
use Rattle.edge_collapse.proofs.StarLaw.{passed, next_differs, face_is}
use Rattle.edge_collapse.proofs.star.list_star.Goals as goal
use Rattle.edge_collapse.proofs.star.list_star.Goals.{After-star_face-face}

next_is : (c : After-star_face-face) → c.vertex.result ≡ (opposite_edge c.args.p c.in-Some.k.tri).0
next_is c = sym (got_point c.args.list.now.vertices c.in-Some.k.next c.vertex.result c.vertex.ensures) ∙ c.in-Some.ensures.next

face_here : (c : After-star_face-face) → c.star_face-face.result ≡ star_face c.args.p c.in-Some.k.tri
face_here c =
    face_is c.args.p c.vertex.result c.vertex-in-Some.result c.in-Some.k.tri c.star_face-face.result (next_is c)
    (sym (got_point c.args.list.now.vertices c.in-Some.k.last c.vertex-in-Some.result c.vertex-in-Some.ensures) ∙ c.in-Some.ensures.last) c.star_face-face.ensures.value

good_here : (c : After-star_face-face) → IsStarFace c.args.p c.star_face-face.result
good_here c =
    let M = c.args.list.now.mesh in
    let next : c.star_face-face.result.next ≡ c.vertex.result = ap (λ (f : StarFace). f.next) c.star_face-face.ensures.value in
    let near : IsNear c.vertex.result =
    subst IsNear (got_point c.args.list.now.vertices c.in-Some.k.next c.vertex.result c.vertex.ensures) (near_at c.args.list.now.vertices c.in-Some.k.next c.vertex_count.ensures.near c.in-Some.ensures.next_within) in
    record {
      next = subst IsNear (sym next) near;
      normal = c.star_face-face.ensures.short;
      differ = ap (point_eq c.args.p) (next ∙ next_is c)
          ∙ next_differs c.args.p c.in-Some.k.tri c.in-Some.ensures.plain.whole (passed (has_corner c.args.p) M c.loop-k.walk.place c.in-Some.k.tri (sym c.in-Some.ensures.tri));
    }

pub push_face-requires : goal.push_face-requires
push_face-requires c = omega (arith, c.in-Some.ensures.within, filter_most c.args.p c.args.list.now.mesh)

pub loop-k-preserved : goal.loop-k-preserved
loop-k-preserved c =
    let here = (goal.at.loop-k-preserved c).After-star_face-face in
    let xs = filter (has_corner c.args.p) c.args.list.now.mesh in
    let i = c.loop-k.walk.place in
    let t = c.in-Some.k.tri in
    record {
      walk = c.step.ensures.walk;
      few = c.in-Some.ensures.few;
      faces = c.push_face.ensures.items
          ∙ ap₂ (λ (fs : List StarFace) (f : StarFace). fs ++ f ∷ []) c.loop-k.invariant.faces (face_here here)
          ∙ sym (map-append (star_face c.args.p) (take i xs) (t ∷ []))
          ∙ ap (map (star_face c.args.p)) (sym (taken_next xs i t (sym c.in-Some.ensures.tri)))
          ∙ ap (λ (n : ℕ). map (star_face c.args.p) (take n xs)) (sym c.in-Some.ensures.place);
      good = subst (All (IsStarFace c.args.p)) (sym c.push_face.ensures.items) (All-push (IsStarFace c.args.p) c.loop-k.faces.items c.star_face-face.result c.loop-k.invariant.good (good_here here));
      listed = omega (arith, c.in-Some.ensures.place, c.push_face.ensures.len);
      capacity = omega arith;
    }

pub returns-clause-faces : goal.returns-clause-faces
returns-clause-faces c =
    c.loop-k.invariant.faces ∙ ap (map (star_face c.args.p)) (all_taken (filter (has_corner c.args.p) c.args.list.now.mesh) c.loop-k.walk.place (sym c.in_default.ensures.tri))
