-- A pair that is legal after a collapse was legal before it, where the triangles at its start are as they were.
use Rattle.std.proofs.Common.{◌≡◌, Bool, true, false, not, ◌&&◌, ◌||◌, [], ◌∷◌, refl, sym, ◌∙◌, ap, subst, inl, inr, true≢false}
use Rattle.std.specs.List.{list_any, list_all}
use Rattle.std.proofs.lemmas.Bool.{cases_Bool, and_left, and_parts, and_from, not-true, not_from_false, or_cases, or_left, or_right, false_from_ne_true}
use Rattle.tpz_base.specs.declared.shape.Point.{Point}
use Rattle.tpz_base.specs.declared.shape.Tri.{Tri}
use Rattle.tpz_base.specs.Points.{point_eq}
use Rattle.tpz_base.specs.Meshes.{Mesh, is_whole, is_outer, has_corner, has_vertex, corners_of}
use Rattle.tpz_base.specs.Collapses.{replaced_in, image, is_legal, are_neighbours, keeps_side}
use Rattle.tpz_base.proofs.PointLemmas.{point_eq-true, point_eq_refl}
use Rattle.tpz_base.proofs.BorderLaw.{outer_kept}
use Rattle.tpz_base.proofs.SimplifyLaw.{at_vertex, neighbour_is_vertex}
use Rattle.tpz_base.proofs.ListTests.{list_any-filter_map}
use Rattle.tpz_base.proofs.Locality.{IsApart, star_kept, share_kept, any_by_star, all_by_star, replaced_off, corner_off}

-- t stands in the list, by what tests say of it
pub record IsIn (M : Mesh) (t : Tri) : Type 0 where
  pub any : (g : Tri → Bool) → g t ≡ true → list_any g M ≡ true
  pub all : (g : Tri → Bool) → list_all g M ≡ true → g t ≡ true

pub found : (f : Tri → Bool) (M : Mesh) → list_any f M ≡ true → (t : Tri) × (f t ≡ true) × IsIn M t
found f [] h = cc
found f (t ∷ M) h =
    elim (or_cases (f t) (list_any f M) h) [
      | inl e ↦ (
        t,
        e,
        record {
          any = λ g k. or_left (g t) (list_any g M) k;
          all = λ g k. (and_parts (g t) (list_all g M) k).0;
        },
      )
      | inr e ↦
          let x = found f M e in (
            x.0,
            x.1,
            record {
              any = λ g k. or_right (g t) (list_any g M) (x.2.any g k);
              all = λ g k. x.2.all g (and_parts (g t) (list_all g M) k).1;
            },
          )
    ]

-- no triangle of the list passes both tests
pub not_both : (M : Mesh) (p u : Point) (t : Tri) → IsApart M p u → IsIn M t → has_corner p t ≡ true → has_corner u t ≡ false
not_both M p u t off at h =
    false_from_ne_true (has_corner u t) (λ k. true≢false (sym (at.any (λ s. has_corner p s && has_corner u s) (and_from (has_corner p t) (has_corner u t) h k)) ∙ off))

-- what holds of each vertex holds of all corners
pub all_corners : (f : Point → Bool) (M : Mesh) → ((v : Point) → has_vertex M v ≡ true → f v ≡ true) → list_all f (corners_of M) ≡ true
all_corners f [] h = refl
all_corners f (t ∷ M) h =
    let at : (v : Point) → has_corner v t ≡ true → f v ≡ true = λ v k. h v (or_left (has_corner v t) (has_vertex M v) k) in
    let a : f t.a ≡ true = at t.a (or_left (point_eq t.a t.a) _ (point_eq_refl t.a)) in
    let b : f t.b ≡ true = at t.b (or_right (point_eq t.a t.b) _ (or_left (point_eq t.b t.b) _ (point_eq_refl t.b))) in
    let c : f t.c ≡ true = at t.c (or_right (point_eq t.a t.c) _ (or_right (point_eq t.b t.c) _ (point_eq_refl t.c))) in
    let rest : list_all f (corners_of M) ≡ true = all_corners f M (λ v k. h v (or_right (has_corner v t) (has_vertex M v) k)) in
    and_from (f t.a) _ a (and_from (f t.b) _ b (and_from (f t.c) _ c rest))

-- the triangle survives the collapse of p to q, and has v then
abbrev survives_with : Point → Point → Point → Tri → Bool
survives_with p q v t = is_whole (replaced_in p q t) && has_corner v (replaced_in p q t)

in_image : (M : Mesh) (p q v : Point) → has_vertex (image M p q) v ≡ list_any (survives_with p q v) M
in_image M p q v = list_any-filter_map (has_corner v) is_whole (replaced_in p q) M

-- what holds where a collapse of u to w leaves the triangles at p as they are
pub record LeavesStar (M : Mesh) (u w p : Point) : Type 0 where
  pub whole : list_all is_whole M ≡ true
  pub inner : is_outer M u ≡ false
  pub differ : point_eq u w ≡ false
  pub joined : list_any (λ t. has_corner u t && has_corner w t) M ≡ true
  pub away : point_eq w p ≡ false
  pub apart : IsApart M p u

-- a vertex that would stay behind the collapse would stay before it
vertex_stays : (M : Mesh) (u w p q v : Point) → LeavesStar M u w p
    → ((x : Point) → has_vertex (image M u w) x ≡ true → point_eq x p || has_vertex (image (image M u w) p q) x ≡ true)
    → has_vertex M v ≡ true → point_eq v p ≡ false → has_vertex (image M p q) v ≡ true
vertex_stays M u w p q v L after here ne =
    let N = image M u w in
    let end : (t : Tri) → IsIn M t → survives_with p q v t ≡ true → has_vertex (image M p q) v ≡ true =
    λ t at k. in_image M p q v ∙ at.any (survives_with p q v) k in
    elim (cases_Bool (list_any (λ t. has_corner v t && not (has_corner p t)) M)) [
      | inl e ↦
          let x = found (λ t. has_corner v t && not (has_corner p t)) M e in
          let k = and_parts (has_corner v x.0) (not (has_corner p x.0)) x.1 in
          let same : replaced_in p q x.0 ≡ x.0 = replaced_off p q x.0 (not-true (has_corner p x.0) k.1) in
          end x.0 x.2
          (and_from (is_whole (replaced_in p q x.0)) (has_corner v (replaced_in p q x.0)) (ap is_whole same ∙ x.2.all is_whole L.whole) (ap (has_corner v) same ∙ k.0))
      | inr e ↦
          let with_p : (t : Tri) → IsIn M t → has_corner v t ≡ true → has_corner p t ≡ true =
          λ t at k. elim (cases_Bool (has_corner p t)) [
            | inl y ↦ y
            | inr y ↦ absurd (true≢false (sym (at.any (λ s. has_corner v s && not (has_corner p s)) (and_from (has_corner v t) (not (has_corner p t)) k (not_from_false (has_corner p t) y))) ∙ e))
          ] in
          let v_off : point_eq w v ≡ false =
          elim (cases_Bool (point_eq w v)) [
            | inr y ↦ y
            | inl y ↦
                let x = found (λ t. has_corner u t && has_corner w t) M L.joined in
                let k = and_parts (has_corner u x.0) (has_corner w x.0) x.1 in
                let is : w ≡ v = point_eq-true w v y in
                let v_in : has_corner v x.0 ≡ true = subst (λ z. has_corner z x.0 ≡ true) is k.1 in
                absurd (true≢false (sym k.0 ∙ not_both M p u x.0 L.apart x.2 (with_p x.0 x.2 v_in)))
          ] in
          let y = found (has_corner v) M here in
          let shared : list_any (λ t. has_corner p t && has_corner v t) M ≡ true =
          y.2.any (λ t. has_corner p t && has_corner v t) (and_from (has_corner p y.0) (has_corner v y.0) (with_p y.0 y.2 y.1) y.1) in
          let still : has_vertex N v ≡ true = neighbour_is_vertex N p v (share_kept M u w p v L.whole L.away L.apart ∙ shared) in
          let stays : has_vertex (image N p q) v ≡ true =
          elim (or_cases (point_eq v p) (has_vertex (image N p q) v) (after v still)) [
            | inl z ↦ absurd (true≢false (sym z ∙ ne))
            | inr z ↦ z
          ] in
          let z = found (survives_with p q v) N (sym (in_image N p q v) ∙ stays) in
          elim (cases_Bool (has_corner p z.0)) [
            | inl at_p ↦
                let f : Tri → Bool = λ t. has_corner p t && survives_with p q v t in
                let none : (t : Tri) → has_corner p t ≡ false → f t ≡ false = λ t k. and_left (has_corner p t) (survives_with p q v t) k in
                let there : list_any f N ≡ true = z.2.any f (and_from (has_corner p z.0) (survives_with p q v z.0) at_p z.1) in
                let before : list_any f M ≡ true =
                sym (any_by_star f p M none) ∙ ap (list_any f) (sym (star_kept M u w p L.whole L.away L.apart)) ∙ any_by_star f p N none ∙ there in
                let x = found f M before in
                end x.0 x.2 (and_parts (has_corner p x.0) (survives_with p q v x.0) x.1).1
            | inr off_p ↦
                let same : replaced_in p q z.0 ≡ z.0 = replaced_off p q z.0 off_p in
                let at_v : has_corner v z.0 ≡ true = sym (ap (has_corner v) same) ∙ (and_parts (is_whole (replaced_in p q z.0)) _ z.1).1 in
                let g : Tri → Bool = λ t. has_corner v t && not (has_corner p t) in
                let there : list_any g N ≡ true = z.2.any g (and_from (has_corner v z.0) (not (has_corner p z.0)) at_v (not_from_false (has_corner p z.0) off_p)) in
                let before : list_any (λ s. is_whole (replaced_in u w s) && g (replaced_in u w s)) M ≡ true =
                sym (list_any-filter_map g is_whole (replaced_in u w) M) ∙ there in
                let x = found (λ s. is_whole (replaced_in u w s) && g (replaced_in u w s)) M before in
                let k = and_parts (is_whole (replaced_in u w x.0)) (g (replaced_in u w x.0)) x.1 in
                let l = and_parts (has_corner v (replaced_in u w x.0)) (not (has_corner p (replaced_in u w x.0))) k.1 in
                elim (cases_Bool (has_corner v x.0)) [
                  | inl at ↦
                      let p_at : has_corner p x.0 ≡ true = with_p x.0 x.2 at in
                      let u_off : has_corner u x.0 ≡ false = not_both M p u x.0 L.apart x.2 p_at in
                      let back : has_corner p (replaced_in u w x.0) ≡ true = ap (has_corner p) (replaced_off u w x.0 u_off) ∙ p_at in
                      absurd (true≢false (sym back ∙ not-true (has_corner p (replaced_in u w x.0)) l.1))
                  | inr at ↦ absurd (true≢false (sym l.0 ∙ corner_off u w v x.0 v_off at))
                ]
          ]
    ]

-- a pair that is legal after the collapse was legal before it
pub legal_before : (M : Mesh) (u w p q : Point) → LeavesStar M u w p → is_legal (image M u w) p q ≡ true → is_legal M p q ≡ true
legal_before M u w p q L h =
    let N = image M u w in
    let a = and_parts (not (is_outer N p)) _ h in
    let b = and_parts (are_neighbours N p q) _ a.1 in
    let n = and_parts (not (point_eq p q)) _ b.0 in
    let side : Tri → Bool = λ t. not (has_corner p t) || (not (is_whole (replaced_in p q t)) || keeps_side t (replaced_in p q t)) in
    let c = and_parts (list_all side N) _ b.1 in
    let on : (t : Tri) → has_corner p t ≡ false → side t ≡ true = λ t k. or_left (not (has_corner p t)) _ (not_from_false (has_corner p t) k) in
    let inner : not (is_outer M p) ≡ true = ap not (sym (outer_kept M u w p L.inner L.differ)) ∙ a.0 in
    let shared : list_any (λ t. has_corner p t && has_corner q t) M ≡ true = sym (share_kept M u w p q L.whole L.away L.apart) ∙ n.1 in
    let sides : list_all side M ≡ true =
    sym (all_by_star side p M on) ∙ ap (list_all side) (sym (star_kept M u w p L.whole L.away L.apart)) ∙ all_by_star side p N on ∙ c.0 in
    let stay : list_all (λ v. point_eq v p || has_vertex (image M p q) v) (corners_of M) ≡ true =
    all_corners (λ v. point_eq v p || has_vertex (image M p q) v) M (λ v here. elim (cases_Bool (point_eq v p)) [
      | inl e ↦ or_left (point_eq v p) _ e
      | inr e ↦ or_right (point_eq v p) _ (vertex_stays M u w p q v L (λ x k. at_vertex (λ y. point_eq y p || has_vertex (image N p q) y) N x c.1 k) here e)
    ]) in
    and_from (not (is_outer M p)) _ inner
    (and_from (are_neighbours M p q) _ (and_from (not (point_eq p q)) _ n.0 shared) (and_from (list_all side M) _ sides stay))
