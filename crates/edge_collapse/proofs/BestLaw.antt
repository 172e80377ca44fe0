-- One more corner of a star is covered, and where all are, each legal pair is.
use Rattle.std.proofs.Common.{◌≡◌, ℕ, ◌+◌, ◌<◌, Bool, true, not, ◌||◌, List, [], ◌∷◌, map, take, get_or, length, refl, sym, ◌∙◌, ap, inl, inr, true≢false, Option}
use Rattle.std.specs.Prelude.{filter, All}
use Rattle.std.specs.List.{list_all}
use Rattle.std.proofs.lemmas.Bool.{cases_Bool, and_from, or_left, or_right, or_cases, not_from_false, not-true}
use Rattle.std.proofs.lemmas.List.Folds.{list_all_more}
use Rattle.std.proofs.lemmas.List.Elements.{All-head, All-tail}
use Rattle.tpz_base.specs.declared.shape.Point.{Point}
use Rattle.tpz_base.specs.Lists.{has}
use Rattle.tpz_base.specs.Points.{point_eq}
use Rattle.tpz_base.specs.Meshes.{Mesh, is_whole, has_corner}
use Rattle.tpz_base.specs.Collapses.{CollapseKey, is_legal, key_of, opposite_edge}
use Rattle.patch_mesh.specs.Shops.{IsPlain}
use Rattle.edge_collapse.specs.declared.keys.Key.{Key}
use Rattle.edge_collapse.specs.declared.star.StarFace.{StarFace}
use Rattle.edge_collapse.specs.Feeds.{is_covered, Covers}
use Rattle.edge_collapse.specs.Sweeps.{star_face}
use Rattle.edge_collapse.proofs.StarLaw.{all_weaker, at_follower, followers_are}
use Rattle.edge_collapse.proofs.FedAfter.{follows_legal}

-- the pair from p to q is covered, where it is legal
abbrev pub counted : Mesh → Point → Option Key → Point → Bool
counted M p best q = not (is_legal M p q) || is_covered best (key_of M (p, q))

here_counted : (M : Mesh) (p q : Point) (best : Option Key) → (is_legal M p q ≡ true → is_covered best (key_of M (p, q)) ≡ true) → counted M p best q ≡ true
here_counted M p q best h =
    elim (cases_Bool (is_legal M p q)) [
      | inl e ↦ or_right (not (is_legal M p q)) _ (h e)
      | inr e ↦ or_left (not (is_legal M p q)) _ (not_from_false (is_legal M p q) e)
    ]

kept_counted : (M : Mesh) (p q : Point) (b b' : Option Key) → ((c : CollapseKey) → is_covered b c ≡ true → is_covered b' c ≡ true) → counted M p b q ≡ true → counted M p b' q ≡ true
kept_counted M p q b b' kept h =
    elim (or_cases (not (is_legal M p q)) (is_covered b (key_of M (p, q))) h) [
      | inl e ↦ or_left (not (is_legal M p q)) _ e
      | inr e ↦ or_right (not (is_legal M p q)) _ (kept (key_of M (p, q)) e)
    ]

pub covered_more : (M : Mesh) (p : Point) (b b' : Option Key) (fs : List StarFace) (i : ℕ) (d : StarFace) → i < length fs
    → ((c : CollapseKey) → is_covered b c ≡ true → is_covered b' c ≡ true)
    → (is_legal M p (get_or fs i d).next ≡ true → is_covered b' (key_of M (p, (get_or fs i d).next)) ≡ true)
    → list_all (λ (x : StarFace). counted M p b x.next) (take i fs) ≡ true → list_all (λ (x : StarFace). counted M p b' x.next) (take (i + 1) fs) ≡ true
covered_more M p b b' fs i d h kept here so_far =
    list_all_more (λ (x : StarFace). counted M p b' x.next) fs i d h
    ∙ and_from (list_all (λ (x : StarFace). counted M p b' x.next) (take i fs)) (counted M p b' (get_or fs i d).next)
    (all_weaker (λ (x : StarFace). counted M p b x.next) (λ (x : StarFace). counted M p b' x.next) (λ x k. kept_counted M p x.next b b' kept k) (take i fs) so_far)
    (here_counted M p (get_or fs i d).next b' here)

-- plain triangles are whole
pub plain_whole : (M : Mesh) → All IsPlain M → list_all is_whole M ≡ true
plain_whole [] all = refl
plain_whole (t ∷ M) all = and_from (is_whole t) (list_all is_whole M) (All-head IsPlain t M all).whole (plain_whole M (All-tail IsPlain t M all))

pub all_covered : (M : Mesh) (p : Point) (best : Option Key) (fs : List StarFace) → All IsPlain M → fs ≡ map (star_face p) (filter (has_corner p) M)
    → list_all (λ (x : StarFace). counted M p best x.next) fs ≡ true → Covers M p best
all_covered M p best fs plain is all = record {
  pair = λ w legal.
      let there : has point_eq (map (λ t. (opposite_edge p t).0) (filter (has_corner p) M)) w ≡ true =
      ap (λ ps. has point_eq ps w) (followers_are p M) ∙ follows_legal M p w (plain_whole M plain) legal in
      let ok : counted M p best w ≡ true =
      at_follower (counted M p best) p w (filter (has_corner p) M) (ap (list_all (λ (x : StarFace). counted M p best x.next)) (sym is) ∙ all) there in
      elim (or_cases (not (is_legal M p w)) (is_covered best (key_of M (p, w))) ok) [
        | inl e ↦ absurd (true≢false (sym legal ∙ not-true (is_legal M p w) e))
        | inr e ↦ e
      ];
}
