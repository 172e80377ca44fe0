-- Steps from element to element.
use Rattle.std.proofs.Common.{◌≡◌, ◌⊎◌, inl, inr, ℕ, suc, ◌+◌, ◌<◌, ◌≤◌, List, [], ◌∷◌, ◌++◌, length, get_or, drop, refl, sym, ◌∙◌, ap, subst, arith}
use Rattle.std.proofs.lemmas.List.{append-nil, drop_more, drop_all}
use Rattle.std.proofs.lemmas.List.Elements.{All-head, All-tail, All-nil}
use Rattle.std.specs.Prelude.{All, Result, Ok}
use Rattle.std.specs.Option.{option_map, ForSome}
use Rattle.std.specs.declared.option.Option.{Option}
use Rattle.std.specs.declared.option.Option.TheVariants.{None, Some}
use Rattle.tpz_base.specs.Texts.{Bytes, Face}
use Rattle.ply_head.specs.declared.element.Element.{Element}
use Rattle.ply_head.specs.Heads.{IsSkipped, IsOther, IsFaceElement, IsSmall}
use Rattle.ply_body.specs.declared.fault.BodyFault.{BodyFault}
use Rattle.ply_body.specs.declared.fault.BodyFault.TheVariants.{InputFault, WorkFault, WorkDamage}
use Rattle.ply_body.specs.declared.fault.BodyFault.TheVariants as fault
use Rattle.ply_body.specs.declared.polygon.Corners.{Corners}
use Rattle.ply_body.specs.declared.place.Place.{Place}
use Rattle.ply_body.specs.Items.{Items, ItemPlace, items_told}
use Rattle.ply_body.specs.Bodies.{Setting, row_count}
use Rattle.ply_body.specs.Readings.{coming, with_faces, IsRest}
use Rattle.ply_body.specs.Places.{begun, coming_of, current, cursor_at, cursor_of, faces_of, polygon_of, tally, Fails, Goes, IsBefore, IsBehind, IsCounted, IsEnded, IsPlaced, IsRowLayout, IsWorkReason, Moves, Walks, WalkEnds, WalkFails}
use Rattle.ply_body.proofs.Beginnings.{begin_other, begin_face}
use Rattle.ply_body.proofs.Binds.{map_same, later_reason, told_both, told_none}
use Rattle.ply_body.proofs.Coming.{at_end}

-- A step in an element is a step in the elements.
pub walks : {v : ℕ} {p p' : Place} {i i' : ItemPlace} {l l' : Option Bytes} {fs : List Face} (es : List Element)
    → Moves v (current p.next es) p i l p' i' l' fs → p'.next ≡ p.next → Walks v es p i l p' i' l' fs
walks {v} {p} {p'} {i} {i'} {l} {l'} {fs} es moves same = record {
  told = λ s is.
      subst (λ (n : ℕ). coming_of s es p i l ≡ option_map (with_faces fs) (option_map (coming s (cursor_at p' (current n es) (drop n es))) (items_told i' l')))
      (sym same) (moves.told s (drop p.next es) is);
}

pub walk_fails : {v : ℕ} {p : Place} {i : ItemPlace} {l : Option Bytes} {before now : ℕ} {f : BodyFault} (es : List Element)
    → Fails v (current p.next es) p i l before now f → WalkFails v es p i l before now f
walk_fails {p = p} es fails = record { reason = λ s is. fails.reason s (drop p.next es) is }

pub stay : (v : ℕ) (es : List Element) (p : Place) (i : ItemPlace) (l : Option Bytes) → Walks v es p i l p i l []
stay v es p i l = record { told = λ s is. sym (told_none (coming_of s es p i l)) }

pub then_walks : {v : ℕ} {es : List Element} {p p1 p2 : Place} {i i1 i2 : ItemPlace} {l l1 l2 : Option Bytes} {fs : List Face}
    → Walks v es p i l p1 i1 l1 [] → Walks v es p1 i1 l1 p2 i2 l2 fs → Walks v es p i l p2 i2 l2 fs
then_walks {fs = fs} a b = record { told = λ s is. told_both [] fs _ _ _ (a.told s is) (b.told s is) }

pub then_walk_fails : {v : ℕ} {es : List Element} {p p1 : Place} {i i1 : ItemPlace} {l l1 : Option Bytes} {fs : List Face} {before mid now : ℕ} {f : BodyFault}
    → Walks v es p i l p1 i1 l1 fs → before ≤ mid → WalkFails v es p1 i1 l1 mid now f → WalkFails v es p i l before now f
then_walk_fails {fs = fs} {before = before} {mid = mid} {now = now} {f = f} a le b =
    record { reason = λ s is. later_reason _ _ fs before mid now f (a.told s is) le (b.reason s is) }

-- the place after a step in an element
pub placed_after : {v : ℕ} {p p' : Place} {found : Option Corners} (es : List Element) → IsPlaced v es p → Goes v p p' found → IsBehind (current p.next es) p' → p'.left ≤ p.left
    → (found ≡ None → p'.polygon.left ≡ 0) → ((0 < p.left → All IsSkipped (current p.next es)) → p.polygon.left ≡ 0 → found ≡ None) → IsPlaced v es p'
placed_after {v} {p} {p'} {found} es it goes behind less ended plain = record {
  counted = goes.counted;
  corners = goes.corners;
  behind = subst (λ (n : ℕ). IsBehind (current n es) p') (sym goes.next) behind;
  layout = λ h. subst (λ (n : ℕ). IsRowLayout (current n es)) (sym goes.next) (it.layout (omega (arith, less)));
  next = omega (arith, goes.next, it.next);
  order = by_order it.order;
} where
  by_order : IsBefore es p ⊎ All IsOther (drop p.next es) → IsBefore es p' ⊎ All IsOther (drop p'.next es)
  by_order (inr other) = inr (subst (λ (n : ℕ). All IsOther (drop n es)) (sym goes.next) other)
  by_order (inl before) =
      let none : found ≡ None = plain before.plain before.polygon in
      let same : length (faces_of found) ≡ 0 = rw none refl in
      inl (record {
        rest = subst (λ (n : ℕ). IsRest (drop n es)) (sym goes.next) before.rest;
        tally = omega (arith, goes.tally, same, before.tally);
        polygon = ended none;
        plain = λ h. subst (λ (n : ℕ). All IsSkipped (current n es)) (sym goes.next) (before.plain (omega (arith, less)));
      })

-- Behind the used vertex element the next element isn't used and the used face element follows, or it is that element.
next_kind : (el : Element) (es between : List Element) (face : Element) (behind : List Element) → el ∷ es ≡ between ++ face ∷ behind
    → All IsOther between → IsFaceElement face → All IsOther behind → (IsOther el × IsRest es) ⊎ (IsFaceElement el × All IsOther es)
next_kind el es [] face behind is between_other face_used behind_other =
    let e : el ≡ face = cc in
    let e' : es ≡ behind = cc in
    inr (subst IsFaceElement (sym e) face_used, subst (λ (xs : List Element). All IsOther xs) (sym e') behind_other)
next_kind el es (b ∷ bs) face behind is between_other face_used behind_other =
    let e : el ≡ b = cc in
    let e' : es ≡ bs ++ face ∷ behind = cc in
    inl (
      subst IsOther (sym e) (All-head IsOther b bs between_other),
      record { between = bs; face = face; behind = behind; order = e'; between_other = All-tail IsOther b bs between_other; face_used = face_used; behind_other = behind_other },
    )

-- an element that begins
pub record Begins (v : ℕ) (es : List Element) (p : Place) (el : Element) : Type 0 where
  pub placed : IsPlaced v es (begun p el)
  pub walks : (i : ItemPlace) (l : Option Bytes) → Walks v es p i l (begun p el) i l []

few_rows : (el : Element) → el.count ≤ 2147483648 → 0 + row_count el ≤ 2147483648
few_rows el few = grind arith

current_more : (n : ℕ) (es : List Element) (el : Element) → n < length es → el ≡ get_or es n el → current (n + 1) es ≡ el.properties
current_more n es el h is =
    let e : n + 1 ≡ suc n = omega arith in
    let e' : drop n es ≡ el ∷ drop (n + 1) es = drop_more es n el h ∙ ap (λ (x : Element). x ∷ drop (n + 1) es) (sym is) in
    rw (e, e') refl

module _ (v : ℕ) (es : List Element) (p : Place) (el : Element) (small : IsSmall es) (it : IsPlaced v es p) (ended : IsEnded p) (done : p.left ≡ 0)
    (h : p.next < length es) (is : el ≡ get_or es p.next el) where
  here : drop p.next es ≡ el ∷ drop (p.next + 1) es
  here = drop_more es p.next el h ∙ ap (λ (x : Element). x ∷ drop (p.next + 1) es) (sym is)

  its : current (p.next + 1) es ≡ el.properties
  its = current_more p.next es el h is

  rows_few : el.count ≤ 2147483648
  rows_few = rw is (small.rows p.next el h)

  begun_counted : IsCounted (begun p el)
  begun_counted = record { next = omega (arith, small.few); rows = few_rows el rows_few; corners = omega arith; few = omega (arith, it.counted.few) }

  begins_so : IsRowLayout el.properties → IsBefore es (begun p el) ⊎ All IsOther (drop (p.next + 1) es)
      → ((s : Setting) (items : Items) → coming s (cursor_of p es) items ≡ coming s (cursor_of (begun p el) es) items) → Begins v es p el
  begins_so layout order same = record {
    placed = record {
      counted = begun_counted;
      corners = λ none. absurd (omega (arith, none));
      behind = record { skipped = All-nil IsSkipped; reach = tt };
      layout = λ some. rw its layout;
      next = omega arith;
      order = order;
    };
    walks = λ i l. record { told = λ s vertices. map_same (coming s (cursor_of p es)) (coming s (cursor_of (begun p el) es)) (items_told i l) (same s) };
  }

  begins_other : IsOther el → IsBefore es (begun p el) ⊎ All IsOther (drop (p.next + 1) es) → Begins v es p el
  begins_other other order = begins_so (inl other.properties) order
      (λ s items. rw (ended.behind, done, here, its)
      (begin_other s (polygon_of p.polygon) (polygon_of (begun p el).polygon) (current p.next es) p.row p.formed (tally p) p.next el (drop (p.next + 1) es) items
      ended.polygon refl refl other))

  begins_face : IsFaceElement el → All IsOther (drop (p.next + 1) es) → tally p ≡ 0 → Begins v es p el
  begins_face face other none = begins_so
      (inr (record {
        before = face.front;
        indices = face.indices;
        behind = face.behind;
        properties = face.properties;
        before_skipped = face.front_skipped;
        behind_skipped = face.behind_skipped;
        role = face.role;
        list = face.list;
      }))
      (inr other)
      (λ s items. rw (ended.behind, done, here, its)
      (begin_face s (polygon_of p.polygon) (polygon_of (begun p el).polygon) (current p.next es) p.row p.formed (tally p) p.next el (drop (p.next + 1) es) items
      ended.polygon refl refl face other none))

  pub begins : Begins v es p el
  begins = by_order it.order where
    by_order : IsBefore es p ⊎ All IsOther (drop p.next es) → Begins v es p el
    by_order (inr other) =
        let all : All IsOther (el ∷ drop (p.next + 1) es) = rw here at other in
        begins_other (All-head IsOther el (drop (p.next + 1) es) all) (inr (All-tail IsOther el (drop (p.next + 1) es) all))
    by_order (inl before) = by_kind (next_kind el (drop (p.next + 1) es) before.rest.between before.rest.face before.rest.behind (sym here ∙ before.rest.order)
        before.rest.between_other before.rest.face_used before.rest.behind_other) where
          by_kind : (IsOther el × IsRest (drop (p.next + 1) es)) ⊎ (IsFaceElement el × All IsOther (drop (p.next + 1) es)) → Begins v es p el
          by_kind (inl k) = begins_other k.0 (inl (record { rest = k.1; tally = omega (arith, before.tally); polygon = refl; plain = λ some. rw its k.0.properties }))
          by_kind (inr k) = begins_face k.0 k.1 before.tally

-- at the end no face comes
pub walks_out : (v : ℕ) (es : List Element) (p : Place) (i : ItemPlace) (l : Option Bytes) → IsEnded p → p.left ≡ 0 → p.next ≡ length es → WalkEnds v es p i l []
walks_out v es p i l ended done at = record { told = λ s is. by_items s (items_told i l) } where
  by_items : (s : Setting) (o : Option Items) → ForSome (option_map (coming s (cursor_of p es)) o) (λ r. r ≡ Ok [])
  by_items s None r told = absurd (cc)
  by_items s (Some items) r told =
      let none : drop p.next es ≡ [] = drop_all p.next es (omega arith) in
      let e : coming s (cursor_of p es) items ≡ Ok [] = rw (ended.behind, done, none) (at_end s (polygon_of p.polygon) (current p.next es) p.row p.formed p.next items ended.polygon) in
      cc

-- none from an earlier place either
pub then_walks_out : {v : ℕ} {es : List Element} {p p1 : Place} {i i1 : ItemPlace} {l l1 : Option Bytes}
    → Walks v es p i l p1 i1 l1 [] → WalkEnds v es p1 i1 l1 [] → WalkEnds v es p i l []
then_walks_out {p1 = p1} {i1 = i1} {l1 = l1} a b = record { told = λ s is. none_before _ (coming_of s _ p1 i1 l1) (a.told s is) (b.told s is) } where
  none_before : (x y : Option (Result (List Face) BodyFault)) → x ≡ option_map (with_faces []) y → ForSome y (λ r. r ≡ Ok []) → ForSome x (λ r. r ≡ Ok [])
  none_before x None e h r told = absurd (cc)
  none_before x (Some y) e h r told =
      let k : y ≡ Ok [] = h y refl in
      let k' : with_faces [] y ≡ Ok [] = rw k refl in
      cc

pub both_walks : {v : ℕ} {es : List Element} {p p1 p2 : Place} {i i1 i2 : ItemPlace} {l l1 l2 : Option Bytes} {fs gs : List Face}
    → Walks v es p i l p1 i1 l1 fs → Walks v es p1 i1 l1 p2 i2 l2 gs → Walks v es p i l p2 i2 l2 (fs ++ gs)
both_walks {fs = fs} {gs = gs} a b = record { told = λ s is. told_both fs gs _ _ _ (a.told s is) (b.told s is) }

-- the faces that were passed over, where no other comes
pub walk_ends : {v : ℕ} {es : List Element} {p p1 : Place} {i i1 : ItemPlace} {l l1 : Option Bytes} {fs : List Face}
    → Walks v es p i l p1 i1 l1 fs → WalkEnds v es p1 i1 l1 [] → WalkEnds v es p i l fs
walk_ends {es = es} {p1 = p1} {i1 = i1} {l1 = l1} {fs = fs} a b = record { told = λ s is. ends _ (coming_of s es p1 i1 l1) (a.told s is) (b.told s is) } where
  ends : (x y : Option (Result (List Face) BodyFault)) → x ≡ option_map (with_faces fs) y → ForSome y (λ r. r ≡ Ok []) → ForSome x (λ r. r ≡ Ok fs)
  ends x None e h r told = absurd (cc)
  ends x (Some y) e h r told =
      let k : y ≡ Ok [] = h y refl in
      let k' : with_faces fs y ≡ Ok fs = rw (k, append-nil fs) refl in
      cc

pub later_work : (held held' : Option Bytes) (before mid now : ℕ) (f : BodyFault) → held' ≡ held → before ≤ mid → IsWorkReason held' mid now f → IsWorkReason held before now f
later_work held held' before mid now WorkFault same le h = omega arith
later_work held held' before mid now (WorkDamage offset) same le h = sym same ∙ h
later_work held held' before mid now InputFault same le h = h
later_work held held' before mid now (fault.Short e r) same le h = h
later_work held held' before mid now (fault.Number e r) same le h = h
later_work held held' before mid now (fault.Range e r) same le h = h
later_work held held' before mid now (fault.BadIndex e r i) same le h = h
later_work held held' before mid now (fault.Extent x y z) same le h = h
later_work held held' before mid now (fault.TooManyTris e r) same le h = h
later_work held held' before mid now (fault.TooLong e r) same le h = h
