-- The elements up to the used vertex element, and what stands behind it.
use Rattle.std.proofs.Common.{◌≡◌, ◌≢◌, ℕ, suc, ◌+◌, ◌<◌, ◌≤◌, List, [], ◌∷◌, ◌++◌, length, map, drop, take, get_or, refl, sym, ◌∙◌, ap, subst, arith, append_assoc, inl, inr}
use Rattle.std.specs.Prelude.{All, Bool, true, false, nat_lt, Result, Ok, Err}
use Rattle.std.specs.Option.{ForSome, option_map}
use Rattle.std.specs.declared.option.Option.{Option}
use Rattle.std.specs.declared.option.Option.TheVariants.{None, Some}
use Rattle.std.proofs.lemmas.Bool.{ltb-true, ltb-false}
use Rattle.std.proofs.lemmas.List.{drop-drop, drop_at, drop_more, drop_all, get_or-take, get_or_at, length-append, length-take, take_at, take-append-drop, append-nil}
use Rattle.std.proofs.lemmas.List.Elements.{recursion_from_All}
use Rattle.std.specs.List.{AllByRecursion}
use Rattle.tpz_base.specs.Cubes.{Row}
use Rattle.tpz_base.specs.Texts.{Face}
use Rattle.ply_head.specs.declared.element.Used.{Used}
use Rattle.ply_head.specs.declared.element.Used.TheVariants.{Vertex, Face as FaceUse, Other}
use Rattle.ply_head.specs.declared.element.Element.{Element}
use Rattle.ply_head.specs.Heads.{IsLaidOut, IsOther, IsVertexElement}
use Rattle.ply_body.specs.declared.fault.BodyFault.{BodyFault}
use Rattle.ply_body.specs.Items.{◌>>=◌, Items}
use Rattle.ply_body.specs.Bodies.{Setting, RowItems, Input, no_input, fans, rows, row_count, spots, too_wide, unless_fault, with_rows, elements}
use Rattle.ply_body.specs.Inputs.{setting_of}
use Rattle.ply_body.specs.VertexRows.{setting, used_row, IsVertexAt, PassesElements, RefusesElements, RefusesRows, RefusesVertex, TakesRows}
use Rattle.ply_body.specs.Readings.{faces_from, IsRest, with_spots}
use Rattle.ply_body.proofs.Taking.{chain, refused_behind, refused_first}

one_passed : (digits vertices e : ℕ) (el : Element) (els : List Element) (old new : Option Items) (rs : List Row) → el.used ≡ Other
    → TakesRows digits e el old rs new
    → option_map (elements (setting digits vertices) e (el ∷ els) no_input) old ≡ option_map (elements (setting digits vertices) (suc e) els no_input) new
one_passed digits vertices e el els old new rs other taken = let s = setting digits vertices in
    chain (rows s e el.properties 0 0 (row_count el)) (λ us. with_rows el.used us.0 no_input >>= λ next. elements s (suc e) els next us.1) old new (map used_row rs) (taken vertices)
    ∙ ap (λ (used : Used). option_map (λ items. with_rows used (map used_row rs) no_input >>= λ next. elements s (suc e) els next items) new) other

-- the element at a place, and those behind it
drop_is : (es : List Element) (k : ℕ) (el : Element) → k < length es → el ≡ get_or es k el → drop k es ≡ el ∷ drop (k + 1) es
drop_is es k el below is = drop_more es k el below ∙ ap (λ (e : Element). e ∷ drop (k + 1) es) (sym is)

pub element_passed : (digits vertices k : ℕ) (es behind : List Element) (el : Element) (old new : Option Items) (rs : List Row) → k < length es
    → el ≡ get_or es k el → el.used ≡ Other → TakesRows digits k el old rs new
    → option_map (elements (setting digits vertices) k (drop k es ++ behind) no_input) old
    ≡ option_map (elements (setting digits vertices) (k + 1) (drop (k + 1) es ++ behind) no_input) new
element_passed digits vertices k es behind el old new rs below is other taken = let s = setting digits vertices in
    let next : suc k ≡ k + 1 = omega arith in
    ap (λ (l : List Element). option_map (elements s k (l ++ behind) no_input) old) (drop_is es k el below is)
    ∙ one_passed digits vertices k el (drop (k + 1) es ++ behind) old new rs other taken
    ∙ ap (λ (m : ℕ). option_map (elements s m (drop (k + 1) es ++ behind) no_input) new) next

pub element_refused : (digits vertices k : ℕ) (es behind : List Element) (el : Element) (old : Option Items) (f : BodyFault) → k < length es
    → el ≡ get_or es k el → RefusesRows digits k el old f → ForSome old (λ items. elements (setting digits vertices) k (drop k es ++ behind) no_input items ≡ Err f)
element_refused digits vertices k es behind el old f below is refused = let s = setting digits vertices in
    subst (λ (l : List Element). ForSome old (λ items. elements s k (l ++ behind) no_input items ≡ Err f)) (sym (drop_is es k el below is))
    (refused_first (rows s k el.properties 0 0 (row_count el)) (λ us. with_rows el.used us.0 no_input >>= λ next. elements s (suc k) (drop (k + 1) es ++ behind) next us.1) old f (refused vertices))

pub elements_end : (s : Setting) (k : ℕ) (es behind : List Element) (now : Option Items) → length es ≤ k → k ≡ length es
    → option_map (elements s k (drop k es ++ behind) no_input) now ≡ option_map (elements s (length es) behind no_input) now
elements_end s k es behind now past is =
    ap (λ (l : List Element). option_map (elements s k (l ++ behind) no_input) now) (drop_all k es past)
    ∙ ap (λ (m : ℕ). option_map (elements s m behind no_input) now) is

-- Where the used vertex element is.

vertex_at : (es : List Element) (lay : IsLaidOut es) → IsVertexAt (length lay.before) es
vertex_at es lay =
    let behind = lay.between ++ lay.face ∷ lay.behind in
    let n = length lay.before in
    let order : es ≡ lay.before ++ lay.vertex ∷ behind = lay.order ∙ append_assoc lay.before (lay.vertex ∷ lay.between) (lay.face ∷ lay.behind) in
    let whole = sym order in
    record {
      within = subst (λ (l : List Element). n < length l) whole (simp length-append (omega arith));
      before_other = subst (λ (l : List Element). All IsOther l) (sym (ap (take n) order ∙ take_at lay.before (lay.vertex ∷ behind) n refl)) lay.before_other;
      vertex = λ d. subst IsVertexElement (sym (ap (λ (l : List Element). get_or l n d) order ∙ get_or_at lay.before lay.vertex behind d n refl)) lay.vertex_used;
      rest = record {
        between = lay.between;
        face = lay.face;
        behind = lay.behind;
        order = ap (drop (n + 1)) order ∙ behind_one lay.before lay.vertex behind;
        between_other = lay.between_other;
        face_used = lay.face_used;
        behind_other = lay.behind_other;
      };
    }
  where
    behind_one : (front : List Element) (v : Element) (rest : List Element) → drop (length front + 1) (front ++ v ∷ rest) ≡ rest
    behind_one front v rest = sym (drop-drop 1 (length front) (front ++ v ∷ rest)) ∙ ap (drop 1) (drop_at front (v ∷ rest) (length front) refl)

other_before : (es : List Element) (n k : ℕ) (d : Element) → k < n → k < length es → All IsOther (take n es) → IsOther (get_or es k d)
other_before es n k d below within all =
    subst IsOther (get_or-take n es k d below) (all k d (simp length-take (omega arith)))

pub first_vertex : (es : List Element) (n : ℕ) (d : Element) → IsLaidOut es → n < length es → (get_or es n d).used ≡ Vertex
    → ((k : ℕ) (e : Element) → k < n → (get_or es k e).used ≢ Vertex) → IsVertexAt n es
first_vertex es n d lay within is none =
    let at = vertex_at es lay in
    let here : n ≡ length lay.before = eq_by n (length lay.before)
    (λ below. let other = other_before es (length lay.before) n d below within at.before_other in absurd (different (sym is ∙ other.used)))
    (λ above. none (length lay.before) d above (at.vertex d).used) in
    subst (λ (m : ℕ). IsVertexAt m es) (sym here) at
  where
    different : Vertex ≡ Other → ⊥
    different e = cc

    eq_by : (m k : ℕ) → (m < k → ⊥) → (k < m → ⊥) → m ≡ k
    eq_by m k no_less no_more = go (nat_lt m k) (nat_lt k m) refl refl
      where
        go : (a b : Bool) → nat_lt m k ≡ a → nat_lt k m ≡ b → m ≡ k
        go true b less more = absurd (no_less (ltb-true m k less))
        go false true less more = absurd (no_more (ltb-true k m more))
        go false false less more = omega (arith, ltb-false m k less, ltb-false k m more)

pub no_vertex : (es : List Element) (n : ℕ) → IsLaidOut es → length es ≤ n → ((k : ℕ) (e : Element) → k < n → (get_or es k e).used ≢ Vertex) → ⊥
no_vertex es n lay past none =
    let at = vertex_at es lay in
    none (length lay.before) lay.vertex (omega (arith, at.within)) (at.vertex lay.vertex).used

-- The used vertex element, and the elements behind it.

-- none of the elements is a used vertex element
abbrev HasNoVertex : List Element → Type 0
HasNoVertex [] = Unit {0}
HasNoVertex (e ∷ es) = (e.used ≢ Vertex) × HasNoVertex es

none_in_front : (es rest : List Element) → AllByRecursion IsOther es → HasNoVertex rest → HasNoVertex (es ++ rest)
none_in_front [] rest others none = none
none_in_front (e ∷ es) rest others none = ((λ is. let both = sym others.0.used ∙ is in different both), none_in_front es rest others.1 none)
  where
    different : Other ≡ Vertex → ⊥
    different e = cc

none_behind : (es : List Element) → IsRest es → HasNoVertex es
none_behind es rest =
    let behind = none_in_front rest.behind [] (recursion_from_All IsOther rest.behind rest.behind_other) (record {}) in
    let all = none_in_front rest.between (rest.face ∷ (rest.behind ++ [])) (recursion_from_All IsOther rest.between rest.between_other) (face_is, behind) in
    subst HasNoVertex (sym (rest.order ∙ ap (λ (l : List Element). rest.between ++ rest.face ∷ l) (sym (append-nil rest.behind)))) all
  where
    different : FaceUse ≡ Vertex → ⊥
    different e = cc

    face_is : rest.face.used ≢ Vertex
    face_is is = let both = sym rest.face_used.used ∙ is in different both

-- the rows of an input stay where no vertex element follows
rows_stay : (s : Setting) (e : ℕ) (els : List Element) (rs : List Row) (fs : List Face) (items : Items) → HasNoVertex els
    → elements s e els (record { rows = rs; faces = fs }) items ≡ with_spots rs (elements s e els (record { rows = []; faces = fs }) items >>= λ input. Ok input.faces)
rows_stay s e [] rs fs items none = refl
rows_stay s e (el ∷ els) rs fs items none =
    go (rows s e el.properties 0 0 (row_count el) items) el.used none.0 (λ gs rest. rows_stay s (suc e) els rs gs rest none.1)
  where
    go : (r : Result (List RowItems × Items) BodyFault) (used : Used) → used ≢ Vertex
        → ((gs : List Face) (rest : Items) → elements s (suc e) els (record { rows = rs; faces = gs }) rest
        ≡ with_spots rs (elements s (suc e) els (record { rows = []; faces = gs }) rest >>= λ input. Ok input.faces))
        → (r >>= λ us. with_rows used us.0 (record { rows = rs; faces = fs }) >>= λ next. elements s (suc e) els next us.1)
        ≡ with_spots rs ((r >>= λ us. with_rows used us.0 (record { rows = []; faces = fs }) >>= λ next. elements s (suc e) els next us.1) >>= λ input. Ok input.faces)
    go (Err f) used apart same = refl
    go (Ok us) Vertex apart same = absurd (apart refl)
    go (Ok us) FaceUse apart same = same (fans us.0) us.1
    go (Ok us) Other apart same = same fs us.1

spots_used : (rs : List Row) → spots (map used_row rs) ≡ rs
spots_used [] = refl
spots_used (r ∷ rs) = ap (λ (l : List Row). r ∷ l) (spots_used rs)

-- two meanings of what is told that are the same for all items
same_meaning : {A : Type 0} (f g : Items → A) (told : Option Items) → ((items : Items) → f items ≡ g items) → option_map f told ≡ option_map g told
same_meaning f g None same = refl
same_meaning f g (Some items) same = ap Some (same items)

-- behind the rows of the used vertex element
abbrev behind_vertex : Setting → ℕ → List Element → List Row → Items → Result Input BodyFault
behind_vertex s e els rs items = unless_fault (too_wide rs) (record { rows = rs; faces = [] }) >>= λ next. elements s (suc e) els next items

vertex_read : (digits vertices e : ℕ) (el : Element) (els : List Element) (mid new : Option Items) (rs : List Row) → el.used ≡ Vertex
    → TakesRows digits e el mid rs new
    → option_map (elements (setting digits vertices) e (el ∷ els) no_input) mid ≡ option_map (behind_vertex (setting digits vertices) e els rs) new
vertex_read digits vertices e el els mid new rs used taken = let s = setting digits vertices in
    chain (rows s e el.properties 0 0 (row_count el)) (λ us. with_rows el.used us.0 no_input >>= λ next. elements s (suc e) els next us.1) mid new (map used_row rs) (taken vertices)
    ∙ ap (λ (used : Used). option_map (λ items. with_rows used (map used_row rs) no_input >>= λ next. elements s (suc e) els next items) new) used
    ∙ ap (λ (l : List Row). option_map (behind_vertex s e els l) new) (spots_used rs)

narrow_read : (s : Setting) (e : ℕ) (els : List Element) (rs : List Row) (items : Items) → HasNoVertex els → too_wide rs ≡ None
    → behind_vertex s e els rs items ≡ with_spots rs (faces_from s (suc e) els items)
narrow_read s e els rs items none narrow =
    ap (λ (wide : Option BodyFault). unless_fault wide (record { rows = rs; faces = [] }) >>= λ next. elements s (suc e) els next items) narrow
    ∙ rows_stay s (suc e) els rs [] items none

-- what is known once the elements before the used vertex element are passed over
reaches : (digits vertices n : ℕ) (es : List Element) (old mid : Option Items) (el : Element) → n < length es → el ≡ get_or es n el
    → PassesElements digits (take n es) old mid
    → option_map (elements (setting digits vertices) 0 es no_input) old ≡ option_map (elements (setting digits vertices) n (el ∷ drop (n + 1) es) no_input) mid
reaches digits vertices n es old mid el within is passed = let s = setting digits vertices in
    let long : length (take n es) ≡ n = simp length-take (omega arith) in
    ap (λ (l : List Element). option_map (elements s 0 l no_input) old) (sym (take-append-drop n es))
    ∙ passed vertices (drop n es)
    ∙ ap (λ (m : ℕ). option_map (elements s m (drop n es) no_input) mid) long
    ∙ ap (λ (l : List Element). option_map (elements s n l no_input) mid) (drop_is es n el within is)

pub loaded : (digits n : ℕ) (es : List Element) (old mid new : Option Items) (el : Element) (rs : List Row) → IsVertexAt n es → el ≡ get_or es n el
    → PassesElements digits (take n es) old mid → TakesRows digits n el mid rs new → too_wide rs ≡ None
    → option_map (elements (setting_of es digits) 0 es no_input) old
    ≡ option_map (λ rest. with_spots rs (faces_from (setting_of es digits) (n + 1) (drop (n + 1) es) rest)) new
loaded digits n es old mid new el rs at is passed taken narrow =
    let s = setting_of es digits in
    let els = drop (n + 1) es in
    let used : el.used ≡ Vertex = ap (λ (e : Element). e.used) is ∙ (at.vertex el).used in
    let next : suc n ≡ n + 1 = omega arith in
    reaches digits s.vertices n es old mid el at.within is passed
    ∙ vertex_read digits s.vertices n el els mid new rs used taken
    ∙ same_meaning _ (λ rest. with_spots rs (faces_from s (suc n) els rest)) new (λ items. narrow_read s n els rs items (none_behind els at.rest) narrow)
    ∙ ap (λ (m : ℕ). option_map (λ rest. with_spots rs (faces_from s m els rest)) new) next

pub refused_before : (digits n : ℕ) (es : List Element) (old : Option Items) (f : BodyFault) → RefusesElements digits (take n es) old f
    → ForSome old (λ rest. elements (setting_of es digits) 0 es no_input rest ≡ Err f)
refused_before digits n es old f refused = let s = setting_of es digits in
    subst (λ (l : List Element). ForSome old (λ rest. elements s 0 l no_input rest ≡ Err f)) (take-append-drop n es) (refused s.vertices (drop n es))

pub vertex_refused : (digits n : ℕ) (es : List Element) (old mid new : Option Items) (el : Element) (f : BodyFault) → IsVertexAt n es → el ≡ get_or es n el
    → PassesElements digits (take n es) old mid → RefusesVertex digits n el mid new f
    → ForSome old (λ rest. elements (setting_of es digits) 0 es no_input rest ≡ Err f)
vertex_refused digits n es old mid new el f at is passed (inl refused) = let s = setting_of es digits in let els = drop (n + 1) es in
    refused_behind _ _ _ _ _ (reaches digits s.vertices n es old mid el at.within is passed)
    (refused_first (rows s n el.properties 0 0 (row_count el)) (λ us. with_rows el.used us.0 no_input >>= λ next. elements s (suc n) els next us.1) mid f (refused s.vertices))
vertex_refused digits n es old mid new el f at is passed (inr (rs, taken, wide)) = let s = setting_of es digits in let els = drop (n + 1) es in
    let used : el.used ≡ Vertex = ap (λ (e : Element). e.used) is ∙ (at.vertex el).used in
    refused_behind _ _ _ _ _ (reaches digits s.vertices n es old mid el at.within is passed ∙ vertex_read digits s.vertices n el els mid new rs used taken)
    (λ items told. ap (λ (w : Option BodyFault). unless_fault w (record { rows = rs; faces = [] }) >>= λ next. elements s (suc n) els next items) wide)
