-- What is still to come from a place in the elements, step by step.
use Rattle.std.proofs.Common.{◌≡◌, inl, inr, ℕ, zero, suc, ◌+◌, ◌-◌, true, false, List, [], ◌∷◌, ◌++◌, length, refl, sym, ◌∙◌, ap, append_assoc, arith}
use Rattle.std.proofs.lemmas.List.{append-nil}
use Rattle.std.proofs.lemmas.List.Elements.{All-nil}
use Rattle.std.specs.Prelude.{All, Result, Ok, Err}
use Rattle.std.specs.declared.option.Option.{Option}
use Rattle.std.specs.declared.option.Option.TheVariants.{None, Some}
use Rattle.tpz_base.specs.Texts.{Face}
use Rattle.ply_head.specs.declared.element.Kind.{Kind}
use Rattle.ply_head.specs.declared.element.Kind.TheVariants.{U8}
use Rattle.ply_head.specs.declared.element.Role.TheVariants.{Indices}
use Rattle.ply_head.specs.declared.element.Property.{Property}
use Rattle.ply_head.specs.declared.element.Element.{Element}
use Rattle.ply_head.specs.Heads.{IsSkipped}
use Rattle.ply_body.specs.declared.fault.Flaw.{Flaw}
use Rattle.ply_body.specs.declared.fault.Flaw.TheVariants.{TooManyTris}
use Rattle.ply_body.specs.declared.fault.BodyFault.{BodyFault}
use Rattle.ply_body.specs.Items.{◌>>=◌, unless, Items, item_as, index_of, count_of, passed}
use Rattle.ply_body.specs.Bodies.{Setting, RowItems, nothing_used, is_too_many, corners, list_of, with_properties, placed, fault_of, fan_count, rows, elements, fan, fans, no_input}
use Rattle.ply_body.specs.Readings.{Polygon, Cursor, front, coming, with_faces}
use Rattle.ply_body.specs.Places.{front_of, row_list, RowList, IsRowLayout}
use Rattle.ply_body.proofs.Binds.{bind_assoc, bind_same, bind_taken, ok_first, with_bind}
use Rattle.ply_body.proofs.Fans.{no_fan}
use Rattle.ply_body.proofs.Passing.{skips_all, both_properties, front_behind}

abbrev pub cursor : Polygon → List Property → ℕ → ℕ → ℕ → List Property → ℕ → List Element → Cursor
cursor polygon properties row left formed all next behind =
    record { polygon = polygon; properties = properties; row = row; left = left; formed = formed; all = all; next = next; behind = behind }

-- what comes behind the rows of an element, and the rows before
abbrev pub finish : Setting → ℕ → List Property → ℕ → ℕ → ℕ → ℕ → List Element → List Face → Items → Result (List Face) BodyFault
finish s e all r formed left next es fs items =
    rows s e all r formed left items >>= λ more. elements s next es no_input more.1 >>= λ others. Ok (fs ++ (fans more.0 ++ others.faces))

-- what comes behind the corners of a polygon
abbrev pub behind_corners : Setting → List Property → ℕ → ℕ → ℕ → List Property → ℕ → List Element → ℕ → List ℕ → List ℕ × Items → Result (List Face) BodyFault
behind_corners s ps row left formed all next es count fr cs =
    placed (next - 1) (row - 1) (with_properties s formed ps nothing_used cs.1)
    >>= λ after. finish s (next - 1) all row (formed + fan_count count) left next es (fan (fr ++ cs.0)) after.1

corner_bind : (e r : ℕ) (q : Result (List ℕ × Items) Flaw) (i : ℕ) (fs : List Face) (g h : List ℕ × Items → Result (List Face) BodyFault)
    → ((x : List ℕ × Items) → g (i ∷ x.0, x.1) ≡ with_faces fs (h x))
    → (placed e r (q >>= λ more. Ok (i ∷ more.0, more.1)) >>= g) ≡ with_faces fs (placed e r q >>= h)
corner_bind e r (Ok x) i fs g h step = step x
corner_bind e r (Err flaw) i fs g h step = refl

finish_with : (s : Setting) (e : ℕ) (all : List Property) (r formed left next : ℕ) (es : List Element) (fs gs hs : List Face) (items : Items)
    → gs ≡ fs ++ hs → finish s e all r formed left next es gs items ≡ with_faces fs (finish s e all r formed left next es hs items)
finish_with s e all r formed left next es fs gs hs items is =
    with_bind fs (rows s e all r formed left items) _ _
    (λ more. with_bind fs (elements s next es no_input more.1) _ _
    (λ others. ap Ok (rw is (append_assoc fs hs (fans more.0 ++ others.faces)))))

-- a corner
pub corner_step : (s : Setting) (p q : Polygon) (ps all : List Property) (row left formed next : ℕ) (es : List Element) (items rest : Items) (i : ℕ) (fs : List Face)
    → q.kind ≡ p.kind → q.taken ≡ p.taken + 1 → p.left ≡ q.left + 1
    → ((more : List ℕ) → fan (front p ++ i ∷ more) ≡ fs ++ fan (front q ++ more))
    → item_as (index_of s.vertices) p.kind items ≡ Ok (i, rest) → is_too_many formed p.taken ≡ false
    → coming s (cursor p ps row left formed all next es) items ≡ with_faces fs (coming s (cursor q ps row left formed all next es) rest)
corner_step s p q ps all row left formed next es items rest i fs kind taken less fans_are read few =
    let l : p.left ≡ suc q.left = omega arith in
    let t : q.taken ≡ suc p.taken = omega arith in
    let n : p.taken + suc q.left ≡ q.taken + q.left = omega arith in
    rw (l, read, few, kind, ← t, n)
    (corner_bind (next - 1) (row - 1) (corners s p.kind formed q.taken q.left rest) i fs
    (behind_corners s ps row left formed all next es (q.taken + q.left) (front p))
    (behind_corners s ps row left formed all next es (q.taken + q.left) (front q))
    (λ x. with_bind fs (placed (next - 1) (row - 1) (with_properties s formed ps nothing_used x.1)) _ _
    (λ after. finish_with s (next - 1) all row (formed + fan_count (q.taken + q.left)) left next es fs _ _ after.1 (fans_are x.0))))

pub corner_refused : (s : Setting) (p : Polygon) (ps all : List Property) (row left formed next less : ℕ) (es : List Element) (items : Items) (flaw : Flaw)
    → p.left ≡ less + 1 → item_as (index_of s.vertices) p.kind items ≡ Err flaw
    → coming s (cursor p ps row left formed all next es) items ≡ Err (fault_of (next - 1) (row - 1) flaw)
corner_refused s p ps all row left formed next less es items flaw is read =
    let l : p.left ≡ suc less = omega arith in rw (l, read) refl

pub corner_too_many : (s : Setting) (p : Polygon) (ps all : List Property) (row left formed next less : ℕ) (es : List Element) (items rest : Items) (i : ℕ)
    → p.left ≡ less + 1 → item_as (index_of s.vertices) p.kind items ≡ Ok (i, rest) → is_too_many formed p.taken ≡ true
    → coming s (cursor p ps row left formed all next es) items ≡ Err (fault_of (next - 1) (row - 1) TooManyTris)
corner_too_many s p ps all row left formed next less es items rest i is read many =
    let l : p.left ≡ suc less = omega arith in rw (l, read, many) refl

-- the end of a row
pub end_row_step : (s : Setting) (p : Polygon) (ps all : List Property) (row left formed next : ℕ) (es : List Element) (items rest : Items)
    → p.left ≡ 0 → All IsSkipped ps → passed ps items ≡ Ok rest
    → coming s (cursor p ps row left formed all next es) items ≡ coming s (cursor p [] row left formed all next es) rest
end_row_step s p ps all row left formed next es items rest none skip read = rw (none, skips_all s formed ps nothing_used items skip, read) refl

pub end_row_refused : (s : Setting) (p : Polygon) (ps all : List Property) (row left formed next : ℕ) (es : List Element) (items : Items) (flaw : Flaw)
    → p.left ≡ 0 → All IsSkipped ps → passed ps items ≡ Err flaw
    → coming s (cursor p ps row left formed all next es) items ≡ Err (fault_of (next - 1) (row - 1) flaw)
end_row_refused s p ps all row left formed next es items flaw none skip read = rw (none, skips_all s formed ps nothing_used items skip, read) refl

-- what is used of a row with these corners
abbrev pub with_corners : List ℕ → RowItems
with_corners cs = record nothing_used { corners = cs }

-- what comes in a row behind the count of its list of indices
abbrev pub behind_front : Setting → ℕ → RowList × Items → Result (RowItems × Items) Flaw
behind_front s formed l =
    corners s l.0.kind formed 0 l.0.count l.1 >>= λ c. passed l.0.behind c.1 >>= λ rest. Ok (with_corners c.0, rest)

indices_row : (s : Setting) (formed : ℕ) (ix : Property) (behind : List Property) (k : Kind) (items : Items)
    → ix.role ≡ Indices → ix.count_kind ≡ Some k → All IsSkipped behind
    → with_properties s formed (ix ∷ behind) nothing_used items ≡ (front_of (ix ∷ behind) items >>= behind_front s formed)
indices_row s formed ix behind k items role is skip =
    rw (role, is)
    (bind_assoc (item_as count_of k items) (λ n. list_of s formed Indices ix.kind n.0 nothing_used n.1) (λ v. with_properties s formed behind v.0 v.1)
    ∙ (bind_same (item_as count_of k items)
    (λ n. list_of s formed Indices ix.kind n.0 nothing_used n.1 >>= λ v. with_properties s formed behind v.0 v.1)
    (λ n. behind_front s formed (row_list ix.kind n.0 behind, n.1))
    (λ n here. bind_assoc (corners s ix.kind formed 0 n.0 n.1) (λ c. Ok (with_corners c.0, c.1)) (λ v. with_properties s formed behind v.0 v.1)
    ∙ bind_same (corners s ix.kind formed 0 n.0 n.1) (λ c. with_properties s formed behind (with_corners c.0) c.1)
    (λ c. passed behind c.1 >>= λ rest. Ok (with_corners c.0, rest))
    (λ c there. skips_all s formed behind (with_corners c.0) c.1 skip))
    ∙ sym (bind_assoc (item_as count_of k items) (λ n. Ok (row_list ix.kind n.0 behind, n.1)) (behind_front s formed))))

-- A row is its front, the corners of its polygon, and what comes behind.
pub front_row : (s : Setting) (formed : ℕ) (all : List Property) (items : Items) → IsRowLayout all
    → with_properties s formed all nothing_used items ≡ (front_of all items >>= behind_front s formed)
front_row s formed all items (inl skip) =
    rw (skips_all s formed all nothing_used items skip, ← append-nil all, front_behind all [] items skip, append-nil all)
    (sym (bind_assoc (passed all items) (λ rest. Ok (row_list U8 0 [], rest)) (behind_front s formed)))
front_row s formed all items (inr it) = by_kind it.indices.count_kind refl where
  by_kind : (k : Option Kind) → it.indices.count_kind ≡ k → with_properties s formed all nothing_used items ≡ (front_of all items >>= behind_front s formed)
  by_kind None is = absurd (it.list is)
  by_kind (Some k) is =
      rw (
        it.properties,
        both_properties s formed it.before (it.indices ∷ it.behind) nothing_used items,
        skips_all s formed it.before nothing_used items it.before_skipped,
        front_behind it.before (it.indices ∷ it.behind) items it.before_skipped,
      )
      (bind_assoc (passed it.before items) (λ rest. Ok (nothing_used, rest)) (λ v. with_properties s formed (it.indices ∷ it.behind) v.0 v.1)
      ∙ (bind_same (passed it.before items) (λ rest. with_properties s formed (it.indices ∷ it.behind) nothing_used rest)
      (λ rest. front_of (it.indices ∷ it.behind) rest >>= behind_front s formed)
      (λ rest here. indices_row s formed it.indices it.behind k rest it.role is it.behind_skipped)
      ∙ sym (bind_assoc (passed it.before items) (λ rest. front_of (it.indices ∷ it.behind) rest) (behind_front s formed))))

front_at_list : (ix : Property) (behind : List Property) (k : Kind) (items : Items) → ix.role ≡ Indices → ix.count_kind ≡ Some k
    → front_of (ix ∷ behind) items ≡ (item_as count_of k items >>= λ n. Ok (row_list ix.kind n.0 behind, n.1))
front_at_list ix behind k items role is = rw (role, is) refl

-- the properties behind the list aren't used
pub behind_skipped : (all : List Property) (items rest : Items) (l : RowList) → IsRowLayout all → front_of all items ≡ Ok (l, rest) → All IsSkipped l.behind
behind_skipped all items rest l (inl skip) read =
    let e : front_of all items ≡ (passed all items >>= λ r. Ok (row_list U8 0 [], r)) = rw (append-nil all) at (front_behind all [] items skip) in
    let a = bind_taken (passed all items) (λ r. Ok (row_list U8 0 [], r)) (l, rest) (sym e ∙ read) in
    let is : l ≡ row_list U8 0 [] = ok_first l (row_list U8 0 []) rest a.0 (sym a.2) in
    rw is (All-nil IsSkipped)
behind_skipped all items rest l (inr it) read = by_kind it.indices.count_kind refl where
  by_kind : (k : Option Kind) → it.indices.count_kind ≡ k → All IsSkipped l.behind
  by_kind None is = absurd (it.list is)
  by_kind (Some k) is =
      let r : front_of (it.before ++ it.indices ∷ it.behind) items ≡ Ok (l, rest) = rw it.properties at read in
      let e = front_behind it.before (it.indices ∷ it.behind) items it.before_skipped in
      let a = bind_taken (passed it.before items) (λ r. front_of (it.indices ∷ it.behind) r) (l, rest) (sym e ∙ r) in
      let b = bind_taken (item_as count_of k a.0) (λ n. Ok (row_list it.indices.kind n.0 it.behind, n.1)) (l, rest) (sym (front_at_list it.indices it.behind k a.0 it.role is) ∙ a.2) in
      let same : l ≡ row_list it.indices.kind b.0.0 it.behind = ok_first l (row_list it.indices.kind b.0.0 it.behind) rest b.0.1 (sym b.2) in
      rw same it.behind_skipped

-- as many corners as there were to come
pub corner_count : (s : Setting) (kind : Kind) (formed j n : ℕ) (items : Items) (c : List ℕ × Items) → corners s kind formed j n items ≡ Ok c → length c.0 ≡ n
corner_count s kind formed j zero items c read = let e : c ≡ ([], items) = cc in rw e refl
corner_count s kind formed j (suc n) items c read =
    let more : ℕ × Items → Result (List ℕ × Items) Flaw = λ x. corners s kind formed (suc j) n x.1 >>= λ y. Ok (x.0 ∷ y.0, y.1) in
    let a = bind_taken (item_as (index_of s.vertices) kind items) (λ i. unless (is_too_many formed j) TooManyTris i >>= more) c read in
    let b = bind_taken (unless (is_too_many formed j) TooManyTris a.0) more c a.2 in
    let d = bind_taken (corners s kind formed (suc j) n b.0.1) (λ y. Ok (b.0.0 ∷ y.0, y.1)) c b.2 in
    let e : c ≡ (b.0.0 ∷ d.0.0, d.0.1) = cc in
    rw e (ap suc (corner_count s kind formed (suc j) n b.0.1 d.0 d.1))

-- what was used before properties that aren't
abbrev used : RowItems → Result Items Flaw → Result (RowItems × Items) Flaw
used u w = w >>= λ rest. Ok (u, rest)

module _ (s : Setting) (e : ℕ) (all : List Property) (row formed less next : ℕ) (es : List Element) where
  -- a row in front of the rows behind it
  abbrev before_rows : RowItems × Items → Result (List RowItems × Items) BodyFault
  before_rows u = rows s e all (suc row) (formed + fan_count (length u.0.corners)) less u.1 >>= λ more. Ok (u.0 ∷ more.0, more.1)

  -- what comes behind the rows of the element
  abbrev behind_rows : List RowItems × Items → Result (List Face) BodyFault
  behind_rows more = elements s next es no_input more.1 >>= λ others. Ok ([] ++ (fans more.0 ++ others.faces))

  row_first : (u : RowItems) (rest : Items)
      → (before_rows (u, rest) >>= behind_rows) ≡ finish s e all (suc row) (formed + fan_count (length u.corners)) less next es (fan u.corners) rest
  row_first u rest =
      let them = rows s e all (suc row) (formed + fan_count (length u.corners)) less rest in
      bind_assoc them (λ more. Ok (u ∷ more.0, more.1)) behind_rows
      ∙ bind_same them (λ more. behind_rows (u ∷ more.0, more.1)) (λ more. elements s next es no_input more.1 >>= λ others. Ok (fan u.corners ++ (fans more.0 ++ others.faces)))
      (λ more is. bind_same (elements s next es no_input more.1) (λ others. Ok ((fan u.corners ++ fans more.0) ++ others.faces)) (λ others. Ok (fan u.corners ++ (fans more.0 ++ others.faces)))
      (λ others here. ap Ok (append_assoc (fan u.corners) (fans more.0) others.faces)))

  behind_row : (w : Result Items Flaw) (cs : List ℕ) (n : ℕ) → length cs ≡ n
      → ((placed e row (used (with_corners cs) w) >>= before_rows) >>= behind_rows)
      ≡ (placed e row (used nothing_used w) >>= λ after. finish s e all (suc row) (formed + fan_count (0 + n)) less next es (fan cs) after.1)
  behind_row (Err flaw) cs n is = refl
  behind_row (Ok rest) cs n is = let m : 0 + n ≡ length cs = omega arith in rw m (row_first (with_corners cs) rest)

  row_and_behind : (q : Result (List ℕ × Items) Flaw) (behind : List Property) (n : ℕ) → ((c : List ℕ × Items) → q ≡ Ok c → length c.0 ≡ n) → All IsSkipped behind
      → ((placed e row (q >>= λ c. passed behind c.1 >>= λ rest. Ok (with_corners c.0, rest)) >>= before_rows) >>= behind_rows)
      ≡ (placed e row q >>= λ cs. placed e row (with_properties s formed behind nothing_used cs.1) >>= λ after. finish s e all (suc row) (formed + fan_count (0 + n)) less next es (fan cs.0) after.1)
  row_and_behind (Err flaw) behind n counted skip = refl
  row_and_behind (Ok c) behind n counted skip = rw (skips_all s formed behind nothing_used c.1 skip) (behind_row (passed behind c.1) c.0 n (counted c refl))

-- the next row, up to its polygon
pub begin_row_step : (s : Setting) (p q : Polygon) (all : List Property) (row left less formed next : ℕ) (es : List Element) (items rest : Items) (l : RowList)
    → p.left ≡ 0 → left ≡ less + 1 → IsRowLayout all → front_of all items ≡ Ok (l, rest)
    → q.kind ≡ l.kind → q.taken ≡ 0 → q.left ≡ l.count
    → coming s (cursor p [] row left formed all next es) items ≡ coming s (cursor q l.behind (row + 1) less (formed + fan_count p.taken) all next es) rest
begin_row_step s p q all row left less formed next es items rest l none one layout read kind taken count =
    let e : left ≡ suc less = omega arith in
    let r : row + 1 - 1 ≡ row = omega arith in
    let r' : row + 1 ≡ suc row = omega arith in
    let n : p.taken + 0 ≡ p.taken = omega arith in
    let f = formed + fan_count p.taken in
    rw (none, e, n, no_fan p, front_row s f all items layout, read, kind, taken, count, r, r')
    (row_and_behind s (next - 1) all row f less next es (corners s l.kind f 0 l.count rest) l.behind l.count (corner_count s l.kind f 0 l.count rest)
    (behind_skipped all items rest l layout read))

pub begin_row_refused : (s : Setting) (p : Polygon) (all : List Property) (row left less formed next : ℕ) (es : List Element) (items : Items) (flaw : Flaw)
    → p.left ≡ 0 → left ≡ less + 1 → IsRowLayout all → front_of all items ≡ Err flaw
    → coming s (cursor p [] row left formed all next es) items ≡ Err (fault_of (next - 1) row flaw)
begin_row_refused s p all row left less formed next es items flaw none one layout read =
    let e : left ≡ suc less = omega arith in
    let n : p.taken + 0 ≡ p.taken = omega arith in
    rw (none, e, n, front_row s (formed + fan_count p.taken) all items layout, read) refl

-- the end of the elements
pub at_end : (s : Setting) (p : Polygon) (all : List Property) (row formed next : ℕ) (items : Items)
    → p.left ≡ 0 → coming s (cursor p [] row 0 formed all next []) items ≡ Ok []
at_end s p all row formed next items none = rw (none, no_fan p) refl
