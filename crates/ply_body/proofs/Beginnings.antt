-- What is still to come from the beginning of an element.
use Rattle.std.proofs.Common.{◌≡◌, ℕ, zero, suc, ◌+◌, ◌-◌, List, [], ◌∷◌, ◌++◌, length, refl, sym, ◌∙◌, ap, arith}
use Rattle.std.proofs.lemmas.List.{append-nil}
use Rattle.std.proofs.lemmas.List.Elements.{All-head, All-tail}
use Rattle.std.specs.Prelude.{All, Result, Ok, Err}
use Rattle.tpz_base.specs.Texts.{Face}
use Rattle.ply_head.specs.declared.element.Property.{Property}
use Rattle.ply_head.specs.declared.element.Element.{Element}
use Rattle.ply_head.specs.Heads.{IsSkipped, IsOther, IsFaceElement}
use Rattle.ply_body.specs.declared.fault.Flaw.{Flaw}
use Rattle.ply_body.specs.declared.fault.BodyFault.{BodyFault}
use Rattle.ply_body.specs.Items.{◌>>=◌, Items, passed}
use Rattle.ply_body.specs.Bodies.{Setting, RowItems, nothing_used, placed, fan_count, rows, row_count, elements, fans, Input, no_input}
use Rattle.ply_body.specs.Readings.{Polygon, coming}
use Rattle.ply_body.proofs.Binds.{bind_assoc, bind_same, bind_taken, ok_first}
use Rattle.ply_body.proofs.Coming.{cursor}
use Rattle.ply_body.proofs.Fans.{no_fan}
use Rattle.ply_body.proofs.Passing.{skips_all}

abbrev onto_rows : List RowItems × Items → Result (List RowItems × Items) BodyFault
onto_rows more = Ok (nothing_used ∷ more.0, more.1)

abbrev unused : Result Items Flaw → Result (RowItems × Items) Flaw
unused q = q >>= λ rest. Ok (nothing_used, rest)

first_skipped : (s : Setting) (e : ℕ) (ps : List Property) (r formed n : ℕ) (items : Items) → All IsSkipped ps
    → rows s e ps r formed (suc n) items ≡ (placed e r (passed ps items) >>= λ rest. rows s e ps (suc r) (formed + 0) n rest >>= onto_rows)
first_skipped s e ps r formed n items skip = rw (skips_all s formed ps nothing_used items skip) (by_rest (passed ps items)) where
  by_rest : (q : Result Items Flaw) → (placed e r (unused q) >>= λ row. rows s e ps (suc r) (formed + fan_count (length row.0.corners)) n row.1 >>= λ more. Ok (row.0 ∷ more.0, more.1))
      ≡ (placed e r q >>= λ rest. rows s e ps (suc r) (formed + 0) n rest >>= onto_rows)
  by_rest (Ok rest) = refl
  by_rest (Err flaw) = refl

-- Rows of what isn't used are the same however many triangles were formed before,
pub same_rows : (s : Setting) (e : ℕ) (ps : List Property) (r f g n : ℕ) (items : Items) → All IsSkipped ps
    → rows s e ps r f n items ≡ rows s e ps r g n items
same_rows s e ps r f g zero items skip = refl
same_rows s e ps r f g (suc n) items skip =
    first_skipped s e ps r f n items skip
    ∙ (bind_same (placed e r (passed ps items)) (λ rest. rows s e ps (suc r) (f + 0) n rest >>= onto_rows) (λ rest. rows s e ps (suc r) (g + 0) n rest >>= onto_rows)
    (λ rest is. ap (λ (q : Result (List RowItems × Items) BodyFault). q >>= onto_rows) (same_rows s e ps (suc r) (f + 0) (g + 0) n rest skip))
    ∙ sym (first_skipped s e ps r g n items skip))

-- and form none.
pub no_fans : (s : Setting) (e : ℕ) (ps : List Property) (r f n : ℕ) (items : Items) (us : List RowItems × Items) → All IsSkipped ps
    → rows s e ps r f n items ≡ Ok us → fans us.0 ≡ []
no_fans s e ps r f zero items us skip is = rw (ok_first us.0 [] us.1 items (sym is)) refl
no_fans s e ps r f (suc n) items us skip is =
    let a = bind_taken (placed e r (passed ps items)) (λ rest. rows s e ps (suc r) (f + 0) n rest >>= onto_rows) us (sym (first_skipped s e ps r f n items skip) ∙ is) in
    let b = bind_taken (rows s e ps (suc r) (f + 0) n a.0) onto_rows us a.2 in
    rw (ok_first us.0 (nothing_used ∷ b.0.0) us.1 b.0.1 (sym b.2)) (no_fans s e ps (suc r) (f + 0) n a.0 b.0 skip b.1)

-- the faces of an input behind others
abbrev faces_behind : List Face → Input → Result (List Face) BodyFault
faces_behind fs o = Ok (fs ++ o.faces)

-- Elements that aren't used leave the faces that were seen.
pub seen_before : (s : Setting) (e : ℕ) (els : List Element) (seen : Input) (items : Items) → All IsOther els
    → (elements s e els seen items >>= faces_behind []) ≡ (elements s e els no_input items >>= faces_behind seen.faces)
seen_before s e [] seen items other = ap Ok (sym (append-nil seen.faces))
seen_before s e (el ∷ els) seen items other =
    let here = All-head IsOther el els other in
    let them = rows s e el.properties 0 0 (row_count el) items in
    rw here.used
    (bind_assoc them (λ us. elements s (suc e) els seen us.1) (faces_behind [])
    ∙ (bind_same them (λ us. elements s (suc e) els seen us.1 >>= faces_behind []) (λ us. elements s (suc e) els no_input us.1 >>= faces_behind seen.faces)
    (λ us is. seen_before s (suc e) els seen us.1 (All-tail IsOther el els other))
    ∙ sym (bind_assoc them (λ us. elements s (suc e) els no_input us.1) (faces_behind seen.faces))))

-- the next element
pub begin_other : (s : Setting) (p q : Polygon) (all : List Property) (row formed formed' next : ℕ) (el : Element) (es : List Element) (items : Items)
    → p.left ≡ 0 → q.left ≡ 0 → q.taken ≡ 0 → IsOther el
    → coming s (cursor p [] row 0 formed all next (el ∷ es)) items ≡ coming s (cursor q [] 0 (row_count el) formed' el.properties (next + 1) es) items
begin_other s p q all row formed formed' next el es items p_none q_none q_new other =
    let r : next + 1 - 1 ≡ next = omega arith in
    let r' : next + 1 ≡ suc next = omega arith in
    let them = rows s next el.properties 0 0 (row_count el) items in
    rw (p_none, q_none, no_fan p, no_fan q, q_new, r, r', same_rows s next el.properties 0 (formed' + 0) 0 (row_count el) items other.properties, other.used)
    (bind_assoc them (λ us. elements s (suc next) es no_input us.1) (faces_behind [])
    ∙ bind_same them (λ us. elements s (suc next) es no_input us.1 >>= faces_behind []) (λ us. elements s (suc next) es no_input us.1 >>= λ o. Ok (fans us.0 ++ o.faces))
    (λ us is. rw (no_fans s next el.properties 0 0 (row_count el) items us other.properties is) refl))

pub begin_face : (s : Setting) (p q : Polygon) (all : List Property) (row formed formed' next : ℕ) (el : Element) (es : List Element) (items : Items)
    → p.left ≡ 0 → q.left ≡ 0 → q.taken ≡ 0 → IsFaceElement el → All IsOther es → formed' ≡ 0
    → coming s (cursor p [] row 0 formed all next (el ∷ es)) items ≡ coming s (cursor q [] 0 (row_count el) formed' el.properties (next + 1) es) items
begin_face s p q all row formed formed' next el es items p_none q_none q_new it other zero_formed =
    let r : next + 1 - 1 ≡ next = omega arith in
    let r' : next + 1 ≡ suc next = omega arith in
    let them = rows s next el.properties 0 0 (row_count el) items in
    rw (p_none, q_none, no_fan p, no_fan q, q_new, r, r', zero_formed, it.used)
    (bind_assoc them (λ us. elements s (suc next) es (record no_input { faces = fans us.0 }) us.1) (faces_behind [])
    ∙ bind_same them (λ us. elements s (suc next) es (record no_input { faces = fans us.0 }) us.1 >>= faces_behind []) (λ us. elements s (suc next) es no_input us.1 >>= λ o. Ok (fans us.0 ++ o.faces))
    (λ us is. seen_before s (suc next) es (record no_input { faces = fans us.0 }) us.1 other))
