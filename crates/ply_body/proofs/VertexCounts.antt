-- The count of the used vertex element is that of an element.
use Rattle.std.proofs.Common.{◌≡◌, ◌≢◌, ◌≤◌, ◌<◌, ◌∙◌, ℕ, zero, suc, Bool, true, false, cond, List, [], ◌∷◌, length, take, get_or, refl, sym, ap, arith}
use Rattle.std.specs.Prelude.{All, ◌==◌, find, Some}
use Rattle.std.specs.Option.{option_map_or}
use Rattle.std.proofs.lemmas.Bool.Decides.{nat_tests}
use Rattle.std.proofs.lemmas.List.Elements.{All-head, All-tail}
use Rattle.ply_head.specs.declared.element.Element.{Element}
use Rattle.ply_head.specs.declared.element.Property.{Property}
use Rattle.ply_head.specs.declared.element.Used.TheVariants.{Vertex}
use Rattle.ply_head.specs.Heads.{IsOther, IsSmall}
use Rattle.ply_body.specs.Bodies.{row_count}
use Rattle.ply_body.specs.Inputs.{is_vertex_element, vertex_count}
use Rattle.ply_body.specs.VertexRows.{IsVertexAt}

few_in : (es : List Element) → All (λ e. e.count ≤ 2147483648) es → vertex_count es ≤ 2147483648
few_in [] all = omega arith
few_in (e ∷ es) all =
    go (is_vertex_element e) (All-head (λ (e : Element). e.count ≤ 2147483648) e es all) (few_in es (All-tail (λ (e : Element). e.count ≤ 2147483648) e es all)) where
      go : (b : Bool) → e.count ≤ 2147483648 → vertex_count es ≤ 2147483648
          → option_map_or (λ (e : Element). e.count) (cond b (Some e) (find is_vertex_element es)) 0 ≤ 2147483648
      go true here behind = here
      go false here behind = behind

pub few_vertices : (es : List Element) → IsSmall es → vertex_count es ≤ 2147483648
few_vertices es small = few_in es small.rows

-- the count of the first vertex element
count_at : (n : ℕ) (es : List Element) (d : Element) → n < length es → All IsOther (take n es) → (get_or es n d).used ≡ Vertex
    → vertex_count es ≡ (get_or es n d).count
count_at zero [] d below others used = absurd (omega arith)
count_at (suc n) [] d below others used = absurd (omega arith)
count_at zero (e ∷ es) d below others used = rw used refl
count_at (suc n) (e ∷ es) d below others used =
    rw (All-head IsOther e (take n es) others).used (count_at n es d (omega arith) (All-tail IsOther e (take n es) others) used)

not_zero : (n : ℕ) → (suc n == 0) ≡ false
not_zero n = grind (arith, nat_tests)

-- all rows of an element with properties are read
rows_all : (e : Element) → e.properties ≢ [] → row_count e ≡ e.count
rows_all e some = go e.properties refl
  where
    go : (ps : List Property) → e.properties ≡ ps → row_count e ≡ e.count
    go [] is = absurd (some is)
    go (p ∷ ps) is = rw (is, not_zero (length ps)) refl

pub vertex_rows : (n : ℕ) (es : List Element) (el : Element) → IsVertexAt n es → el ≡ get_or es n el → row_count el ≡ vertex_count es
vertex_rows n es el at is =
    let vertex = at.vertex el in
    ap (λ (e : Element). row_count e) is ∙ rows_all (get_or es n el) vertex.some ∙ sym (count_at n es el at.within at.before_other vertex.used)
