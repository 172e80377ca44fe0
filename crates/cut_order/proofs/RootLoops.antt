-- The triangles of the roots, as far as loops have come.
use Rattle.std.proofs.Common.{◌≡◌, ℕ, ◌+◌, ◌<◌, ◌≤◌, true, false, List, [], ◌∷◌, ◌++◌, length, take, get_or, refl, sym, ◌∙◌, ap, arith, append_assoc, zero-add, map-id, inl, inr, cond}
use Rattle.std.specs.Prelude.{filter, flat_map, ◌==◌}
use Rattle.std.specs.List.{range_with_len}
use Rattle.std.proofs.lemmas.Bool.{cases_Bool, eq-eqb, ne_eqb, eqb-true}
use Rattle.std.proofs.lemmas.List.{append-nil, take_more}
use Rattle.std.proofs.lemmas.List.Elements.{filter-append}
use Rattle.std.proofs.lemmas.List.FromFn.{map-range_with_len_more}
use Rattle.std.proofs.lemmas.Grind.{flat_map-append}
use Rattle.tpz_base.specs.declared.shape.Tri.{Tri}
use Rattle.tpz_base.specs.Meshes.{Mesh}
use Rattle.tpz_base.specs.Roots.{corner_sum, root_slot, is_in_root, root_part, roots_parts, mesh_by_roots}
use Rattle.cut_order.specs.Numbering.{is_outside}

pub in_root : (t : Tri) (place : ℕ) → root_slot (corner_sum t) ≡ place → root_part (t ∷ []) place ≡ t ∷ []
unfolding is_in_root
in_root t place same = rw (eq-eqb (root_slot (corner_sum t)) place same) refl

pub not_in_root : (t : Tri) (place : ℕ) → (root_slot (corner_sum t) ≡ place → ⊥) → root_part (t ∷ []) place ≡ []
unfolding is_in_root
not_in_root t place other = rw (ne_eqb (root_slot (corner_sum t)) place other) refl

-- one triangle more
part_more : (M : Mesh) (i : ℕ) (d : Tri) (place : ℕ) → i < length M
    → root_part (take (i + 1) M) place ≡ root_part (take i M) place ++ root_part (get_or M i d ∷ []) place
part_more M i d place h = ap (filter (is_in_root place)) (take_more M i d h) ∙ filter-append (is_in_root place) (take i M) (get_or M i d ∷ [])

module _ (old now tris : Mesh) (i : ℕ) (d : Tri) (place : ℕ) (so_far : now ≡ old ++ root_part (take i tris) place) (h : i < length tris) where
  front : now ++ root_part (get_or tris i d ∷ []) place ≡ old ++ root_part (take (i + 1) tris) place
  front =
      ap (λ (l : Mesh). l ++ root_part (get_or tris i d ∷ []) place) so_far ∙ append_assoc old (root_part (take i tris) place) (root_part (get_or tris i d ∷ []) place)
      ∙ ap (λ (l : Mesh). old ++ l) (sym (part_more tris i d place h))

  pub mesh_more : (new : Mesh) → new ≡ now ++ root_part (get_or tris i d ∷ []) place → new ≡ old ++ root_part (take (i + 1) tris) place
  mesh_more new added = added ∙ front

range_more : (a n : ℕ) → range_with_len a (n + 1) ≡ range_with_len a n ++ (a + n) ∷ []
range_more a n = sym (map-id (range_with_len a (n + 1))) ∙ map-range_with_len_more (λ (k : ℕ). k) a n (a + n) refl ∙ ap (λ (l : List ℕ). l ++ (a + n) ∷ []) (map-id (range_with_len a n))

-- one root more
pub roots_parts_more : (M : Mesh) (n : ℕ) → roots_parts M (n + 1) ≡ roots_parts M n ++ root_part M n
roots_parts_more M n =
    ap (flat_map (root_part M)) (range_more 0 n) ∙ flat_map-append (root_part M) (range_with_len 0 n) ((0 + n) ∷ [])
    ∙ ap (λ (l : Mesh). roots_parts M n ++ l) (append-nil (root_part M (0 + n)) ∙ ap (root_part M) (zero-add n))

pub roots_more : (M now new : Mesh) (n : ℕ) → now ≡ roots_parts M n → new ≡ now ++ root_part M n → new ≡ roots_parts M (n + 1)
roots_more M now new n so_far added = added ∙ ap (λ (l : Mesh). l ++ root_part M n) so_far ∙ sym (roots_parts_more M n)

pub none_added : (M : Mesh) (t : Tri) (place : ℕ) → (root_slot (corner_sum t) ≡ place → ⊥) → M ≡ M ++ root_part (t ∷ []) place
none_added M t place other = sym (ap (λ (l : Mesh). M ++ l) (not_in_root t place other) ∙ append-nil M)

pub no_part : (M : Mesh) (place : ℕ) → M ≡ M ++ root_part [] place
no_part M place = sym (append-nil M)

pub all_roots : (M now : Mesh) (n : ℕ) → now ≡ roots_parts M n → 6 ≤ n → n ≤ 6 → now ≡ mesh_by_roots M
unfolding mesh_by_roots
all_roots M now n so_far least most = let six : n ≡ 6 = omega arith in so_far ∙ ap (roots_parts M) six

pub outside : (t : Tri) (place : ℕ) → (root_slot (corner_sum t) ≡ place → ⊥) → is_outside place t ≡ true
unfolding is_outside is_in_root
outside t place other = rw (ne_eqb (root_slot (corner_sum t)) place other) refl

pub inside : (t : Tri) (place : ℕ) → root_slot (corner_sum t) ≡ place → is_outside place t ≡ false
unfolding is_outside is_in_root
inside t place same = rw (eq-eqb (root_slot (corner_sum t)) place same) refl

-- the triangles of other roots stay where those of one go
root_part-without : (M : Mesh) (place k : ℕ) → (k ≡ place → ⊥) → root_part (filter (is_outside place) M) k ≡ root_part M k
unfolding is_outside is_in_root
root_part-without [] place k other = refl
root_part-without (t ∷ M) place k other =
    let slot = root_slot (corner_sum t) in
    elim (cases_Bool (slot == place)) [
      | inl e ↦ (let not_here : (slot == k) ≡ false = ne_eqb slot k (λ h. other (sym h ∙ eqb-true slot place e)) in rw (e, not_here) (root_part-without M place k other))
      | inr e ↦ rw e (ap (λ (l : Mesh). cond (slot == k) (t ∷ l) l) (root_part-without M place k other))
    ]

-- what is still there of the roots to come
pub later_parts : (M now new : Mesh) (n : ℕ) → ((k : ℕ) → n ≤ k → root_part now k ≡ root_part M k) → new ≡ filter (is_outside n) now
    → (k : ℕ) → n + 1 ≤ k → root_part new k ≡ root_part M k
later_parts M now new n there gone k later =
    ap (λ (l : Mesh). root_part l k) gone ∙ root_part-without now n k (λ e. omega (arith, e, later)) ∙ there k (omega arith)

pub roots_here : (M now done new : Mesh) (n : ℕ) → done ≡ roots_parts M n → ((k : ℕ) → n ≤ k → root_part now k ≡ root_part M k)
    → new ≡ done ++ root_part now n → new ≡ roots_parts M (n + 1)
roots_here M now done new n so_far there added = roots_more M done new n so_far (added ∙ ap (λ (l : Mesh). done ++ l) (there n (omega arith)))
