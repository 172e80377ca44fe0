-- What a reader that was opened says of its table.
use Rattle.std.proofs.Common.{◌≡◌, ℕ, zero, suc, ◌+◌, ◌*◌, ◌<◌, ◌⊎◌, Bool, true, false, not, List, [], ◌∷◌, ◌++◌, map, take, length, get_or, refl, sym, ◌∙◌, ap, ap₂, subst, inl, inr, arith, slice_get, Option, Some, None, Result, Ok, Err}
use Rattle.std.specs.Prelude.{Contains, flat_map, ◌==◌, if◌then◌else◌}
use Rattle.std.specs.Int.{bit_at}
use Rattle.std.specs.Option.{ForSome, option_map, option_map_or, option_and_then, option_or}
use Rattle.std.proofs.lemmas.Bool.{and_parts, eqb-true}
use Rattle.std.proofs.lemmas.List.{append-nil, length-map}
use Rattle.std.proofs.lemmas.List.Elements.{Contains-get_or}
use Rattle.std.proofs.lemmas.Grind.{flat_map-append}
use Rattle.std.proofs.lemmas.Option.{slice_get-get_or, slice_get-map}
use Rattle.tpz_base.specs.declared.shape.Point.{Point}
use Rattle.tpz_base.specs.Meshes.{Mesh}
use Rattle.tpz_base.specs.Texts.{Bytes}
use Rattle.tpz_base.specs.Tetrahedra.{Tetrahedron, diamond, members, parts}
use Rattle.tpz_base.specs.Cuts.{has_diamond}
use Rattle.tetra_name.specs.declared.shape.Half.{Half}
use Rattle.tetra_name.specs.Names.{point_of}
use Rattle.diamond_graph.specs.Graphs.{GraphState, IsGraph, centres}
use Rattle.patch_file.specs.Allowed.{is_right_block}
use Rattle.patch_file.specs.Patches.{picked, outer_marks, outer_patches}
use Rattle.patch_file.specs.declared.shape.Params.{Params}
use Rattle.patch_file.specs.Reading.{patches_of, IsBlockOf, IsTableOf, ReaderState}
use Rattle.patch_file.specs.Tables.{Contents, Table, TableRecord, centre_of}
use Rattle.patch_file.proofs.TableOf.{opened_table}
use Rattle.patch_file.proofs.CutMesh.{contents_read}
use Rattle.patch_file.proofs.CutRows.{graph_centres}
use Rattle.patch_file.proofs.Once.{parts-length}
use Rattle.view_cut.specs.Sets.{centres_at, outer_bit, parts_at}
use Rattle.view_cut.proofs.ActiveLaw.{splits_at, parts_there}
use Rattle.cut_blocks.specs.WrongBlocks.{first_wrong, wrong_at, wrong_block}
use Rattle.run_status.specs.declared.status.Status.{Status}
use Rattle.run_status.specs.declared.status.Status.TheVariants.{BadStore, Memory, ReadFault}
use Rattle.run_status.specs.declared.status.ReadAt.TheVariants.{Record}
use Rattle.patch_file.specs.declared.shape.StoreBad.{StoreBad}
use Rattle.cut_blocks.specs.Shown.{bit_picked, outer_patches_at, shown_patches, stored_in, IsNamed, IsOpen}
use Rattle.cut_blocks.proofs.ShownLaw.{patch_there, take_next}

-- ---- which patches the bits pick

picked_same : (R : List Point) (bits n : ℕ) (Ts : List Tetrahedron) (Ns : List Mesh) → ((k : ℕ) → bit_at bits (n + k) ≡ option_map_or (outer_bit R) (slice_get Ts k) 0)
    → bit_picked bits n Ns ≡ picked (map (λ T. not (has_diamond R (diamond T))) Ts) Ns
picked_same R bits n [] [] h = refl
picked_same R bits n [] (N ∷ Ns) h =
    let e : n + 0 ≡ n = omega arith in
    let b : bit_at bits n ≡ 0 = ap (bit_at bits) (sym e) ∙ h 0 in
    ap (λ m. if m == 1 then N ∷ bit_picked bits (suc n) Ns else bit_picked bits (suc n) Ns) b
    ∙ picked_same R bits (suc n) [] Ns (λ k. let f : suc n + k ≡ n + suc k = omega arith in ap (bit_at bits) f ∙ h (suc k))
picked_same R bits n (T ∷ Ts) [] h = refl
picked_same R bits n (T ∷ Ts) (N ∷ Ns) h =
    let e : n + 0 ≡ n = omega arith in
    let b : bit_at bits n ≡ outer_bit R T = ap (bit_at bits) (sym e) ∙ h 0 in
    let rest = picked_same R bits (suc n) Ts Ns (λ k. let f : suc n + k ≡ n + suc k = omega arith in ap (bit_at bits) f ∙ h (suc k)) in
    ap (λ m. if m == 1 then N ∷ bit_picked bits (suc n) Ns else bit_picked bits (suc n) Ns) b ∙ at (has_diamond R (diamond T)) rest
  where
    at : (d : Bool) → bit_picked bits (suc n) Ns ≡ picked (map (λ S. not (has_diamond R (diamond S))) Ts) Ns
        → (if (if d then 0 else 1) == 1 then N ∷ bit_picked bits (suc n) Ns else bit_picked bits (suc n) Ns)
        ≡ (if not d then N ∷ picked (map (λ S. not (has_diamond R (diamond S))) Ts) Ns else picked (map (λ S. not (has_diamond R (diamond S))) Ts) Ns)
    at true rest = rest
    at false rest = ap (λ xs. N ∷ xs) rest

-- ---- what was opened

module _ (told : Option Bytes) (reader : ReaderState) (g : GraphState) (o : IsOpen told reader g) where
  bytes_table : IsTableOf o.bytes (stored_in reader o.bytes).0 (stored_in reader o.bytes).1 reader (record { l = g.l; records = g.records; tests = 0 })
  bytes_table = opened_table told reader (record { l = g.l; records = g.records; tests = 0 }) o

  -- the block of a record has two patches a member
  pub named_there : (i : ℕ) (c : Half) (bits : ℕ) (block : Contents) → IsGraph g → i < length g.records → slice_get (centres g) i ≡ Some (point_of c)
      → ForSome (slice_get reader.places i) (λ place. is_right_block reader.params.l (patches_of reader.params.l place) block ≡ true) → IsNamed g.l (record { centre = c; bits = bits; block = block })
  named_there i c bits block graph low at right =
      let tb = (stored_in reader o.bytes).0 in
      let t = bytes_table in
      let many : length g.records ≡ length tb.records = ap length t.graph_is.records ∙ length-map tb.records (λ (r : TableRecord). r.entry) in
      let row = patch_there tb.records i (subst (λ n. i < n) many low) in
      let place = patch_there reader.places i (subst (λ n. i < n) (many ∙ sym t.reader_is.count) low) in
      let p = t.reader_is.places i row.0 row.1 place.0 place.1 in
      let here : centre_of row.0 ≡ point_of c = some_point (centre_of row.0) (point_of c)
      (sym (slice_get-map centre_of tb.records i ∙ ap (option_map centre_of) row.1)
      ∙ sym (ap (λ ds. slice_get ds i) (graph_centres tb g (record { l = t.graph_is.l; records = t.graph_is.records }))) ∙ at) in
      let same : reader.params.l ≡ g.l = ap (λ (q : Params). q.l) t.reader_is.params_are ∙ sym t.l ∙ sym t.graph_is.l in
      let point : point_of place.0.centre ≡ point_of c = ap point_of p.centre ∙ here in
      record {
        can_split = splits_at g g.l i (point_of c) refl graph at;
        patches = right_length reader.params.l (patches_of reader.params.l place.0) block (right place.0 place.1)
            ∙ ap₂ (λ l d. 2 * length (members l d)) same point ∙ sym (parts-length g.l (point_of c));
      }
    where
      some_point : (x y : Point) → Some x ≡ Some y → x ≡ y
      some_point x y e = cc

      right_length : (l n : ℕ) (b : Contents) → is_right_block l n b ≡ true → length b.patches ≡ n
      right_length l n b h = eqb-true (length b.patches) n (and_parts _ _ h).0

  -- told bytes are those
  pub of_table : (bs : Bytes) → told ≡ Some bs → IsTableOf bs (stored_in reader bs).0 (stored_in reader bs).1 reader (record { l = g.l; records = g.records; tests = 0 })
  of_table bs tells = subst (λ xs. IsTableOf xs (stored_in reader xs).0 (stored_in reader xs).1 reader (record { l = g.l; records = g.records; tests = 0 })) (sym (o.held bs tells)) bytes_table

  module _ (bs : Bytes) (tells : told ≡ Some bs) where
    abbrev tb : Table
    tb = (stored_in reader bs).0

    pub row_there : (i : ℕ) → i < length g.records → (r : TableRecord) × (slice_get tb.records i ≡ Some r)
    row_there i low = patch_there tb.records i (subst (λ n. i < n) (ap length (of_table bs tells).graph_is.records ∙ length-map tb.records (λ (r : TableRecord). r.entry)) low)

    pub wrong_none : (i : ℕ) (block : Contents) → i < length g.records → IsBlockOf bs reader i (Ok block) → wrong_at tb i ≡ None
    wrong_none i block low h =
        let r = row_there i low in
        let is = h tb (stored_in reader bs).1 (of_table bs tells).reader_is r.0 r.1 in
        ap (option_and_then (λ (q : TableRecord). wrong_block i q.block)) r.1 ∙ ap (wrong_block i) is

    pub wrong_some : (i offset : ℕ) → i < length g.records → IsBlockOf bs reader i (Err offset) → wrong_at tb i ≡ Some (i, offset)
    wrong_some i offset low h =
        let r = row_there i low in
        let is = h tb (stored_in reader bs).1 (of_table bs tells).reader_is r.0 r.1 in
        ap (option_and_then (λ (q : TableRecord). wrong_block i q.block)) r.1 ∙ ap (wrong_block i) is

    -- the patches whose bits are those of the outer parts
    pub shown_there : (set : List ℕ) (i : ℕ) (c : Half) (bits : ℕ) (block : Contents) → i < length g.records → slice_get (centres g) i ≡ Some (point_of c)
        → ((k : ℕ) → bit_at bits k ≡ option_map_or (outer_bit (centres_at g.records set)) (slice_get (parts_at g i) k) 0)
        → IsBlockOf bs reader i (Ok block) → shown_patches (record { centre = c; bits = bits; block = block }) ≡ outer_patches_at tb (centres_at g.records set) i
    shown_there set i c bits block low at same h =
        let R = centres_at g.records set in
        let t = of_table bs tells in
        let r = row_there i low in
        let is = h tb (stored_in reader bs).1 t.reader_is r.0 r.1 in
        let here : parts_at g i ≡ parts tb.l (centre_of r.0) = parts_there g i (point_of c) at ∙ ap₂ parts t.graph_is.l (centre_is r.0 r.1) in
        picked_same R bits 0 (parts tb.l (centre_of r.0)) block.patches
        (λ k. zero_more bits k ∙ same k ∙ ap (λ Ts. option_map_or (outer_bit R) (slice_get Ts k) 0) here)
        ∙ ap (λ (q : Contents). picked (outer_marks tb.l R r.0) q.patches) (sym (contents_read r.0 block is))
        ∙ ap (λ q. option_map_or (outer_patches tb.l R) q []) (sym r.1)
      where
        zero_more : (b k : ℕ) → bit_at b (0 + k) ≡ bit_at b k
        zero_more b k = let e : 0 + k ≡ k = omega arith in ap (bit_at b) e

        some_point : (x y : Point) → Some x ≡ Some y → x ≡ y
        some_point x y e = cc

        centre_is : (r : TableRecord) → slice_get tb.records i ≡ Some r → point_of c ≡ centre_of r
        centre_is r there =
            some_point (point_of c) (centre_of r)
            (sym at ∙ ap (λ ds. slice_get ds i) (graph_centres tb g (record { l = (of_table bs tells).graph_is.l; records = (of_table bs tells).graph_is.records }))
            ∙ slice_get-map centre_of tb.records i ∙ ap (option_map centre_of) there)

-- ---- the records of a list, one after another

either_none : {X : Type 0} (a b : Option X) → option_or a b ≡ None → (a ≡ None) × (b ≡ None)
either_none None b e = (refl, e)
either_none (Some x) b e = absurd cc

pub first_wrong_both : (tb : Table) (xs ys : List ℕ) → first_wrong tb (xs ++ ys) ≡ option_or (first_wrong tb xs) (first_wrong tb ys)
unfolding first_wrong
first_wrong_both t [] ys = refl
first_wrong_both t (x ∷ xs) ys = ap (option_or (wrong_at t x)) (first_wrong_both t xs ys) ∙ assoc (wrong_at t x) (first_wrong t xs) (first_wrong t ys) where
  assoc : (a b c : Option (ℕ × ℕ)) → option_or a (option_or b c) ≡ option_or (option_or a b) c
  assoc None b c = refl
  assoc (Some x) b c = refl

pub no_wrong : (tb : Table) → first_wrong tb [] ≡ None
unfolding first_wrong
no_wrong t = refl

first_wrong_one : (tb : Table) (i : ℕ) → first_wrong tb (i ∷ []) ≡ wrong_at tb i
unfolding first_wrong
first_wrong_one tb i = or_none (wrong_at tb i) where
  or_none : (a : Option (ℕ × ℕ)) → option_or a None ≡ a
  or_none None = refl
  or_none (Some x) = refl

-- one more whose block is right
pub right_next : (tb : Table) (set : List ℕ) (k i : ℕ) → slice_get set k ≡ Some i → first_wrong tb (take k set) ≡ None → wrong_at tb i ≡ None → first_wrong tb (take (k + 1) set) ≡ None
right_next tb set k i at so_far right =
    ap (first_wrong tb) (take_next set k i at) ∙ first_wrong_both tb (take k set) (i ∷ []) ∙ ap (λ o. option_or o (first_wrong tb (i ∷ []))) so_far ∙ first_wrong_one tb i ∙ right

-- .. or wrong
pub wrong_next : (tb : Table) (set : List ℕ) (k i : ℕ) (w : ℕ × ℕ) → slice_get set k ≡ Some i → first_wrong tb (take k set) ≡ None → wrong_at tb i ≡ Some w → first_wrong tb set ≡ Some w
unfolding first_wrong
wrong_next tb [] k i w at so_far wrong = absurd cc
wrong_next tb (x ∷ xs) zero i w at so_far wrong = let same : x ≡ i = cc in ap (λ j. option_or (wrong_at tb j) (first_wrong tb xs)) same ∙ ap (λ o. option_or o (first_wrong tb xs)) wrong
wrong_next tb (x ∷ xs) (suc k) i w at so_far wrong =
    let both = either_none (wrong_at tb x) (first_wrong tb (take k xs)) so_far in
    ap (λ o. option_or o (first_wrong tb xs)) both.0 ∙ wrong_next tb xs k i w at both.1 wrong

-- what is shown of one more
pub patches_next : {S : Type 0} (shows : S → List Mesh) (has : ℕ → List Mesh) (shown : List S) (set : List ℕ) (k i : ℕ) (s : S) → slice_get set k ≡ Some i
    → flat_map shows shown ≡ flat_map has (take k set) → shows s ≡ has i → flat_map shows (shown ++ s ∷ []) ≡ flat_map has (take (k + 1) set)
patches_next shows has shown set k i s at so_far one =
    flat_map-append shows shown (s ∷ []) ∙ ap₂ (λ (xs ys : List Mesh). xs ++ ys) so_far (append-nil (shows s) ∙ one ∙ sym (append-nil (has i)))
    ∙ sym (flat_map-append has (take k set) (i ∷ [])) ∙ ap (flat_map has) (sym (take_next set k i at))

pub item_there : (xs : List ℕ) (k x : ℕ) → k < length xs → x ≡ get_or xs k x → slice_get xs k ≡ Some x
item_there xs k x low is = slice_get-get_or xs k x low ∙ ap Some (sym is)

pub item_in : (xs : List ℕ) (k x : ℕ) → k < length xs → x ≡ get_or xs k x → Contains xs x
item_in xs k x low is = subst (Contains xs) (sym is) (Contains-get_or xs k x low)

pub same_status : {A : Type 0} (s t : Status) → ◌≡◌ {A = Result A Status} (Err s) (Err t) → s ≡ t
same_status s t e = cc

pub same_bad : (a b : StoreBad) → BadStore a ≡ BadStore b → a ≡ b
same_bad a b e = cc

-- the record that an answer tells of is one of the set
pub told_of : (set : List ℕ) (i : ℕ) (s : Status) → Contains set i → (s ≡ Memory) ⊎ ((s ≡ ReadFault (Record i)) ⊎ ((bad : StoreBad) × (s ≡ BadStore bad)))
    → (s ≡ Memory) ⊎ (((j : ℕ) × (s ≡ ReadFault (Record j)) × Contains set j) ⊎ ((bad : StoreBad) × (s ≡ BadStore bad)))
told_of set i s within is = elim is [ inl e ↦ inl e | inr k ↦ elim k [ inl e ↦ inr (inl (i, e, within)) | inr e ↦ inr (inr e) ] ]

-- the level bounds of the reader and the graph
pub same_l : (told : Option Bytes) (reader : ReaderState) (g : GraphState) → IsOpen told reader g → reader.params.l ≡ g.l
same_l told reader g o = let t = bytes_table told reader g o in ap (λ (q : Params). q.l) t.reader_is.params_are ∙ sym t.l ∙ sym t.graph_is.l

-- the first wrong block is wrong
pub found_wrong : (t : Table) (xs : List ℕ) (i offset : ℕ) → first_wrong t xs ≡ Some (i, offset) → wrong_at t i ≡ Some (i, offset)
unfolding first_wrong
found_wrong t [] i offset e = absurd cc
found_wrong t (x ∷ xs) i offset e = at (wrong_at t x) refl e (λ f. found_wrong t xs i offset f) where
  own : (w : ℕ × ℕ) (o : Option TableRecord) → option_and_then (λ (r : TableRecord). wrong_block x r.block) o ≡ Some w → w.0 ≡ x
  own w None f = absurd cc
  own w (Some r) f = of_block r.block f where
    some_pair : (a b : ℕ × ℕ) → Some a ≡ Some b → a ≡ b
    some_pair a b f = cc

    of_block : (b : Result Contents ℕ) → wrong_block x b ≡ Some w → w.0 ≡ x
    of_block (Ok c) f = absurd cc
    of_block (Err k) f = let same : (x, k) ≡ w = some_pair (x, k) w f in ap (λ (q : ℕ × ℕ). q.0) (sym same)

  at : (o : Option (ℕ × ℕ)) → wrong_at t x ≡ o → option_or o (first_wrong t xs) ≡ Some (i, offset) → (first_wrong t xs ≡ Some (i, offset) → wrong_at t i ≡ Some (i, offset)) → wrong_at t i ≡ Some (i, offset)
  at None here f rest = rest f
  at (Some w) here f rest =
      let whole = here ∙ f in
      let same : i ≡ x = own (i, offset) (slice_get t.records x) whole in
      subst (λ j. wrong_at t j ≡ Some (i, offset)) (sym same) whole

-- no block that is asked for alone is wrong
pub never_wrong : (t : Table) (i : ℕ) (w : ℕ × ℕ) → first_wrong t (i ∷ []) ≡ None → wrong_at t i ≡ Some w → ⊥
never_wrong t i w none some = let both : None ≡ Some w = sym none ∙ first_wrong_one t i ∙ some in cc
