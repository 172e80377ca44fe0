-- What the lines of a script make of a store, step by step.
use Rattle.std.proofs.Common.{◌≡◌, ℕ, zero, suc, ◌+◌, ◌*◌, ◌<◌, ◌≤◌, ◌⊎◌, Bool, true, false, List, [], ◌∷◌, ◌++◌, length, refl, sym, ◌∙◌, ap, ap₂, subst, inl, inr, arith, slice_get, length-append, Option, Some, None, Result, Ok, Err}
use Rattle.std.specs.Prelude.{Contains, OnErr, OnOk, flat_map, nat_le, unsigned_abs, ℤ, pos}
use Rattle.std.specs.Option.{option_and_then, option_map_or, option_or}
use Rattle.std.specs.List.{filter_map, cons_option, list_all, slice_index_or}
use Rattle.std.proofs.lemmas.Bool.{and_parts, leb-true}
use Rattle.std.proofs.lemmas.List.Elements.{All-contains}
use Rattle.tpz_base.specs.declared.shape.Point.{Point}
use Rattle.tpz_base.specs.Meshes.{Mesh}
use Rattle.std.proofs.lemmas.List.{length-map}
use Rattle.tpz_io.specs.Told.{followed_by}
use Rattle.tpz_io.specs.Writes.{Wrote}
use Rattle.cut_export.proofs.Pieces.{followed_by-nil}
use Rattle.tetra_name.proofs.NameFacts.{member-contains}
use Rattle.tpz_base.specs.Texts.{Bytes, text}
use Rattle.tpz_base.proofs.CutLaw.{Member}
use Rattle.diamond_graph.specs.Graphs.{GraphState, centres}
use Rattle.patch_file.specs.declared.shape.StoreBad.{StoreBad}
use Rattle.patch_file.specs.Patches.{cut_patches, joined, mesh_of_cut, outer_patches, rows_at}
use Rattle.patch_file.specs.Reading.{IsGraphOf, ReaderState}
use Rattle.patch_file.specs.declared.shape.Params.{Params}
use Rattle.patch_file.specs.Tables.{Contents, Table, TableRecord, entries_of}
use Rattle.patch_file.specs.Asking.{HasAsked}
use Rattle.patch_file.proofs.AskingLaw.{asked_refused}
use Rattle.patch_file.proofs.CutMesh.{IsRightRow}
use Rattle.patch_file.proofs.CutRows.{mesh_of_places, row_placed}
use Rattle.patch_file.proofs.SoundLaw.{sound}
use Rattle.script_text.specs.declared.line.Line.TheVariants.{Look, Write}
use Rattle.cut_export.specs.Parts.{row_of, IsLow}
use Rattle.cut_export.specs.declared.export.ExportFault.{ExportFault}
use Rattle.cut_export.specs.declared.export.ExportFault.TheVariants as export
use Rattle.view_cut.specs.Sets.{centres_at, IsConformingSet}
use Rattle.view_cut.specs.Views.{counted_by, wanted_places}
use Rattle.view_cut.specs.declared.wanting.View.{View}
use Rattle.view_cut.proofs.PlaceLaw.{wanted_at}
use Rattle.run_status.specs.declared.status.Status.{Status}
use Rattle.run_status.specs.declared.status.Status.TheVariants as status
use Rattle.run_status.specs.declared.status.ReadAt.TheVariants as read_at
use Rattle.cut_blocks.specs.declared.blocks.Shown.{Shown}
use Rattle.command_replay.specs.Plays.{Play, cut_of, numbers_of, part_of, shows, step, view_at}
use Rattle.cut_blocks.specs.WrongBlocks.{Stored, first_wrong, wrong_at, wrong_block}
use Rattle.command_replay.specs.declared.replay.Player.{Player}
use Rattle.command_replay.specs.Playing.{IsPlaying}
use Rattle.cut_blocks.proofs.ShownLaw.{counts_both}
use Rattle.cut_blocks.specs.Shown.{all_patches, is_read_fault, outer_patches_at, shown_patches, stored_in, IsOpen}
use Rattle.run_status.specs.Statuses.{export_status, IsOfLines}
use Rattle.cut_blocks.proofs.OpenLaw.{of_table, row_there}

-- ---- what a part shows

module _ (told : Option Bytes) (reader : ReaderState) (g : GraphState) (o : IsOpen told reader g) (bs : Bytes) (tells : told ≡ Some bs) where
  abbrev tb : Table
  tb = (stored_in reader bs).0

  abbrev R : List ℕ → List Point
  R set = filter_map (slice_get (centres g)) set

  graph_is : IsGraphOf tb g
  graph_is = let t = of_table told reader g o bs tells in record { l = t.graph_is.l; records = t.graph_is.records }

  right_member : (set : List ℕ) (i : ℕ) → first_wrong tb set ≡ None → Member set i → wrong_at tb i ≡ None
  unfolding first_wrong
  right_member [] i none m = absurd m
  right_member (x ∷ set) i none m =
      let both = halves (wrong_at tb x) (first_wrong tb set) none in
      elim m [ inl e ↦ subst (λ j. wrong_at tb j ≡ None) e both.0 | inr k ↦ right_member set i both.1 k ]
    where
      halves : (a b : Option (ℕ × ℕ)) → option_or a b ≡ None → (a ≡ None) × (b ≡ None)
      halves None b e = (refl, e)
      halves (Some x) b e = absurd cc

  right_row : (set : List ℕ) → first_wrong tb set ≡ None → (r : TableRecord) → Member (rows_at tb set) r → IsRightRow r
  right_row set none r m =
      let p = row_placed tb set r m in
      let w = right_member set p.0 none p.1 in
      is_right p.0 r.block (sym (ap (λ q. there p.0 q) p.2) ∙ w)
    where
      there : ℕ → Option TableRecord → Option (ℕ × ℕ)
      there i q = option_and_then (λ (x : TableRecord). wrong_block i x.block) q

      is_right : (i : ℕ) (b : Result Contents ℕ) → wrong_block i b ≡ None → (c : Contents) × (b ≡ Ok c)
      is_right i (Ok c) e = (c, refl)
      is_right i (Err offset) e = absurd cc

  rows_patches : (f : TableRecord → List Mesh) (set : List ℕ) → flat_map (λ i. option_map_or f (slice_get tb.records i) []) set ≡ flat_map f (rows_at tb set)
  rows_patches f [] = refl
  rows_patches f (i ∷ set) = at (slice_get tb.records i) (rows_patches f set) where
    at : (q : Option TableRecord) → flat_map (λ i. option_map_or f (slice_get tb.records i) []) set ≡ flat_map f (rows_at tb set)
        → option_map_or f q [] ++ flat_map (λ i. option_map_or f (slice_get tb.records i) []) set ≡ flat_map f (cons_option q (rows_at tb set))
    at None rest = rest
    at (Some r) rest = ap (λ m. f r ++ m) rest

  all_shown : (Rs : List Point) (set : List ℕ) (shown : List Shown) → ((i : ℕ) → Member set i → i < length g.records) → length shown ≡ length set
      → flat_map shown_patches shown ≡ flat_map (outer_patches_at tb Rs) set → all_patches reader.base.patches shown ≡ cut_patches tb Rs (rows_at tb set)
  all_shown Rs [] [] within long e = refl
  all_shown Rs (i ∷ set) [] within long e = absurd (omega (arith, long))
  all_shown Rs [] (s ∷ shown) within long e = absurd (omega (arith, long))
  all_shown Rs (i ∷ set) (s ∷ shown) within long e =
      let r = row_there told reader g o bs tells i (within i (inl refl)) in
      let first : rows_at tb (i ∷ set) ≡ r.0 ∷ rows_at tb set = ap (λ q. cons_option q (rows_at tb set)) r.1 in
      e ∙ rows_patches (outer_patches tb.l Rs) (i ∷ set) ∙ ap (flat_map (outer_patches tb.l Rs)) first ∙ sym (ap (cut_patches tb Rs) first)

  -- the views show the mesh of the cut
  pub part_there : (set : List ℕ) (shown : List Shown) → IsConformingSet g set → ((i : ℕ) → Member set i → i < length g.records) → first_wrong tb set ≡ None → length shown ≡ length set
      → flat_map shown_patches shown ≡ flat_map (outer_patches_at tb (centres_at g.records set)) set
      → joined (all_patches reader.base.patches shown) ≡ mesh_of_cut tb (centres_at g.records set)
  unfolding centres_at
  part_there set shown conforming within right long e =
      ap joined (all_shown (R set) set shown within long e)
      ∙ sym (mesh_of_places tb g set (sound bs (stored_in reader bs) (of_table told reader g o bs tells).reader_is.read) graph_is conforming.conforming (right_row set right))

  pub part_shown : (front set : List ℕ) (shown : List Shown) → set ≡ front → IsConformingSet g front → first_wrong tb set ≡ None → length shown ≡ length set
      → flat_map shown_patches shown ≡ flat_map (outer_patches_at tb (centres_at g.records set)) set
      → joined (all_patches reader.base.patches shown) ≡ mesh_of_cut tb (centres_at g.records front)
  part_shown front set shown same conforming right long e =
      subst (λ xs. joined (all_patches reader.base.patches shown) ≡ mesh_of_cut tb (centres_at g.records xs)) same
      (part_there set shown there (λ i m. All-contains (λ j. j < length g.records) set i there.within (member-contains set i m)) right long e)
    where
      there : IsConformingSet g set
      there = subst (IsConformingSet g) (sym same) conforming

-- ---- the least coordinates

near_at : (zs : List ℤ) (i : ℕ) → list_all (λ z. nat_le (unsigned_abs z) 2147483647) zs ≡ true → unsigned_abs (slice_index_or zs i (pos 0)) ≤ 2147483647
near_at [] i all = omega arith
near_at (z ∷ zs) zero all = leb-true (unsigned_abs z) 2147483647 (and_parts _ _ all).0
near_at (z ∷ zs) (suc i) all = near_at zs i (and_parts _ _ all).1

pub low_near : (zs : List ℤ) → list_all (λ z. nat_le (unsigned_abs z) 2147483647) zs ≡ true → IsLow zs
low_near zs all =
    let x = near_at zs 0 all in
    let y = near_at zs 1 all in
    let z = near_at zs 2 all in
    record { x = omega (arith, x); y = omega (arith, y); z = omega (arith, z) }

pub low_at : (zs : List ℤ) (i : ℕ) → list_all (λ z. nat_le (unsigned_abs z) 2147483647) zs ≡ true → unsigned_abs (slice_index_or zs i (pos 0)) ≤ 2147483647
low_at = near_at

-- ---- the status of a part that isn't written

pub export_no_bad : (f : ExportFault) (bad : StoreBad) → export_status f ≡ status.BadStore bad → ⊥
export_no_bad export.OutFault bad e = cc
export_no_bad export.Memory bad e = cc

pub export_no_read : (f : ExportFault) (i : ℕ) → export_status f ≡ status.ReadFault (read_at.Record i) → ⊥
export_no_read export.OutFault i e = cc
export_no_read export.Memory i e = cc

pub export_of_lines : (f : ExportFault) → IsOfLines (export_status f)
export_of_lines export.OutFault = tt
export_of_lines export.Memory = tt

pub export_unread : (f : ExportFault) → is_read_fault (export_status f) ≡ false
export_unread export.OutFault = refl
export_unread export.Memory = refl

-- ---- answers

-- the record that an answer tells of
pub told_record : (set : List ℕ) (i : ℕ) (s : Status)
    → (s ≡ status.Memory) ⊎ (((j : ℕ) × (s ≡ status.ReadFault (read_at.Record j)) × Contains set j) ⊎ ((bad : StoreBad) × (s ≡ status.BadStore bad)))
    → s ≡ status.ReadFault (read_at.Record i) → Contains set i
told_record set i s is e =
    elim is [
      | inl f ↦ (let wrong : status.Memory ≡ status.ReadFault (read_at.Record i) = sym f ∙ e in absurd cc)
      | inr k ↦ elim k [
        | inl h ↦ (let same : status.ReadFault (read_at.Record h.0) ≡ status.ReadFault (read_at.Record i) = sym h.1 ∙ e in let one : h.0 ≡ i = cc in subst (Contains set) one h.2)
        | inr h ↦ (let wrong : status.BadStore h.0 ≡ status.ReadFault (read_at.Record i) = sym h.1 ∙ e in absurd cc)
      ]
    ]

pub on_err : {A E : Type 0} (X : Type 0) (r : Result A E) → X → OnErr r X
on_err X (Ok a) x = tt
on_err X (Err e) x = x

pub on_ok : {A E : Type 0} (X Y : Type 0) (r : Result A E) → (X → Y) → OnOk r X → OnOk r Y
on_ok X Y (Ok a) f x = f x
on_ok X Y (Err e) f x = tt

pub on_ok_both : {A E : Type 0} (X Y Z : Type 0) (r : Result A E) → (X → Y → Z) → OnOk r X → OnOk r Y → OnOk r Z
on_ok_both X Y Z (Ok a) f x y = f x y
on_ok_both X Y Z (Err e) f x y = tt

pub on_err_map : {A E : Type 0} (X Y : Type 0) (r : Result A E) → (X → Y) → OnErr r X → OnErr r Y
on_err_map X Y (Ok a) f x = tt
on_err_map X Y (Err e) f x = f x

-- ---- a step

pub open_kept : (told : Option Bytes) (reader : ReaderState) (g g' : GraphState) → g'.l ≡ g.l → g'.records ≡ g.records → IsOpen told reader g → IsOpen told reader g'
open_kept told reader g g' l records o = record {
  bytes = o.bytes;
  held = o.held;
  read = o.read;
  reader = o.reader;
  graph = ap₂ (λ n rs. record { l = n; records = rs; tests = 0 }) l records ∙ o.graph;
}

module _ (told : Option Bytes) (reader : ReaderState) (bs : Bytes) (tells : told ≡ Some bs) where
  abbrev out : Stored
  out = stored_in reader bs

  module _ (g : GraphState) (o : IsOpen told reader g) where
    entries_are : g.records ≡ entries_of out.0
    entries_are = (of_table told reader g o bs tells).graph_is.records

    params_are : reader.params ≡ out.1
    params_are = (of_table told reader g o bs tells).reader_is.params_are

    count_is : length g.records ≡ length out.0.records
    count_is = ap length entries_are ∙ length-map out.0.records (λ (r : TableRecord). r.entry)

    -- the diamonds of the records that the last view wants are its cut
    cut_is : (view : Option View) (front : List ℕ) → front ≡ numbers_of out.0 view → centres_at g.records front ≡ cut_of out.0 view
    unfolding centres_at
    cut_is None front e = ap (centres_at g.records) e
    cut_is (Some v) front e =
        ap (centres_at g.records) e ∙ ap (λ rs. centres_at rs (wanted_places v (entries_of out.0))) entries_are ∙ wanted_at v (entries_of out.0)

    pub looked_is : (p : Play) (player : Player) (front : List ℕ) (g' : GraphState) (x y z : ℤ) (tol : ℕ) (view : View) → player.graph ≡ g → IsPlaying out p player → view ≡ view_at reader.params.low x y z tol
        → front ≡ wanted_places view g.records → g'.tests ≡ counted_by (length g.records) g.tests
        → IsPlaying out (step out p (Some (Look x y z tol))) (record { graph = g'; front = front; reads = player.reads; parts = player.parts })
    looked_is p player front g' x y z tol view graph h seen wants tested =
        let more : length out.0.records + p.looks * length out.0.records ≡ suc p.looks * length out.0.records = omega arith in
        record {
          places = wants ∙ ap₂ wanted_places (seen ∙ ap (λ (q : Params). view_at q.low x y z tol) params_are) entries_are;
          parts = h.parts;
          tests = tested ∙ ap (counted_by (length g.records)) (sym (ap (λ (q : GraphState). q.tests) graph) ∙ h.tests) ∙ ap (λ n. counted_by n (counted_by (p.looks * length out.0.records) 0)) count_is
              ∙ counts_both (length out.0.records) (p.looks * length out.0.records) 0 ∙ ap (λ n. counted_by n 0) more;
        }

    pub written_is : (p : Play) (player player' : Player) → IsPlaying out p player → player'.graph ≡ player.graph → player'.front ≡ player.front → player'.parts ≡ player.parts + 1
        → IsPlaying out (step out p (Some Write)) player'
    written_is p player player' h graph front parts = record {
      places = front ∙ h.places;
      parts = parts ∙ ap (λ n. n + 1) h.parts ∙ sym (length-append p.items (part_of out p.view ∷ []));
      tests = ap (λ (q : GraphState). q.tests) graph ∙ h.tests;
    }

    pub part_is : (p : Play) (player : Player) (p0 p1 : Option (List Bytes)) (n0 n1 : Option Bytes) → player.graph ≡ g → IsPlaying out p player
        → p1 ≡ followed_by p0 (text (mesh_of_cut out.0 (centres_at player.graph.records player.front)) (row_of reader.params.low) reader.params.digits ∷ []) → n1 ≡ n0
        → Wrote (shows out p Write) p0 p1 n0 n1
    part_is p player p0 p1 n0 n1 graph h parts notes =
        let cut : centres_at player.graph.records player.front ≡ cut_of out.0 p.view
        = ap (λ (q : GraphState). centres_at q.records player.front) graph ∙ cut_is p.view player.front h.places in
        record {
          parts = parts ∙ ap₂ (λ (R : List Point) (q : Params). followed_by p0 (text (mesh_of_cut out.0 R) (row_of q.low) q.digits ∷ [])) cut params_are;
          notes = notes ∙ sym (followed_by-nil n0);
        }

-- blocks were read, but the part wasn't written
pub asked_export : (tries m n : ℕ) (s : Bool) (fault : ExportFault) (answer : Status) (f f' r r' : ℕ) (o o' : Option (List Bool)) → m ≡ n → answer ≡ export_status fault
    → HasAsked tries m true s f f' r r' o o' → HasAsked tries n false (is_read_fault answer) f f' r r' o o'
asked_export tries m n s fault answer f f' r r' o o' same is h =
    subst (λ b. HasAsked tries n false b f f' r r' o o') (sym (ap is_read_fault is ∙ export_unread fault))
    (asked_refused tries m n true s f f' r r' o o' (subst (λ k. m ≤ k) same (omega arith)) h)
