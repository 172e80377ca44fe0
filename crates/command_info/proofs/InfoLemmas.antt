-- What a store that was opened says of itself.
use Rattle.std.proofs.Common.{◌≡◌, ℕ, List, [], ◌∷◌, ◌++◌, length, sym, ◌∙◌, ap}
use Rattle.std.specs.Prelude.{Option, Some, Ok}
use Rattle.std.proofs.lemmas.List.{append-nil, length-map}
use Rattle.tpz_io.specs.Told.{followed_by}
use Rattle.tpz_io.specs.Writes.{Item, Note, Wrote}
use Rattle.tpz_base.specs.Texts.{Bytes}
use Rattle.diamond_graph.specs.Graphs.{GraphState}
use Rattle.patch_file.specs.declared.shape.Params.{Params}
use Rattle.patch_file.specs.Tables.{Table}
use Rattle.patch_file.specs.Stores.{read, numbers, table_of, record_at, read_block}
use Rattle.patch_file.specs.Reading.{ReaderState, place_in, IsOpened}
use Rattle.command_info.specs.Info.{info_items, info_note}
use Rattle.cut_export.proofs.Pieces.{followed_by-nil}

some_bytes : (a b : Bytes) → Some a ≡ Some b → a ≡ b
some_bytes a b e = cc

-- the note of a reader is that of the store's bytes
pub opened_items : (told : Option Bytes) (opened : ReaderState) (records : GraphState) → IsOpened told opened records → (bytes : Bytes) → told ≡ Some bytes
    → (out : Table × Params) × (read bytes ≡ Ok out) × (Note (info_note opened.params (length opened.places) opened.bytes) ∷ [] ≡ info_items out bytes)
opened_items told opened records o bytes tells =
    let bs = o.bytes in
    let same : bytes ≡ bs = o.held bytes tells in
    let base = opened.base.patches in
    let count : length opened.places ≡ length (table_of bs base).0.records =
    ap (λ (r : ReaderState). length r.places) o.reader ∙ length-map (numbers bs) (place_in bs)
    ∙ sym (length-map (numbers bs) (λ i. record { entry = record_at bs i; block = read_block bs i })) in (
      table_of bs base,
      ap read same ∙ o.read,
      note_alike opened.params (table_of bs base).1 (length opened.places) (length (table_of bs base).0.records) opened.bytes (length bytes)
          (ap (λ (r : ReaderState). r.params) o.reader) count (ap (λ (r : ReaderState). r.bytes) o.reader ∙ ap length (sym same)),
    )
  where
    note_alike : (p q : Params) (n m b c : ℕ) → p ≡ q → n ≡ m → b ≡ c → ◌≡◌ {A = List Item} (Note (info_note p n b) ∷ []) (Note (info_note q m c) ∷ [])
    note_alike p q n m b c e f g = cc

-- a note of a reader's numbers was written
pub note_written : (p p' : Params) (n n' b b' : ℕ) (line : Bytes) (p0 p1 : Option (List Bytes)) (n0 n1 : Option Bytes) → line ≡ info_note p n b → p ≡ p' → n ≡ n' → b ≡ b'
    → p1 ≡ p0 → n1 ≡ followed_by n0 (line ++ 10 ∷ []) → Wrote (Note (info_note p' n' b') ∷ []) p0 p1 n0 n1
note_written p p' n n' b b' line p0 p1 n0 n1 says e f g parts notes = record {
  parts = parts ∙ sym (followed_by-nil p0);
  notes = notes ∙ ap (followed_by n0) (ap (λ (l : Bytes). l ++ 10 ∷ []) (says ∙ alike) ∙ sym (append-nil _));
}
  where
    alike : info_note p n b ≡ info_note p' n' b'
    alike = cc
