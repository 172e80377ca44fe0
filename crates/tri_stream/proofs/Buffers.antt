-- Triangles that were read together are those that stand in the blob.
use Rattle.std.proofs.Common.{◌≡◌, ℕ, ◌+◌, ◌*◌, ◌<◌, ◌≤◌, List, Some, length, take, drop, sym, ◌∙◌, ap, arith}
use Rattle.std.specs.Prelude.{slice_get}
use Rattle.std.proofs.lemmas.List.{take-take, drop-take, drop-drop}
use Rattle.std.proofs.lemmas.List.FromFn.{get_or-map-range_with_len, length-map-range_with_len}
use Rattle.std.proofs.lemmas.Option.{slice_get-get_or}
use Rattle.tpz_base.specs.declared.shape.Tri.{Tri}
use Rattle.tri_stream.specs.Blocks.{Bytes, piece, tri_in, tris_in}

pub tris_length : (count : ℕ) (bytes : Bytes) → length (tris_in count bytes) ≡ count
tris_length count bytes = length-map-range_with_len (λ k. tri_in (piece bytes (36 * k) 36)) 0 count

pub tris_get : (count : ℕ) (bytes : Bytes) (k : ℕ) → k < count → slice_get (tris_in count bytes) k ≡ Some (tri_in (piece bytes (36 * k) 36))
tris_get count bytes k low =
    let f : ℕ → Tri = λ i. tri_in (piece bytes (36 * i) 36) in
    let long = tris_length count bytes in
    slice_get-get_or (tris_in count bytes) k (f k) (omega arith) ∙ ap Some (get_or-map-range_with_len f 0 count k k (f k) low (omega arith))

-- a piece of a piece
piece_within : (bytes told : Bytes) (at n o m : ℕ) → take n bytes ≡ piece told at n → o + m ≤ n → piece bytes o m ≡ piece told (at + o) m
piece_within bytes told at n o m is inside =
    let a : piece bytes o m ≡ drop o (take (o + m) bytes) = sym (drop-take o m bytes) in
    let b : take (o + m) bytes ≡ take (o + m) (take n bytes) = sym (take-take (o + m) n bytes inside) in
    let d : take (o + m) (take n (drop at told)) ≡ take (o + m) (drop at told) = take-take (o + m) n (drop at told) inside in
    a ∙ ap (λ (bs : Bytes). drop o bs) (b ∙ ap (λ (bs : Bytes). take (o + m) bs) is ∙ d)
    ∙ drop-take o m (drop at told) ∙ ap (λ (bs : Bytes). take m bs) (drop-drop o at told)

pub tris_read : (bytes told : Bytes) (at count : ℕ) → take (36 * count) bytes ≡ piece told at (36 * count)
    → (k : ℕ) → k < count → slice_get (tris_in count bytes) k ≡ Some (tri_in (piece told (at + 36 * k) 36))
tris_read bytes told at count is k low =
    tris_get count bytes k low ∙ ap (λ (bs : Bytes). Some (tri_in bs)) (piece_within bytes told at (36 * count) (36 * k) 36 is (omega arith))

pub held_number : (count : ℕ) (bytes : Bytes) (tris : List Tri) (k : ℕ) → tris_in count bytes ≡ tris → k < length tris → k < count
held_number count bytes tris k is low =
    let long = tris_length count bytes in
    let same : length (tris_in count bytes) ≡ length tris = ap (λ (x : List Tri). length x) is in
    omega arith
