-- Names of tetrahedra in order, and tables from names to streams.
use Rattle.std.specs.Prelude.{ℕ, List, [], ◌∷◌, map, refl}
use Rattle.std.specs.Ordering.{nat_cmp}
use Rattle.std.specs.declared.cmp.Ordering.{Ordering}
use Rattle.std.specs.Cmp.Lexicographic.{slice_cmp}
use Rattle.std.specs.Coded.{Coded, code_by, coded×, coded_ℕ}
use Rattle.std.specs.FinMap.{FinMap, code, from_entries}
use Rattle.tetra_name.specs.declared.shape.Tet.{Tet}
use Rattle.tri_stream.specs.declared.names.StreamId.{StreamId}
use Rattle.assign.specs.declared.leaves.Key.{Key}

-- the centre's coordinates and the slot
abbrev pub numbers_of : Tet → List ℕ
numbers_of t = t.centre.x ∷ t.centre.y ∷ t.centre.z ∷ t.slot ∷ []

-- by centre, then by slot
abbrev pub tet_cmp : Tet → Tet → Ordering
tet_cmp s t = slice_cmp nat_cmp (numbers_of s) (numbers_of t)

-- finitely many names, each with a stream
abbrev pub LeafTable : Type 0
LeafTable = FinMap tet_cmp StreamId

-- names, streams and tables as numbers and lists, by which proofs tell them apart
abbrev pub tet_code : Coded Tet
tet_code =
    code_by (ℕ × (ℕ × (ℕ × ℕ))) (coded× coded_ℕ (coded× coded_ℕ (coded× coded_ℕ coded_ℕ)))
    (λ t. (t.centre.x, (t.centre.y, (t.centre.z, t.slot)))) (λ p. record { centre = record { x = p.0; y = p.1.0; z = p.1.1.0 }; slot = p.1.1.1 }) (λ _. refl)

abbrev pub stream_code : Coded StreamId
stream_code = code_by ℕ coded_ℕ (λ s. s.place) (λ n. record { place = n }) (λ _. refl)

abbrev pub table_code : Coded LeafTable
table_code = code tet_code stream_code

-- the name that a key of the table stands for
abbrev pub name_of : Key → Tet
name_of k = record { centre = record { x = k.x; y = k.y; z = k.z }; slot = k.slot }

-- the table that lists these entries
abbrev pub table_of : List (Key × StreamId) → LeafTable
table_of es = from_entries (map (λ e. (name_of e.0, e.1)) es)
