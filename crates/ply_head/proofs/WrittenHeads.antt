-- What the header of a written mesh says.
use Rattle.std.proofs.Common.{◌≡◌, ℕ, ◌+◌, ◌-◌, ◌<◌, ◌≤◌, ◌^◌, List, [], ◌∷◌, ◌++◌, length, get_or, refl, ◌∙◌, ap, arith, Bool, true, false, not, ◌&&◌, append_assoc, length-append, inl, inr}
use Rattle.std.specs.Prelude.{codes, decimal, nat_lt, nat_le, ◌==◌, Some, None, Result, Ok}
use Rattle.std.specs.List.{list_any, slice_split, onto_first}
use Rattle.std.specs.Str.{bytes_eq}
use Rattle.std.specs.Str.Lines.{strip_carriage_return}
use Rattle.std.proofs.lemmas.Bool.Decides.{nat_tests}
use Rattle.std.proofs.lemmas.Bool.{cases_Bool}
use Rattle.std.proofs.lemmas.Fmt.{decimal_nonempty}
use Rattle.std.proofs.lemmas.List.Folds.{list_any_at}
use Rattle.std.proofs.lemmas.List.Splits.{slice_split-cons_yes, slice_split-cons_no, length-slice_split}
use Rattle.tpz_base.specs.Texts.{Bytes, head_lines, lines as joined}
use Rattle.ply_head.specs.declared.element.Element.{Element}
use Rattle.ply_head.specs.declared.element.Format.TheVariants.{Ascii}
use Rattle.ply_head.specs.declared.element.Kind.TheVariants.{U8, I32}
use Rattle.ply_head.specs.declared.element.Role.TheVariants.{X, Y, Z, Indices, Skip}
use Rattle.ply_head.specs.declared.element.Used.TheVariants.{Vertex, Face}
use Rattle.ply_head.specs.declared.fault.HeadFault.{HeadFault}
use Rattle.ply_head.specs.declared.text.Line.{Line}
use Rattle.ply_head.specs.Numbers.{is_digit, value}
use Rattle.ply_head.specs.Lines.{is_line_feed, is_blank, is_nonempty, numbered, parts, words}
use Rattle.ply_head.specs.Headers.{Form, Passed, FormatLine, ElementLine, ScalarLine, ListLine, Heading, Named, Declared, Seen, nothing_seen, fault_in, form, form_of, has_too_many, has_wrong_type, heading, heading_from, is_end, is_misplaced, lacks_format, with_form}
use Rattle.ply_head.proofs.WrittenNumbers.{digits_written, few_written, none_among, value_written}

-- A part that a byte ends, among those of a text.
pub split_after : (p : ℕ → Bool) (part : Bytes) (end : ℕ) (rest : Bytes) → list_any p part ≡ false → p end ≡ true
    → slice_split p (part ++ end ∷ rest) ≡ part ∷ slice_split p rest
split_after p [] end rest none ends = slice_split-cons_yes p end rest ends
split_after p (c ∷ cs) end rest none ends =
    let first : p c ≡ false = grind (arith, nat_tests) in
    let others : list_any p cs ≡ false = grind (arith, nat_tests) in
    slice_split-cons_no p c (cs ++ end ∷ rest) first ∙ ap (onto_first c) (split_after p cs end rest others ends)

pub split_alone : (p : ℕ → Bool) (part : Bytes) → list_any p part ≡ false → slice_split p part ≡ part ∷ []
split_alone p [] none = refl
split_alone p (c ∷ cs) none =
    let first : p c ≡ false = grind (arith, nat_tests) in
    let others : list_any p cs ≡ false = grind (arith, nat_tests) in
    slice_split-cons_no p c cs first ∙ ap (onto_first c) (split_alone p cs others)

-- The lines of a text that is joined of lines without line feeds.
abbrev AreUnbroken : List Bytes → Type 0
AreUnbroken [] = Unit
AreUnbroken (l ∷ ls) = (list_any is_line_feed l ≡ false) × AreUnbroken ls

parts_joined : (ls : List Bytes) (rest : Bytes) → AreUnbroken ls → parts (joined ls ++ rest) ≡ ls ++ parts rest
parts_joined [] rest none = refl
parts_joined (l ∷ ls) rest none =
    ap (slice_split is_line_feed) (append_assoc (l ++ 10 ∷ []) (joined ls) rest ∙ append_assoc l (10 ∷ []) (joined ls ++ rest))
    ∙ split_after is_line_feed l 10 (joined ls ++ rest) none.0 refl ∙ ap (λ (ps : List Bytes). l ∷ ps) (parts_joined ls rest none.1)

some_part : (bytes : Bytes) → (p : Bytes) × (ps : List Bytes) × (parts bytes ≡ p ∷ ps)
some_part bytes = go (parts bytes) refl (omega (arith, length-slice_split is_line_feed bytes)) where
  go : (all : List Bytes) → parts bytes ≡ all → 0 < length (parts bytes) → (p : Bytes) × (ps : List Bytes) × (parts bytes ≡ p ∷ ps)
  go [] is some = absurd (omega (arith, ap (λ (ps : List Bytes). length ps) is))
  go (p ∷ ps) is some = (p, ps, is)

no_return : (l : Bytes) → list_any (λ c. c == 13) l ≡ false → strip_carriage_return l ≡ l
no_return [] none = refl
no_return (c ∷ cs) none =
    elim (cases_Bool (get_or (c ∷ cs) (length (c ∷ cs) - 1) 0 == 13)) [
      | inl e ↦ absurd (let found = list_any_at (λ b. b == 13) (c ∷ cs) (length (c ∷ cs) - 1) 0 (omega arith) e in cc)
      | inr e ↦ rw e refl
    ]

-- A line of the header that doesn't end it, and has no fault.
record IsPassed (s : Seen) (f : Form) : Type 0 where
  format : lacks_format s f ≡ false
  place : is_misplaced s f ≡ false
  types : has_wrong_type s f ≡ false
  few : has_too_many s f ≡ false
  before : is_end f ≡ false

no_fault : (s : Seen) (l : Line) (f : Form) → form l ≡ f → IsPassed s f → (l.number == 1 && not (bytes_eq l.text (codes "ply"))) ≡ false
    → l.is_ended ≡ true → l.end ≤ 1048576 → fault_in s l ≡ None
no_fault s l f is p start ended short =
    let within : nat_lt 1048576 l.end ≡ false = grind (arith, nat_tests) in
    rw (start, within, ended, is, p.format, p.place, p.types, p.few, p.before) refl

passed : (s : Seen) (l : Line) (ls : List Line) (f : Form) → form l ≡ f → IsPassed s f → (l.number == 1 && not (bytes_eq l.text (codes "ply"))) ≡ false
    → l.is_ended ≡ true → l.end ≤ 1048576 → heading_from s (l ∷ ls) ≡ heading_from (with_form s f) ls
passed s l ls f is p start ended short = rw (no_fault s l f is p start ended short, is, p.before) refl

-- .. in its place among the parts
step : (s : Seen) (n at : ℕ) (part next : Bytes) (ps : List Bytes) (f : Form) → list_any (λ c. c == 13) part ≡ false
    → form (record { number = n; text = part; is_ended = true; end = at + (length part + 1) }) ≡ f → IsPassed s f
    → (n == 1 && not (bytes_eq part (codes "ply"))) ≡ false → at + (length part + 1) ≤ 1048576
    → heading_from s (numbered n at (part ∷ next ∷ ps)) ≡ heading_from (with_form s f) (numbered (n + 1) (at + (length part + 1)) (next ∷ ps))
step s n at part next ps f none is p start short =
    let line : Bytes → Line = λ text. record { number = n; text = text; is_ended = true; end = at + (length part + 1) } in
    let later = numbered (n + 1) (at + (length part + 1)) (next ∷ ps) in
    ap (λ (text : Bytes). heading_from s (line text ∷ later)) (no_return part none) ∙ passed s (line part) later f is p start refl short

-- The words of a line that ends with a number.
not_blank : (c : ℕ) → is_digit c ≡ true → is_blank c ≡ false
not_blank c h = grind (arith, nat_tests)

not_return : (c : ℕ) → is_digit c ≡ true → (c == 13) ≡ false
not_return c h = grind (arith, nat_tests)

not_line_feed : (c : ℕ) → is_digit c ≡ true → is_line_feed c ≡ false
not_line_feed c h = grind (arith, nat_tests)

pub is_some_word : (w : Bytes) → 0 < length w → is_nonempty w ≡ true
is_some_word [] some = absurd (omega arith)
is_some_word (c ∷ cs) some = refl

number_word : (n : ℕ) → n < 2 ^ 64 → words (decimal n) ≡ decimal n ∷ []
number_word n small =
    let alone = split_alone is_blank (decimal n) (none_among is_blank not_blank (decimal n) (digits_written n)) in
    let some : is_nonempty (decimal n) ≡ true = is_some_word (decimal n) (decimal_nonempty n small) in
    rw alone (rw some refl)

-- the form of a line that declares an element
vertex_form : (n : ℕ) → n < 2 ^ 64 → form_of (words (codes "element vertex " ++ decimal n)) ≡ ElementLine (codes "vertex") (decimal n)
vertex_form n small = ap (λ (ws : List Bytes). form_of (codes "element" ∷ codes "vertex" ∷ ws)) (number_word n small)

face_form : (n : ℕ) → n < 2 ^ 64 → form_of (words (codes "element face " ++ decimal n)) ≡ ElementLine (codes "face") (decimal n)
face_form n small = ap (λ (ws : List Bytes). form_of (codes "element" ∷ codes "face" ∷ ws)) (number_word n small)

few_rows : (n : ℕ) → n ≤ 2147483648 → nat_lt 2147483648 (value (decimal n)) ≡ false
few_rows n few = let same = value_written n (omega arith) in rw same (grind (arith, nat_tests))

-- the elements of a written mesh
abbrev pub written_elements : ℕ → ℕ → List Element
written_elements vertices faces =
    record {
      count = vertices;
      used = Vertex;
      properties = record { count_kind = None; kind = I32; role = X } ∷ record { count_kind = None; kind = I32; role = Y }
          ∷ record { count_kind = None; kind = I32; role = Z } ∷ [];
    }
    ∷ record { count = faces; used = Face; properties = record { count_kind = Some U8; kind = I32; role = Indices } ∷ [] } ∷ []

plain_form : (s : Seen) → IsPassed s Passed
plain_form s = record { format = refl; place = refl; types = refl; few = refl; before = refl }

-- The lines of the header, one after another.
module _ (digits vertices faces : ℕ) (few_vertices : vertices ≤ 2147483648) (few_faces : faces ≤ 2147483648) where
  abbrev comment : Bytes
  comment = codes "comment tpz digits " ++ decimal digits

  abbrev vertex_line : Bytes
  vertex_line = codes "element vertex " ++ decimal vertices

  abbrev face_line : Bytes
  face_line = codes "element face " ++ decimal faces

  abbrev with_format : Seen
  with_format = record { format = Some Ascii; elements = [] }

  abbrev coordinate : Bytes → Named
  coordinate name = record { name = name; property = record { count_kind = None; kind = I32; role = Skip } }

  abbrev vertex_with : List Named → Declared
  vertex_with properties = record { name = codes "vertex"; count = value (decimal vertices); properties = properties }

  abbrev face_with : List Named → Declared
  face_with properties = record { name = codes "face"; count = value (decimal faces); properties = properties }

  abbrev with_elements : List Declared → Seen
  with_elements es = record { format = Some Ascii; elements = es }

  abbrev xyz : List Named
  xyz = coordinate (codes "x") ∷ coordinate (codes "y") ∷ coordinate (codes "z") ∷ []

  abbrev indices : Named
  indices = record { name = codes "vertex_indices"; property = record { count_kind = Some U8; kind = I32; role = Skip } }

  abbrev all_seen : Seen
  all_seen = with_elements (vertex_with xyz ∷ face_with (indices ∷ []) ∷ [])

  abbrev comment_end : ℕ
  comment_end = 21 + (length comment + 1)

  abbrev vertex_end : ℕ
  vertex_end = comment_end + (length vertex_line + 1)

  -- three lines of 14 bytes
  abbrev face_start : ℕ
  face_start = vertex_end + 15 + 15 + 15

  abbrev face_end : ℕ
  face_end = face_start + (length face_line + 1)

  abbrev start_end : ℕ
  start_end = face_end + 39

  module _ (next : Bytes) (ps : List Bytes) where
    first : heading_from nothing_seen (numbered 1 0 (codes "ply" ∷ next ∷ ps)) ≡ heading_from nothing_seen (numbered 2 4 (next ∷ ps))
    first = step nothing_seen 1 0 (codes "ply") next ps Passed refl refl (plain_form nothing_seen) refl (omega arith)

    second : heading_from nothing_seen (numbered 2 4 (codes "format ascii 1.0" ∷ next ∷ ps)) ≡ heading_from with_format (numbered 3 21 (next ∷ ps))
    second =
        step nothing_seen 2 4 (codes "format ascii 1.0") next ps (FormatLine (codes "ascii") (codes "1.0")) refl refl
        (record { format = refl; place = refl; types = refl; few = refl; before = refl }) refl (omega arith)

    third : heading_from with_format (numbered 3 21 (comment ∷ next ∷ ps)) ≡ heading_from with_format (numbered 4 comment_end (next ∷ ps))
    third =
        step with_format 3 21 comment next ps Passed (none_among (λ c. c == 13) not_return (decimal digits) (digits_written digits)) refl
        (plain_form with_format) refl (omega (arith, few_written digits))

    element_form : (name : Bytes) (n : ℕ) (es : List Declared) → n ≤ 2147483648 → nat_le 64 (length es) ≡ false → IsPassed (with_elements es) (ElementLine name (decimal n))
    element_form name n es few room = record {
      format = refl;
      place = rw (digits_written n) refl;
      types = refl;
      few = rw (few_rows n few, room) refl;
      before = refl;
    }

    fourth : heading_from with_format (numbered 4 comment_end (vertex_line ∷ next ∷ ps)) ≡ heading_from (with_elements (vertex_with [] ∷ [])) (numbered 5 vertex_end (next ∷ ps))
    fourth =
        step with_format 4 comment_end vertex_line next ps (ElementLine (codes "vertex") (decimal vertices))
        (none_among (λ c. c == 13) not_return (decimal vertices) (digits_written vertices)) (vertex_form vertices (omega arith))
        (element_form (codes "vertex") vertices [] few_vertices refl) refl (omega (arith, few_written digits, few_written vertices))

    fifth : heading_from (with_elements (vertex_with [] ∷ [])) (numbered 5 vertex_end (codes "property int x" ∷ next ∷ ps))
        ≡ heading_from (with_elements (vertex_with (coordinate (codes "x") ∷ []) ∷ [])) (numbered 6 (vertex_end + 15) (next ∷ ps))
    fifth =
        step (with_elements (vertex_with [] ∷ [])) 5 vertex_end (codes "property int x") next ps (ScalarLine (codes "int") (codes "x")) refl refl
        (record { format = refl; place = refl; types = refl; few = refl; before = refl }) refl (omega (arith, few_written digits, few_written vertices))

    sixth : heading_from (with_elements (vertex_with (coordinate (codes "x") ∷ []) ∷ [])) (numbered 6 (vertex_end + 15) (codes "property int y" ∷ next ∷ ps))
        ≡ heading_from (with_elements (vertex_with (coordinate (codes "x") ∷ coordinate (codes "y") ∷ []) ∷ [])) (numbered 7 (vertex_end + 15 + 15) (next ∷ ps))
    sixth =
        step (with_elements (vertex_with (coordinate (codes "x") ∷ []) ∷ [])) 6 (vertex_end + 15) (codes "property int y") next ps (ScalarLine (codes "int") (codes "y")) refl refl
        (record { format = refl; place = refl; types = refl; few = refl; before = refl }) refl (omega (arith, few_written digits, few_written vertices))

    seventh : heading_from (with_elements (vertex_with (coordinate (codes "x") ∷ coordinate (codes "y") ∷ []) ∷ [])) (numbered 7 (vertex_end + 15 + 15) (codes "property int z" ∷ next ∷ ps))
        ≡ heading_from (with_elements (vertex_with xyz ∷ [])) (numbered 8 face_start (next ∷ ps))
    seventh =
        step (with_elements (vertex_with (coordinate (codes "x") ∷ coordinate (codes "y") ∷ []) ∷ [])) 7 (vertex_end + 15 + 15) (codes "property int z") next ps
        (ScalarLine (codes "int") (codes "z")) refl refl (record { format = refl; place = refl; types = refl; few = refl; before = refl }) refl
        (omega (arith, few_written digits, few_written vertices))

    eighth : heading_from (with_elements (vertex_with xyz ∷ [])) (numbered 8 face_start (face_line ∷ next ∷ ps))
        ≡ heading_from (with_elements (vertex_with xyz ∷ face_with [] ∷ [])) (numbered 9 face_end (next ∷ ps))
    eighth =
        step (with_elements (vertex_with xyz ∷ [])) 8 face_start face_line next ps (ElementLine (codes "face") (decimal faces))
        (none_among (λ c. c == 13) not_return (decimal faces) (digits_written faces)) (face_form faces (omega arith))
        (element_form (codes "face") faces (vertex_with xyz ∷ []) few_faces refl) refl (omega (arith, few_written digits, few_written vertices, few_written faces))

    ninth : heading_from (with_elements (vertex_with xyz ∷ face_with [] ∷ [])) (numbered 9 face_end (codes "property list uchar int vertex_indices" ∷ next ∷ ps))
        ≡ heading_from all_seen (numbered 10 start_end (next ∷ ps))
    ninth =
        step (with_elements (vertex_with xyz ∷ face_with [] ∷ [])) 9 face_end (codes "property list uchar int vertex_indices") next ps
        (ListLine (codes "uchar") (codes "int") (codes "vertex_indices")) refl refl (record { format = refl; place = refl; types = refl; few = refl; before = refl }) refl
        (omega (arith, few_written digits, few_written vertices, few_written faces))

    tenth : heading_from all_seen (numbered 10 start_end (codes "end_header" ∷ next ∷ ps))
        ≡ Ok (record { format = Ascii; elements = written_elements (value (decimal vertices)) (value (decimal faces)); size = start_end + 11 })
    tenth =
        let within : nat_lt 1048576 (start_end + 11) ≡ false = let a = few_written digits in let b = few_written vertices in let c = few_written faces in grind (arith, nat_tests) in
        rw within refl

  all_lines : (next : Bytes) (ps : List Bytes) → heading_from nothing_seen (numbered 1 0 (head_lines digits vertices faces ++ next ∷ ps))
      ≡ Ok (record { format = Ascii; elements = written_elements (value (decimal vertices)) (value (decimal faces)); size = start_end + 11 })
  all_lines next ps =
      let end = codes "end_header" ∷ next ∷ ps in
      let list = codes "property list uchar int vertex_indices" ∷ end in
      let face = face_line ∷ list in
      let z = codes "property int z" ∷ face in
      let y = codes "property int y" ∷ z in
      let x = codes "property int x" ∷ y in
      first (codes "format ascii 1.0") (comment ∷ vertex_line ∷ x) ∙ second comment (vertex_line ∷ x) ∙ third vertex_line x ∙ fourth (codes "property int x") y
      ∙ fifth (codes "property int y") z ∙ sixth (codes "property int z") face ∙ seventh face_line list ∙ eighth (codes "property list uchar int vertex_indices") end
      ∙ ninth (codes "end_header") (next ∷ ps) ∙ tenth next ps

  all_size : start_end + 11 ≡ length (joined (head_lines digits vertices faces))
  all_size = simp length-append (omega arith)

  unbroken : AreUnbroken (head_lines digits vertices faces)
  unbroken =
      let d : list_any is_line_feed comment ≡ false = none_among is_line_feed not_line_feed (decimal digits) (digits_written digits) in
      let v : list_any is_line_feed vertex_line ≡ false = none_among is_line_feed not_line_feed (decimal vertices) (digits_written vertices) in
      let f : list_any is_line_feed face_line ≡ false = none_among is_line_feed not_line_feed (decimal faces) (digits_written faces) in
      (refl, (refl, (d, (v, (refl, (refl, (refl, (f, (refl, (refl, tt))))))))))

  -- The header of a written mesh is read back.
  pub heading_written : (rest : Bytes) → heading (joined (head_lines digits vertices faces) ++ rest)
      ≡ Ok (record { format = Ascii; elements = written_elements vertices faces; size = length (joined (head_lines digits vertices faces)) })
  heading_written rest =
      let some = some_part rest in
      let same : (a b c d n m : ℕ) → a ≡ b → c ≡ d → n ≡ m → ◌≡◌ {A = Result Heading HeadFault} (Ok (record { format = Ascii; elements = written_elements a c; size = n })) (Ok (record { format = Ascii; elements = written_elements b d; size = m })) =
      λ a b c d n m p q r. cc in
      ap (λ (ps : List Bytes). heading_from nothing_seen (numbered 1 0 ps))
      (parts_joined (head_lines digits vertices faces) rest unbroken ∙ ap (λ (ps : List Bytes). head_lines digits vertices faces ++ ps) some.2)
      ∙ all_lines some.0 some.1
      ∙ same _ _ _ _ _ _ (value_written vertices (omega arith)) (value_written faces (omega arith)) all_size
