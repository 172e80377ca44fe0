-- What the lines of a header say, or the first refusal.
use Rattle.std.specs.Prelude.{ℕ, Bool, true, false, not, ◌&&◌, ◌||◌, List, [], ◌∷◌, ◌++◌, length, map, take, drop, nat_lt, nat_le, ◌==◌, find, if◌then◌else◌, bytes_eq, codes, Option, Some, None, is_some, is_none, option_map, option_to_list, unwrap_or, sum_by, Result, Ok, Err}
use Rattle.std.specs.Option.{option_map_or}
use Rattle.std.specs.List.{list_any, list_all, before_first, after_first, last_or}
use Rattle.ply_head.specs.declared.element.Format.{Format}
use Rattle.ply_head.specs.declared.element.Format.TheVariants.{Ascii, Little, Big}
use Rattle.ply_head.specs.declared.element.Kind.{Kind}
use Rattle.ply_head.specs.declared.element.Kind.TheVariants.{I8, U8, I16, U16, I32, U32, F32, F64}
use Rattle.ply_head.specs.declared.element.Role.{Role}
use Rattle.ply_head.specs.declared.element.Role.TheVariants.{X, Y, Z, Indices, Skip}
use Rattle.ply_head.specs.declared.element.Used.{Used}
use Rattle.ply_head.specs.declared.element.Used.TheVariants.{Vertex, Face, Other}
use Rattle.ply_head.specs.declared.element.Property.{Property}
use Rattle.ply_head.specs.declared.element.Element.{Element}
pub use Rattle.ply_head.specs.declared.seen.Named.{Named}
pub use Rattle.ply_head.specs.declared.seen.Declared.{Declared}
pub use Rattle.ply_head.specs.declared.seen.Seen.{Seen}
use Rattle.ply_head.specs.declared.fault.HeadFault.{HeadFault}
use Rattle.ply_head.specs.declared.fault.HeadFault.TheVariants as fault
use Rattle.ply_head.specs.Numbers.{is_digit, value}
use Rattle.tpz_base.specs.Texts.{Bytes}
use Rattle.ply_head.specs.Lines.{lines, words}
use Rattle.ply_head.specs.declared.text.Line.{Line}

-- The form of a line, by its words.
pub data Form : Type 0 where
  Passed : Form
  FormatLine : Bytes → Bytes → Form
  ElementLine : Bytes → Bytes → Form
  ScalarLine : Bytes → Bytes → Form
  ListLine : Bytes → Bytes → Bytes → Form
  EndLine : Form
  NoForm : Form

abbrev pub form_of : List Bytes → Form
form_of [] = Passed
form_of (w ∷ ws) = if bytes_eq w (codes "comment") || bytes_eq w (codes "obj_info") then Passed else by_count w ws where
  by_count : Bytes → List Bytes → Form
  by_count w [] = if bytes_eq w (codes "end_header") then EndLine else NoForm
  by_count w (a ∷ b ∷ []) =
      if bytes_eq w (codes "format") then FormatLine a b else
      (if bytes_eq w (codes "element") then ElementLine a b else
      (if bytes_eq w (codes "property") then ScalarLine a b else NoForm))
  by_count w (l ∷ a ∷ b ∷ c ∷ []) =
      if bytes_eq w (codes "property") && bytes_eq l (codes "list") then ListLine a b c else NoForm
  by_count w ws = NoForm

-- The names of a format and of a type.
abbrev pub value_at : {X : Type 0} → Bytes → List (Bytes × X) → Option X
value_at {X} name table = option_map (λ (e : Bytes × X). e.1) (find (λ (e : Bytes × X). bytes_eq name e.0) table)

abbrev pub format_of : Bytes → Option Format
format_of name = value_at name ((codes "ascii", Ascii) ∷ (codes "binary_little_endian", Little) ∷ (codes "binary_big_endian", Big) ∷ [])

abbrev pub kind_of : Bytes → Option Kind
kind_of name = value_at name
    ((codes "char", I8) ∷ (codes "int8", I8) ∷ (codes "uchar", U8) ∷ (codes "uint8", U8)
    ∷ (codes "short", I16) ∷ (codes "int16", I16) ∷ (codes "ushort", U16) ∷ (codes "uint16", U16)
    ∷ (codes "int", I32) ∷ (codes "int32", I32) ∷ (codes "uint", U32) ∷ (codes "uint32", U32)
    ∷ (codes "float", F32) ∷ (codes "float32", F32) ∷ (codes "double", F64) ∷ (codes "float64", F64) ∷ [])

abbrev pub is_float : Kind → Bool
is_float F32 = true
is_float F64 = true
is_float _ = false

-- What no line has declared.
abbrev pub nothing_seen : Seen
nothing_seen = record { format = None; elements = [] }

-- The tests on one line.
abbrev pub is_in_face : List Declared → Bool
is_in_face es = option_map_or (λ (e : Declared). bytes_eq e.name (codes "face")) (last_or None es) false

abbrev pub names_indices : Bytes → Bool
names_indices name = bytes_eq name (codes "vertex_indices") || bytes_eq name (codes "vertex_index")

abbrev pub is_float_name : Bytes → Bool
is_float_name name = option_map_or is_float (kind_of name) false

-- a line where the format is due
abbrev pub lacks_format : Seen → Form → Bool
lacks_format s Passed = false
lacks_format s (FormatLine f v) = is_none s.format && not (is_some (format_of f) && bytes_eq v (codes "1.0"))
lacks_format s _ = is_none s.format

abbrev pub is_misplaced : Seen → Form → Bool
is_misplaced s (FormatLine f v) = is_some s.format
is_misplaced s (ElementLine n c) = not (list_all is_digit c)
is_misplaced s (ScalarLine t n) = length s.elements == 0
is_misplaced s (ListLine c i n) = length s.elements == 0
is_misplaced s NoForm = true
is_misplaced s _ = false

abbrev pub has_wrong_type : Seen → Form → Bool
has_wrong_type s (ScalarLine t n) = is_none (kind_of t)
has_wrong_type s (ListLine c i n) =
    is_none (kind_of c) || is_none (kind_of i) || is_float_name c || (is_float_name i && names_indices n && is_in_face s.elements)
has_wrong_type s _ = false

abbrev pub has_too_many : Seen → Form → Bool
has_too_many s (ElementLine n c) = nat_lt 2147483648 (value c) || nat_le 64 (length s.elements)
has_too_many s (ScalarLine t n) = nat_le 256 (sum_by (λ (e : Declared). length e.properties) s.elements)
has_too_many s (ListLine c i n) = nat_le 256 (sum_by (λ (e : Declared). length e.properties) s.elements)
has_too_many s _ = false

-- The elements at the end of the header, with what they are used for.
abbrev pub from_first : {X : Type 0} → (X → Bool) → List X → List X
from_first p xs = drop (length (before_first p xs)) xs

abbrev pub is_vertex : Declared → Bool
is_vertex e = bytes_eq e.name (codes "vertex")

abbrev pub is_scalar : Bytes → Named → Bool
is_scalar name n = bytes_eq n.name name && is_none n.property.count_kind

abbrev pub is_index_list : Named → Bool
is_index_list n = names_indices n.name && is_some n.property.count_kind

abbrev pub has_coordinates : Declared → Bool
has_coordinates e = list_all (λ name. list_any (is_scalar name) e.properties) (codes "x" ∷ codes "y" ∷ codes "z" ∷ [])

abbrev pub is_face : Declared → Bool
is_face e = bytes_eq e.name (codes "face") && list_any is_index_list e.properties

-- the first property that passes has this role
abbrev pub with_role : Role → (Named → Bool) → List Named → List Named
with_role role p ns = before_first p ns ++ map (λ (n : Named). record n { property = record n.property { role = role } }) (take 1 (from_first p ns)) ++ after_first p ns

abbrev pub element_of : Used → Declared → Element
element_of used e = record { count = e.count; used = used; properties = map (λ (n : Named). n.property) e.properties }

abbrev pub vertex_of : Declared → Element
vertex_of e = element_of Vertex (record e {
  properties =
      with_role X (is_scalar (codes "x")) (with_role Y (is_scalar (codes "y")) (with_role Z (is_scalar (codes "z")) e.properties));
})

abbrev pub face_of : Declared → Element
face_of e = element_of Face (record e { properties = with_role Indices is_index_list e.properties })

-- the first `vertex`, and the first face behind it
abbrev pub used_elements : List Declared → List Element
used_elements es =
    let behind = after_first is_vertex es in
    map (element_of Other) (before_first is_vertex es) ++ map vertex_of (take 1 (from_first is_vertex es))
    ++ map (element_of Other) (before_first is_face behind) ++ map face_of (take 1 (from_first is_face behind))
    ++ map (element_of Other) (after_first is_face behind)

abbrev pub is_float_coordinate : Property → Bool
is_float_coordinate p = is_coordinate p.role && is_float p.kind where
  is_coordinate : Role → Bool
  is_coordinate X = true
  is_coordinate Y = true
  is_coordinate Z = true
  is_coordinate _ = false

abbrev pub has_float_coordinate : List Element → Bool
has_float_coordinate es = list_any (λ (e : Element). list_any is_float_coordinate e.properties) es

abbrev pub is_binary : Option Format → Bool
is_binary (Some Little) = true
is_binary (Some Big) = true
is_binary _ = false

abbrev pub is_end : Form → Bool
is_end EndLine = true
is_end _ = false

-- The faults of a line, in the order of the tests.
abbrev pub form : Line → Form
form l = if l.number == 1 then Passed else form_of (words l.text)

abbrev pub faults : Seen → Line → List (Bool × HeadFault)
faults s l =
    let n = l.number in
    (n == 1 && not (bytes_eq l.text (codes "ply")), fault.NotPly n)
    ∷ (nat_lt 1048576 l.end, fault.TooMany n)
    ∷ (not l.is_ended, fault.Line n)
    ∷ (lacks_format s (form l), fault.Format n)
    ∷ (is_misplaced s (form l), fault.Line n)
    ∷ (has_wrong_type s (form l), fault.TypeName n)
    ∷ (has_too_many s (form l), fault.TooMany n)
    ∷ (is_end (form l) && not (option_map_or has_coordinates (find is_vertex s.elements) false), fault.NoVertex n)
    ∷ (is_end (form l) && not (list_any is_face (after_first is_vertex s.elements)), fault.NoFace n)
    ∷ (is_end (form l) && is_binary s.format && has_float_coordinate (used_elements s.elements), fault.FloatBinary n)
    ∷ []

abbrev pub fault_in : Seen → Line → Option HeadFault
fault_in s l = option_map (λ (e : Bool × HeadFault). e.1) (find (λ (e : Bool × HeadFault). e.0) (faults s l))

-- what a line adds
abbrev pub declared : Bytes → Option Kind → Option Kind → List Named
declared name count_kind kind =
    option_to_list (option_map (λ k. record { name = name; property = record { count_kind = count_kind; kind = k; role = Skip } }) kind)

abbrev pub with_last : List Named → List Declared → List Declared
with_last ns [] = []
with_last ns (e ∷ []) = record e { properties = e.properties ++ ns } ∷ []
with_last ns (e ∷ f ∷ es) = e ∷ with_last ns (f ∷ es)

abbrev pub with_form : Seen → Form → Seen
with_form s (FormatLine f v) = record s { format = format_of f }
with_form s (ElementLine n c) = record s { elements = s.elements ++ record { name = n; count = value c; properties = [] } ∷ [] }
with_form s (ScalarLine t n) = record s { elements = with_last (declared n None (kind_of t)) s.elements }
with_form s (ListLine c i n) = record s { elements = with_last (declared n (kind_of c) (kind_of i)) s.elements }
with_form s _ = s

-- What a header says, and how many bytes it has.
pub record Heading : Type 0 where
  pub format : Format
  pub elements : List Element
  pub size : ℕ

abbrev pub heading_of : Seen → ℕ → Heading
heading_of s size = record { format = unwrap_or s.format Ascii; elements = used_elements s.elements; size = size }

abbrev pub unless_fault : Option HeadFault → Result Heading HeadFault → Result Heading HeadFault
unless_fault (Some f) heading = Err f
unless_fault None heading = heading

-- the first refusal of these lines, or the heading at the line that ends it; the last line is always refused
abbrev pub heading_from : Seen → List Line → Result Heading HeadFault
heading_from s [] = Err (fault.Line 0)
heading_from s (l ∷ ls) =
    let below = heading_from (with_form s (form l)) ls in
    let here = if is_end (form l) then Ok (heading_of s l.end) else below in
    unless_fault (fault_in s l) here

abbrev pub heading : Bytes → Result Heading HeadFault
heading bytes = heading_from nothing_seen (lines bytes)

-- six digits where a coordinate is a float, and else none
abbrev pub default_digits : List Element → ℕ
default_digits es = if has_float_coordinate es then 6 else 0
