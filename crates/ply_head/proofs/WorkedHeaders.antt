-- Headers that are read and refused.
use Rattle.std.proofs.Common.{◌≡◌, ℕ, Bool, true, false, List, [], ◌∷◌, ◌++◌, refl, Ok, Err}
use Rattle.std.specs.Prelude.{codes, Some, None, flat_map}
use Rattle.ply_head.specs.declared.element.Format.TheVariants.{Ascii, Little}
use Rattle.ply_head.specs.declared.element.Kind.TheVariants.{U8, I32, F32}
use Rattle.ply_head.specs.declared.element.Role.TheVariants.{X, Y, Z, Indices, Skip}
use Rattle.ply_head.specs.declared.element.Used.TheVariants.{Vertex, Face}
use Rattle.ply_head.specs.declared.fault.HeadFault.TheVariants as fault
use Rattle.std.specs.List.{repeat}
use Rattle.ply_head.specs.declared.text.Line.{Line}
use Rattle.tpz_base.specs.Texts.{Bytes}
use Rattle.ply_head.specs.Headers.{Seen, nothing_seen, fault_in, heading, default_digits}

joined : List Bytes → Bytes
joined ls = flat_map (λ l. l ++ 10 ∷ []) ls

xyz : Bytes → List Bytes
xyz type = (codes "property " ++ type ++ codes " x") ∷ (codes "property " ++ type ++ codes " y") ∷ (codes "property " ++ type ++ codes " z") ∷ []

head : Bytes → Bytes → Bytes → List Bytes
head digits vertices faces =
    codes "ply" ∷ codes "format ascii 1.0" ∷ (codes "comment tpz digits " ++ digits) ∷ (codes "element vertex " ++ vertices) ∷ []
    ++ xyz (codes "int") ++ (codes "element face " ++ faces) ∷ codes "property list uchar int vertex_indices" ∷ codes "end_header" ∷ []

plain : heading (joined (head (codes "0") (codes "3") (codes "1"))) ≡ Ok (record {
  format = Ascii;
  elements = record {
    count = 3;
    used = Vertex;
    properties = record { count_kind = None; kind = I32; role = X }
        ∷ record { count_kind = None; kind = I32; role = Y } ∷ record { count_kind = None; kind = I32; role = Z } ∷ [];
  }
      ∷ record { count = 1; used = Face; properties = record { count_kind = Some U8; kind = I32; role = Indices } ∷ [] } ∷ [];
  size = 169;
})
unfolding joined head xyz
plain = refl

last_line_open : heading (joined (codes "ply" ∷ codes "format ascii 1.0" ∷ codes "element vertex 1" ∷ []) ++ codes "property int x") ≡ Err (fault.Line 4)
unfolding joined
last_line_open = refl

not_ply : heading (joined (codes "plyx" ∷ [])) ≡ Err (fault.NotPly 1)
unfolding joined
not_ply = refl

empty : heading [] ≡ Err (fault.NotPly 1)
empty = refl

-- a carriage return before the line feed isn't part of a line, and one at the end of the input is
return_dropped : heading (codes "ply" ++ 13 ∷ 10 ∷ codes "format" ++ 10 ∷ []) ≡ Err (fault.Format 2)
return_dropped = refl

return_kept : heading (codes "ply" ++ 13 ∷ []) ≡ Err (fault.NotPly 1)
return_kept = refl

first_open : heading (codes "ply") ≡ Err (fault.Line 1)
first_open = refl

-- the lines up to the elements
ascii : List Bytes → Bytes
ascii ls = joined (codes "ply" ∷ codes "format ascii 1.0" ∷ ls)

little : List Bytes → Bytes
little ls = joined (codes "ply" ∷ codes "format binary_little_endian 1.0" ∷ ls)

vertex : Bytes → List Bytes
vertex type = codes "element vertex 1" ∷ xyz type

face : List Bytes
face = codes "element face 1" ∷ codes "property list uchar int vertex_index" ∷ []

ends : List Bytes
ends = codes "end_header" ∷ []

format_due : heading (joined (codes "ply" ∷ codes "comment a" ∷ [] ++ vertex (codes "int"))) ≡ Err (fault.Format 3)
unfolding joined vertex xyz
format_due = refl

unknown_format : heading (joined (codes "ply" ∷ codes "format text 1.0" ∷ [])) ≡ Err (fault.Format 2)
unfolding joined
unknown_format = refl

second_format : heading (ascii (codes "format ascii 1.0" ∷ [])) ≡ Err (fault.Line 3)
unfolding ascii joined
second_format = refl

no_form : heading (ascii (codes "vertex 3" ∷ [])) ≡ Err (fault.Line 3)
unfolding ascii joined
no_form = refl

no_element : heading (ascii (codes "property int x" ∷ [])) ≡ Err (fault.Line 3)
unfolding ascii joined
no_element = refl

count_of_letters : heading (ascii (codes "element vertex 1e3" ∷ [])) ≡ Err (fault.Line 3)
unfolding ascii joined
count_of_letters = refl

unknown_type : heading (ascii (codes "element a 1" ∷ codes "property Int x" ∷ [])) ≡ Err (fault.TypeName 4)
unfolding ascii joined
unknown_type = refl

float_count : heading (ascii (codes "element a 1" ∷ codes "property list float int b" ∷ [])) ≡ Err (fault.TypeName 4)
unfolding ascii joined
float_count = refl

-- also where the element isn't used
float_indices : heading (ascii (codes "element face 1" ∷ codes "property list uchar float vertex_indices" ∷ [])) ≡ Err (fault.TypeName 4)
unfolding ascii joined
float_indices = refl

too_many_rows : heading (ascii (codes "element a 2147483649" ∷ [])) ≡ Err (fault.TooMany 3)
unfolding ascii joined
too_many_rows = refl

-- at the end of the header, in their order
no_elements : heading (ascii ends) ≡ Err (fault.NoVertex 3)
unfolding ascii ends joined
no_elements = refl

-- a list is no coordinate, and the first element of the name counts
no_vertex : heading (ascii (codes "element vertex 1" ∷ codes "property list uchar int x" ∷ [] ++ vertex (codes "int") ++ face ++ ends)) ≡ Err (fault.NoVertex 11)
unfolding ascii vertex xyz face ends joined
no_vertex = refl

no_face : heading (ascii (face ++ vertex (codes "int") ++ ends)) ≡ Err (fault.NoFace 9)
unfolding ascii vertex xyz face ends joined
no_face = refl

float_binary : heading (little (vertex (codes "float") ++ face ++ ends)) ≡ Err (fault.FloatBinary 9)
unfolding little vertex xyz face ends joined
float_binary = refl

-- the first of each name is used, and the type of a second decides nothing
second_x : heading (little (vertex (codes "int") ++ codes "property float x" ∷ [] ++ face ++ ends)) ≡ Ok (record {
  format = Little;
  elements = record {
    count = 1;
    used = Vertex;
    properties = record { count_kind = None; kind = I32; role = X } ∷ record { count_kind = None; kind = I32; role = Y }
        ∷ record { count_kind = None; kind = I32; role = Z } ∷ record { count_kind = None; kind = F32; role = Skip } ∷ [];
  }
      ∷ record { count = 1; used = Face; properties = record { count_kind = Some U8; kind = I32; role = Indices } ∷ [] } ∷ [];
  size = 178;
})
unfolding little vertex xyz face ends joined
second_x = refl

-- six digits for a float coordinate, and none for a float that is skipped
float_coordinate : default_digits (record { count = 1; used = Vertex; properties = record { count_kind = None; kind = F32; role = Y } ∷ [] } ∷ []) ≡ 6
float_coordinate = refl

float_skipped : default_digits (record { count = 1; used = Vertex; properties = record { count_kind = None; kind = F32; role = Skip } ∷ [] } ∷ []) ≡ 0
float_skipped = refl

-- Limits, on single lines.
line : ℕ → Bytes → Bool → ℕ → Line
line n text is_ended end = record { number = n; text = text; is_ended = is_ended; end = end }

at_the_limit : fault_in nothing_seen (line 2 (codes "comment a") true 1048576) ≡ None
unfolding line
at_the_limit = refl

past_the_limit : fault_in nothing_seen (line 2 (codes "comment a") true 1048577) ≡ Some (fault.TooMany 2)
unfolding line
past_the_limit = refl

no_line_feed : fault_in nothing_seen (line 2 (codes "comment a") false 1048576) ≡ Some (fault.Line 2)
unfolding line
no_line_feed = refl

long_first : fault_in nothing_seen (line 1 (codes "plyy") false 9999999) ≡ Some (fault.NotPly 1)
unfolding line
long_first = refl

-- a missing line feed comes before a wrong format
unended_format : fault_in nothing_seen (line 2 (codes "format ascii 1.1") false 20) ≡ Some (fault.Line 2)
unfolding line
unended_format = refl

four_words : fault_in nothing_seen (line 2 (codes "format ascii 1.0 x") true 20) ≡ Some (fault.Format 2)
unfolding line
four_words = refl

with_elements : ℕ → ℕ → Seen
with_elements elements properties = record {
  format = Some Ascii;
  elements = repeat elements (record {
    name = codes "e";
    count = 0;
    properties = repeat properties (record { name = codes "a"; property = record { count_kind = None; kind = U8; role = Skip } } ∷ []);
  } ∷ []);
}

element_64 : fault_in (with_elements 63 0) (line 70 (codes "element e 2147483648") true 2000) ≡ None
unfolding line with_elements
element_64 = refl

element_65 : fault_in (with_elements 64 0) (line 70 (codes "element e 1") true 2000) ≡ Some (fault.TooMany 70)
unfolding line with_elements
element_65 = refl

property_256 : fault_in (with_elements 3 85) (line 270 (codes "property uchar a") true 9000) ≡ None
unfolding line with_elements
property_256 = refl

property_257 : fault_in (with_elements 2 128) (line 270 (codes "property uchar a") true 9000) ≡ Some (fault.TooMany 270)
unfolding line with_elements
property_257 = refl

-- a wrong type comes before one property too many
property_257_type : fault_in (with_elements 2 128) (line 270 (codes "property uchr a") true 9000) ≡ Some (fault.TypeName 270)
unfolding line with_elements
property_257_type = refl

-- a scalar property of the type `list`
list_of_two : fault_in (with_elements 1 0) (line 5 (codes "property list a") true 100) ≡ Some (fault.TypeName 5)
unfolding line with_elements
list_of_two = refl
