-- What an input means: its rows and triangles, or its first refusal.
use Rattle.std.specs.Prelude.{ℕ, Bool, true, false, not, List, map, drop, filter, count_by, find, Result, Ok, Err}
use Rattle.std.specs.Option.{option_map_or}
use Rattle.std.specs.List.{slice_index_or}
use Rattle.tpz_base.specs.declared.shape.Point.{Point}
use Rattle.tpz_base.specs.declared.shape.Tri.{Tri}
use Rattle.tpz_base.specs.Points.{point}
use Rattle.tpz_base.specs.Meshes.{Mesh, triangle, is_whole}
use Rattle.tpz_base.specs.Cubes.{Row, low_of, less}
use Rattle.tpz_base.specs.Texts.{Bytes, Face}
use Rattle.ply_head.specs.declared.element.Used.{Used}
use Rattle.ply_head.specs.declared.element.Used.TheVariants.{Vertex}
use Rattle.ply_head.specs.declared.element.Element.{Element}
use Rattle.ply_head.specs.declared.fault.HeadFault.{HeadFault}
use Rattle.ply_head.specs.Headers.{Heading, heading, default_digits}
use Rattle.ply_body.specs.declared.fault.BodyFault.{BodyFault}
use Rattle.ply_body.specs.Items.{◌>>=◌, MOST_BYTES, items_of}
use Rattle.ply_body.specs.Bodies.{Setting, Input, no_input, elements}

abbrev pub is_vertex_element : Element → Bool
is_vertex_element e = by_use e.used where
  by_use : Used → Bool
  by_use Vertex = true
  by_use _ = false

abbrev pub vertex_count : List Element → ℕ
vertex_count es = option_map_or (λ (e : Element). e.count) (find is_vertex_element es) 0

abbrev pub setting_of : List Element → ℕ → Setting
setting_of es digits = record { digits = digits; vertices = vertex_count es }

-- what the bytes behind a header mean
abbrev pub body : Heading → ℕ → Bytes → Result Input BodyFault
body h digits bytes = elements (setting_of h.elements digits) 0 h.elements no_input (items_of h.format MOST_BYTES bytes)

-- The first refusal of an input, with its place.
pub data Refusal : Type 0 where
  InHead : HeadFault → Refusal
  InBody : BodyFault → Refusal

abbrev pub refused_as : {A E F : Type 0} → (E → F) → Result A E → Result A F
refused_as f (Ok a) = Ok a
refused_as f (Err e) = Err (f e)

-- with the digits that are chosen over the elements
abbrev pub input_by : (List Element → ℕ) → Bytes → Result Input Refusal
input_by digits bytes = do
  h ← refused_as InHead (heading bytes)
  refused_as InBody (body h (digits h.elements) (drop h.size bytes))

abbrev pub input : Bytes → ℕ → Result Input Refusal
input bytes digits = input_by (λ _. digits) bytes

-- with the digits that the types of the coordinates set
abbrev pub default_input : Bytes → Result Input Refusal
default_input bytes = input_by default_digits bytes

-- The triangles of an input.

-- the rows less their least coordinates
abbrev pub points_of : List Row → List Point
points_of rows = map (less (low_of rows)) rows

abbrev pub point_at : List Point → ℕ → Point
point_at ps i = slice_index_or ps i (point 0 0 0)

-- the triangle of a face whose corners are places in the list of points
abbrev pub triangle_at : List Point → Face → Tri
triangle_at ps f = triangle (point_at ps f.i) (point_at ps f.j) (point_at ps f.k)

-- the whole triangles among those of the faces, in order, and how many aren't whole
abbrev pub whole_of : List Point → List Face → Mesh
whole_of ps faces = filter is_whole (map (triangle_at ps) faces)

abbrev pub broken_of : List Point → List Face → ℕ
broken_of ps faces = count_by (λ t. not (is_whole t)) (map (triangle_at ps) faces)

-- the mesh of an input: its whole triangles less the least coordinates
abbrev pub mesh_of : List Row → List Face → Mesh
mesh_of rows faces = whole_of (points_of rows) faces

abbrev pub dropped_of : List Row → List Face → ℕ
dropped_of rows faces = broken_of (points_of rows) faces
