-- The rows of the elements, or the first refusal.
use Rattle.std.specs.Prelude.{ℕ, zero, suc, ◌+◌, ◌-◌, ◌^◌, Bool, ◌&&◌, List, [], ◌∷◌, length, map, flat_map, zip, drop, nat_le, nat_lt, ◌==◌, if◌then◌else◌, ℤ, pos, Option, Some, None, Result, Ok, Err}
use Rattle.std.specs.Option.{option_or}
use Rattle.tpz_base.specs.Cubes.{Row, least, most, extent}
use Rattle.tpz_base.specs.Texts.{Face}
use Rattle.ply_head.specs.declared.element.Kind.{Kind}
use Rattle.ply_head.specs.declared.element.Role.{Role}
use Rattle.ply_head.specs.declared.element.Role.TheVariants.{X, Y, Z, Indices, Skip}
use Rattle.ply_head.specs.declared.element.Used.{Used}
use Rattle.ply_head.specs.declared.element.Used.TheVariants.{Vertex, Face as FaceUse, Other}
use Rattle.ply_head.specs.declared.element.Property.{Property}
use Rattle.ply_head.specs.declared.element.Element.{Element}
use Rattle.ply_body.specs.declared.fault.Flaw.{Flaw}
use Rattle.ply_body.specs.declared.fault.Flaw.TheVariants.{Short, Number, Range, BadIndex, TooManyTris, TooLong}
use Rattle.ply_body.specs.declared.fault.BodyFault.{BodyFault}
use Rattle.ply_body.specs.declared.fault.BodyFault.TheVariants as fault
use Rattle.ply_body.specs.Items.{◌>>=◌, unless, Items, item, item_as, skipped, coordinate_of, count_of, index_of}

-- What doesn't change over a body: the digits, and the number of vertices.
pub record Setting : Type 0 where
  pub digits : ℕ
  pub vertices : ℕ

-- what is used of the items of a row
pub record RowItems : Type 0 where
  pub row : Row
  pub corners : List ℕ

abbrev pub row_at : ℤ → ℤ → ℤ → Row
row_at x y z = record { x = x; y = y; z = z }

abbrev pub nothing_used : RowItems
nothing_used = record { row = row_at (pos 0) (pos 0) (pos 0); corners = [] }

-- the greatest number of fan triangles
abbrev pub MOST_TRIS : ℕ
MOST_TRIS = 2147483648

-- whether the corner number j, from 0, forms a triangle too many
abbrev pub is_too_many : ℕ → ℕ → Bool
is_too_many formed j = nat_le 2 j && nat_lt MOST_TRIS (formed + (j - 1))

-- the corners from the number j on, n of them, where so many triangles are formed before
abbrev pub corners : Setting → Kind → ℕ → ℕ → ℕ → Items → Result (List ℕ × Items) Flaw
corners s kind formed j zero items = Ok ([], items)
corners s kind formed j (suc n) items = do
  i ← item_as (index_of s.vertices) kind items
  c ← unless (is_too_many formed j) TooManyTris i
  more ← corners s kind formed (suc j) n c.1
  Ok (c.0 ∷ more.0, more.1)

abbrev pub with_coordinate : Role → ℤ → Row → Row
with_coordinate X v r = row_at v r.y r.z
with_coordinate Y v r = row_at r.x v r.z
with_coordinate Z v r = row_at r.x r.y v
with_coordinate _ v r = r

abbrev pub scalar : Setting → Role → Kind → RowItems → Items → Result (RowItems × Items) Flaw
scalar s Skip kind u items = do
  i ← item kind items
  Ok (u, i.1)
scalar s role kind u items = do
  v ← item_as (coordinate_of s.digits) kind items
  Ok (record u { row = with_coordinate role v.0 u.row }, v.1)

abbrev pub list_of : Setting → ℕ → Role → Kind → ℕ → RowItems → Items → Result (RowItems × Items) Flaw
list_of s formed Indices kind n u items = do
  c ← corners s kind formed 0 n items
  Ok (record u { corners = c.0 }, c.1)
list_of s formed _ kind n u items = do
  rest ← skipped kind n items
  Ok (u, rest)

-- a row with the items of a property
abbrev pub with_property : Setting → ℕ → Property → RowItems → Items → Result (RowItems × Items) Flaw
with_property s formed p u items = by_count p.count_kind where
  by_count : Option Kind → Result (RowItems × Items) Flaw
  by_count None = scalar s p.role p.kind u items
  by_count (Some count_kind) = item_as count_of count_kind items >>= λ n. list_of s formed p.role p.kind n.0 u n.1

abbrev pub with_properties : Setting → ℕ → List Property → RowItems → Items → Result (RowItems × Items) Flaw
with_properties s formed [] u items = Ok (u, items)
with_properties s formed (p ∷ ps) u items = do
  v ← with_property s formed p u items
  with_properties s formed ps v.0 v.1

-- The place of a refusal.
abbrev pub fault_of : ℕ → ℕ → Flaw → BodyFault
fault_of e r Short = fault.Short e r
fault_of e r Number = fault.Number e r
fault_of e r Range = fault.Range e r
fault_of e r (BadIndex i) = fault.BadIndex e r i
fault_of e r TooManyTris = fault.TooManyTris e r
fault_of e r TooLong = fault.TooLong e r

abbrev pub placed : {X : Type 0} → ℕ → ℕ → Result X Flaw → Result X BodyFault
placed e r (Ok x) = Ok x
placed e r (Err flaw) = Err (fault_of e r flaw)

-- how many triangles a polygon of so many corners forms
abbrev pub fan_count : ℕ → ℕ
fan_count n = n - 2

-- the rows from the number r on, n of them, of the element number e
abbrev pub rows : Setting → ℕ → List Property → ℕ → ℕ → ℕ → Items → Result (List RowItems × Items) BodyFault
rows s e ps r formed zero items = Ok ([], items)
rows s e ps r formed (suc n) items = do
  row ← placed e r (with_properties s formed ps nothing_used items)
  more ← rows s e ps (suc r) (formed + fan_count (length row.0.corners)) n row.1
  Ok (row.0 ∷ more.0, more.1)

-- an element without properties has no items
abbrev pub row_count : Element → ℕ
row_count e = if length e.properties == 0 then 0 else e.count

abbrev pub wide : ℕ → List ℤ → Option BodyFault
wide axis vs = if nat_lt (2 ^ 30) (extent vs) then Some (fault.Extent axis (least vs) (most vs)) else None

-- the first axis that is too wide
abbrev pub too_wide : List Row → Option BodyFault
too_wide rs = option_or (wide 0 (map (λ (r : Row). r.x) rs))
    (option_or (wide 1 (map (λ (r : Row). r.y) rs)) (wide 2 (map (λ (r : Row). r.z) rs)))

-- the pairs of neighbours in a list
abbrev pub neighbours : List ℕ → List (ℕ × ℕ)
neighbours is = zip is (drop 1 is)

-- the fan of a polygon: from its first corner to each pair of neighbours among the others
abbrev pub fan : List ℕ → List Face
fan [] = []
fan (i ∷ is) = map (λ (p : ℕ × ℕ). record { i = i; j = p.0; k = p.1 }) (neighbours is)

abbrev pub fans : List RowItems → List Face
fans us = flat_map (λ (u : RowItems). fan u.corners) us

-- What an input means: the scaled rows of the used vertex element, and the fan triangles by the places of their corners
-- among the rows.
pub record Input : Type 0 where
  pub rows : List Row
  pub faces : List Face

abbrev pub no_input : Input
no_input = record { rows = []; faces = [] }

abbrev pub unless_fault : {X : Type 0} → Option BodyFault → X → Result X BodyFault
unless_fault (Some f) x = Err f
unless_fault None x = Ok x

abbrev pub spots : List RowItems → List Row
spots us = map (λ (u : RowItems). u.row) us

abbrev pub with_rows : Used → List RowItems → Input → Result Input BodyFault
with_rows Vertex us seen = unless_fault (too_wide (spots us)) (record seen { rows = spots us })
with_rows FaceUse us seen = Ok (record seen { faces = fans us })
with_rows Other us seen = Ok seen

-- the elements from the number e on
abbrev pub elements : Setting → ℕ → List Element → Input → Items → Result Input BodyFault
elements s e [] seen items = Ok seen
elements s e (el ∷ els) seen items = do
  us ← rows s e el.properties 0 0 (row_count el) items
  next ← with_rows el.used us.0 seen
  elements s (suc e) els next us.1
