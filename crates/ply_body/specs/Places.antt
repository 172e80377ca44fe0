-- Places in the rows of an element, and what the steps from one to the next say.
use Rattle.std.specs.Prelude.{false, ◌≡◌, ◌≢◌, ◌⊎◌, ℕ, zero, suc, ◌+◌, ◌≤◌, ◌<◌, List, [], ◌∷◌, ◌++◌, length, drop, All, Option, Some, None, Result, Ok, Err}
use Rattle.std.specs.Option.{option_map, ForSome, IfSome}
use Rattle.tpz_io.specs.Causes.{Rose}
use Rattle.tpz_base.specs.declared.shape.Tri.{Tri}
use Rattle.tpz_base.specs.Cubes.{Row}
use Rattle.tpz_base.specs.Meshes.{is_whole}
use Rattle.tpz_base.specs.Texts.{Bytes, Face}
use Rattle.ply_head.specs.declared.element.Kind.{Kind}
use Rattle.ply_head.specs.declared.element.Kind.TheVariants.{U8}
use Rattle.ply_head.specs.declared.element.Role.{Role}
use Rattle.ply_head.specs.declared.element.Role.TheVariants.{Indices}
use Rattle.ply_head.specs.declared.element.Property.{Property}
use Rattle.ply_head.specs.declared.element.Element.{Element}
use Rattle.ply_head.specs.Heads.{IsSkipped, IsOther}
use Rattle.ply_body.specs.declared.fault.Flaw.{Flaw}
use Rattle.ply_body.specs.declared.fault.BodyFault.{BodyFault}
use Rattle.ply_body.specs.declared.fault.BodyFault.TheVariants.{InputFault, WorkFault, WorkDamage}
use Rattle.ply_body.specs.declared.polygon.Corners.{Corners}
use Rattle.ply_body.specs.declared.polygon.Polygon.{Polygon as CodePolygon}
use Rattle.ply_body.specs.declared.place.Place.{Place}
use Rattle.ply_body.specs.declared.face_row.Front.{Front}
use Rattle.ply_body.specs.Items.{◌>>=◌, Items, ItemPlace, items_told, item_as, count_of, pass_one}
use Rattle.ply_body.specs.Bodies.{Setting, fan_count, row_count}
use Rattle.ply_body.specs.declared.frame.Frame.{Frame}
use Rattle.ply_body.specs.Inputs.{triangle_at}
use Rattle.ply_body.specs.Spots.{spots_of, AreSpots, HoldsRows}
use Rattle.ply_body.specs.Readings.{Polygon, Cursor, front, coming, with_faces, IsRest}

-- the kind of the count of a list of indices
abbrev pub indices_kind : Property → Option Kind
indices_kind p = by_role p.role where
  by_role : Role → Option Kind
  by_role Indices = p.count_kind
  by_role _ = None

-- the list of indices of a row: their kind and count, and the properties behind the list
pub record RowList : Type 0 where
  pub kind : Kind
  pub count : ℕ
  pub behind : List Property

abbrev pub row_list : Kind → ℕ → List Property → RowList
row_list kind count behind = record { kind = kind; count = count; behind = behind }

-- the same by the kind of the first property's count, where what follows it is known
abbrev pub front_by : Option Kind → Property → List Property → (Items → Result (RowList × Items) Flaw) → Items → Result (RowList × Items) Flaw
front_by None p ps more items = pass_one p items >>= more
front_by (Some count_kind) p ps more items = item_as count_of count_kind items >>= λ n. Ok (row_list p.kind n.0 ps, n.1)

-- the list of indices of a row, and the items behind its count
abbrev pub front_of : List Property → Items → Result (RowList × Items) Flaw
front_of [] items = Ok (row_list U8 0 [], items)
front_of (p ∷ ps) items = front_by (indices_kind p) p ps (λ rest. front_of ps rest) items

-- the properties from a place on; none where there is no place
abbrev pub rest_of : Option ℕ → List Property → List Property
rest_of None ps = []
rest_of (Some k) ps = drop k ps

abbrev pub front_read : Front → List Property → RowList
front_read f ps = row_list f.kind f.count (rest_of f.behind ps)

abbrev pub face_of : Corners → Face
face_of c = record { i = c.i; j = c.j; k = c.k }

abbrev pub faces_of : Option Corners → List Face
faces_of None = []
faces_of (Some c) = face_of c ∷ []

abbrev pub polygon_of : CodePolygon → Polygon
polygon_of p = record { kind = p.kind; taken = p.taken; first = p.first; last = p.last; left = p.left }

abbrev pub polygon_front : CodePolygon → List ℕ
polygon_front p = front (polygon_of p)

-- a place in an element with these properties, before these elements
abbrev pub cursor_at : Place → List Property → List Element → Cursor
cursor_at p ps es = record {
  polygon = polygon_of p.polygon;
  properties = rest_of p.behind ps;
  row = p.row;
  left = p.left;
  formed = p.formed;
  all = ps;
  next = p.next;
  behind = es;
}

-- the triangles to come from a place
abbrev pub told_at : Setting → List Property → List Element → Place → ItemPlace → Option Bytes → Option (Result (List Face) BodyFault)
told_at s ps es p items told = option_map (coming s (cursor_at p ps es)) (items_told items told)

-- how many triangles were formed
abbrev pub tally : Place → ℕ
tally p = p.formed + fan_count p.polygon.taken

-- corners below the number of vertices
abbrev pub IsNear : ℕ → Corners → Type 0
IsNear v c = (c.i < v) × (c.j < v) × (c.k < v)

abbrev pub IsReach : Option ℕ → ℕ → Type 0
IsReach None n = Unit {0}
IsReach (Some k) n = k ≤ n

-- the properties of a row with one list of indices
pub record HasIndices (ps : List Property) : Type 0 where
  pub before : List Property
  pub indices : Property
  pub behind : List Property
  pub properties : ps ≡ before ++ indices ∷ behind
  pub before_skipped : All IsSkipped before
  pub behind_skipped : All IsSkipped behind
  pub role : indices.role ≡ Indices
  pub list : indices.count_kind ≢ None

-- a row has at most one list of indices, and nothing else that is used
abbrev pub IsRowLayout : List Property → Type 0
IsRowLayout ps = All IsSkipped ps ⊎ HasIndices ps

-- counts at a place that lead to no overflow
pub record IsCounted (p : Place) : Type 0 where
  pub next : p.next ≤ 64
  pub rows : p.row + p.left ≤ 2147483648
  pub corners : p.polygon.taken + p.polygon.left < 9223372036854775808
  pub few : p.formed + fan_count p.polygon.taken ≤ 2147483648

-- the corners that were taken are below the number of vertices
abbrev pub HasNearCorners : ℕ → Place → Type 0
HasNearCorners v p = 0 < p.polygon.taken → (p.polygon.first < v) × (p.polygon.last < v)

-- what is left of the row isn't used
pub record IsBehind (ps : List Property) (p : Place) : Type 0 where
  pub skipped : All IsSkipped (rest_of p.behind ps)
  pub reach : IsReach p.behind (length ps)

-- a row was read to its end
pub record IsEnded (p : Place) : Type 0 where
  pub polygon : p.polygon.left ≡ 0
  pub behind : p.behind ≡ None

-- Why a reader ends with a fault: an input fault where a read failed, and else the refusal that was to come.
abbrev pub IsReason : Option (Result (List Face) BodyFault) → ℕ → ℕ → BodyFault → Type 0
IsReason coming before now InputFault = Rose before now
IsReason coming before now WorkFault = ⊥
IsReason coming before now (WorkDamage offset) = ⊥
IsReason coming before now f = ForSome coming (λ r. r ≡ Err f)

-- From the old place in an element these faces come, and then those that come from the new one.
pub record Moves (v : ℕ) (ps : List Property) (p : Place) (items : ItemPlace) (left : Option Bytes) (p' : Place) (items' : ItemPlace) (left' : Option Bytes) (faces : List Face) : Type 0 where
  pub told : (s : Setting) (es : List Element) → s.vertices ≡ v → told_at s ps es p items left ≡ option_map (with_faces faces) (told_at s ps es p' items' left')

-- A step from a place in an element ends with a fault.
pub record Fails (v : ℕ) (ps : List Property) (p : Place) (items : ItemPlace) (left : Option Bytes) (before now : ℕ) (f : BodyFault) : Type 0 where
  pub reason : (s : Setting) (es : List Element) → s.vertices ≡ v → IsReason (told_at s ps es p items left) before now f

-- A step to a new place finds a triangle or none.
pub record Goes (v : ℕ) (p p' : Place) (found : Option Corners) : Type 0 where
  pub counted : IsCounted p'
  pub corners : HasNearCorners v p'
  pub tally : tally p' ≡ tally p + length (faces_of found)
  pub near : IfSome found (IsNear v)
  pub next : p'.next ≡ p.next

abbrev properties_at : List Element → List Property
properties_at [] = []
properties_at (e ∷ es) = e.properties

-- the properties of the element before the one with this number
abbrev pub current : ℕ → List Element → List Property
current zero es = []
current (suc n) es = properties_at (drop n es)

abbrev pub cursor_of : Place → List Element → Cursor
cursor_of p es = cursor_at p (current p.next es) (drop p.next es)

-- the triangles to come from a place in the elements
abbrev pub coming_of : Setting → List Element → Place → ItemPlace → Option Bytes → Option (Result (List Face) BodyFault)
coming_of s es p items left = option_map (coming s (cursor_of p es)) (items_told items left)

-- A place before the used face element: nothing was formed.
pub record IsBefore (es : List Element) (p : Place) : Type 0 where
  pub rest : IsRest (drop p.next es)
  pub tally : tally p ≡ 0
  pub polygon : p.polygon.left ≡ 0
  pub plain : 0 < p.left → All IsSkipped (current p.next es)

-- a place in the elements behind the used vertex element
pub record IsPlaced (v : ℕ) (es : List Element) (p : Place) : Type 0 where
  pub counted : IsCounted p
  pub corners : HasNearCorners v p
  pub behind : IsBehind (current p.next es) p
  pub layout : 0 < p.left → IsRowLayout (current p.next es)
  pub next : p.next ≤ length es
  pub order : IsBefore es p ⊎ All IsOther (drop p.next es)

-- From the old place in the elements these faces come, and then those that come from the new one.
pub record Walks (v : ℕ) (es : List Element) (p : Place) (items : ItemPlace) (left : Option Bytes) (p' : Place) (items' : ItemPlace) (left' : Option Bytes) (faces : List Face) : Type 0 where
  pub told : (s : Setting) → s.vertices ≡ v → coming_of s es p items left ≡ option_map (with_faces faces) (coming_of s es p' items' left')

-- A step from a place in the elements ends with a fault.
pub record WalkFails (v : ℕ) (es : List Element) (p : Place) (items : ItemPlace) (left : Option Bytes) (before now : ℕ) (f : BodyFault) : Type 0 where
  pub reason : (s : Setting) → s.vertices ≡ v → IsReason (coming_of s es p items left) before now f

-- Just these faces come from a place in the elements.
pub record WalkEnds (v : ℕ) (es : List Element) (p : Place) (items : ItemPlace) (left : Option Bytes) (faces : List Face) : Type 0 where
  pub told : (s : Setting) → s.vertices ≡ v → ForSome (coming_of s es p items left) (λ r. r ≡ Ok faces)

-- the place before the element with this number
abbrev pub before : ℕ → Place
before next = record {
  polygon = record { kind = U8; taken = 0; first = 0; last = 0; left = 0 };
  behind = None;
  row = 0;
  left = 0;
  formed = 0;
  next = next;
}

-- the place at the beginning of an element
abbrev pub begun : Place → Element → Place
begun p e = record {
  polygon = record { kind = U8; taken = 0; first = 0; last = 0; left = 0 };
  behind = None;
  row = 0;
  left = row_count e;
  formed = p.formed + fan_count p.polygon.taken;
  next = p.next + 1;
}

-- Why a point isn't read back: a call of the blob failed, or the blob, which tells nothing, gave back another point.
abbrev pub IsWorkReason : Option Bytes → ℕ → ℕ → BodyFault → Type 0
IsWorkReason held before now WorkFault = Rose before now
IsWorkReason held before now (WorkDamage offset) = held ≡ None
IsWorkReason held before now f = ⊥

-- Where the points are told, the triangles of these faces aren't whole.
pub record AreBroken (frame : Frame) (held : Option Bytes) (faces : List Face) : Type 0 where
  pub broken : ForSome held (λ bytes. (low : Row) (rows : List Row) → AreSpots frame low rows → HoldsRows rows bytes
      → All (λ f. is_whole (triangle_at (spots_of low rows) f) ≡ false) faces)

-- A read of a point ends with a fault.
pub record WorkFails (held : Option Bytes) (before now : ℕ) (f : BodyFault) : Type 0 where
  pub reason : IsWorkReason held before now f

abbrev pub found_count : Option Tri → ℕ
found_count None = 0
found_count (Some t) = 1
