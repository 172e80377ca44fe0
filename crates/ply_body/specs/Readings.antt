-- Where a reader of the elements is, and what is still to come from there.
use Rattle.std.specs.Prelude.{◌≡◌, ℕ, ◌+◌, ◌-◌, min, List, [], ◌∷◌, ◌++◌, length, take, All, Option, None, Result, Ok, Err}
use Rattle.std.specs.Option.{option_map, ForSome}
use Rattle.tpz_base.specs.Cubes.{Row}
use Rattle.tpz_base.specs.Texts.{Bytes, Face}
use Rattle.ply_head.specs.declared.element.Kind.{Kind}
use Rattle.ply_head.specs.declared.element.Kind.TheVariants.{U8}
use Rattle.ply_head.specs.declared.element.Property.{Property}
use Rattle.ply_head.specs.declared.element.Element.{Element}
use Rattle.ply_head.specs.Heads.{HeadState, IsOther, IsFaceElement}
use Rattle.ply_body.specs.declared.fault.BodyFault.{BodyFault}
use Rattle.ply_body.specs.declared.fault.BodyFault.TheVariants.{InputFault, WorkFault, WorkDamage}
use Rattle.ply_body.specs.declared.frame.Frame.{Frame}
use Rattle.ply_body.specs.Items.{◌>>=◌, MOST_BYTES, Items, ItemPlace, items_told}
use Rattle.ply_body.specs.Bodies.{Setting, nothing_used, corners, with_properties, placed, fan_count, rows, elements, fan, fans, Input, no_input}
use Rattle.ply_body.specs.Inputs.{setting_of}

-- A polygon of which some corners were read: how many, the first and the last of them, and how many are left.
pub record Polygon : Type 0 where
  pub kind : Kind
  pub taken : ℕ
  pub first : ℕ
  pub last : ℕ
  pub left : ℕ

-- those of its corners that triangles still to come have
abbrev pub front : Polygon → List ℕ
front p = take (min p.taken 2) (p.first ∷ p.last ∷ [])

-- A place in an element: in the row before the number `row`, behind a polygon and before some properties. `left` rows
-- follow, which have all its properties, and then the elements from the number `next` on.
pub record Cursor : Type 0 where
  pub polygon : Polygon
  pub properties : List Property
  pub row : ℕ
  pub left : ℕ
  pub formed : ℕ
  pub all : List Property
  pub next : ℕ
  pub behind : List Element

abbrev pub no_polygon : Polygon
no_polygon = record { kind = U8; taken = 0; first = 0; last = 0; left = 0 }

-- before the first element
abbrev pub start : List Element → Cursor
start es = record { polygon = no_polygon; properties = []; row = 0; left = 0; formed = 0; all = []; next = 0; behind = es }

-- the triangles of the elements from the number e on, by the places of their corners
abbrev pub faces_from : Setting → ℕ → List Element → Items → Result (List Face) BodyFault
faces_from s e els items = do
  input ← elements s e els no_input items
  Ok input.faces

-- Behind the used vertex element there is one used face element, and no other is used.
pub record IsRest (es : List Element) : Type 0 where
  pub between : List Element
  pub face : Element
  pub behind : List Element
  pub order : es ≡ between ++ face ∷ behind
  pub between_other : All IsOther between
  pub face_used : IsFaceElement face
  pub behind_other : All IsOther behind

-- the triangles that are still to come from a place, by the places of their corners, or the first refusal
abbrev pub coming : Setting → Cursor → Items → Result (List Face) BodyFault
coming s c items = do
  cs ← placed (c.next - 1) (c.row - 1) (corners s c.polygon.kind c.formed c.polygon.taken c.polygon.left items)
  after ← placed (c.next - 1) (c.row - 1) (with_properties s c.formed c.properties nothing_used cs.1)
  more ← rows s (c.next - 1) c.all c.row (c.formed + fan_count (c.polygon.taken + c.polygon.left)) c.left after.1
  others ← elements s c.next c.behind no_input more.1
  Ok (fan (front c.polygon ++ cs.0) ++ (fans more.0 ++ others.faces))

-- What contracts see of a reader of the elements: what doesn't change, where it is, the frame once it is known, the
-- refusal once there was one, and how many triangles were given and dropped.
pub record Reading : Type 0 where
  pub setting : Setting
  pub place : ItemPlace
  pub cursor : Cursor
  pub frame : Option Frame
  pub refusal : Option BodyFault
  pub given : ℕ
  pub dropped : ℕ

-- a reader that was opened on a head
abbrev pub opened : HeadState → ℕ → Reading
opened head digits = record {
  setting = setting_of head.elements digits;
  place = record { format = head.format; room = MOST_BYTES; held = head.held };
  cursor = start head.elements;
  frame = None;
  refusal = None;
  given = 0;
  dropped = 0;
}

abbrev pub IsOpened : Reading → Type 0
IsOpened r = (head : HeadState) × (digits : ℕ) × (r ≡ opened head digits)

-- what all elements mean, for a reader that was just opened, where the bytes are told that a source has left
abbrev pub input_told : Reading → Option Bytes → Option (Result Input BodyFault)
input_told r told = option_map (elements r.setting r.cursor.next r.cursor.behind no_input) (items_told r.place told)

-- the triangles that are still to come
abbrev pub coming_told : Reading → Option Bytes → Option (Result (List Face) BodyFault)
coming_told r told = option_map (coming r.setting r.cursor) (items_told r.place told)

-- an input of these rows, and of the faces that come
abbrev pub with_spots : List Row → Result (List Face) BodyFault → Result Input BodyFault
with_spots rs (Ok fs) = Ok (record { rows = rs; faces = fs })
with_spots rs (Err f) = Err f

-- these faces, and then those that come
abbrev pub with_faces : List Face → Result (List Face) BodyFault → Result (List Face) BodyFault
with_faces fs (Ok gs) = Ok (fs ++ gs)
with_faces fs (Err f) = Err f

-- it isn't the fault of a device
abbrev pub IsRefusal : BodyFault → Type 0
IsRefusal InputFault = ⊥
IsRefusal WorkFault = ⊥
IsRefusal (WorkDamage offset) = ⊥
IsRefusal f = Unit {0}

-- Of what was to come these faces were passed over, and then one was given.
pub record GivesFace (old new : Reading) (told_old told_new : Option Bytes) (lost : List Face) (face : Face) : Type 0 where
  pub faces : coming_told old told_old ≡ option_map (with_faces (lost ++ face ∷ [])) (coming_told new told_new)
  pub dropped : new.dropped ≡ old.dropped + length lost
  pub given : new.given ≡ old.given + 1

-- These faces were to come, and were passed over; there is no other.
pub record GivesNone (old new : Reading) (told_old : Option Bytes) (lost : List Face) : Type 0 where
  pub faces : ForSome (coming_told old told_old) (λ coming. coming ≡ Ok lost)
  pub dropped : new.dropped ≡ old.dropped + length lost
  pub given : new.given ≡ old.given
