-- What a reader of a header leaves: what the header declares, and the input behind it.
use Rattle.std.specs.Prelude.{◌≡◌, ◌≢◌, ℕ, ◌≤◌, List, [], ◌∷◌, ◌++◌, length, drop, All, Option, None, Ok}
use Rattle.std.specs.Option.{option_map, ForSome}
use Rattle.tpz_base.specs.Texts.{Bytes}
use Rattle.ply_head.specs.declared.element.Format.{Format}
use Rattle.ply_head.specs.declared.element.Role.TheVariants.{Indices, Skip}
use Rattle.ply_head.specs.declared.element.Used.TheVariants.{Vertex, Face, Other}
use Rattle.ply_head.specs.declared.element.Property.{Property}
use Rattle.ply_head.specs.declared.element.Element.{Element}
use Rattle.ply_head.specs.declared.fault.HeadFault.{HeadFault}
use Rattle.ply_head.specs.declared.fault.HeadFault.TheVariants.{InputFault, Memory}
use Rattle.ply_head.specs.Headers.{heading}

-- the format, the elements, and the bytes that were read past the header
pub record HeadState : Type 0 where
  pub format : Format
  pub elements : List Element
  pub held : Bytes

-- The header of the told bytes has this size and says what the head does; what is left of the bytes stands behind it.
pub record IsHeadOf (head : HeadState) (size : ℕ) (told behind : Option Bytes) : Type 0 where
  pub heading : ForSome told (λ bytes. heading bytes ≡ Ok (record { format = head.format; elements = head.elements; size = size }))
  pub rest : behind ≡ option_map (drop size) told

-- it is one of the refusals that stand at a line
abbrev pub IsRefusal : HeadFault → Type 0
IsRefusal InputFault = ⊥
IsRefusal Memory = ⊥
IsRefusal f = Unit {0}

abbrev pub IsSkipped : Property → Type 0
IsSkipped p = p.role ≡ Skip

-- An element that isn't used.
pub record IsOther (e : Element) : Type 0 where
  pub used : e.used ≡ Other
  pub properties : All IsSkipped e.properties

-- a scalar that may be a coordinate, or what is skipped
pub record IsOfVertex (p : Property) : Type 0 where
  pub role : p.role ≢ Indices
  pub lists : p.count_kind ≢ None → IsSkipped p

-- the used vertex element: it has properties, of which some are coordinates
pub record IsVertexElement (e : Element) : Type 0 where
  pub used : e.used ≡ Vertex
  pub some : e.properties ≢ []
  pub properties : All IsOfVertex e.properties

-- the used face element: one list of indices, and what is skipped
pub record IsFaceElement (e : Element) : Type 0 where
  pub used : e.used ≡ Face
  pub front : List Property
  pub indices : Property
  pub behind : List Property
  pub properties : e.properties ≡ front ++ indices ∷ behind
  pub front_skipped : All IsSkipped front
  pub behind_skipped : All IsSkipped behind
  pub role : indices.role ≡ Indices
  pub list : indices.count_kind ≢ None

-- The used vertex element stands before the used face element, and no other is used.
pub record IsLaidOut (es : List Element) : Type 0 where
  pub before : List Element
  pub vertex : Element
  pub between : List Element
  pub face : Element
  pub behind : List Element
  pub order : es ≡ before ++ vertex ∷ between ++ face ∷ behind
  pub before_other : All IsOther before
  pub vertex_used : IsVertexElement vertex
  pub between_other : All IsOther between
  pub face_used : IsFaceElement face
  pub behind_other : All IsOther behind

-- at most 64 elements, with at most 2,147,483,648 rows each
pub record IsSmall (es : List Element) : Type 0 where
  pub few : length es ≤ 64
  pub rows : All (λ e. e.count ≤ 2147483648) es
