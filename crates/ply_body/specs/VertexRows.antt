-- What is taken of the items of a row that has no corners, and of the elements up to the used vertex element.
use Rattle.std.specs.Prelude.{◌≡◌, ◌⊎◌, ℕ, ◌+◌, ◌<◌, List, [], ◌++◌, length, get_or, map, take, drop, All, Option, Some, Result, Ok, Err}
use Rattle.std.specs.Option.{option_map, ForSome}
use Rattle.tpz_base.specs.Cubes.{Row}
use Rattle.tpz_base.specs.Texts.{Bytes}
use Rattle.ply_head.specs.declared.element.Property.{Property}
use Rattle.ply_head.specs.declared.element.Element.{Element}
use Rattle.ply_head.specs.Heads.{IsOther, IsVertexElement}
use Rattle.ply_body.specs.declared.fault.Flaw.{Flaw}
use Rattle.ply_body.specs.declared.fault.BodyFault.{BodyFault}
use Rattle.ply_body.specs.declared.fault.BodyFault.TheVariants.{WorkFault, WorkDamage}
use Rattle.ply_body.specs.declared.hull.Hull.{Hull}
use Rattle.ply_body.specs.Items.{Items, Takes, Refuses}
use Rattle.ply_body.specs.Bodies.{Setting, RowItems, nothing_used, with_property, with_properties, fault_of, rows, row_count, too_wide, elements, no_input}
use Rattle.ply_body.specs.Spots.{IsSmallRow, Keeps}
use Rattle.ply_body.specs.Hulls.{IsHullOf}
use Rattle.ply_body.specs.Readings.{IsRest}

abbrev pub setting : ℕ → ℕ → Setting
setting digits vertices = record { digits = digits; vertices = vertices }

abbrev pub used_row : Row → RowItems
used_row r = record { row = r; corners = [] }

-- The items begin with those of the property, which make the new row of the old one.
abbrev pub TakesProperty : ℕ → Property → Row → Option Items → Row → Option Items → Type 0
TakesProperty digits p old_row old new_row new =
    (vertices : ℕ) → Takes (with_property (setting digits vertices) 0 p (used_row old_row)) old (used_row new_row) new

abbrev pub RefusesProperty : ℕ → Property → Row → Option Items → Flaw → Type 0
RefusesProperty digits p row old flaw = (vertices : ℕ) → Refuses (with_property (setting digits vertices) 0 p (used_row row)) old flaw

-- The items begin with those of a row.
abbrev pub TakesRow : ℕ → List Property → Option Items → Row → Option Items → Type 0
TakesRow digits ps old row new = (vertices : ℕ) → Takes (with_properties (setting digits vertices) 0 ps nothing_used) old (used_row row) new

abbrev pub RefusesRow : ℕ → List Property → Option Items → Flaw → Type 0
RefusesRow digits ps old flaw = (vertices : ℕ) → Refuses (with_properties (setting digits vertices) 0 ps nothing_used) old flaw

-- these rows in front of those that are read
abbrev pub with_front : List RowItems → Result (List RowItems × Items) BodyFault → Result (List RowItems × Items) BodyFault
with_front us (Ok more) = Ok (us ++ more.0, more.1)
with_front us (Err f) = Err f

-- Of the n rows of the element number e these were read, and those behind them are left.
abbrev pub TakesSoFar : ℕ → ℕ → List Property → ℕ → Option Items → List Row → Option Items → Type 0
TakesSoFar digits e ps n old rs now = (vertices left : ℕ) → length rs + left ≡ n
    → option_map (rows (setting digits vertices) e ps 0 0 n) old
    ≡ option_map (λ items. with_front (map used_row rs) (rows (setting digits vertices) e ps (length rs) 0 left items)) now

-- The items begin with those of these rows of the element number e.
abbrev pub TakesRows : ℕ → ℕ → Element → Option Items → List Row → Option Items → Type 0
TakesRows digits e el old rs new = (vertices : ℕ)
    → option_map (rows (setting digits vertices) e el.properties 0 0 (row_count el)) old ≡ option_map (λ items. Ok (map used_row rs, items)) new

abbrev pub RefusesRows : ℕ → ℕ → Element → Option Items → BodyFault → Type 0
RefusesRows digits e el old f = (vertices : ℕ) → ForSome old (λ items. rows (setting digits vertices) e el.properties 0 0 (row_count el) items ≡ Err f)

-- it isn't the fault of a blob
abbrev pub IsOfInput : BodyFault → Type 0
IsOfInput WorkFault = ⊥
IsOfInput (WorkDamage offset) = ⊥
IsOfInput f = Unit {0}

-- The items begin with those of a row that is refused so, at its place.
abbrev pub RefusesRowAt : ℕ → List Property → ℕ → ℕ → Option Items → BodyFault → Type 0
RefusesRowAt digits ps e r old f = (flaw : Flaw) × (f ≡ fault_of e r flaw) × RefusesRow digits ps old flaw

-- What was read of the rows of a vertex element: their hull, and their bytes, in the blob or on their way.
pub record AreRead (found : Option Hull) (way : Bytes) (held : Option Bytes) (rs : List Row) : Type 0 where
  pub hull : IsHullOf found rs
  pub small : All IsSmallRow rs
  pub kept : Keeps rs way held

-- The used vertex element has this number, no element before it is used, and one used face element stands behind it.
pub record IsVertexAt (n : ℕ) (es : List Element) : Type 0 where
  pub within : n < length es
  pub before_other : All IsOther (take n es)
  pub vertex : (d : Element) → IsVertexElement (get_or es n d)
  pub rest : IsRest (drop (n + 1) es)

-- Elements of which none is used mean nothing: what stands behind them means what all mean.
abbrev pub PassesElements : ℕ → List Element → Option Items → Option Items → Type 0
PassesElements digits es old new = (vertices : ℕ) (behind : List Element)
    → option_map (elements (setting digits vertices) 0 (es ++ behind) no_input) old ≡ option_map (elements (setting digits vertices) (length es) behind no_input) new

abbrev pub RefusesElements : ℕ → List Element → Option Items → BodyFault → Type 0
RefusesElements digits es old f = (vertices : ℕ) (behind : List Element)
    → ForSome old (λ items. elements (setting digits vertices) 0 (es ++ behind) no_input items ≡ Err f)

-- The rows of the used vertex element are refused so, or they are read and too wide.
abbrev pub RefusesVertex : ℕ → ℕ → Element → Option Items → Option Items → BodyFault → Type 0
RefusesVertex digits e el old new f = RefusesRows digits e el old f ⊎ ((rs : List Row) × TakesRows digits e el old rs new × (too_wide rs ≡ Some f))
