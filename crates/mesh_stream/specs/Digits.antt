-- What an input means with digits, and which digits those are.
use Rattle.std.specs.Prelude.{◌≡◌, ℕ, List, Option, Some, None, Result, Ok, Err, unwrap_or}
use Rattle.tpz_base.specs.Texts.{Bytes}
use Rattle.ply_head.specs.declared.element.Element.{Element}
use Rattle.ply_head.specs.declared.fault.HeadFault.{HeadFault}
use Rattle.ply_head.specs.Headers.{Heading, heading, default_digits}
use Rattle.ply_body.specs.Bodies.{Input}
use Rattle.ply_body.specs.Inputs.{Refusal, input, default_input}

-- what an input means with these digits, or with those that the types of its coordinates set
abbrev pub input_for : Option ℕ → Bytes → Result Input Refusal
input_for None bytes = default_input bytes
input_for (Some digits) bytes = input bytes digits

-- the input is accepted with these digits
abbrev pub IsAccepted : Option ℕ → Bytes → Type 0
IsAccepted digits bytes = (input : Input) × (input_for digits bytes ≡ Ok input)

-- the digits that are asked for, or those that the types of the coordinates set
abbrev pub digits_for : Option ℕ → List Element → ℕ
digits_for digits es = unwrap_or digits (default_digits es)

abbrev pub digits_by : Option ℕ → Result Heading HeadFault → ℕ
digits_by digits (Ok h) = digits_for digits h.elements
digits_by digits (Err f) = 0

-- the digits of what is written for an input
abbrev pub digits_of : Option ℕ → Bytes → ℕ
digits_of digits bytes = digits_by digits (heading bytes)
