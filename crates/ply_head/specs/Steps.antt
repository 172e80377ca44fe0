-- What one line makes of the header so far.
use Rattle.std.specs.Prelude.{◌≡◌, Bool, true, false, List, find, option_map, Option, Some, None, ℕ, ◌==◌, if◌then◌else◌}
use Rattle.ply_head.specs.declared.fault.HeadFault.{HeadFault}
use Rattle.ply_head.specs.declared.fault.HeadFault.TheVariants.{NotPly, TooMany}
use Rattle.ply_head.specs.declared.text.Line.{Line}
use Rattle.ply_head.specs.declared.step.Step.{Step}
use Rattle.ply_head.specs.declared.step.Step.TheVariants.{More, Done, Refused}
use Rattle.ply_head.specs.Headers.{Seen, form, is_end, fault_in, with_form, used_elements}

-- the fault of the first test that holds
abbrev pub first_of : List (Bool × HeadFault) → Option HeadFault
first_of tests = option_map (λ (e : Bool × HeadFault). e.1) (find (λ (e : Bool × HeadFault). e.0) tests)

-- the line is taken and more are to come, or it ends the header, or it is refused
abbrev pub IsStep : Seen → Line → Step → Seen → Type 0
IsStep old l More new = (fault_in old l ≡ None) × (is_end (form l) ≡ false) × (new ≡ with_form old (form l))
IsStep old l (Done elements) new =
    (fault_in old l ≡ None) × (is_end (form l) ≡ true) × (new ≡ old) × (elements.items ≡ used_elements old.elements)
IsStep old l (Refused f) new = fault_in old l ≡ Some f

-- the fault of a line that ends past the limit
abbrev pub full_fault : ℕ → HeadFault
full_fault number = if number == 1 then NotPly number else TooMany number
