-- The place of a fault of an item.
use Rattle.std.specs.Prelude.{ℕ}
use Rattle.ply_body.specs.declared.fault.BodyFault.{BodyFault}
use Rattle.ply_body.specs.declared.fault.BodyFault.TheVariants.{InputFault}
use Rattle.ply_body.specs.declared.item_reader.ItemFault.{ItemFault}
use Rattle.ply_body.specs.declared.item_reader.ItemFault.TheVariants as item_fault
use Rattle.ply_body.specs.Bodies.{fault_of}

-- the fault of an item in the row number r of the element number e
abbrev pub row_fault : ℕ → ℕ → ItemFault → BodyFault
row_fault e r (item_fault.Flaw flaw) = fault_of e r flaw
row_fault e r item_fault.Input = InputFault
