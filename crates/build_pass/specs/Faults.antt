-- The faults of streams as faults of a build, and what they say of the work file.
use Rattle.std.specs.Prelude.{◌≡◌, ℕ, List, None, Option}
use Rattle.tpz_io.specs.Causes.{Rose}
use Rattle.tri_stream.specs.declared.fault.StreamFault.{StreamFault}
use Rattle.tri_stream.specs.declared.fault.StreamFault as stream
use Rattle.build_pass.specs.declared.fault.BuildFault.{BuildFault}
use Rattle.build_pass.specs.declared.fault.BuildFault as build

abbrev pub work_fault_of : StreamFault → BuildFault
work_fault_of stream.TheVariants.WorkFault = build.TheVariants.WorkFault
work_fault_of (stream.TheVariants.WorkDamage offset) = build.TheVariants.WorkDamage offset

-- What a refusal says of a work file: it failed where it is blamed for that, and its bytes weren't told where it gave back others.
pub record StopsWork (why : BuildFault) (faults faults' : ℕ) (told : Option (List ℕ)) : Type 0 where
  pub fault : why ≡ build.TheVariants.WorkFault → Rose faults faults'
  pub damage : (offset : ℕ) → why ≡ build.TheVariants.WorkDamage offset → told ≡ None
