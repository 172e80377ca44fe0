-- The faults of a set of diamonds as faults of a split.
use Rattle.diamond_graph.specs.declared.ancestors.ClosingFault.{ClosingFault}
use Rattle.diamond_graph.specs.declared.ancestors.ClosingFault as closing
use Rattle.tri_stream.specs.declared.fault.StreamFault.{StreamFault}
use Rattle.tri_stream.specs.declared.fault.StreamFault as stream
use Rattle.split_pass.specs.declared.fault.SplitFault.{SplitFault}
use Rattle.split_pass.specs.declared.fault.SplitFault as split

abbrev pub fault_of : ClosingFault → SplitFault
fault_of closing.TheVariants.TooManyRecords = split.TheVariants.TooManyRecords
fault_of closing.TheVariants.Memory = split.TheVariants.Memory

-- the faults of a stream as faults of a split
abbrev pub work_fault_of : StreamFault → SplitFault
work_fault_of stream.TheVariants.WorkFault = split.TheVariants.WorkFault
work_fault_of (stream.TheVariants.WorkDamage offset) = split.TheVariants.WorkDamage offset
