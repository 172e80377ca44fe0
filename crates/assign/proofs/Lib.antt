pub mod LeafFacts
pub mod PathLaw
pub mod FinestCut
pub mod SplitLaw
pub mod TableLaw
pub mod LeafLaw
pub mod NearLaw
pub mod Sides
pub mod LeanLaw
pub mod SideLaw
pub mod SideSign
pub mod Volumes
pub mod RootLaw
mod WorkedPaths
pub mod NameTables
