pub mod ClosureLaw
pub mod SetLaw
pub mod CentreFacts
pub mod AddingLaw
pub mod ClosingLaw
pub mod RankLaw
pub mod GraphLaw
pub mod FaultLaw
pub mod CutBuilding
mod WorkedClosures
