pub mod Outside
pub mod PlaceLaw
pub mod ViewLaw
pub mod PlaceSets
pub mod Parts
pub mod ActiveLaw
pub mod RootsLaw
mod WorkedViews
