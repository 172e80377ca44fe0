pub mod PlayLaw
pub mod Progress
pub mod ReplayRuns
pub mod TourRuns
