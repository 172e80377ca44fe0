pub mod Finest
pub mod FinestRuns
