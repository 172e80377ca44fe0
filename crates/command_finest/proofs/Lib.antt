pub mod FinestItems
pub mod FinestRuns
