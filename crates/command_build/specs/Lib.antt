pub mod Build
pub mod BuildRuns
