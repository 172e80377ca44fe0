pub mod Info
pub mod InfoRuns
