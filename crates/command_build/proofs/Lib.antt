pub mod BuildSteps
pub mod BuildRuns
