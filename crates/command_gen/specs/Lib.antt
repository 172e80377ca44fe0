pub mod Gen
pub mod GenRuns
