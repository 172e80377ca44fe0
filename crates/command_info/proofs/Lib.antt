pub mod InfoLemmas
pub mod InfoRuns
