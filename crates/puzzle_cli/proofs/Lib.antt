pub mod JobRuns
