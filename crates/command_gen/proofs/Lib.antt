pub mod GenRuns
