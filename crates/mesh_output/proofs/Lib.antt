pub mod Exports
pub mod OutAnswers
