pub mod ReadLemmas
pub mod Filling
pub mod Completing
