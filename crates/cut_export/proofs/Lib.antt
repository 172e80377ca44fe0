pub mod PartLines
pub mod Pieces
pub mod NumberLemmas
pub mod Exports
