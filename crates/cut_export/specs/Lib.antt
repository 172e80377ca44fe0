pub mod Parts
pub mod Numbering
