pub mod Leaves
pub mod Numbering
