pub mod WrongBlocks
pub mod Shown
