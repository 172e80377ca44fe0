pub mod JobRanges
pub mod WorkedWords
pub mod Parses
pub mod Givens
pub mod Spellings
pub mod OptionWalks
pub mod OptionTables
