mod WorkedScripts
pub mod NumberWords
pub mod Spellings
pub mod CommandLemmas
pub mod LineLemmas
pub mod ScriptLemmas
