pub mod Plays
pub mod Playing
pub mod Replay
pub mod ReplayRuns
