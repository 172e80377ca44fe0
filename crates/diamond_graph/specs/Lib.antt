pub mod Closed
pub mod Adding
pub mod Graphs
pub mod Ranks
pub mod Saturated
