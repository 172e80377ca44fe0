pub mod Places
pub mod Sums
mod Worked
