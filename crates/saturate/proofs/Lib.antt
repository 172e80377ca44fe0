pub mod Raising
mod Worked
