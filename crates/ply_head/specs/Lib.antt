pub mod Numbers
pub mod Lines
pub mod Headers
pub mod Heads
pub mod Forms
pub mod Roles
pub mod Steps
