pub mod Ways
pub mod How
pub mod Steps
pub mod Turns
