pub mod Ways
pub mod How
pub mod Links
pub mod Session
pub mod Turns
pub mod Exists
pub mod Programs
