pub mod Counts
pub mod Lawful
pub mod Built
pub mod Head
pub mod Again
