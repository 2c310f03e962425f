pub mod Told
pub mod Steps
pub mod Runs
pub mod Blocks
