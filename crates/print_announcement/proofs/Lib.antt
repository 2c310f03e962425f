pub mod Modes
pub mod Back
