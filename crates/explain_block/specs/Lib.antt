pub mod Explains
pub mod Whole
