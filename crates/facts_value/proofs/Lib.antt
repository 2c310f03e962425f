pub mod Trims
pub mod Short
