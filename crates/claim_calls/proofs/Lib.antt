pub mod Agree
pub mod Early
pub mod Runs
