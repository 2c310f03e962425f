pub mod Back
pub mod Arms
pub mod Agree
