pub mod Root
pub mod Parts
pub mod Back
pub mod Letters
