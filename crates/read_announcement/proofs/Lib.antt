pub mod Reading
pub mod Sound
pub mod Back
