pub mod Sides
pub mod Sound
