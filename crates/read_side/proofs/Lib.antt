pub mod Sides
pub mod Bounds
