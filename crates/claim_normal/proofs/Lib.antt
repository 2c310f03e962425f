pub mod Sides
pub mod Unsuffixed
pub mod Views
pub mod Normal
