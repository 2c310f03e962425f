pub mod Lawful
pub mod Sides
pub mod Lookup
pub mod Fresh
pub mod Undone
pub mod Carries
