pub mod Printable
pub mod Worth
pub mod Fields
pub mod Lines
