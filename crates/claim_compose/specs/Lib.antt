pub mod Columns
pub mod Lines
pub mod Printable
