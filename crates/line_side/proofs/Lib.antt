pub mod Flags
pub mod Amounts
pub mod Sides
