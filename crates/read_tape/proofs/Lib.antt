pub mod One
pub mod Blocks
pub mod LookAhead
pub mod Whole
