pub mod Entry
pub mod Short
