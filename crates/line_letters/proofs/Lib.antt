pub mod Letters
pub mod Formed
