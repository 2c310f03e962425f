pub mod Told
pub mod Exists
