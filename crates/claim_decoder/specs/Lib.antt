pub mod Carried
pub mod Decode
pub mod Lawful
