pub mod Tails
pub mod Sound
pub mod Lines
pub mod Short
