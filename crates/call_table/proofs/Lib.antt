pub mod Places
pub mod Held
pub mod Slots
pub mod Parts
