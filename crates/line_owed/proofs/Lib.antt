pub mod Below
pub mod Count
pub mod Shown
pub mod Owed
pub mod Accepted
pub mod Reached
