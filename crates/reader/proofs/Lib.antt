pub mod Rooms
pub mod Bounds
pub mod Numbers
