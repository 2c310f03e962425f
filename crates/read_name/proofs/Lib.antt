pub mod Count
pub mod Ends
pub mod Heads
pub mod Bounds
