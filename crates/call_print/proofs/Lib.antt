pub mod Arms
pub mod Sound
pub mod Room
pub mod Most
