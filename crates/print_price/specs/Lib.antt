pub mod Sound
pub mod Reading
