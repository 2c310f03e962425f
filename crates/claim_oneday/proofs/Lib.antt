pub mod Lines
pub mod OneDay
pub mod Programs
