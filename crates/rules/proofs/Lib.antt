pub mod Marked
pub mod Fields
pub mod Days
pub mod Some
pub mod ByKind
pub mod Refusals
