pub mod Refusals
pub mod Feed
