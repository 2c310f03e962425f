pub mod Plans
pub mod Read
